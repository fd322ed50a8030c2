-- The bytes of a datagram that is being written.
use Rattle.std.proofs.Common.{◌≡◌, ℕ, suc, ◌+◌, ◌%◌, List, ◌++◌, length, replicate, refl, sym, ap, ◌∙◌, append_assoc, arith}
use Rattle.std.proofs.Math.Seq.{drop-append-add}
use Rattle.std.proofs.lemmas.List.{append-nil, length-append, take_at, drop_at}
use Rattle.std.specs.Int.{w32, to_be_bytes}
use Rattle.wire_spec.specs.Heads.{Head, address_tree, datagram_tree}
use Rattle.wire_spec.specs.Padding.{padding_of}
use Rattle.wire_spec.specs.Shapes.{Tree, Trees, none, ◌&◌, count_of}
use Rattle.wire_spec.specs.Spelling.{padded, counted, spell, spell_all}
use Rattle.datagram_core.specs.Heads.{head_trees}
use Rattle.datagram_core.specs.Written.{patch, and_then, Begun, begun_bytes, closed_sample}

abbrev pub be : ℕ → List ℕ
be n = to_be_bytes w32 n

patched : (a b c piece : List ℕ) → length b ≡ length piece → patch (length a) piece (a ++ (b ++ c)) ≡ a ++ (piece ++ c)
patched a b c piece e =
    rw (
      take_at a (b ++ c) (length a) refl,
      drop-append-add a (b ++ c) (length piece),
      drop_at b c (length piece) e,
    ) (append_assoc a piece c)

pub patched_at : (place : ℕ) (x a b c piece : List ℕ) → place ≡ length a → x ≡ a ++ (b ++ c) → length b ≡ length piece
    → patch place piece x ≡ a ++ (piece ++ c)
patched_at place x a b c piece at parts e = rw (at, parts) (patched a b c piece e)

-- ---- values one after the other

pub spell_last : (ts : Trees) (t : Tree) → spell_all (and_then ts t) ≡ spell_all ts ++ spell t
spell_last none t = append-nil (spell t)
spell_last (u & ts) t =
    ap (λ (l : List ℕ). spell u ++ l) (spell_last ts t) ∙ sym (append_assoc (spell u) (spell_all ts) (spell t))

pub count_last : (ts : Trees) (t : Tree) → count_of (and_then ts t) ≡ suc (count_of ts)
count_last none t = refl
count_last (u & ts) t = ap suc (count_last ts t)

-- ---- the whole datagram

-- what stands before the number of samples
abbrev pub front : Head → List ℕ
front h = be 5 ++ spell_all (head_trees h)

pub datagram_bytes : (h : Head) (ts : Trees) → spell (datagram_tree h ts) ≡ front h ++ (be (count_of ts) ++ spell_all ts)
datagram_bytes h ts =
    let a = spell (address_tree h.agent) in
    let samples = be (count_of ts) ++ spell_all ts in
    let words = be h.sub_agent ++ (be h.sequence ++ be h.uptime) in
    ap (λ (l : List ℕ). be 5 ++ l)
    (ap (λ (l : List ℕ). a ++ (words ++ l)) (append-nil samples) ∙ sym (append_assoc a words samples))

-- a sample more, and the number of samples patched
pub next_sample : (h : Head) (ts : Trees) (t : Tree) (x : List ℕ) (place n : ℕ)
    → place ≡ length (front h) → n ≡ suc (count_of ts) → x ≡ spell (datagram_tree h ts) ++ spell t
    → patch place (be n) x ≡ spell (datagram_tree h (and_then ts t))
next_sample h ts t x place n at count e =
    let f = front h in
    let c = be (count_of ts) in
    let s = spell_all ts in
    let parts : x ≡ f ++ (c ++ (s ++ spell t)) =
    e ∙ ap (λ (l : List ℕ). l ++ spell t) (datagram_bytes h ts) ∙ append_assoc f (c ++ s) (spell t) in
    patched_at place x f c (s ++ spell t) (be n) at parts refl
    ∙ sym (datagram_bytes h (and_then ts t) ∙ rw (count_last ts t, sym count, spell_last ts t) refl)

-- ---- a sample that is closed

-- a body of whole words and a tail
pub counted_tail : (x tail : List ℕ) → length x % 4 ≡ 0
    → counted (x ++ tail) ≡ be (length (x ++ tail)) ++ (x ++ padded tail)
counted_tail x tail words =
    let n = length (x ++ tail) in
    let same : padding_of n ≡ padding_of (length tail) = omega (arith, length-append x tail, words) in
    ap (λ (l : List ℕ). be n ++ l)
    (ap (λ (k : ℕ). (x ++ tail) ++ replicate k 0) same ∙ append_assoc x tail (replicate (padding_of (length tail)) 0))

-- the frame of a sample that is closed
abbrev frame_bytes : Begun → List ℕ → ℕ → List ℕ
frame_bytes s tail n =
    be s.format ++ (be n ++ (spell_all s.head ++ (be (count_of s.records) ++ (spell_all s.records ++ padded tail))))

pub closed_bytes : (s : Begun) (tail : List ℕ) (n : ℕ)
    → n ≡ (length (spell_all s.head) + 4 + length (spell_all s.records)) + length tail
    → (length (spell_all s.head) + 4 + length (spell_all s.records)) % 4 ≡ 0
    → spell (closed_sample s tail) ≡ frame_bytes s tail n
closed_bytes s tail n size words =
    let head = spell_all s.head in
    let records = be (count_of s.records) ++ spell_all s.records in
    let fields = head ++ records in
    let whole : spell_all (and_then s.head (Tree.array s.records)) ≡ fields = spell_last s.head (Tree.array s.records) in
    let len : length fields ≡ length head + 4 + length (spell_all s.records) =
    omega (arith, length-append head records, length-append (be (count_of s.records)) (spell_all s.records)) in
    let all : length (fields ++ tail) ≡ n = omega (arith, length-append fields tail, len, size) in
    ap (λ (l : List ℕ). be s.format ++ counted (l ++ tail)) whole
    ∙ ap (λ (l : List ℕ). be s.format ++ l) (counted_tail fields tail (omega (arith, len, words)))
    ∙ ap (λ (k : ℕ). be s.format ++ (be k ++ (fields ++ padded tail))) all
    ∙ ap (λ (l : List ℕ). be s.format ++ (be n ++ l)) (append_assoc head records (padded tail))

pub closing : (h : Head) (ts : Trees) (s : Begun) (tail : List ℕ) (n m place at count : ℕ) (x : List ℕ)
    → n ≡ (length (spell_all s.head) + 4 + length (spell_all s.records)) + length tail
    → (length (spell_all s.head) + 4 + length (spell_all s.records)) % 4 ≡ 0
    → place ≡ length (spell (datagram_tree h ts)) + 4
    → at ≡ length (spell (datagram_tree h ts)) + (8 + length (spell_all s.head))
    → count ≡ length (front h)
    → m ≡ suc (count_of ts)
    → x ≡ (spell (datagram_tree h ts) ++ begun_bytes s) ++ padded tail
    → patch count (be m) (patch at (be (count_of s.records)) (patch place (be n) x))
    ≡ spell (datagram_tree h (and_then ts (closed_sample s tail)))
closing h ts s tail n m place at count x size words is_place is_at is_count is_m parts =
    let d = spell (datagram_tree h ts) in
    let k = be s.format in
    let head = spell_all s.head in
    let records = spell_all s.records in
    let t = padded tail in
    let zeros = be 0 in
    let rest = head ++ (zeros ++ (records ++ t)) in
    let one : x ≡ (d ++ k) ++ (zeros ++ rest) =
    parts ∙ append_assoc d (begun_bytes s) t
    ∙ ap (λ (l : List ℕ). d ++ (k ++ (zeros ++ l))) (append_assoc head (zeros ++ records) t)
    ∙ sym (append_assoc d k (zeros ++ rest)) in
    let two : patch place (be n) x ≡ (d ++ k) ++ (be n ++ rest) =
    patched_at place x (d ++ k) zeros rest (be n) (omega (arith, is_place, length-append d k)) one refl in
    let front_of_count = d ++ (k ++ (be n ++ head)) in
    let three : patch place (be n) x ≡ front_of_count ++ (zeros ++ (records ++ t)) =
    two ∙ append_assoc d k (be n ++ rest)
    ∙ ap (λ (l : List ℕ). d ++ (k ++ l)) (sym (append_assoc (be n) head (zeros ++ (records ++ t))))
    ∙ sym (append_assoc d (k ++ (be n ++ head)) (zeros ++ (records ++ t))) in
    let c = be (count_of s.records) in
    let four : patch at c (patch place (be n) x) ≡ front_of_count ++ (c ++ (records ++ t)) =
    patched_at at (patch place (be n) x) front_of_count zeros (records ++ t) c
    (omega (arith, is_at, length-append d (k ++ (be n ++ head)))) three refl in
    let five : patch at c (patch place (be n) x) ≡ d ++ spell (closed_sample s tail) =
    four ∙ append_assoc d (k ++ (be n ++ head)) (c ++ (records ++ t))
    ∙ ap (λ (l : List ℕ). d ++ l) (sym (closed_bytes s tail n size words)) in
    next_sample h ts (closed_sample s tail) (patch at c (patch place (be n) x)) count m is_count is_m five
