-- Words one after the other: what they are, that they are read so, and that they spell their bytes.
use Rattle.std.proofs.Common.{◌≡◌, ℕ, zero, suc, ◌+◌, ◌*◌, ◌-◌, ◌/◌, ◌%◌, ◌<◌, ◌≤◌, Bool, true, false, ltb, List, [], ◌∷◌, ◌++◌, length, take, drop, Result, Ok, Err, refl, sym, ap, subst, ◌∙◌, append_assoc, arith, inl, inr}
use Rattle.std.specs.Prelude.{slice_get, Option, Some}
use Rattle.std.specs.Int.{w32, from_be_bytes, to_be_bytes}
use Rattle.std.proofs.lemmas.List.{take-append-drop, length-take, length-drop, append-nil, drop-drop, take_at}
use Rattle.std.proofs.lemmas.Bool.{ltb-true, ltb-false}
use Rattle.std.proofs.lemmas.Nat.{be_bytes_4}
use Rattle.wire_spec.specs.declared.pad.Pad.{Pad}
use Rattle.wire_spec.specs.declared.pad.Pad.TheVariants as pads
use Rattle.wire_spec.specs.declared.fault.Fault.{Fault}
use Rattle.wire_spec.specs.Bytes.{AreBytes}
use Rattle.wire_spec.specs.Shapes.{word, array, Tree, Trees}
use Rattle.wire_spec.specs.Spells.{IsWord, IsFixed}
use Rattle.wire_spec.specs.Spelling.{spell_all, AllTrees, IsLawful}
use Rattle.wire_spec.specs.Fails.{Remaining, short, FailsPadding, FailsFixed}
use Rattle.wire_spec.specs.Reading.{◌>>=◌, word_at, many_at, reading}
use Rattle.wire_spec.specs.Bodies.{items_at}
use Rattle.wire_spec.proofs.ByteLists.{take_bytes, drop_bytes}
use Rattle.wire_spec.proofs.Items.{word_agrees}
use Rattle.xdr_words.specs.Readers.{Reader, Reads, Passes, remaining}
use Rattle.as_paths.proofs.Arrays.{many_as_items}
use Rattle.as_paths.specs.WordLists.{words_at, words_in, AreWords, word_trees, numbers_at}

-- ---- one word

-- four bytes are the word that they say
four_bytes : (v : List ℕ) → AreBytes v → length v ≡ 4 → IsWord (from_be_bytes w32 v) v
four_bytes v all len = (omega (arith, all 0, all 1, all 2, all 3), sym (be_bytes_4 v _ len all refl))

abbrev first_length : (n : ℕ) (v : List ℕ) → length v ≡ 4 * suc n → length (take 4 v) ≡ 4
first_length n v len = omega (arith, length-take 4 v)

abbrev others_length : (n : ℕ) (v : List ℕ) → length v ≡ 4 * suc n → length (drop 4 v) ≡ 4 * n
others_length n v len = omega (arith, length-drop 4 v)

-- the first word of at least four bytes
first_word : (v rest : List ℕ) (at : ℕ) → AreBytes v → 4 ≤ length v
    → word_at (record { at = at; bytes = v ++ rest })
    ≡ Ok (from_be_bytes w32 (take 4 v), record { at = at + 4; bytes = drop 4 v ++ rest })
first_word v rest at all long =
    let len : length (take 4 v) ≡ 4 = omega (arith, length-take 4 v) in
    let parts : v ++ rest ≡ take 4 v ++ (drop 4 v ++ rest) =
    ap (λ (t : List ℕ). t ++ rest) (sym (take-append-drop 4 v)) ∙ append_assoc (take 4 v) (drop 4 v) rest in
    let there : ℕ → Result (ℕ × Remaining) Fault =
    λ k. Ok (from_be_bytes w32 (take 4 v), record { at = at + k; bytes = drop 4 v ++ rest }) in
    word_agrees.takes (record { at = at; bytes = v ++ rest }) (from_be_bytes w32 (take 4 v)) (take 4 v) (drop 4 v ++ rest)
    (four_bytes (take 4 v) (take_bytes 4 v all) len) parts
    ∙ ap there len

-- ---- n words

pub run_of_words : (n : ℕ) (v rest : List ℕ) (at : ℕ) → AreBytes v → length v ≡ 4 * n
    → items_at word_at n (record { at = at; bytes = v ++ rest })
    ≡ Ok (words_at n v, record { at = at + 4 * n; bytes = rest })
run_of_words zero [] rest at all len =
    let there : ℕ → Result (List ℕ × Remaining) Fault = λ k. Ok ([], record { at = k; bytes = rest }) in
    let same : at ≡ at + 4 * 0 = omega arith in
    ap there same
run_of_words zero (b ∷ v) rest at all len = absurd (omega arith)
run_of_words (suc n) v rest at all len =
    let one = first_word v rest at all (omega (arith, len)) in
    let more = run_of_words n (drop 4 v) rest (at + 4) (drop_bytes 4 v all) (omega (arith, length-drop 4 v)) in
    let there : ℕ → Result (List ℕ × Remaining) Fault =
    λ k. Ok (from_be_bytes w32 (take 4 v) ∷ words_at n (drop 4 v), record { at = k; bytes = rest }) in
    let same : at + 4 + 4 * n ≡ at + 4 * suc n = omega arith in
    rw (one, more) (ap there same)

-- of fewer bytes the first word that isn't all there is short
abbrev IsShort : ℕ → List ℕ → ℕ → Type 0
IsShort n v at = items_at word_at n (record { at = at; bytes = v }) ≡ Err (short (at + length v / 4 * 4) 4 (length v % 4))

short_at_once : (n : ℕ) (v : List ℕ) (at : ℕ) → length v < 4 → IsShort (suc n) v at
short_at_once n v at less =
    let b : Remaining = record { at = at; bytes = v } in
    let refused = word_agrees.refuses b (short at 4 (length v)) (less, refl) in
    let place : at ≡ at + length v / 4 * 4 = omega arith in
    let left : length v ≡ length v % 4 = omega arith in
    let out : ℕ → ℕ → Result (List ℕ × Remaining) Fault = λ k l. Err (short k 4 l) in
    rw refused (ap (λ (k : ℕ). out k (length v)) place ∙ ap (out (at + length v / 4 * 4)) left)

short_later : (n : ℕ) (v : List ℕ) (at : ℕ) → AreBytes v → 4 ≤ length v → IsShort n (drop 4 v) (at + 4) → IsShort (suc n) v at
short_later n v at all long more =
    let one : word_at (record { at = at; bytes = v }) ≡ Ok (from_be_bytes w32 (take 4 v), record { at = at + 4; bytes = drop 4 v }) =
    simp append-nil at (first_word v [] at all long) in
    let len : length (drop 4 v) ≡ length v - 4 = length-drop 4 v in
    let place : at + 4 + length (drop 4 v) / 4 * 4 ≡ at + length v / 4 * 4 = omega (arith, len) in
    let left : length (drop 4 v) % 4 ≡ length v % 4 = omega (arith, len) in
    let out : ℕ → ℕ → Result (List ℕ × Remaining) Fault = λ k l. Err (short k 4 l) in
    rw (one, more) (ap (λ (k : ℕ). out k (length (drop 4 v) % 4)) place ∙ ap (out (at + length v / 4 * 4)) left)

pub short_of_words : (n : ℕ) (v : List ℕ) (at : ℕ) → AreBytes v → length v / 4 < n → IsShort n v at
short_of_words zero v at all few = absurd (omega arith)
short_of_words (suc n) v at all few = either_way (ltb (length v) 4) refl
    (λ (long : 4 ≤ length v). short_of_words n (drop 4 v) (at + 4) (drop_bytes 4 v all) (omega (arith, length-drop 4 v, long)))
  where
    either_way : (t : Bool) → ltb (length v) 4 ≡ t → (4 ≤ length v → IsShort n (drop 4 v) (at + 4)) → IsShort (suc n) v at
    either_way true e more = short_at_once n v at (ltb-true _ _ e)
    either_way false e more =
        let long : 4 ≤ length v = ltb-false _ _ e in
        short_later n v at all long (more long)

pub length-words_at : (n : ℕ) (v : List ℕ) → length (words_at n v) ≡ n
length-words_at zero v = refl
length-words_at (suc n) v = ap suc (length-words_at n (drop 4 v))

pub words_spelled : (n : ℕ) (v : List ℕ) → AreBytes v → length v ≡ 4 * n → spell_all (word_trees (words_at n v)) ≡ v
words_spelled zero [] all len = refl
words_spelled zero (b ∷ v) all len = absurd (omega arith)
words_spelled (suc n) v all len =
    let first : to_be_bytes w32 (from_be_bytes w32 (take 4 v)) ≡ take 4 v = sym ((four_bytes (take 4 v) (take_bytes 4 v all) (omega (arith, length-take 4 v))).1) in
    let more = words_spelled n (drop 4 v) (drop_bytes 4 v all) (omega (arith, length-drop 4 v)) in
    ap (λ (t : List ℕ). t ++ spell_all (word_trees (words_at n (drop 4 v)))) first
    ∙ ap (λ (t : List ℕ). take 4 v ++ t) more
    ∙ take-append-drop 4 v

pub words_lawful : (n : ℕ) (v : List ℕ) → AreBytes v → length v ≡ 4 * n
    → AllTrees (IsLawful word) (word_trees (words_at n v))
words_lawful zero v all len = tt
words_lawful (suc n) v all len = (
  (four_bytes (take 4 v) (take_bytes 4 v all) (omega (arith, length-take 4 v))).0,
  words_lawful n (drop 4 v) (drop_bytes 4 v all) (omega (arith, length-drop 4 v)),
)

-- the word at a place
pub word_of_run : (n i : ℕ) (v : List ℕ) → i < n
    → slice_get (words_at n v) i ≡ Some (from_be_bytes w32 (take 4 (drop (4 * i) v)))
word_of_run zero i v less = absurd (omega arith)
word_of_run (suc n) zero v less = refl
word_of_run (suc n) (suc i) v less =
    let at : ℕ → Option ℕ = λ k. Some (from_be_bytes w32 (take 4 (drop k v))) in
    let inner : Option ℕ = Some (from_be_bytes w32 (take 4 (drop (4 * i) (drop 4 v)))) in
    let twice : inner ≡ at (4 + 4 * i) = rw (drop-drop (4 * i) 4 v) refl in
    let place : 4 + 4 * i ≡ 4 * suc i = omega arith in
    word_of_run n i (drop 4 v) (omega arith) ∙ twice ∙ ap at place

-- ---- all words of bytes

quarter : (v : List ℕ) → length v % 4 ≡ 0 → length v ≡ 4 * (length v / 4)
quarter v whole = omega arith

pub length-words_in : (v : List ℕ) → length (words_in v) ≡ length v / 4
unfolding words_in
length-words_in v = length-words_at (length v / 4) v

pub words_in_spelled : (v : List ℕ) → AreWords v → spell_all (word_trees (words_in v)) ≡ v
unfolding words_in
words_in_spelled v h = words_spelled (length v / 4) v h.2 (quarter v h.0)

pub words_in_lawful : (v : List ℕ) → AreWords v → AllTrees (IsLawful word) (word_trees (words_in v))
unfolding words_in
words_in_lawful v h = words_lawful (length v / 4) v h.2 (quarter v h.0)

pub word_in : (i : ℕ) (v : List ℕ) → i < length v / 4
    → slice_get (words_in v) i ≡ Some (from_be_bytes w32 (take 4 (drop (4 * i) v)))
unfolding words_in
word_in i v less = word_of_run (length v / 4) i v less

-- ---- as a counted array of words

pub numbers_as_array : (p : Pad) (b : Remaining)
    → reading p (array word) b ≡ (numbers_at b >>= λ ns. Ok (Tree.array (word_trees ns.0), ns.1))
numbers_as_array p b = at_count (word_at b)
  where
    at_run : (r : Result (List ℕ × Remaining) Fault)
        → ((r >>= λ xs. let o : Result (Trees × Remaining) Fault = Ok (word_trees xs.0, xs.1) in o)
        >>= λ ts. let o : Result (Tree × Remaining) Fault = Ok (Tree.array ts.0, ts.1) in o)
        ≡ (r >>= λ ns. Ok (Tree.array (word_trees ns.0), ns.1))
    at_run (Ok x) = refl
    at_run (Err e) = refl

    at_count : (r : Result (ℕ × Remaining) Fault)
        → (r >>= λ n. many_at (reading p word) n.0 n.1
        >>= λ x. let o : Result (Tree × Remaining) Fault = Ok (Tree.array x.0, x.1) in o)
        ≡ ((r >>= λ n. items_at word_at n.0 n.1) >>= λ ns. Ok (Tree.array (word_trees ns.0), ns.1))
    at_count (Ok n) =
        rw (many_as_items (reading p word) word_at (λ n. Tree.word n) (λ c. refl) n.0 n.1) (at_run (items_at word_at n.0 n.1))
    at_count (Err e) = refl

-- ---- what a cursor has passed

nothing : (d : List ℕ) → length d ≡ 0 → d ≡ []
nothing [] h = refl
nothing (x ∷ d) h = absurd (omega arith)

-- the bytes of n words, which have no padding
pub words_passed : (p : Pad) (n : ℕ) (v : List ℕ) (old new : Reader) → AreBytes old.bytes
    → Passes (IsFixed p (4 * n) v) old new
    → AreBytes v × (length v ≡ 4 * n) × (items_at word_at n (remaining old) ≡ Ok (words_in v, remaining new))
unfolding words_in
words_passed p n v old new all h =
    let (a, d, same, (padding, may), parts) = h.holds.1 in
    let len : length v ≡ 4 * n = h.holds.0 in
    let none : d ≡ [] = nothing d (omega (arith, padding, len)) in
    let front : h.front ≡ v = parts ∙ rw (same, none) (append-nil v) in
    let whole : old.bytes ≡ v ++ new.bytes = h.bytes ∙ ap (λ (t : List ℕ). t ++ new.bytes) front in
    let P : List ℕ → Type 0 = AreBytes in
    let cut : take (length v) old.bytes ≡ v = ap (take (length v)) whole ∙ take_at v new.bytes (length v) refl in
    let bytes : AreBytes v = subst P cut (take_bytes (length v) old.bytes all) in
    let number : n ≡ length v / 4 = omega (arith, len) in
    let place : old.at + 4 * n ≡ new.at = omega (arith, h.at, ap length front, len) in
    let from : List ℕ → Result (List ℕ × Remaining) Fault = λ t. items_at word_at n (record { at = old.at; bytes = t }) in
    let there : ℕ → ℕ → Result (List ℕ × Remaining) Fault =
    λ k m. Ok (words_at m v, record { at = k; bytes = new.bytes }) in
    let read : items_at word_at n (remaining old) ≡ Ok (words_in v, remaining new) =
    ap from whole ∙ run_of_words n v new.bytes old.at bytes len ∙ ap (λ (k : ℕ). there k n) place ∙ ap (there new.at) number in
    (bytes, len, read)

no_padding : (p : Pad) (at : ℕ) (d : List ℕ) (f : Fault) → length d ≡ 0 → FailsPadding p at d f → ⊥
no_padding pads.Any at d f len bad = bad
no_padding pads.Zero at [] f len bad = bad.1
no_padding pads.Zero at (x ∷ d) f len bad = absurd (omega arith)

-- they don't fail where they are all there
pub words_are_there : (p : Pad) (n : ℕ) (b : Remaining) (f : Fault) → 4 * n ≤ length b.bytes → FailsFixed p (4 * n) b f → ⊥
words_are_there p n b f long (inl h) = omega (arith, h.0, long)
words_are_there p n b f long (inr (v, d, rest, len, padding, parts, inl bad)) = bad
words_are_there p n b f long (inr (v, d, rest, len, padding, parts, inr (u, bad))) =
    no_padding p (b.at + 4 * n) d f (omega (arith, padding)) bad

pub counted_numbers : (old new : Reader) (r : Result (List ℕ) Fault)
    → Reads (λ w. w) (λ f. f) old new r (numbers_at (remaining old))
    → Reads (λ w. Tree.array (word_trees w)) (λ f. f) old new r (reading old.pad (array word) (remaining old))
counted_numbers old new (Ok w) h = (rw (numbers_as_array old.pad (remaining old), h.0) refl, h.1)
counted_numbers old new (Err f) h = (rw (numbers_as_array old.pad (remaining old), h.0) refl, h.1)

-- behind the words that are taken from a cursor
pub words_taken : (count at left : ℕ) (old : Reader) → AreBytes old.bytes → at ≡ old.at → left ≡ length old.bytes
    → left / 4 < count → items_at word_at count (remaining old) ≡ Err (short (at + left / 4 * 4) 4 (left % 4))
words_taken count at left old all place len few =
    rw (place, len) (short_of_words count old.bytes old.at all (omega (arith, len, few)))
