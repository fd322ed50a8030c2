-- The bits of a ring: one is read or added, a run of them is removed, and the head moves on.
use Rattle.std.proofs.Common.{◌≡◌, ℕ, zero, suc, ◌+◌, ◌-◌, ◌*◌, ◌/◌, ◌%◌, ◌^◌, ◌<◌, ◌≤◌, ◌⊎◌, inl, inr, Bool, true, false, cond, ◌&&◌, ◌||◌, not, refl, sym, ◌∙◌, ap, arith, List, length, set, get_or, get_or-set_same, get_or-set_other, replicate, bit_and, bit_or, w64, eqb}
use Rattle.std.specs.Prelude.{◌==◌, nat_le, count_ones}
use Rattle.std.specs.Int.{bit_at}
use Rattle.std.proofs.lemmas.Bool.{cases_eq, cases_lt, eq-eqb, ne_eqb, le-leb, lt-leb}
use Rattle.std.proofs.lemmas.Nat.Bits.{shr_and_one, bit_at-zero, bit_at_set_same, bit_at_set_other}
use Rattle.late_window.specs.Distances.{count_below}
use Rattle.late_window.specs.Ring.{bit_of_slot, slot_below, bit_below}
use Rattle.late_window.specs.declared.ring.TheConstants.{WORDS}
use Rattle.late_window.proofs.Tallies.{count-zero, count-suc, count-same, count-split, count-reversed}
use Rattle.late_window.proofs.WordBits.{bit-cleared, bit-left, word-lacked, run-lacked}

-- ---- one bit

pub bit-read : (words : List ℕ) (slot : ℕ)
    → eqb (bit_and (get_or words (slot / 64) 0 / 2 ^ (slot % 64)) 1) 1 ≡ bit_of_slot words slot
unfolding bit_of_slot
bit-read words slot = rw (shr_and_one (get_or words (slot / 64) 0) (slot % 64)) refl

-- two slots of one word have bits of their own
apart-in_word : (a b : ℕ) → a / 64 ≡ b / 64 → (a ≡ b → ⊥) → a % 64 ≡ b % 64 → ⊥
apart-in_word a b word apart e = apart (omega arith)

cond-or : (a b : Bool) → cond a true b ≡ (a || b)
cond-or true b = refl
cond-or false b = refl

pub bit-added : (words : List ℕ) (slot other : ℕ) → length words ≡ WORDS → slot < 64 * WORDS
    → bit_of_slot (set words (slot / 64) (bit_or (get_or words (slot / 64) 0) (1 * 2 ^ (slot % 64) % 2 ^ 64))) other
    ≡ (other == slot || bit_of_slot words other)
unfolding bit_of_slot
bit-added words slot other len within =
    let word : ℕ = get_or words (slot / 64) 0 in
    let new : ℕ = bit_or (get_or words (slot / 64) 0) (1 * 2 ^ (slot % 64) % 2 ^ 64) in
    let low : slot % 64 < 64 = omega arith in
    let inside : slot / 64 < length words = omega arith in
    elim (cases_eq (other / 64) (slot / 64)) [
      | inl same_word ↦
          let read : get_or (set words (slot / 64) new) (slot / 64) 0 ≡ new = get_or-set_same words (slot / 64) new 0 inside in
          rw (same_word, read) (elim (cases_eq other slot) [
            | inl same ↦ rw (eq-eqb other slot same, same) (eq-eqb _ 1 (bit_at_set_same w64 word (slot % 64) low))
            | inr apart ↦
                let kept : bit_at new (other % 64) ≡ bit_at word (other % 64) =
                bit_at_set_other w64 word (slot % 64) low (other % 64) (apart-in_word other slot same_word apart) in
                rw (ne_eqb other slot apart, kept) refl
          ])
      | inr words_apart ↦
          let apart : eqb other slot ≡ false = ne_eqb other slot (λ e. words_apart (ap (λ (x : ℕ). x / 64) e)) in
          let read : get_or (set words (slot / 64) new) (other / 64) 0 ≡ get_or words (other / 64) 0 =
          get_or-set_other words (slot / 64) (other / 64) new 0 words_apart in
          rw (apart, read) refl
    ]

-- ---- a run of bits in one word

-- the words, where this run of ones was cleared in the slot's word
abbrev cleared : List ℕ → ℕ → ℕ → List ℕ
cleared words slot ones = set words (slot / 64) (bit_and (get_or words (slot / 64) 0) (2 ^ 64 - 1 - ones))

pub slot-cleared : (words : List ℕ) (slot step other ones : ℕ) → length words ≡ WORDS → slot < 64 * WORDS
    → slot % 64 + step ≤ 64 → ones ≡ 2 ^ (slot % 64 + step) - 2 ^ (slot % 64) → slot ≤ other → other < slot + step
    → bit_of_slot (cleared words slot ones) other ≡ false
unfolding bit_of_slot
slot-cleared words slot step other ones len within in_word run from to =
    let word : ℕ = get_or words (slot / 64) 0 in
    let here : other / 64 ≡ slot / 64 = omega arith in
    let read = get_or-set_same words (slot / 64) (bit_and word (2 ^ 64 - 1 - ones)) 0 (omega arith) in
    let none = bit-cleared word (slot % 64) step (other % 64) in_word (omega arith) (omega arith) in
    rw (here, read, run, none) refl

pub slot-left : (words : List ℕ) (slot step other ones : ℕ) → length words ≡ WORDS → slot < 64 * WORDS
    → slot % 64 + step ≤ 64 → ones ≡ 2 ^ (slot % 64 + step) - 2 ^ (slot % 64) → (other < slot) ⊎ (slot + step ≤ other)
    → bit_of_slot (cleared words slot ones) other ≡ bit_of_slot words other
unfolding bit_of_slot
slot-left words slot step other ones len within in_word run out =
    let word : ℕ = get_or words (slot / 64) 0 in
    elim (cases_eq (other / 64) (slot / 64)) [
      | inl here ↦
          let read = get_or-set_same words (slot / 64) (bit_and word (2 ^ 64 - 1 - ones)) 0 (omega arith) in
          let kept = bit-left word (slot % 64) step (other % 64) in_word (omega arith) (beside here out) in
          rw (here, read, run, kept) refl
      | inr apart ↦
          let read = get_or-set_other words (slot / 64) (other / 64) (bit_and word (2 ^ 64 - 1 - ones)) 0 apart in
          rw read refl
    ]
  where
    beside : other / 64 ≡ slot / 64 → (other < slot) ⊎ (slot + step ≤ other)
        → (other % 64 < slot % 64) ⊎ (slot % 64 + step ≤ other % 64)
    beside here (inl below) = inl (omega arith)
    beside here (inr above) = inr (omega arith)

-- ---- whole words

-- the words from first up to end are 0, and the others are as they were
pub record Zeroed (old new : List ℕ) (first end : ℕ) : Type 0 where
  pub zero_words : (i : ℕ) → first ≤ i → i < end → get_or new i 0 ≡ 0
  pub other_words : (i : ℕ) → (i < first) ⊎ (end ≤ i) → get_or new i 0 ≡ get_or old i 0

pub zeroed-cleared : (old new : List ℕ) (slot count s : ℕ) → slot % 64 ≡ 0
    → Zeroed old new (slot / 64) (slot / 64 + count) → slot ≤ s → s < slot + count * 64 → bit_of_slot new s ≡ false
unfolding bit_of_slot
zeroed-cleared old new slot count s whole z from to =
    rw (z.zero_words (s / 64) (omega arith) (omega arith), bit_at-zero (s % 64)) refl

pub zeroed-others : (old new : List ℕ) (slot count s : ℕ) → slot % 64 ≡ 0
    → Zeroed old new (slot / 64) (slot / 64 + count) → (s < slot) ⊎ (slot + count * 64 ≤ s)
    → bit_of_slot new s ≡ bit_of_slot old s
unfolding bit_of_slot
zeroed-others old new slot count s whole z out = rw (z.other_words (s / 64) (beside out)) refl
  where
    beside : (s < slot) ⊎ (slot + count * 64 ≤ s) → (s / 64 < slot / 64) ⊎ (slot / 64 + count ≤ s / 64)
    beside (inl below) = inl (omega arith)
    beside (inr above) = inr (omega arith)

-- ---- slots

slot-near : (slots head back : ℕ) → back ≤ head → slot_below slots head back ≡ head - back
slot-near slots head back near = rw (le-leb back head near) refl

slot-far : (slots head back : ℕ) → head < back → slot_below slots head back ≡ head + slots - back
slot-far slots head back far = rw (lt-leb back head far) refl

pub slot-within : (slots head back : ℕ) → head < slots → back < slots → slot_below slots head back < slots
slot-within slots head back h b = elim (cases_lt head back) [
  | inl far ↦ rw (slot-far slots head back far) (omega arith)
  | inr near ↦ rw (slot-near slots head back near) (omega arith)
]

-- distances are apart exactly where their slots are
slot-same : (slots head a b : ℕ) → head < slots → a < slots → b < slots
    → slot_below slots head a ≡ slot_below slots head b → a ≡ b
slot-same slots head a b h la lb e = elim (cases_lt head a) [
  | inl far_a ↦ elim (cases_lt head b) [
    | inl far ↦ let s = sym (slot-far slots head a far_a) ∙ e ∙ slot-far slots head b far in omega (arith, s)
    | inr near ↦ let s = sym (slot-far slots head a far_a) ∙ e ∙ slot-near slots head b near in omega (arith, s)
  ]
  | inr near_a ↦ elim (cases_lt head b) [
    | inl far ↦ let s = sym (slot-near slots head a near_a) ∙ e ∙ slot-far slots head b far in omega (arith, s)
    | inr near ↦ let s = sym (slot-near slots head a near_a) ∙ e ∙ slot-near slots head b near in omega (arith, s)
  ]
]

slot-test : (slots head a b : ℕ) → head < slots → a < slots → b < slots
    → (slot_below slots head a == slot_below slots head b) ≡ (a == b)
slot-test slots head a b h la lb =
    elim (cases_eq a b) [
      | inl e ↦ rw (eq-eqb a b e) (eq-eqb _ _ (ap (slot_below slots head) e))
      | inr apart ↦ rw (ne_eqb a b apart) (ne_eqb _ _ (λ e. apart (slot-same slots head a b h la lb e)))
    ]

pub below-added : (words : List ℕ) (slots head back slot k : ℕ) → length words ≡ WORDS → slots ≤ 64 * WORDS
    → head < slots → back < slots → k < slots → slot ≡ slot_below slots head back
    → bit_below (set words (slot / 64) (bit_or (get_or words (slot / 64) 0) (1 * 2 ^ (slot % 64) % 2 ^ 64))) slots head k
    ≡ (k == back || bit_below words slots head k)
below-added words slots head back slot k len room h b l e =
    let within = slot-within slots head back h b in
    bit-added words slot (slot_below slots head k) len (omega (arith, within, e))
    ∙ (rw (e, slot-test slots head k back h l b) refl)

-- ---- the head moves on within a word, from the next slot

-- the slot after the head's
abbrev pub IsNext : ℕ → ℕ → ℕ → Type 0
IsNext slots head slot = ((head + 1 < slots) × (slot ≡ head + 1)) ⊎ ((head + 1 ≡ slots) × (slot ≡ 0))

-- a number that isn't passed keeps its slot
slot-kept : (slots head slot step k : ℕ) → head < slots → IsNext slots head slot → 1 ≤ step → step ≤ k → k < slots
    → slot_below slots (slot + step - 1) k ≡ slot_below slots head (k - step)
slot-kept slots head slot step k h (inl next) some reached within =
    let at : slot ≡ head + 1 = next.1 in
    elim (cases_lt head (k - step)) [
      | inl far ↦ slot-far slots (slot + step - 1) k (omega arith) ∙ (omega arith) ∙ sym (slot-far slots head (k - step) far)
      | inr near ↦ slot-near slots (slot + step - 1) k (omega arith) ∙ (omega arith) ∙ sym (slot-near slots head (k - step) near)
    ]
slot-kept slots head slot step k h (inr next) some reached within =
    let last : head + 1 ≡ slots = next.0 in
    let at : slot ≡ 0 = next.1 in
    slot-far slots (slot + step - 1) k (omega arith) ∙ (omega arith) ∙ sym (slot-near slots head (k - step) (omega arith))

-- and that slot isn't among those passed
slot-beside : (slots head slot step k : ℕ) → head < slots → IsNext slots head slot → 1 ≤ step → step ≤ k → k < slots
    → (slot_below slots head (k - step) < slot) ⊎ (slot + step ≤ slot_below slots head (k - step))
slot-beside slots head slot step k h (inl next) some reached within =
    let at : slot ≡ head + 1 = next.1 in
    elim (cases_lt head (k - step)) [
      | inl far ↦ let is = slot-far slots head (k - step) far in inr (omega (arith, is))
      | inr near ↦ let is = slot-near slots head (k - step) near in inl (omega (arith, is))
    ]
slot-beside slots head slot step k h (inr next) some reached within =
    let last : head + 1 ≡ slots = next.0 in
    let at : slot ≡ 0 = next.1 in
    let is = slot-near slots head (k - step) (omega arith) in
    inr (omega (arith, is))

pub below-moved : (old new : List ℕ) (slots head slot step k : ℕ) → head < slots → IsNext slots head slot → 1 ≤ step
    → ((s : ℕ) → slot ≤ s → s < slot + step → bit_of_slot new s ≡ false)
    → ((s : ℕ) → (s < slot) ⊎ (slot + step ≤ s) → bit_of_slot new s ≡ bit_of_slot old s) → k < slots
    → bit_below new slots (slot + step - 1) k ≡ (nat_le step k && bit_below old slots head (k - step))
below-moved old new slots head slot step k h next some cleared others within =
    elim (cases_lt k step) [
      | inl passed ↦
          let at = slot-near slots (slot + step - 1) k (omega arith) in
          rw (at, lt-leb step k passed) (cleared (slot + step - 1 - k) (omega arith) (omega arith))
      | inr reached ↦
          let at = slot-kept slots head slot step k h next some reached within in
          rw (at, le-leb step k reached) (others (slot_below slots head (k - step))
          (slot-beside slots head slot step k h next some reached within))
    ]

-- so many more after so many
pub moved-more : (f g h : ℕ → Bool) (slots step more k : ℕ) → k < slots
    → ((k : ℕ) → k < slots → g k ≡ (nat_le step k && f (k - step)))
    → ((k : ℕ) → k < slots → h k ≡ (nat_le more k && g (k - more)))
    → h k ≡ (nat_le (step + more) k && f (k - (step + more)))
moved-more f g h slots step more k l before last = elim (cases_lt k more) [
  | inl passed ↦ last k l ∙ (rw (lt-leb more k passed, lt-leb (step + more) k (omega arith)) refl)
  | inr reached ↦
      let far : k - more - step ≡ k - (step + more) = omega arith in
      last k l ∙ (rw (le-leb more k reached, before (k - more) (omega arith), far) (elim (cases_lt (k - more) step) [
        | inl short ↦ rw (lt-leb step (k - more) short, lt-leb (step + more) k (omega arith)) refl
        | inr past ↦ rw (le-leb step (k - more) past, le-leb (step + more) k (omega arith)) refl
      ]))
]

pub moved-none : (f : ℕ → Bool) (k : ℕ) → f k ≡ (nat_le 0 k && f (k - 0))
moved-none f k = let none : k - 0 ≡ k = omega arith in rw (none, le-leb 0 k (omega arith)) refl

copies : (n i : ℕ) → get_or {A = ℕ} (replicate n 0) i 0 ≡ 0
copies zero i = refl
copies (suc n) zero = refl
copies (suc n) (suc i) = copies n i

pub zero-bits : (n slot : ℕ) → bit_of_slot (replicate n 0) slot ≡ false
unfolding bit_of_slot
zero-bits n slot = rw (copies n (slot / 64), bit_at-zero (slot % 64)) refl

-- ---- bits that are missing

pub missing-run : (words : List ℕ) (slot count ones : ℕ) → get_or words (slot / 64) 0 < 2 ^ 64 → 1 ≤ count
    → count ≤ slot % 64 + 1 → ones ≡ 2 ^ (slot % 64 + 1 - count + count) - 2 ^ (slot % 64 + 1 - count)
    → count_ones (bit_and (2 ^ 64 - 1 - get_or words (slot / 64) 0) ones)
    ≡ count_below (λ k. not (bit_of_slot words (slot - k))) count
unfolding bit_of_slot
missing-run words slot count ones fits some in_word run =
    let word : ℕ = get_or words (slot / 64) 0 in
    let low : ℕ = slot % 64 + 1 - count in
    ap (λ (m : ℕ). count_ones (bit_and (2 ^ 64 - 1 - word) m)) run
    ∙ run-lacked word low count fits (omega arith)
    ∙ count-same (λ k. not (bit_at word (low + (count - 1 - k)) == 1))
    (λ k. not (bit_at (get_or words ((slot - k) / 64) 0) ((slot - k) % 64) == 1)) count
    (λ k b. same k (slot - k) ((slot - k) / 64) ((slot - k) % 64) (omega arith) (omega arith))
  where
    same : (k other at bit : ℕ) → at ≡ slot / 64 → bit ≡ slot % 64 + 1 - count + (count - 1 - k)
        → not (bit_at (get_or words (slot / 64) 0) (slot % 64 + 1 - count + (count - 1 - k)) == 1)
        ≡ not (bit_at (get_or words at 0) bit == 1)
    same k other at bit e f = rw (e, f) refl

pub missing-one : (p : ℕ → Bool) (from to n : ℕ) → to - from ≡ 1 → n ≡ cond (p from) 0 1
    → n ≡ count_below (λ k. not (p (from + k))) (to - from)
missing-one p from to n one e =
    let at : from + 0 ≡ from = omega arith in
    rw (one, count-suc (λ k. not (p (from + k))) 0, count-zero (λ k. not (p (from + k))), at, e) (turned (p from))
  where
    turned : (b : Bool) → cond {A = ℕ} b 0 1 ≡ cond (not b) 1 0 + 0
    turned true = refl
    turned false = refl

pub missing-word : (words : List ℕ) (first word missing more : ℕ) → first ≤ word → get_or words word 0 < 2 ^ 64
    → missing ≡ count_below (λ s. not (bit_of_slot words (first * 64 + s))) ((word - first) * 64)
    → more ≡ count_ones (2 ^ 64 - 1 - get_or words word 0)
    → missing + more ≡ count_below (λ s. not (bit_of_slot words (first * 64 + s))) ((word + 1 - first) * 64)
unfolding bit_of_slot
missing-word words first word missing more order fits e f =
    let parts : (word + 1 - first) * 64 ≡ (word - first) * 64 + 64 = omega arith in
    let split = count-split (λ s. not (bit_of_slot words (first * 64 + s))) ((word - first) * 64) 64 in
    let those : count_below (λ i. not (bit_at (get_or words word 0) i == 1)) 64
    ≡ count_below (λ i. not (bit_of_slot words (first * 64 + ((word - first) * 64 + i)))) 64 =
    count-same (λ i. not (bit_at (get_or words word 0) i == 1))
    (λ i. not (bit_of_slot words (first * 64 + ((word - first) * 64 + i)))) 64
    (λ i within. there i ((first * 64 + ((word - first) * 64 + i)) / 64) ((first * 64 + ((word - first) * 64 + i)) % 64)
    (omega arith) (omega arith)) in
    let lacked = word-lacked (get_or words word 0) fits in
    rw parts (omega (arith, split, those, lacked, e, f))
  where
    there : (i at bit : ℕ) → at ≡ word → bit ≡ i
        → not (bit_at (get_or words word 0) i == 1) ≡ not (bit_at (get_or words at 0) bit == 1)
    there i at bit e f = rw (e, f) refl

pub missing-words : (words : List ℕ) (first count : ℕ)
    → count_below (λ s. not (bit_of_slot words (first * 64 + s))) (count * 64)
    ≡ count_below (λ k. not (bit_of_slot words ((first + count) * 64 - 1 - k))) (count * 64)
missing-words words first count =
    count-reversed (λ s. not (bit_of_slot words (first * 64 + s))) (count * 64)
    ∙ count-same (λ k. not (bit_of_slot words (first * 64 + (count * 64 - 1 - k))))
    (λ k. not (bit_of_slot words ((first + count) * 64 - 1 - k))) (count * 64)
    (λ k b. ap (λ (s : ℕ). not (bit_of_slot words s)) (omega arith))

-- the slots of so many words from the top one down
pub missing-down : (words : List ℕ) (slot count : ℕ) → slot % 64 ≡ 63 → count ≤ slot / 64 + 1
    → count_below (λ k. not (bit_of_slot words ((slot / 64 + 1 - count + count) * 64 - 1 - k))) (count * 64)
    ≡ count_below (λ k. not (bit_of_slot words (slot - k))) (count * 64)
missing-down words slot count top few =
    count-same (λ k. not (bit_of_slot words ((slot / 64 + 1 - count + count) * 64 - 1 - k)))
    (λ k. not (bit_of_slot words (slot - k))) (count * 64)
    (λ k b. ap (λ (s : ℕ). not (bit_of_slot words s)) (omega arith))

-- the slots go down as the distances grow
slot-down : (slots head back k : ℕ) → back + k < slots → k ≤ slot_below slots head back
    → slot_below slots head (back + k) ≡ slot_below slots head back - k
slot-down slots head back k within low = elim (cases_lt head back) [
  | inl far ↦ slot-far slots head (back + k) (omega arith) ∙ (let at = slot-far slots head back far in omega (arith, at))
  | inr near ↦
      let at = slot-near slots head back near in
      slot-near slots head (back + k) (omega (arith, at, low)) ∙ (omega (arith, at))
]

pub missing-more : (words : List ℕ) (slots head from back slot count missing more : ℕ) → from ≤ back
    → back + count ≤ slots → slot ≡ slot_below slots head back → count ≤ slot + 1
    → missing ≡ count_below (λ k. not (bit_below words slots head (from + k))) (back - from)
    → more ≡ count_below (λ k. not (bit_of_slot words (slot - k))) count
    → missing + more ≡ count_below (λ k. not (bit_below words slots head (from + k))) (back + count - from)
missing-more words slots head from back slot count missing more order within at low e f =
    let parts : back + count - from ≡ back - from + count = omega arith in
    let split = count-split (λ k. not (bit_below words slots head (from + k))) (back - from) count in
    let those : count_below (λ k. not (bit_below words slots head (from + (back - from + k)))) count
    ≡ count_below (λ k. not (bit_of_slot words (slot - k))) count =
    count-same (λ k. not (bit_below words slots head (from + (back - from + k)))) (λ k. not (bit_of_slot words (slot - k))) count
    (λ k b. ap (λ (s : ℕ). not (bit_of_slot words s)) (there k b)) in
    rw parts (omega (arith, split, those, e, f))
  where
    there : (k : ℕ) → k < count → slot_below slots head (from + (back - from + k)) ≡ slot - k
    there k b =
        ap (slot_below slots head) (omega arith) ∙ slot-down slots head back k (omega arith) (omega (arith, at, low))
        ∙ ap (λ (s : ℕ). s - k) (sym at)
