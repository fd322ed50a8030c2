-- The words and the hypers that bytes begin with.
use Rattle.std.proofs.Common.{◌≡◌, ℕ, ◌+◌, ◌-◌, ◌^◌, ◌<◌, ◌≤◌, inl, inr, List, ◌++◌, length, take, drop, refl, sym, ap, subst, ◌∙◌, append_assoc, arith, take_at, drop_at, take-append-drop, length-append, length-take-le}
use Rattle.std.specs.Int.{w32, w64, from_be_bytes}
use Rattle.std.proofs.lemmas.Bool.{cases_lt}
use Rattle.std.proofs.lemmas.Nat.{be_bytes_4, be_bytes_8, from_be_bytes-to_be_bytes_4, from_be_bytes-to_be_bytes_8}
use Rattle.std.proofs.lemmas.List.{get_or_append_left, get_or-append_right}
use Rattle.wire_spec.specs.Bytes.{AreBytes}
use Rattle.wire_spec.proofs.ByteLists.{take_bytes}
use Rattle.capture_spec.specs.Items.{word, hyper}
use Rattle.capture_spec.specs.ItemReading.{word_in, hyper_in}

pub length-word : (n : ℕ) → length (word n) ≡ 4
unfolding word
length-word n = refl

pub length-hyper : (n : ℕ) → length (hyper n) ≡ 8
unfolding hyper
length-hyper n = refl

-- ---- what was written is read

word_again : (n : ℕ) → n < 2 ^ 32 → from_be_bytes w32 (word n) ≡ n
unfolding word
word_again n small = from_be_bytes-to_be_bytes_4 n small

pub hyper_again : (n : ℕ) → n < 2 ^ 64 → from_be_bytes w64 (hyper n) ≡ n
unfolding hyper
hyper_again n small = from_be_bytes-to_be_bytes_8 n small

pub record ReadsWord (rest tail : List ℕ) (n : ℕ) : Type 0 where
  pub is : word_in rest ≡ n
  pub tail_is : drop 4 rest ≡ tail
  pub long : length rest ≡ 4 + length tail

pub reads_word : (rest tail : List ℕ) (n : ℕ) → rest ≡ word n ++ tail → n < 2 ^ 32 → ReadsWord rest tail n
reads_word rest tail n e small = record {
  is = ap word_in e ∙ ap (from_be_bytes w32) (take_at (word n) tail 4 (length-word n)) ∙ word_again n small;
  tail_is = ap (drop 4) e ∙ drop_at (word n) tail 4 (length-word n);
  long = omega (arith, ap length e, length-append (word n) tail, length-word n);
}

pub record ReadsHyper (rest tail : List ℕ) (n : ℕ) : Type 0 where
  pub is : hyper_in rest ≡ n
  pub tail_is : drop 8 rest ≡ tail
  pub long : length rest ≡ 8 + length tail

pub reads_hyper : (rest tail : List ℕ) (n : ℕ) → rest ≡ hyper n ++ tail → n < 2 ^ 64 → ReadsHyper rest tail n
reads_hyper rest tail n e small = record {
  is = ap hyper_in e ∙ ap (from_be_bytes w64) (take_at (hyper n) tail 8 (length-hyper n)) ∙ hyper_again n small;
  tail_is = ap (drop 8) e ∙ drop_at (hyper n) tail 8 (length-hyper n);
  long = omega (arith, ap length e, length-append (hyper n) tail, length-hyper n);
}

-- ---- what is read stands there

word_bytes : (xs : List ℕ) → length xs ≡ 4 → AreBytes xs → word (from_be_bytes w32 xs) ≡ xs
unfolding word
word_bytes xs long are = be_bytes_4 xs _ long are refl

hyper_bytes : (xs : List ℕ) → length xs ≡ 8 → AreBytes xs → hyper (from_be_bytes w64 xs) ≡ xs
unfolding hyper
hyper_bytes xs long are = be_bytes_8 xs _ long are refl

pub record HasWord (rest : List ℕ) : Type 0 where
  pub whole : rest ≡ word (word_in rest) ++ drop 4 rest
  pub small : word_in rest < 2 ^ 32

pub word_is : (rest : List ℕ) → AreBytes rest → 4 ≤ length rest → HasWord rest
word_is rest are long =
    let w = take_bytes 4 rest are in
    let same : word (word_in rest) ≡ take 4 rest = word_bytes (take 4 rest) (length-take-le 4 rest long) w in
    record {
      whole = sym (take-append-drop 4 rest) ∙ ap (λ l. l ++ drop 4 rest) (sym same);
      small = omega (arith, w 0, w 1, w 2, w 3);
    }

pub record HasHyper (rest : List ℕ) : Type 0 where
  pub front : hyper (hyper_in rest) ≡ take 8 rest
  pub whole : rest ≡ hyper (hyper_in rest) ++ drop 8 rest
  pub small : hyper_in rest < 2 ^ 64

pub hyper_is : (rest : List ℕ) → AreBytes rest → 8 ≤ length rest → HasHyper rest
hyper_is rest are long =
    let h = take_bytes 8 rest are in
    let same : hyper (hyper_in rest) ≡ take 8 rest = hyper_bytes (take 8 rest) (length-take-le 8 rest long) h in
    record {
      front = same;
      whole = sym (take-append-drop 8 rest) ∙ ap (λ l. l ++ drop 8 rest) (sym same);
      small = omega (arith, h 0, h 1, h 2, h 3, h 4, h 5, h 6, h 7);
    }

-- bytes, and then bytes
pub append_bytes : (xs ys : List ℕ) → AreBytes xs → AreBytes ys → AreBytes (xs ++ ys)
append_bytes xs ys these those i =
    elim (cases_lt i (length xs)) [
      | inl lt ↦ subst (λ (n : ℕ). n < 256) (sym (get_or_append_left xs ys 0 i lt)) (these i)
      | inr le ↦
          subst (λ (n : ℕ). n < 256) (sym (get_or-append_right xs ys (length xs) i 0 refl le)) (those (i - length xs))
    ]

-- a front of two parts, and what follows it
pub together : (one h k a rest tail : List ℕ) → rest ≡ h ++ a → a ≡ k ++ tail
    → one ++ rest ≡ (one ++ (h ++ k)) ++ tail
together one h k a rest tail x y = ap (λ l. one ++ l) (x ∙ ap (λ l. h ++ l) y) ∙ regroup one h k tail
  where
    regroup : (one h k tail : List ℕ) → one ++ (h ++ (k ++ tail)) ≡ (one ++ (h ++ k)) ++ tail
    regroup one h k tail = simp append_assoc
