-- Skip numbers, one after the other.
use Rattle.std.proofs.Common.{◌≡◌, ◌∙◌, ◌<◌, ℕ, Bool, true, false, List, [], ◌∷◌, ◌++◌, Option, Some, None, length, refl, ap, arith, append_assoc, length-append, if◌then◌else◌, nat_le, ◌&&◌}
use Rattle.std.specs.Prelude.{option_map, option_and_then}
use Rattle.std.proofs.lemmas.Bool.Decides.{nat_tests}
use Rattle.script_spec.specs.Words.{Text, where_true}
use Rattle.script_spec.specs.Values.{each_in, is_skip_count, skip_number}

abbrev pub numbers_in : List Text → Option (List ℕ)
numbers_in texts = each_in skip_number.read texts

abbrev pub behind : List ℕ → Option (List ℕ) → Option (List ℕ)
behind items o = option_map (λ (more : List ℕ). items ++ more) o

pub behind_nothing : (o : Option (List ℕ)) → o ≡ behind [] o
behind_nothing None = refl
behind_nothing (Some more) = refl

behind_more : (items : List ℕ) (n : ℕ) (o : Option (List ℕ))
    → behind items (option_map (λ (more : List ℕ). n ∷ more) o) ≡ behind (items ++ n ∷ []) o
behind_more items n None = refl
behind_more items n (Some more) = ap Some (rw append_assoc refl)

module _ (all words more : List Text) (text : Text) (items : List ℕ)
    (read : numbers_in all ≡ behind items (numbers_in words)) (first : words ≡ text ∷ more) where
  step : (o : Option ℕ) → skip_number.read text ≡ o
      → numbers_in all ≡ behind items (option_and_then (λ n. option_map (λ (others : List ℕ). n ∷ others) (numbers_in more)) o)
  step o is =
      read ∙ ap (λ (l : List Text). behind items (numbers_in l)) first
      ∙ ap (λ (p : Option ℕ). behind items (option_and_then (λ n. option_map (λ (others : List ℕ). n ∷ others) (numbers_in more)) p)) is

  pub skip_step : (n : ℕ) → skip_number.read text ≡ Some n → numbers_in all ≡ behind (items ++ n ∷ []) (numbers_in more)
  skip_step n is = step (Some n) is ∙ behind_more items n (numbers_in more)

  pub skip_stops : skip_number.read text ≡ None → where_true is_skip_count (numbers_in all) ≡ None
  skip_stops is = ap (where_true is_skip_count) (step None is)

  long : (n : ℕ) (o : Option (List ℕ)) → length items ≡ 1024 → where_true is_skip_count (behind (items ++ n ∷ []) o) ≡ None
  long n None full = refl
  long n (Some others) full = refused _ size
    where
      size : 1024 < length ((items ++ n ∷ []) ++ others)
      size = omega (arith, length-append (items ++ n ∷ []) others, length-append items (n ∷ []))

      refused : (l : List ℕ) → 1024 < length l → where_true is_skip_count (Some l) ≡ None
      refused l large = go (nat_le 1 (length l)) (nat_le (length l) 1024) refl
        where
          go : (a b : Bool) → nat_le (length l) 1024 ≡ b → (if a && b then Some l else None) ≡ None
          go true true is = absurd (grind (arith, nat_tests))
          go true false is = refl
          go false b is = refl

  -- more numbers than there is room for
  pub skip_long : (n : ℕ) → skip_number.read text ≡ Some n → length items ≡ 1024
      → where_true is_skip_count (numbers_in all) ≡ None
  skip_long n is full = ap (where_true is_skip_count) (skip_step n is) ∙ long n (numbers_in more) full
