-- The newest number that is kept of each index is the greatest of that index.
use Rattle.std.proofs.Common.{◌≡◌, ℕ, Bool, true, false, cond, List, [], ◌∷◌, map, ℤ, pos, ◌+ℤ◌, Some, None, refl, sym, ap, subst, ◌∙◌}
use Rattle.std.specs.Prelude.{◌==◌, int_lt}
use Rattle.std.specs.declared.option.Option.{Option}
use Rattle.std.specs.Bool.{Decides}
use Rattle.std.specs.List.{filter}
use Rattle.std.specs.Int.{int_max}
use Rattle.std.proofs.lemmas.Bool.{eqb-true, eqb-false, eq-eqb, ne_eqb}
use Rattle.std.proofs.lemmas.Bool.Decides.{Decides-and}
use Rattle.count_spec.specs.Windows.{greatest}
use Rattle.account_spec.specs.TrueNumbers.{IsClose}
use Rattle.account_spec.specs.Close.{AreCloseEach}
use Rattle.trial_spec.specs.Newest.{Newest, newest_at, with_number, newest_each, is_close_to}
use Rattle.trial_spec.specs.CloseTests.{are_close_each}
use Rattle.trial_spec.proofs.Tests.{decides-int_lt}

abbrev pub greatest_of : List ℤ → Option ℤ
greatest_of [] = None
greatest_of (n ∷ more) = Some (greatest (n ∷ more))

abbrev raised : ℤ → Option ℤ → Option ℤ
raised n None = Some n
raised n (Some m) = Some (int_max n m)

raise : (n : ℤ) (ms : List ℤ) → raised n (greatest_of ms) ≡ greatest_of (n ∷ ms)
raise n [] = refl
raise n (m ∷ more) = refl

with-own : (i : ℕ) (n : ℤ) (ts : List Newest) → newest_at i (with_number i n ts) ≡ raised n (newest_at i ts)
with-own i n [] = ap (λ (b : Bool). cond b (Some n) None) (eq-eqb i i refl)
with-own i n (t ∷ more) = go (t.index == i) refl (with-own i n more)
  where
    go : (b : Bool) → (t.index == i) ≡ b → newest_at i (with_number i n more) ≡ raised n (newest_at i more)
        → newest_at i (cond b (record { index = i; number = int_max n t.number } ∷ more) (t ∷ with_number i n more))
        ≡ raised n (cond b (Some t.number) (newest_at i more))
    go true e later = ap (λ (b : Bool). cond b (Some (int_max n t.number)) (newest_at i more)) (eq-eqb i i refl)
    go false e later = ap (λ (b : Bool). cond b (Some t.number) (newest_at i (with_number i n more))) e ∙ later

with-other : (i j : ℕ) (n : ℤ) (ts : List Newest) → (j ≡ i → ⊥) → newest_at i (with_number j n ts) ≡ newest_at i ts
with-other i j n [] apart = ap (λ (b : Bool). cond b (Some n) None) (ne_eqb j i apart)
with-other i j n (t ∷ more) apart = go (t.index == j) refl (with-other i j n more apart)
  where
    go : (b : Bool) → (t.index == j) ≡ b → newest_at i (with_number j n more) ≡ newest_at i more
        → newest_at i (cond b (record { index = j; number = int_max n t.number } ∷ more) (t ∷ with_number j n more))
        ≡ newest_at i (t ∷ more)
    go true e later =
        let s : t.index ≡ j = eqb-true t.index j e in
        ap (λ (b : Bool). cond b (Some (int_max n t.number)) (newest_at i more)) (ne_eqb j i apart)
        ∙ sym (ap (λ (b : Bool). cond b (Some t.number) (newest_at i more)) (ne_eqb t.index i (λ q. apart (sym s ∙ q))))
    go false e later = ap (λ (o : Option ℤ). cond (t.index == i) (Some t.number) o) later

module _ {X : Type 0} (index : X → ℕ) (number : X → ℤ) where
  abbrev of : ℕ → List X → List X
  of i xs = filter (λ (y : X). index y == i) xs

  pub newest-is : (i : ℕ) (xs : List X)
      → newest_at i (newest_each index number xs) ≡ greatest_of (map number (of i xs))
  newest-is i [] = refl
  newest-is i (x ∷ before) = go (index x == i) refl (newest-is i before)
    where
      go : (b : Bool) → (index x == i) ≡ b
          → newest_at i (newest_each index number before) ≡ greatest_of (map number (of i before))
          → newest_at i (with_number (index x) (number x) (newest_each index number before))
          ≡ greatest_of (map number (cond b (x ∷ of i before) (of i before)))
      go true e later =
          ap (λ (k : ℕ). newest_at i (with_number k (number x) (newest_each index number before))) (eqb-true (index x) i e)
          ∙ with-own i (number x) (newest_each index number before)
          ∙ ap (raised (number x)) later
          ∙ raise (number x) (map number (of i before))
      go false e later =
          with-other i (index x) (number x) (newest_each index number before) (eqb-false (index x) i e) ∙ later

  decides-close-to : (ms : List ℤ) (n : ℤ) → Decides (is_close_to (greatest_of ms) n) (IsClose ms n)
  decides-close-to [] n = (λ e. tt, λ h. refl)
  decides-close-to (m ∷ more) n =
      Decides-and (int_lt n (greatest (m ∷ more) +ℤ pos 2147483648)) (int_lt (greatest (m ∷ more)) (n +ℤ pos 2147483648))
      (decides-int_lt n (greatest (m ∷ more) +ℤ pos 2147483648))
      (decides-int_lt (greatest (m ∷ more)) (n +ℤ pos 2147483648))

  pub decides-close-each : (xs : List X) → Decides (are_close_each index number xs) (AreCloseEach index number xs)
  decides-close-each [] = (λ e. tt, λ h. refl)
  decides-close-each (x ∷ before) =
      Decides-and (is_close_to (newest_at (index x) (newest_each index number before)) (number x))
      (are_close_each index number before)
      (subst (λ (o : Option ℤ). Decides (is_close_to o (number x)) (IsClose (map number (of (index x) before)) (number x)))
      (sym (newest-is (index x) before)) (decides-close-to (map number (of (index x) before)) (number x)))
      (decides-close-each before)
