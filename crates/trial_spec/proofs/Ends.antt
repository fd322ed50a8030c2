-- What is kept of values are their ends; so the test of how they rise is exact.
use Rattle.std.proofs.Common.{◌≡◌, ◌≢◌, ℕ, ◌+◌, ◌<◌, inl, inr, Bool, true, false, cond, not, ◌&&◌, ◌||◌, List, [], ◌∷◌, ℤ, ◌<ℤ◌, arith, refl, sym, ap, subst, ◌∙◌}
use Rattle.std.specs.Prelude.{nat_lt, int_lt, int_le}
use Rattle.std.specs.Bool.{Decides}
use Rattle.std.specs.Int.{int_max, int_min}
use Rattle.std.specs.Ordering.{int_eq}
use Rattle.std.proofs.lemmas.Int.{ints}
use Rattle.std.proofs.lemmas.Bool.{cases_Bool}
use Rattle.std.proofs.lemmas.Bool.Decides.{Decides-and, Decides-like, Decides-ltb}
use Rattle.count_spec.specs.Windows.{greatest, least}
use Rattle.count_spec.specs.Rise.{NumberedValue, numbers, value_at, value_at_greatest, value_at_least}
use Rattle.count_spec.specs.TrueRise.{RiseByLess}
use Rattle.count_spec.proofs.Integers.{int_le-true, int_le-false, int_eq-same, int_eq-other}
use Rattle.trial_spec.specs.CloseTests.{Ends, ends_with, ends_of, rises_from, rise_by_less}
use Rattle.trial_spec.proofs.Tests.{decides-if, decides-int_lt}

-- a new number, the end before it, and what stands at each
abbrev reaches : Bool → ℤ → ℤ → ℤ
reaches b n g = cond b n g

module _ (n g : ℤ) (v : ℕ) (f : ℤ → ℕ) where
  pub record At (b : Bool) (end : ℤ) : Type 0 where
    pub number : cond b n g ≡ end
    pub value : cond b v (f g) ≡ cond (int_eq n end) v (f end)

  -- it is the new end
  at-new : (b : Bool) (end : ℤ) → b ≡ true → end ≡ n → At b end
  at-new b end e q = record {
    number = ap (λ (c : Bool). cond c n g) e ∙ sym q;
    value = ap (λ (c : Bool). cond c v (f g)) e
        ∙ sym (ap (λ (k : ℤ). cond (int_eq n k) v (f k)) q ∙ ap (λ (c : Bool). cond c v (f n)) (int_eq-same n));
  }

  -- the end stays
  at-old : (b : Bool) (end : ℤ) → b ≡ false → end ≡ g → n ≢ g → At b end
  at-old b end e q apart = record {
    number = ap (λ (c : Bool). cond c n g) e ∙ sym q;
    value = ap (λ (c : Bool). cond c v (f g)) e
        ∙ sym (ap (λ (k : ℤ). cond (int_eq n k) v (f k)) q ∙ ap (λ (c : Bool). cond c v (f g)) (int_eq-other n g apart));
  }

  at-greatest : At (int_le g n) (int_max n g)
  at-greatest = elim (cases_Bool (int_lt g n)) [
    | inl e ↦ at-new (int_le g n) (int_max n g) (int_le-true g n (omega (arith, ints))) (ap (λ (c : Bool). cond c n g) e)
    | inr e ↦ elim (cases_Bool (int_lt n g)) [
      | inl d ↦ at-old (int_le g n) (int_max n g) (int_le-false g n (omega (arith, ints))) (ap (λ (c : Bool). cond c n g) e)
          (λ q. omega (arith, ints))
      | inr d ↦
          let same : g ≡ n = omega (arith, ints) in
          at-new (int_le g n) (int_max n g) (int_le-true g n (omega (arith, ints))) (ap (λ (c : Bool). cond c n g) e ∙ same)
    ]
  ]

  at-least : At (int_le n g) (int_min n g)
  at-least = elim (cases_Bool (int_lt g n)) [
    | inl e ↦ at-old (int_le n g) (int_min n g) (int_le-false n g (omega (arith, ints))) (ap (λ (c : Bool). cond c g n) e)
        (λ q. omega (arith, ints))
    | inr e ↦ at-new (int_le n g) (int_min n g) (int_le-true n g (omega (arith, ints))) (ap (λ (c : Bool). cond c g n) e)
  ]

abbrev ends_in : List NumberedValue → Ends
ends_in vs = record {
  greatest = greatest (numbers vs);
  at_greatest = value_at_greatest vs;
  least = least (numbers vs);
  at_least = value_at_least vs;
}

ends-are : (v : NumberedValue) (before : List NumberedValue) → ends_of v before ≡ ends_in (v ∷ before)
ends-are v [] =
    let s : v.value ≡ cond (int_eq v.number v.number) v.value 0 = sym (ap (λ (b : Bool). cond b v.value 0) (int_eq-same v.number)) in
    λ j. record { greatest = v.number; at_greatest = s j; least = v.number; at_least = s j }
ends-are v (u ∷ before) =
    let up : At v.number (greatest (numbers (u ∷ before))) v.value (value_at (u ∷ before))
    (int_le (greatest (numbers (u ∷ before))) v.number) (int_max v.number (greatest (numbers (u ∷ before)))) =
    at-greatest v.number (greatest (numbers (u ∷ before))) v.value (value_at (u ∷ before)) in
    let down : At v.number (least (numbers (u ∷ before))) v.value (value_at (u ∷ before))
    (int_le v.number (least (numbers (u ∷ before)))) (int_min v.number (least (numbers (u ∷ before)))) =
    at-least v.number (least (numbers (u ∷ before))) v.value (value_at (u ∷ before)) in
    ap (λ (e : Ends). ends_with e v) (ends-are u before)
    ∙ (λ j. record { greatest = up.number j; at_greatest = up.value j; least = down.number j; at_least = down.value j })

decides-step : (modulus : ℕ) (v : NumberedValue) (vs : List NumberedValue) → Decides (rises_from modulus (ends_in vs) v)
    ((greatest (numbers vs) <ℤ v.number → v.value < value_at_greatest vs + modulus)
    × (v.number <ℤ least (numbers vs) → value_at_least vs < v.value + modulus))
decides-step modulus v vs =
    Decides-and (not (int_lt (greatest (numbers vs)) v.number) || nat_lt v.value (value_at_greatest vs + modulus))
    (not (int_lt v.number (least (numbers vs))) || nat_lt (value_at_least vs) (v.value + modulus))
    (decides-if (int_lt (greatest (numbers vs)) v.number) (nat_lt v.value (value_at_greatest vs + modulus))
    (decides-int_lt (greatest (numbers vs)) v.number) (Decides-ltb v.value (value_at_greatest vs + modulus)))
    (decides-if (int_lt v.number (least (numbers vs))) (nat_lt (value_at_least vs) (v.value + modulus))
    (decides-int_lt v.number (least (numbers vs))) (Decides-ltb (value_at_least vs) (v.value + modulus)))

pub decides-rise : (modulus : ℕ) (vs : List NumberedValue) → Decides (rise_by_less modulus vs) (RiseByLess modulus vs)
decides-rise modulus [] = (λ e. tt, λ h. refl)
decides-rise modulus (v ∷ []) = (λ e. tt, λ h. refl)
decides-rise modulus (v ∷ u ∷ before) =
    let here : Decides (rises_from modulus (ends_of u before) v)
    ((greatest (numbers (u ∷ before)) <ℤ v.number → v.value < value_at_greatest (u ∷ before) + modulus)
    × (v.number <ℤ least (numbers (u ∷ before)) → value_at_least (u ∷ before) < v.value + modulus)) =
    subst (λ (e : Ends). Decides (rises_from modulus e v)
    ((greatest (numbers (u ∷ before)) <ℤ v.number → v.value < value_at_greatest (u ∷ before) + modulus)
    × (v.number <ℤ least (numbers (u ∷ before)) → value_at_least (u ∷ before) < v.value + modulus)))
    (sym (ends-are u before)) (decides-step modulus v (u ∷ before)) in
    Decides-like (rises_from modulus (ends_of u before) v && rise_by_less modulus (u ∷ before))
    (λ h. (h.0.0, h.0.1, h.1)) (λ h. ((h.0, h.1), h.2))
    (Decides-and (rises_from modulus (ends_of u before) v) (rise_by_less modulus (u ∷ before)) here
    (decides-rise modulus (u ∷ before)))
