-- A fact for each answer of a window, by the number's standing.
use Rattle.std.proofs.Common.{◌≡◌, ℕ, Bool, true, false, cond, List, ℤ, pos, ◌-ℤ◌, ◌≤ℤ◌, ◌<ℤ◌, arith, refl}
use Rattle.std.specs.Prelude.{int_lt, int_le}
use Rattle.std.proofs.lemmas.Int.{ints}
use Rattle.count_spec.specs.Windows.{greatest, least, has, place, number_answer}
use Rattle.count_spec.specs.declared.entered.Place.{Place}
use Rattle.count_spec.specs.declared.entered.Place.TheVariants.{Newest, Inside, Least}
use Rattle.count_spec.specs.declared.entered.Entered.{Entered}
use Rattle.count_spec.specs.declared.entered.Entered.TheVariants.{First, Repeat, Late}

pub place-cases : (P : Place → Type 0) (set : List ℤ) (n : ℤ)
    → (greatest set <ℤ n → P Newest)
    → (n ≤ℤ greatest set → n <ℤ least set → P Least)
    → (n ≤ℤ greatest set → least set ≤ℤ n → P Inside)
    → P (place set n)
place-cases P set n newest least_ inside = above (int_lt (greatest set) n) refl
  where
    below : (b : Bool) → int_lt n (least set) ≡ b → n ≤ℤ greatest set → P (cond b Least Inside)
    below true e h = least_ h (omega (arith, ints))
    below false e h = inside h (omega (arith, ints))

    above : (b : Bool) → int_lt (greatest set) n ≡ b
        → P (cond b Newest (cond (int_lt n (least set)) Least Inside))
    above true e = newest (omega (arith, ints))
    above false e = below (int_lt n (least set)) refl (omega (arith, ints))

pub number_answer-cases : (P : Entered → Type 0) (width : ℕ) (set : List ℤ) (n : ℤ)
    → (n ≤ℤ (greatest set -ℤ pos width) → P Late)
    → ((greatest set -ℤ pos width) <ℤ n → has set n ≡ true → P Repeat)
    → ((greatest set -ℤ pos width) <ℤ n → has set n ≡ false → P (First (place set n) n))
    → P (number_answer width set n)
number_answer-cases P width set n if_late if_repeat if_first =
    late (int_le n (greatest set -ℤ pos width)) refl
  where
    again : (b : Bool) → has set n ≡ b → (greatest set -ℤ pos width) <ℤ n
        → P (cond b Repeat (First (place set n) n))
    again true e h = if_repeat h e
    again false e h = if_first h e

    late : (b : Bool) → int_le n (greatest set -ℤ pos width) ≡ b
        → P (cond b Late (cond (has set n) Repeat (First (place set n) n)))
    late true e = if_late (omega (arith, ints))
    late false e = again (has set n) refl (omega (arith, ints))
