-- Tests of lists, of integers, and of what is asked only where something holds.
use Rattle.std.proofs.Common.{◌≡◌, ◌≤◌, ℕ, Bool, true, false, not, ◌||◌, List, [], ◌∷◌, ℤ, ◌<ℤ◌, ◌≤ℤ◌, arith, refl}
use Rattle.std.specs.Prelude.{nat_le, int_lt, int_le}
use Rattle.std.specs.Bool.{Decides}
use Rattle.std.specs.List.{AllByRecursion, list_all}
use Rattle.std.proofs.lemmas.Int.{ints}
use Rattle.std.proofs.lemmas.Bool.{leb-true, le-leb}
use Rattle.std.proofs.lemmas.Bool.Decides.{Decides-and}
use Rattle.count_spec.proofs.Integers.{int_lt-true, int_le-true}

pub decides-if : {P Q : Type 0} (a b : Bool) → Decides a P → Decides b Q → Decides (not a || b) (P → Q)
decides-if true b d k = (λ e p. k.0 e, λ f. k.1 (f (d.0 refl)))
decides-if false b d k = (λ e p. let bad : false ≡ true = d.1 p in absurd cc, λ f. refl)

pub decides-each : {X : Type 0} (p : X → Bool) (P : X → Type 0) → ((x : X) → Decides (p x) (P x)) → (xs : List X)
    → Decides (list_all p xs) (AllByRecursion P xs)
decides-each p P each [] = (λ e. tt, λ h. refl)
decides-each p P each (x ∷ xs) = Decides-and (p x) (list_all p xs) (each x) (decides-each p P each xs)

pub decides-le : (a b : ℕ) → Decides (nat_le a b) (a ≤ b)
decides-le a b = (leb-true a b, le-leb a b)

pub decides-int_lt : (a b : ℤ) → Decides (int_lt a b) (a <ℤ b)
decides-int_lt a b = (λ e. omega (arith, ints), int_lt-true a b)

pub decides-int_le : (a b : ℤ) → Decides (int_le a b) (a ≤ℤ b)
decides-int_le a b = (λ e. omega (arith, ints), int_le-true a b)
