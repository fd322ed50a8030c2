-- The distance of two numbers that are near each other, as the code computes it.
use Rattle.std.proofs.Common.{◌≡◌, ℤ, pos, ◌+ℤ◌, ◌-ℤ◌, ◌≤ℤ◌, ◌<ℤ◌, arith, ◌^◌, to_z, of_z}
use Rattle.std.specs.Prelude.{unsigned_abs}
use Rattle.std.specs.Int.{w128}
use Rattle.std.proofs.lemmas.Int.{ints}
use Rattle.late_window.specs.Steps.{IsBeside}
use Rattle.late_window.specs.declared.side.Side.TheVariants.{Above, Below}

-- a from b, in 128 bits
abbrev pub less : ℤ → ℤ → ℤ
less a b = to_z w128 (of_z w128 (to_z w128 (of_z w128 a) -ℤ to_z w128 (of_z w128 b)))

less-is : (a b : ℤ) → pos 0 ≤ℤ b → b ≤ℤ pos (2 ^ 100) → (b -ℤ pos 2147483648) ≤ℤ a → a <ℤ (b +ℤ pos 2147483648)
    → less a b ≡ (a -ℤ b)
less-is a b from to low high = omega (arith, ints)

more-is : (a b : ℤ) → pos 0 ≤ℤ b → b ≤ℤ pos (2 ^ 100) → (b -ℤ pos 2147483648) ≤ℤ a → a <ℤ (b +ℤ pos 2147483648)
    → less b a ≡ (b -ℤ a)
more-is a b from to low high = omega (arith, ints)

pub is-above : (number newest : ℤ) → pos 0 ≤ℤ newest → newest ≤ℤ pos (2 ^ 100)
    → (newest -ℤ pos 2147483648) ≤ℤ number → number <ℤ (newest +ℤ pos 2147483648)
    → newest <ℤ number
    → IsBeside (Above (unsigned_abs (less number newest))) newest number
is-above number newest from to low high above =
    rw (less-is number newest from to low high) (omega (arith, ints), omega (arith, ints), omega (arith, ints))

pub is-below : (number newest : ℤ) → pos 0 ≤ℤ newest → newest ≤ℤ pos (2 ^ 100)
    → (newest -ℤ pos 2147483648) ≤ℤ number → number <ℤ (newest +ℤ pos 2147483648)
    → number ≤ℤ newest
    → IsBeside (Below (unsigned_abs (less newest number))) newest number
is-below number newest from to low high below =
    rw (more-is number newest from to low high) (omega (arith, ints), omega (arith, ints))
