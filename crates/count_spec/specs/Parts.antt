-- The parts of the numbers issued from the least to the greatest counted one: received, pending and lost.
-- Issued is the expected number of packets of RFC 3550, appendix A.3. A set is a list without repetition.
use Rattle.std.specs.Prelude.{ℕ, zero, suc, ◌+◌, ◌-◌, not, ◌&&◌, List, [], ◌∷◌, length, ℤ, pos, ◌+ℤ◌, ◌-ℤ◌, int_lt, int_le, unsigned_abs}
use Rattle.std.specs.List.{count_by}
use Rattle.count_spec.specs.Windows.{greatest, least, has}

-- how many numbers were issued, and how many of them were received, may still come, and count as lost
pub record Parts : Type 0 where
  pub issued : ℕ
  pub received : ℕ
  pub pending : ℕ
  pub lost : ℕ

-- so many numbers, upwards from this one
abbrev pub numbers_from : ℤ → ℕ → List ℤ
numbers_from n zero = []
numbers_from n (suc count) = n ∷ numbers_from (n +ℤ pos 1) count

-- the numbers strictly between low and high, where low is at most high
-- (it stays folded in proofs, so that no check writes out two thousand million numbers)
unfoldable pub between : ℤ → ℤ → List ℤ
between low high = numbers_from (low +ℤ pos 1) (unsigned_abs (high -ℤ low) - 1)

-- the parts of a set of counted numbers whose least is low and whose greatest is high
abbrev pub parts_between : ℕ → List ℤ → ℤ → ℤ → Parts
parts_between width set low high = record {
  issued = unsigned_abs (high -ℤ low) + 1;
  received = length set;
  pending = count_by (λ n. not (has set n) && int_lt (high -ℤ pos width) n) (between low high);
  lost = count_by (λ n. not (has set n) && int_le n (high -ℤ pos width)) (between low high);
}

-- the parts of a set of counted numbers: what lies between the ends and was not counted is pending above the
-- greatest less the width, and lost at that number and below
abbrev pub parts : ℕ → List ℤ → Parts
parts width [] = record { issued = 0; received = 0; pending = 0; lost = 0 }
parts width (n ∷ more) = parts_between width (n ∷ more) (least (n ∷ more)) (greatest (n ∷ more))
