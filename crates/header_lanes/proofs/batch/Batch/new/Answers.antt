use Rattle.std.proofs.Common.{arith, refl}
use Rattle.header_lanes.proofs.batch.Batch.new.Goals as goal

pub invariant_of-result : goal.invariant_of-result
invariant_of-result c = (omega arith, refl, c.new.ensures _ refl refl)
