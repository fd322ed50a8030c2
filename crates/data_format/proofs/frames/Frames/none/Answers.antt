use Rattle.std.proofs.Common.{refl, arith}
use Rattle.data_format.proofs.Again.{none_left, none_there}
use Rattle.data_format.proofs.frames.Frames.none.Goals as goal

pub invariant_of-result : goal.invariant_of-result
invariant_of-result c = (omega arith, none_there _)

pub returns : goal.returns
returns c = none_left 0 _ refl
