use Rattle.std.proofs.Common.{take}
use Rattle.header_lanes.proofs.KindsOf.{kind_is}
use Rattle.header_lanes.proofs.laws.each_header_has_its_kind.Goals as goal

pub returns : goal.returns
returns c = λ protocol header. kind_is protocol (take 128 header)
