use Rattle.std.proofs.Common.{take}
use Rattle.header_lanes.proofs.OfKinds.{facts_are_right}
use Rattle.header_lanes.proofs.laws.each_kind_has_its_facts.Goals as goal

pub returns : goal.returns
returns c = λ protocol header. facts_are_right protocol (take 128 header)
