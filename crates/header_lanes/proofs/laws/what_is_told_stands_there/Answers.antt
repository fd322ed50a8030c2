use Rattle.std.proofs.Common.{take}
use Rattle.header_lanes.proofs.Told.{told_is_there}
use Rattle.header_lanes.proofs.laws.what_is_told_stands_there.Goals as goal

pub returns : goal.returns
returns c = λ protocol header. told_is_there protocol (take 128 header)
