use Rattle.std.proofs.Common.{ap, ◌∙◌, sym, length, arith}
use Rattle.header_lanes.specs.Slots.{owed}
use Rattle.header_lanes.proofs.Slots.{all_held}
use Rattle.header_lanes.proofs.batch.Batch.len.Goals as goal

pub returns-clause-length : goal.returns-clause-length
returns-clause-length c =
    let b = c.self.inside in
    sym (all_held owed b.slots b.held (omega (arith, c.self.invariant.0, c.self.invariant.1))) ∙ ap length c.self.view_is
