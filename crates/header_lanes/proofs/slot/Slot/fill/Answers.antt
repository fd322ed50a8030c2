use Rattle.std.proofs.Common.{◌∙◌, ap, arith, take}
use Rattle.std.proofs.lemmas.List.{take-take}
use Rattle.header_lanes.proofs.Held.{short_stored}
use Rattle.header_lanes.proofs.slot.Slot.fill.Goals as goal

pub returns-then-header-lt96-clause-head : goal.returns-then-header-lt96-clause-head
returns-then-header-lt96-clause-head c = short_stored _ _ c.args.header.now c.copy_from_slice.ensures.after c.if-header-lt96.true

pub returns-else-header-lt96-clause-head : goal.returns-else-header-lt96-clause-head
returns-else-header-lt96-clause-head c =
    ap (take 96) c.copy_from_slice-else-header-lt96.ensures.after ∙ take-take 96 96 c.args.header.now (omega arith)
