use Rattle.std.proofs.Common.{arith, ◌∙◌}
use Rattle.header_lanes.specs.Slots.{is_frame, holds_type}
use Rattle.header_lanes.proofs.Flags.{chosen, everywhere}
use Rattle.header_lanes.proofs.columns.paths.Goals as goal

pub returns : goal.returns
returns c =
    let ss = c.args.slots.now in
    let framed = c.pick-framed.ensures ∙ chosen ss holds_type _ _ c.requires.reaching c.requires.typed (everywhere ss 1 (omega arith)) in
    c.pick.ensures ∙ chosen ss is_frame _ _ c.requires.frames framed c.requires.bare
