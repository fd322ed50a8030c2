use Rattle.std.proofs.Common.{arith, ◌∙◌}
use Rattle.header_lanes.specs.Slots.{is_frame, has_tag, has_two_tags}
use Rattle.header_lanes.proofs.Flags.{chosen, everywhere}
use Rattle.header_lanes.proofs.columns.bases.Goals as goal

pub returns : goal.returns
returns c =
    let ss = c.args.slots.now in
    let bare = c.pick-bare.ensures ∙ chosen ss is_frame _ _ c.requires.frames (everywhere ss 14 (omega arith)) (everywhere ss 0 (omega arith)) in
    let one = c.pick.ensures ∙ chosen ss has_tag _ _ c.requires.once (everywhere ss 18 (omega arith)) bare in
    c.pick-2.ensures ∙ chosen ss has_two_tags _ _ c.requires.twice (everywhere ss 22 (omega arith)) one
