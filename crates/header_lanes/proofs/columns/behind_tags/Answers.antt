use Rattle.std.proofs.Common.{◌∙◌, slice_index}
use Rattle.header_lanes.specs.Slots.{head, has_tag, has_two_tags}
use Rattle.header_lanes.proofs.Flags.{chosen, same_map}
use Rattle.header_lanes.proofs.Outlines.{read_behind}
use Rattle.header_lanes.proofs.columns.behind_tags.Goals as goal

pub returns : goal.returns
returns c =
    let ss = c.args.slots.now in
    let first = c.pick.ensures ∙ chosen ss has_tag _ _ c.requires.once c.requires.one c.requires.none in
    c.pick-2.ensures
    ∙ chosen ss has_two_tags _ _ c.requires.twice c.requires.two first
    ∙ same_map _ _ ss (λ s. read_behind (slice_index (head s)) (has_tag s) (has_two_tags s) c.args.more)
