use Rattle.std.proofs.Common.{◌∙◌, length, nat_le}
use Rattle.header_lanes.specs.Slots.{head, flag, has_tag, has_two_tags}
use Rattle.header_lanes.proofs.Flags.{chosen, computed, same_map}
use Rattle.header_lanes.proofs.Outlines.{read_behind}
use Rattle.header_lanes.proofs.columns.reaching.Goals as goal

pub returns : goal.returns
returns c =
    let ss = c.args.slots.now in
    let none = computed ss (λ x. flag (nat_le 14 x)) (λ s. length (head s)) c.at_least-none.ensures c.requires.lengths in
    let one = computed ss (λ x. flag (nat_le 18 x)) (λ s. length (head s)) c.at_least-one.ensures c.requires.lengths in
    let two = computed ss (λ x. flag (nat_le 22 x)) (λ s. length (head s)) c.at_least-two.ensures c.requires.lengths in
    let first = c.pick.ensures ∙ chosen ss has_tag _ _ c.requires.once one none in
    c.pick-2.ensures
    ∙ chosen ss has_two_tags _ _ c.requires.twice two first
    ∙ same_map _ _ ss (λ s. read_behind (λ n. flag (nat_le n (length (head s)))) (has_tag s) (has_two_tags s) 2)
