use Rattle.std.proofs.Common.{ap, ◌∙◌, arith, min, nat_eq}
use Rattle.header_lanes.specs.Slots.{flag}
use Rattle.header_lanes.proofs.Flags.{chosen, computed, everywhere, same_map}
use Rattle.header_lanes.proofs.Outlines.{small_protocol}
use Rattle.header_lanes.proofs.columns.bare_paths.Goals as goal

pub returns : goal.returns
returns c =
    let ss = c.args.slots.now in
    let is_twelve = computed ss (λ x. flag (nat_eq x 12)) (λ s. min s.protocol 255) c.equal.ensures c.requires
    ∙ same_map _ _ ss (λ s. ap flag (small_protocol s.protocol 12 (omega arith))) in
    let is_eleven = computed ss (λ x. flag (nat_eq x 11)) (λ s. min s.protocol 255) c.equal-2.ensures c.requires
    ∙ same_map _ _ ss (λ s. ap flag (small_protocol s.protocol 11 (omega arith))) in
    let ipv6 = c.pick-ipv6.ensures ∙ chosen ss (λ s. nat_eq s.protocol 12) _ _ is_twelve (everywhere ss 6 (omega arith)) (everywhere ss 0 (omega arith)) in
    c.pick.ensures ∙ chosen ss (λ s. nat_eq s.protocol 11) _ _ is_eleven (everywhere ss 5 (omega arith)) ipv6
