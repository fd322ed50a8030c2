use Rattle.std.proofs.Common.{ap, ◌∙◌, arith, min, nat_eq}
use Rattle.header_lanes.specs.Slots.{flag}
use Rattle.header_lanes.proofs.Flags.{computed, same_map}
use Rattle.header_lanes.proofs.Outlines.{small_protocol}
use Rattle.header_lanes.proofs.columns.frames.Goals as goal

pub returns : goal.returns
returns c =
    let ss = c.args.slots.now in
    computed ss (λ x. flag (nat_eq x 1)) (λ s. min s.protocol 255) c.equal.ensures c.requires
    ∙ same_map _ _ ss (λ s. ap flag (small_protocol s.protocol 1 (omega arith)))
