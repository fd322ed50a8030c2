use Rattle.std.proofs.Common.{arith, ◌+◌, ◌*◌, ◌&&◌, ◌∙◌, slice_index, nat_le}
use Rattle.std.proofs.lemmas.Simd.{zip2_of_maps}
use Rattle.header_lanes.specs.Slots.{head, flag, type_at, type_of, is_frame, holds_type}
use Rattle.header_lanes.proofs.Flags.{chosen, both, everywhere, same_map}
use Rattle.header_lanes.proofs.Outlines.{type_flag}
use Rattle.header_lanes.proofs.columns.types.Goals as goal

pub returns : goal.returns
returns c =
    let ss = c.args.slots.now in
    let untold = c.number_at_most-untold.ensures
    ∙ zip2_of_maps (λ h l. flag (nat_le (h * 256 + l) 1535)) (λ s. slice_index (head s) (type_at s)) (λ s. slice_index (head s) (type_at s + 1)) ss c.requires.high c.requires.low in
    let there = both ss is_frame holds_type c.requires.frames c.requires.reaching in
    c.pick.ensures
    ∙ chosen ss (λ s. nat_le (type_of s) 1535) (λ _. 0) (λ s. flag (is_frame s && holds_type s)) untold (everywhere ss 0 (omega arith)) there
    ∙ same_map _ _ ss (λ s. type_flag (is_frame s && holds_type s) (nat_le (type_of s) 1535))
