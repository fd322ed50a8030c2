use Rattle.std.proofs.Common.{◌+◌, ◌*◌, ◌&&◌, ◌∙◌, length, slice_index, nat_le}
use Rattle.std.proofs.lemmas.Simd.{zip2_of_maps}
use Rattle.header_lanes.specs.Numbers.{number_at}
use Rattle.header_lanes.specs.Ethernet.{is_tag}
use Rattle.header_lanes.specs.Slots.{head, flag, is_frame}
use Rattle.header_lanes.proofs.Flags.{computed, both}
use Rattle.header_lanes.proofs.columns.tagged.Goals as goal

pub returns : goal.returns
returns c =
    let ss = c.args.slots.now in
    let tags = c.tag_types-tags.ensures
    ∙ zip2_of_maps (λ h l. flag (is_tag (h * 256 + l))) (λ s. slice_index (head s) 12) (λ s. slice_index (head s) 13) ss c.requires.columns.first_high c.requires.columns.first_low in
    let long = computed ss (λ x. flag (nat_le 14 x)) (λ s. length (head s)) c.at_least.ensures c.requires.lengths in
    both ss (λ s. is_frame s && is_tag (number_at (head s) 12)) (λ s. nat_le 14 (length (head s)))
    (both ss is_frame (λ s. is_tag (number_at (head s) 12)) c.requires.frames tags) long
