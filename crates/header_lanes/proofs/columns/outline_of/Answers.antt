use Rattle.std.proofs.Common.{◌∙◌, ap, add-zero, slice_index}
use Rattle.header_lanes.specs.Slots.{head, type_at}
use Rattle.header_lanes.proofs.Flags.{same_map}
use Rattle.header_lanes.proofs.columns.outline_of.Goals as goal

pub types-requires-clause-high : goal.types-requires-clause-high
types-requires-clause-high c = c.behind_tags-high.ensures ∙ same_map _ _ _ (λ s. ap (slice_index (head s)) (add-zero (type_at s)))

pub type_paths-typed-requires-clause-high : goal.type_paths-typed-requires-clause-high
type_paths-typed-requires-clause-high c = c.behind_tags-high.ensures ∙ same_map _ _ _ (λ s. ap (slice_index (head s)) (add-zero (type_at s)))
