-- The body of a sample, however its head is spelled: the head's values, the records' frames, a tail.
use Rattle.std.specs.Prelude.{◌≡◌, ℕ, List, Ok}
use Rattle.wire_spec.specs.declared.pad.Pad.TheVariants as pads
use Rattle.wire_spec.specs.Fails.{Remaining}
use Rattle.wire_spec.specs.Shapes.{Shapes, Table, Tree, Trees}
use Rattle.data_format.specs.Frames.{Test}
use Rattle.data_format.specs.Parts.{parts_tree}
use Rattle.data_format.specs.Samples.{SampleView, SampleParts, sample_reading}
use Rattle.data_format.specs.Views.{FrameView}

-- the parts in front, and the tail, where the head has these values
abbrev pub body_parts : {H : Type 0} → (H → Trees) → SampleView H → SampleParts
body_parts trees s = ((trees s.head, s.frames), s.tail)

-- the value over a table of records, without the tail
abbrev pub body_tree : {H : Type 0} → (H → Trees) → Table → SampleView H → Tree
body_tree trees T s = parts_tree T (trees s.head, s.frames)

-- a sample whose head has these values is read, with some frames that pass the test, and some tail
abbrev pub HasHead : Shapes → Test → Remaining → Trees → Type 0
HasHead ss test b ts = (fs : List FrameView) × (tail : List ℕ) × (sample_reading pads.Any ss test b ≡ Ok ((ts, fs), tail))
