-- Members with frames behind them, as datagrams and samples have them.
use Rattle.std.specs.Prelude.{List, Result, Ok}
use Rattle.wire_spec.specs.declared.pad.Pad.{Pad}
use Rattle.wire_spec.specs.declared.fault.Fault.{Fault}
use Rattle.wire_spec.specs.Shapes.{Shape, Shapes, array, structure, frame, Table, Tree, Trees}
use Rattle.wire_spec.specs.Fails.{Remaining}
use Rattle.wire_spec.specs.Members.{with_last, with_last_tree}
use Rattle.wire_spec.specs.Reading.{◌>>=◌, members_at}
use Rattle.data_format.specs.Views.{FrameView}
use Rattle.data_format.specs.Frames.{Test, frames_at}
use Rattle.data_format.specs.Trees.{frame_trees}

-- a structure of these members and an array of the table's frames
abbrev pub with_frames : Shapes → Table → Shape
with_frames ss T = structure (with_last ss (array (frame T)))

-- the values of the members, and the frames
abbrev pub Parts : Type 0
Parts = Trees × List FrameView

-- the value that they make up
abbrev pub parts_tree : Table → Parts → Tree
parts_tree T x = Tree.structure (with_last_tree x.0 (Tree.array (frame_trees T x.1)))

abbrev pub frames_behind : Pad → Test → Trees × Remaining → Result (Parts × Remaining) Fault
frames_behind p test h = frames_at p test h.1 >>= λ fs. Ok ((h.0, fs.0), fs.1)

abbrev pub parts_at : Pad → Shapes → Test → Remaining → Result (Parts × Remaining) Fault
parts_at p ss test b = members_at p ss b >>= frames_behind p test
