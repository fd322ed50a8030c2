-- The frames of a table as values of the grammar.
use Rattle.std.specs.Prelude.{◌≡◌, List, [], ◌∷◌, Result, Ok, Err}
use Rattle.wire_spec.specs.declared.pad.Pad.{Pad}
use Rattle.wire_spec.specs.declared.pad.Pad.TheVariants as pads
use Rattle.wire_spec.specs.declared.fault.Fault.{Fault}
use Rattle.wire_spec.specs.Shapes.{Table, Tree, other, Trees, none, ◌&◌}
use Rattle.wire_spec.specs.Reading.{◌>>=◌, inside_at}
use Rattle.data_format.specs.Views.{FrameView, body_of}
use Rattle.data_format.specs.Frames.{Test}

-- the test of a table: the first fault of what it has for the format, or none
abbrev pub table_test : Pad → Table → FrameView → Result (Unit {0}) Fault
table_test p T f = inside_at p T f.format (body_of f) >>= λ _. Ok tt

-- a test that is a table's
abbrev pub IsTestOf : Pad → Table → Test → Type 0
IsTestOf p T test = (f : FrameView) → test f ≡ table_test p T f

abbrev pub tree_or : Tree → Result Tree Fault → Tree
tree_or t (Ok x) = x
tree_or t (Err f) = t

-- the value of a frame that passes the test
abbrev pub frame_tree : Table → FrameView → Tree
frame_tree T f = tree_or (other f.format f.body) (inside_at pads.Any T f.format (body_of f))

abbrev pub trees_of : {A : Type 0} → (A → Tree) → List A → Trees
trees_of view [] = none
trees_of view (x ∷ xs) = view x & trees_of view xs

abbrev pub frame_trees : Table → List FrameView → Trees
frame_trees T fs = trees_of (frame_tree T) fs

-- each of the frames passes the test of the table
abbrev pub AllPass : Table → List FrameView → Type 0
AllPass T [] = Unit {0}
AllPass T (f ∷ fs) = (table_test pads.Any T f ≡ Ok tt) × AllPass T fs
