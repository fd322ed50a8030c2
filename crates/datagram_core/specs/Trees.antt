-- A datagram as a value of the grammar.
use Rattle.wire_spec.specs.Shapes.{Tree}
use Rattle.wire_spec.specs.Heads.{datagram_tree}
use Rattle.data_format.specs.Trees.{frame_trees}
use Rattle.datagram_core.specs.Heads.{DatagramView}
use Rattle.datagram_core.specs.Tables.{samples_read}

-- its head, and the values of its samples
abbrev pub tree_of : DatagramView → Tree
tree_of d = datagram_tree d.head (frame_trees samples_read d.samples)
