-- A datagram as its parts: the head, and the samples.
use Rattle.std.specs.Prelude.{List}
use Rattle.wire_spec.specs.Shapes.{word, Shapes, end, ◌then◌, Tree, Trees, none, ◌&◌}
use Rattle.wire_spec.specs.Heads.{Head, address_tree}
use Rattle.wire_spec.specs.Tables.{agent_address}
use Rattle.data_format.specs.Addresses.{address_of}
use Rattle.data_format.specs.Views.{FrameView}
use Rattle.datagram_core.specs.declared.head.DatagramHead.{DatagramHead}

-- what a head holds
abbrev pub head_of : DatagramHead → Head
head_of h = record {
  agent = address_of h.agent;
  sub_agent = h.sub_agent;
  sequence = h.sequence;
  uptime = h.uptime;
}

-- what contracts see of a datagram: its head, and the frames of its samples in their order
pub record DatagramView : Type 0 where
  pub head : Head
  pub samples : List FrameView

-- the members of a head, which follow the version word
abbrev pub head_members : Shapes
head_members = agent_address then word then word then word then end

abbrev pub head_trees : Head → Trees
head_trees h = address_tree h.agent & Tree.word h.sub_agent & Tree.word h.sequence & Tree.word h.uptime & none
