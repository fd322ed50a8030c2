-- What stands before the samples of a datagram (sFlow Version 5, section 5).
use Rattle.std.specs.Prelude.{ℕ, List}
use Rattle.wire_spec.specs.Shapes.{Tree, Trees, none, ◌&◌}

-- the address of an agent: none given, four bytes of IPv4, or sixteen bytes of IPv6
pub data AgentAddress : Type 0 where
  unknown : AgentAddress
  ipv4 : List ℕ → AgentAddress
  ipv6 : List ℕ → AgentAddress

-- who sent a datagram, its number in the stream, and the uptime of the sub-agent in ms
pub record Head : Type 0 where
  pub agent : AgentAddress
  pub sub_agent : ℕ
  pub sequence : ℕ
  pub uptime : ℕ

abbrev pub address_tree : AgentAddress → Tree
address_tree unknown = Tree.union 0 (Tree.structure none)
address_tree (ipv4 bytes) = Tree.union 1 (Tree.fixed bytes)
address_tree (ipv6 bytes) = Tree.union 2 (Tree.fixed bytes)

-- the datagram of this head and these samples
abbrev pub datagram_tree : Head → Trees → Tree
datagram_tree h samples = Tree.union 5 (Tree.structure (
    address_tree h.agent & Tree.word h.sub_agent & Tree.word h.sequence & Tree.word h.uptime & Tree.array samples & none))
