-- What is written of samples that wait, while there is room.
use Rattle.std.specs.Prelude.{◌≡◌, ℕ, ◌+◌, List, [], length}
use Rattle.std.specs.declared.option.Option.{Option}
use Rattle.std.specs.declared.option.Option.TheVariants.{Some, None}
use Rattle.wire_spec.specs.Shapes.{Tree, known, Trees, none, ◌&◌}
use Rattle.wire_spec.specs.Heads.{Head}
use Rattle.wire_spec.specs.Spelling.{spell, spell_all}
use Rattle.datagram_core.specs.Written.{Begun, and_then, with_record}
use Rattle.datagram_core.specs.Writers.{left_of, IsClosed, IsOpen, IsOpenFor, Has, HasBegun, Grows, SameRoom}
use Rattle.datagram_core.specs.declared.records.RecordKind.{RecordKind}
use Rattle.datagram_core.specs.declared.writer.DatagramWriter.{DatagramWriter}
use Rattle.sub_agents.specs.Staged.{values}

-- how many bytes values have, one after the other
abbrev pub size_of : List Tree → ℕ
size_of trees = length (spell_all (values trees))

-- the VLAN of a packet on both sides, with the priority 0
abbrev pub vlan_value : ℕ → Tree
vlan_value vlan = known 1001 (Tree.structure (Tree.word vlan & Tree.word 0 & Tree.word vlan & Tree.word 0 & none)) []

abbrev pub with_vlan : Begun → Option ℕ → Begun
with_vlan s None = s
with_vlan s (Some vlan) = with_record s (vlan_value vlan)

-- a record stands behind those of the sample that is begun
pub record Filled (old new : DatagramWriter) (t : Tree) : Type 0 where
  pub grows : Grows old new (length (spell t))
  pub open_on : IsOpen new
  pub kind : (kind : RecordKind) → IsOpenFor kind old → IsOpenFor kind new
  pub has : (h : Head) (samples : Trees) (s : Begun) → HasBegun old h samples s → HasBegun new h samples (with_record s t)

-- a sample stands behind the others
pub record Appended (old new : DatagramWriter) (t : Tree) : Type 0 where
  pub room : SameRoom old new
  pub closed : IsClosed new
  pub has : (h : Head) (samples : Trees) → Has old h samples → Has new h (and_then samples t)
  pub left : left_of new + length (spell t) ≡ left_of old
