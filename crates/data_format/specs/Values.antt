-- The parts of a value of the grammar, by their places in its format (sFlow Version 5, section 5).
use Rattle.std.specs.Prelude.{ℕ, zero, suc, ◌/◌, ◌%◌, ◌==◌, List, [], if◌then◌else◌}
use Rattle.wire_spec.specs.Shapes.{word, hyper, fixed, opaque, array, structure, union, Tree, known, Trees, none, ◌&◌}
use Rattle.wire_spec.specs.Heads.{AgentAddress, unknown, ipv4, ipv6, Head}
use Rattle.data_format.specs.declared.format.Format.{Format}
use Rattle.data_format.specs.declared.heads.Form.{Form}
use Rattle.data_format.specs.declared.heads.Form.TheVariants.{Compact, Expanded}
use Rattle.data_format.specs.declared.heads.FlowHead.{FlowHead}
use Rattle.data_format.specs.declared.heads.CountersHead.{CountersHead}
use Rattle.data_format.specs.Compact.{source_of, port_of}

-- the format of a format word: the enterprise in the upper 20 bits, the number in the lower 12
abbrev pub format_of : ℕ → Format
format_of w = record { enterprise = w / 4096; number = w % 4096 }

-- ---- members and values

-- the members of a structure
abbrev pub members_of : Tree → Trees
members_of (structure members) = members
members_of _ = none

-- the values of an array
abbrev pub values_of : Tree → Trees
values_of (array values) = values
values_of _ = none

-- the member in this place, counted from 0
abbrev pub member : ℕ → Trees → Tree
member k none = Tree.structure none
member zero (t & more) = t
member (suc k) (t & more) = member k more

-- the number of a word or of a hyper
abbrev pub number_of : Tree → ℕ
number_of (word n) = n
number_of (hyper n) = n
number_of _ = 0

abbrev pub number_in : ℕ → Trees → ℕ
number_in k members = number_of (member k members)

-- the bytes of a fixed or an opaque value
abbrev pub bytes_of : Tree → List ℕ
bytes_of (fixed bytes) = bytes
bytes_of (opaque bytes) = bytes
bytes_of _ = []

abbrev pub bytes_in : ℕ → Trees → List ℕ
bytes_in k members = bytes_of (member k members)

-- ---- datagrams

-- 1 four bytes of IPv4, 2 sixteen bytes of IPv6, 0 none
abbrev pub address_in : Tree → AgentAddress
address_in (union k (fixed bytes)) = if k == 1 then ipv4 bytes else ipv6 bytes
address_in _ = unknown

-- the members behind the version word
abbrev pub behind_version : Tree → Trees
behind_version (union version body) = members_of body
behind_version _ = none

-- agent, sub-agent, sequence number and uptime
abbrev pub head_in : Trees → Head
head_in members = record {
  agent = address_in (member 0 members);
  sub_agent = number_in 1 members;
  sequence = number_in 2 members;
  uptime = number_in 3 members;
}

-- the samples stand behind the head
abbrev pub samples_behind : Trees → Trees
samples_behind members = values_of (member 4 members)

-- ---- samples

-- sequence number, source, rate, pool, drops, input and output, the source and the ports in one word or two
abbrev pub flow_head_in : Form → Trees → FlowHead
flow_head_in Compact members = record {
  sequence = number_in 0 members;
  source = source_of (number_in 1 members);
  rate = number_in 2 members;
  pool = number_in 3 members;
  drops = number_in 4 members;
  input = port_of (number_in 5 members);
  output = port_of (number_in 6 members);
}
flow_head_in Expanded members = record {
  sequence = number_in 0 members;
  source = record { class = number_in 1 members; index = number_in 2 members };
  rate = number_in 3 members;
  pool = number_in 4 members;
  drops = number_in 5 members;
  input = record { form = number_in 6 members; value = number_in 7 members };
  output = record { form = number_in 8 members; value = number_in 9 members };
}

-- sequence number and source
abbrev pub counters_head_in : Form → Trees → CountersHead
counters_head_in Compact members =
    record { sequence = number_in 0 members; source = source_of (number_in 1 members) }
counters_head_in Expanded members = record {
  sequence = number_in 0 members;
  source = record { class = number_in 1 members; index = number_in 2 members };
}

-- the records stand behind the head
abbrev pub flow_records_in : Form → Trees → Trees
flow_records_in Compact members = values_of (member 7 members)
flow_records_in Expanded members = values_of (member 10 members)

abbrev pub counter_records_in : Form → Trees → Trees
counter_records_in Compact members = values_of (member 2 members)
counter_records_in Expanded members = values_of (member 3 members)

-- ---- frames

-- the bytes behind what a format has, none where the format isn't read
abbrev pub tail_in : Tree → List ℕ
tail_in (known k value tail) = tail
tail_in _ = []
