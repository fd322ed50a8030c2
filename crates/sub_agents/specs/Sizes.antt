-- How many bytes samples have.
use Rattle.std.specs.Prelude.{ℕ, ◌+◌}
use Rattle.std.specs.declared.option.Option.{Option}
use Rattle.std.specs.declared.option.Option.TheVariants.{Some, None}
use Rattle.wire_spec.specs.Padding.{padding_of}
use Rattle.data_format.specs.declared.heads.Form.{Form}
use Rattle.data_format.specs.declared.heads.Form.TheVariants.{Compact, Expanded}

-- the frame of a sample, its head and the number of its records
abbrev pub flow_front : Form → ℕ
flow_front Compact = 40
flow_front Expanded = 52

abbrev pub vlan_size : Option ℕ → ℕ
vlan_size None = 0
vlan_size (Some vlan) = 24

-- with so many bytes of the packet
abbrev pub flow_bytes : Form → ℕ → Option ℕ → ℕ
flow_bytes form shown vlan = flow_front form + (24 + (shown + padding_of shown) + vlan_size vlan)

abbrev pub counters_bytes : Form → ℕ
counters_bytes Compact = 116
counters_bytes Expanded = 120
