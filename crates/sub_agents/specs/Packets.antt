-- Packets as an agent's history has them.
use Rattle.std.specs.Prelude.{nat_lt, Bool, true, ◌&&◌}
use Rattle.agent_spec.specs.Samples as spec
use Rattle.data_format.specs.declared.heads.Form.{Form}
use Rattle.data_format.specs.declared.heads.Form.TheVariants.{Compact, Expanded}
use Rattle.data_format.specs.declared.port.Port.{Port}
use Rattle.sub_agents.specs.declared.packet.Packet.{Packet}

abbrev pub port_of : Port → spec.Port
port_of p = record { form = p.form; value = p.value }

abbrev pub packet_of : Packet → spec.Packet
packet_of p = record {
  input = port_of p.input;
  output = port_of p.output;
  frame_length = p.frame_length;
  vlan = p.vlan;
  header = p.header.now;
}

-- whether the port can be said in this form
abbrev pub port_fits : Form → Port → Bool
port_fits Compact p = nat_lt p.form 4 && nat_lt p.value 1073741824
port_fits Expanded p = true

abbrev pub ports_fit : Form → Packet → Bool
ports_fit form p = port_fits form p.input && port_fits form p.output
