-- Packets as an agent's history has them.
use Rattle.std.specs.Prelude.{None}
use Rattle.agent_spec.specs.Samples as spec
use Rattle.data_format.specs.declared.port.Port.{Port}
use Rattle.made_runs.specs.declared.packets.MadePacket.{MadePacket}

abbrev pub port_as : Port → spec.Port
port_as p = record { form = p.form; value = p.value }

abbrev pub packet_as : MadePacket → spec.Packet
packet_as p = record {
  input = port_as p.input;
  output = port_as p.output;
  frame_length = p.frame_length;
  vlan = None;
  header = p.header;
}
