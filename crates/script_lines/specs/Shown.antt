-- What a line that was read says.
use Rattle.data_format.specs.Addresses.{address_of}
use Rattle.script_spec.specs.Lines.{Line, MaxLine, SubLine, FlowLine, CounterLine, PacketLine, PollLine, SendLine, RestartLine, ResetLine, DeliverLine, flow_at, counter_at, source_at}
use Rattle.script_spec.specs.Forms.{single}
use Rattle.script_words.specs.Places.{place_of}
use Rattle.script_lines.specs.declared.line.ScriptLine.{ScriptLine}
use Rattle.script_lines.specs.declared.line.ScriptLine.TheVariants as read

abbrev pub shown : ScriptLine → Line
shown (read.Max bytes) = MaxLine bytes
shown (read.Sub id address first at stage) =
    SubLine (record { id = id; address = address_of address; first = first; at = at; stage = stage })
shown (read.Flow id source rate first pool drops skips) = FlowLine id (record {
  source = flow_at (place_of source);
  rate = rate;
  skips = skips;
  first = first;
  pool = pool;
  drops = drops;
})
shown (read.Counter id source every first) =
    CounterLine id (record { source = counter_at (place_of source); every = every; first = first })
shown (read.Packet source input output vlan length header) = PacketLine (place_of source) (record {
  input = single input;
  output = single output;
  frame_length = length;
  vlan = vlan;
  header = header.items;
})
shown (read.Poll id uptime) = PollLine id uptime
shown (read.Send id uptime) = SendLine id uptime
shown (read.Restart id at) = RestartLine id at
shown (read.Reset flow source) = ResetLine (source_at flow (place_of source))
shown (read.Deliver id boot number at) = DeliverLine (record { id = id; boot = boot; number = number; at = at })
