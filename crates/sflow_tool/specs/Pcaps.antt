-- What `pcap` writes: a capture of the payloads of a pcap file's packets, or how many of its packets became what.
use Rattle.std.specs.Prelude.{Bool, false, true, List}
use Rattle.capture_spec.specs.PcapFiles.{Packet}
use Rattle.capture_spec.specs.declared.pcap_output.PcapOutput.{PcapOutput}
use Rattle.capture_spec.specs.declared.pcap_output.PcapOutput.TheVariants.{Capture, Counts}
use Rattle.pcap_payloads.specs.Outcomes.{part_text, whole_text}
use Rattle.command_runs.specs.Acts.{Act}

-- counts are written at the end, a capture as packets are read
abbrev pub is_counted : PcapOutput → Bool
is_counted Capture = false
is_counted Counts = true

abbrev pub pcap_act : PcapOutput → Act (List Packet)
pcap_act output = record {
  whole = whole_text output;
  part = part_text output;
  finds = λ packets. false;
  may_find = false;
  at_end = is_counted output;
  memory_first = true;
}
