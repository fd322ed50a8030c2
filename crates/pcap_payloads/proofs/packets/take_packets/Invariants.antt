-- Some packets were read and counted, what is written of them was put, and no call has failed.
use Rattle.std.proofs.Common.{◌≡◌, ◌≤◌, ◌^◌, length}
use Rattle.capture_spec.specs.declared.pcap_output.PcapOutput.TheVariants.{Counts}
use Rattle.pcap_file.specs.PcapAnswers.{HasEnded}
use Rattle.pcap_file.specs.PcapSteps.{packets_given}
use Rattle.pcap_payloads.specs.Outcomes.{total_of}
use Rattle.pcap_payloads.proofs.Walked.{SoFar}
use Rattle.pcap_payloads.proofs.packets.take_packets.Given as goal

abbrev pub invariant-loop : goal.invariant-loop
invariant-loop g l = record {
  far : SoFar l.output (g.S.Source.seen l.initial.source) (g.S.Source.seen l.source)
      (record { sink = g.K.Sink.seen l.initial.sink; sink' = g.K.Sink.seen l.sink; page = l.initial.page; page' = l.page })
      l.reader l.counts;
  waits : l.output ≡ Counts → (l.sink ≡ l.initial.sink) × (l.page ≡ l.initial.page);
  going : ¬ (HasEnded l.reader.stage);
  given : packets_given l.reader.stage ≡ l.counter;
  total : total_of l.counts ≡ l.counter;
  few : l.counter ≤ 2 ^ 48;
  room : 262144 ≤ length l.room;
  kept : (g.S.Source.seen l.source).faults ≡ (g.S.Source.seen l.initial.source).faults;
}
