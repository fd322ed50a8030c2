use Rattle.std.proofs.Common.{ap}
use Rattle.text_lines.proofs.PageLaws.{prints_same}
use Rattle.pcap_payloads.specs.Outcomes.{counts_text}
use Rattle.pcap_payloads.proofs.packet_counts.PacketCounts.put.Goals as goal

pub returns : goal.returns
returns g c =
    prints_same _ _ _ _ _ _ _ (ap (λ n. counts_text n c.args.self.now) c.total.ensures) c.put_line.ensures
