use Rattle.std.proofs.Common.{ap, ◌∙◌}
use Rattle.pcap_file.specs.Taken.{payload_value}
use Rattle.pcap_payloads.specs.Outcomes.{with_outcome}
use Rattle.pcap_payloads.proofs.packets.take_packet.Goals as goal

pub returns-in-Capture-clause-counted : goal.returns-in-Capture-clause-counted
returns-in-Capture-clause-counted g c =
    c.take.ensures (payload_value c.in-Ok.payload) ∙ ap (λ o. with_outcome o c.args.counts.now) c.in-Ok.ensures.outcome

pub returns-in-Counts-clause-counted : goal.returns-in-Counts-clause-counted
returns-in-Counts-clause-counted g c =
    c.take.ensures (payload_value c.in-Ok.payload) ∙ ap (λ o. with_outcome o c.args.counts.now) c.in-Ok.ensures.outcome
