use Rattle.text_lines.proofs.PageLaws.{prints_first, prints_second}
use Rattle.pcap_payloads.proofs.Padding.{zeros_printed}
use Rattle.pcap_payloads.proofs.sent_items.put_padded.Goals as goal

pub returns-in_err-put : goal.returns-in_err-put
returns-in_err-put g c =
    prints_first _ _ _ _ _ _ _ _ c.from_residual.ensures.1 c.in_err-put.ensures

pub returns : goal.returns
returns g c =
    prints_second _ _ _ _ _ _ _ _ _ c.in_ok-put.ensures (zeros_printed _ _ _ _ _ _ c.put-2.ensures)
