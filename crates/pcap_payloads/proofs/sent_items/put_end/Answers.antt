use Rattle.text_lines.proofs.PageLaws.{prints_first, prints_second}
use Rattle.pcap_payloads.proofs.sent_items.put_end.Goals as goal

pub returns-in_err-put_header_behind : goal.returns-in_err-put_header_behind
returns-in_err-put_header_behind g c =
    prints_first _ _ _ _ _ _ _ _ c.from_residual.ensures.1 c.in_err-put_header_behind.ensures

pub returns : goal.returns
returns g c =
    prints_second _ _ _ _ _ _ _ _ _ c.in_ok-put_header_behind.ensures c.put_end_item.ensures
