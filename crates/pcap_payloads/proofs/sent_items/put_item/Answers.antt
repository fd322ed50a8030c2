use Rattle.text_lines.proofs.PageLaws.{prints_first, prints_second}
use Rattle.capture_spec.specs.Items.{sent_bytes}
use Rattle.pcap_payloads.proofs.sent_items.put_item.Goals as goal

pub returns-in_err-put_front : goal.returns-in_err-put_front
unfolding sent_bytes
returns-in_err-put_front g c =
    prints_first _ _ _ _ _ _ _ _ c.from_residual.ensures.1 c.in_err-put_front.ensures

pub returns : goal.returns
unfolding sent_bytes
returns g c =
    prints_second _ _ _ _ _ _ _ _ _ c.in_ok-put_front.ensures c.put_datagram.ensures
