use Rattle.text_lines.proofs.PageLaws.{prints_first, prints_second}
use Rattle.capture_spec.specs.Items.{datagram_bytes}
use Rattle.pcap_payloads.proofs.sent_items.put_datagram.Goals as goal

pub returns-in_err-put_word : goal.returns-in_err-put_word
unfolding datagram_bytes
returns-in_err-put_word g c =
    prints_first _ _ _ _ _ _ _ _ c.from_residual.ensures.1 c.in_err-put_word.ensures

pub returns : goal.returns
unfolding datagram_bytes
returns g c =
    prints_second _ _ _ _ _ _ _ _ _ c.in_ok-put_word.ensures c.put_padded.ensures
