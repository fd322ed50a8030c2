use Rattle.text_lines.proofs.PageLaws.{prints_same}
use Rattle.pcap_payloads.proofs.sent_items.put_end_item.Goals as goal

pub returns : goal.returns
returns g c = prints_same _ _ _ _ _ _ _ c.end_of.ensures c.put.ensures
