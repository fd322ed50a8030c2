use Rattle.std.proofs.Common.{◌++◌, ap}
use Rattle.capture_spec.specs.Items.{word}
use Rattle.text_lines.proofs.PageLaws.{prints_first, prints_second, prints_same}
use Rattle.pcap_payloads.proofs.sent_items.put_head.Goals as goal

pub returns-in_err-put : goal.returns-in_err-put
returns-in_err-put g c =
    prints_same _ _ _ _ _ _ _ (ap (λ l. l ++ (c.args.address.now ++ word c.args.port)) c.head_of.ensures)
    (prints_first _ _ _ _ _ _ _ (c.args.address.now ++ word c.args.port) c.from_residual.ensures.1 c.in_err-put.ensures)

pub returns : goal.returns
returns g c =
    prints_same _ _ _ _ _ _ _ (ap (λ l. l ++ (c.args.address.now ++ word c.args.port)) c.head_of.ensures)
    (prints_second _ _ _ _ _ _ _ _ _ c.in_ok-put.ensures c.put_place.ensures)
