use Rattle.std.proofs.Common.{length, sym, ap, ◌∙◌}
use Rattle.text_lines.proofs.PageLaws.{prints_first, prints_second, prints_same}
use Rattle.show_lines.proofs.Places.{text-datagram, line-datagram}
use Rattle.show_lines.proofs.entry.put_datagram.Goals as goal

pub returns-in_err-put_head : goal.returns-in_err-put_head
returns-in_err-put_head g c =
    let line = line-datagram c.args.datagram.now _ _ c.head.ensures (c.len.ensures ∙ ap length c.samples-samples.ensures.exact) in
    prints_same _ _ _ _ _ _ _ (sym (text-datagram c.args.datagram.now))
    (prints_first _ _ _ _ _ _ _ _ c.from_residual.ensures.1 (rw line at c.in_err-put_head.ensures))

pub returns : goal.returns
returns g c =
    let line = line-datagram c.args.datagram.now _ _ c.head.ensures (c.len.ensures ∙ ap length c.samples-samples.ensures.exact) in
    prints_same _ _ _ _ _ _ _ (sym (text-datagram c.args.datagram.now))
    (prints_second _ _ _ _ _ _ _ _ _ (rw line at c.in_ok-put_head.ensures)
    (rw c.samples-samples.ensures.exact at c.put_samples.ensures))
