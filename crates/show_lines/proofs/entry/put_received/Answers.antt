use Rattle.text_lines.proofs.PageLaws.{prints_first, prints_second}
use Rattle.show_lines.specs.Shown.{received_text}
use Rattle.show_lines.proofs.entry.put_received.Goals as goal

pub returns-in_err-put_received_line : goal.returns-in_err-put_received_line
unfolding received_text
returns-in_err-put_received_line g c =
    prints_first _ _ _ _ _ _ _ _ c.from_residual.ensures.1 c.in_err-put_received_line.ensures

pub returns : goal.returns
unfolding received_text
returns g c =
    prints_second _ _ _ _ _ _ _ _ _ c.in_ok-put_received_line.ensures c.put_outcome.ensures
