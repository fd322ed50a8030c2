use Rattle.text_lines.proofs.PageLaws.{prints_first, prints_second}
use Rattle.show_lines.proofs.counters.put_named.Goals as goal

pub returns-in_err-put_text : goal.returns-in_err-put_text
returns-in_err-put_text g c =
    prints_first _ _ _ _ _ _ _ _ c.from_residual.ensures.1 c.in_err-put_text.ensures

pub returns : goal.returns
returns g c =
    prints_second _ _ _ _ _ _ _ _ _ c.in_ok-put_text.ensures c.put_row.ensures
