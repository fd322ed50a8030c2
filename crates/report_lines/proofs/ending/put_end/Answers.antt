use Rattle.text_lines.proofs.PageLaws.{prints_first, prints_second}
use Rattle.report_lines.proofs.ending.put_end.Goals as goal

pub returns-in_err-put_first_fault : goal.returns-in_err-put_first_fault
returns-in_err-put_first_fault g c =
    prints_first _ _ _ _ _ _ _ _ c.from_residual.ensures.1 c.in_err-put_first_fault.ensures

pub returns : goal.returns
returns g c =
    prints_second _ _ _ _ _ _ _ _ _ c.in_ok-put_first_fault.ensures c.put_total.ensures
