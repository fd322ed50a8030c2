use Rattle.text_lines.proofs.PageLaws.{prints_first, prints_second}
use Rattle.sflow_tool.proofs.canon.put_end.Goals as goal

pub returns-in_err-put_header_alone : goal.returns-in_err-put_header_alone
returns-in_err-put_header_alone g c =
    prints_first _ _ _ _ _ _ _ _ c.from_residual.ensures.1 c.in_err-put_header_alone.ensures

pub returns : goal.returns
returns g c = prints_second _ _ _ _ _ _ _ _ _ c.in_ok-put_header_alone.ensures c.put_ending.ensures
