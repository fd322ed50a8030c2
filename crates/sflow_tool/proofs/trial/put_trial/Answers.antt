use Rattle.text_lines.proofs.PageLaws.{prints_first, prints_second}
use Rattle.sflow_tool.proofs.trial.put_trial.Goals as goal

pub returns-in_err-put_report : goal.returns-in_err-put_report
returns-in_err-put_report g c = λ l lines lawful tried few stands.
    prints_first _ _ _ _ _ _ _ _ c.from_residual.ensures.1 (c.in_err-put_report.ensures l _ stands)

pub returns : goal.returns
returns g c = λ l lines lawful tried few stands.
    prints_second _ _ _ _ _ _ _ _ _ (c.in_ok-put_report.ensures l _ stands)
    (c.put_tail.ensures l lines lawful tried few stands)
