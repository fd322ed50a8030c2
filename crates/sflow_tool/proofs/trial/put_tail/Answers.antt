use Rattle.text_lines.proofs.PageLaws.{prints_first, prints_same, prints_second}
use Rattle.sflow_tool.proofs.TrialTexts.{agent_same, agent_written, premises_same}
use Rattle.sflow_tool.proofs.trial.put_tail.Goals as goal

pub returns-in_err-put_agent_line : goal.returns-in_err-put_agent_line
returns-in_err-put_agent_line g c = λ l lines lawful tried few stands.
    prints_first _ _ _ _ _ _ _ _ c.from_residual.ensures.1
    (agent_same _ lines (c.totals-totals.ensures lines lawful few tried.trues) _ _ _ c.in_err-put_agent_line.ensures)

pub returns : goal.returns
returns g c = λ l lines lawful tried few stands.
    prints_second _ _ _ _ _ _ _ _ _
    (agent_written _ lines (c.totals-totals.ensures lines lawful few tried.trues) _ _ _ _ c.in_ok-put_agent_line.ensures)
    (prints_same _ _ _ _ _ _ _
    (premises_same _ l lines (c.premises_of.ensures l lines lawful tried.premises_stand tried.limits_are stands))
    c.put_premises_line.ensures)
