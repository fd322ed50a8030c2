use Rattle.std.proofs.Common.{ap, subst, sym}
use Rattle.text_lines.specs.Pages.{Puts}
use Rattle.text_lines.proofs.PageLaws.{puts_none}
use Rattle.sflow_tool.specs.Checks.{check_line, reading_line}
use Rattle.sflow_tool.proofs.check.FaultyEntriesEntryVisitor.visit.Goals as goal

pub returns-in-Ok-clause-prints : goal.returns-in-Ok-clause-prints
unfolding check_line
returns-in-Ok-clause-prints g c =
    subst (Puts _ _ _ _) (sym (ap (reading_line c.args.number) c.in-Ok.ensures.exact)) (puts_none _ _)
