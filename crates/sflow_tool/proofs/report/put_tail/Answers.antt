use Rattle.std.proofs.Common.{ap, ◌∙◌}
use Rattle.books_spec.specs.WholeBooks.{whole_books}
use Rattle.books_spec.specs.declared.totals.Totals.{Totals}
use Rattle.text_lines.proofs.PageLaws.{prints_first, prints_same, prints_second}
use Rattle.report_lines.specs.Reports.{end_text}
use Rattle.sflow_tool.proofs.report.put_tail.Goals as goal

pub returns-in_err-put_classes_of : goal.returns-in_err-put_classes_of
returns-in_err-put_classes_of g c = λ l items stands.
    prints_first _ _ _ _ _ _ _ _ c.from_residual.ensures.1 c.in_err-put_classes_of.ensures

pub returns-in_err-put_taps : goal.returns-in_err-put_taps
returns-in_err-put_taps g c = λ l items stands.
    prints_second _ _ _ _ _ _ _ _ _ c.in_ok-put_classes_of.ensures
    (prints_first _ _ _ _ _ _ _ _ c.from_residual-in_err-put_taps.ensures.1 c.in_err-put_taps.ensures)

pub returns : goal.returns
returns g c = λ l items stands.
    prints_second _ _ _ _ _ _ _ _ _ c.in_ok-put_classes_of.ensures
    (prints_second _ _ _ _ _ _ _ _ _ c.in_ok-put_taps.ensures
    (prints_same _ _ _ _ _ _ _
    (ap (λ (t : Totals). end_text t c.ended.result) (c.totals.ensures l items stands)
    ∙ ap (λ n. end_text (whole_books l items).totals n) c.ended.ensures) c.put_end.ensures))
