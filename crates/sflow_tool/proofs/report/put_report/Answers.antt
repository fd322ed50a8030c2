use Rattle.text_lines.proofs.PageLaws.{prints_first, prints_second}
use Rattle.report_lines.specs.InterfaceLines.{report_with}
use Rattle.sflow_tool.proofs.report.put_report.Goals as goal

pub returns-in_err-put_streams : goal.returns-in_err-put_streams
unfolding report_with
returns-in_err-put_streams g c = λ l items stands.
    prints_first _ _ _ _ _ _ _ _ c.from_residual.ensures.1 (c.in_err-put_streams.ensures l items stands)

pub returns-in_err-put_sources : goal.returns-in_err-put_sources
unfolding report_with
returns-in_err-put_sources g c = λ l items stands.
    prints_second _ _ _ _ _ _ _ _ _ (c.in_ok-put_streams.ensures l items stands)
    (prints_first _ _ _ _ _ _ _ _ c.from_residual-in_err-put_sources.ensures.1
    (c.in_err-put_sources.ensures l items stands))

pub returns-in_err-put_interfaces_if : goal.returns-in_err-put_interfaces_if
unfolding report_with
returns-in_err-put_interfaces_if g c = λ l items stands.
    prints_second _ _ _ _ _ _ _ _ _ (c.in_ok-put_streams.ensures l items stands)
    (prints_second _ _ _ _ _ _ _ _ _ (c.in_ok-put_sources.ensures l items stands)
    (prints_first _ _ _ _ _ _ _ _ c.from_residual-in_err-put_interfaces_if.ensures.1
    (c.in_err-put_interfaces_if.ensures l items stands)))

pub returns : goal.returns
unfolding report_with
returns g c = λ l items stands.
    prints_second _ _ _ _ _ _ _ _ _ (c.in_ok-put_streams.ensures l items stands)
    (prints_second _ _ _ _ _ _ _ _ _ (c.in_ok-put_sources.ensures l items stands)
    (prints_second _ _ _ _ _ _ _ _ _ (c.in_ok-put_interfaces_if.ensures l items stands)
    (c.put_tail.ensures l items stands)))
