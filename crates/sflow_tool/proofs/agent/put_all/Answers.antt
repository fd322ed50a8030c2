use Rattle.std.proofs.Common.{◌++◌, sym, ap, ◌∙◌, append_assoc}
use Rattle.text_lines.proofs.PageLaws.{prints_err, puts_both, puts_fails}
use Rattle.sflow_tool.proofs.AgentTexts.{text_next}
use Rattle.sflow_tool.proofs.agent.put_all.Goals as goal

pub loop-put-preserved : goal.loop-put-preserved
loop-put-preserved g c =
    let before = c.loop-put.invariant in
    let next = text_next c.args.at c.args.puts.now c.loop-put.put-index c.put-item.result c.loop-put-test.true c.put-item.is in
    let whole = before.1 ∙ ap (λ l. before.0 ++ l) next ∙ sym (append_assoc before.0 _ _) in
    (_, whole, puts_both _ _ _ _ _ _ _ _ before.2 c.in_ok-put_datagram.ensures)

pub returns-in_err-put_datagram : goal.returns-in_err-put_datagram
returns-in_err-put_datagram g c =
    let before = c.loop-put.invariant in
    let next = text_next c.args.at c.args.puts.now c.loop-put.put-index c.put-item.result c.loop-put-test.true c.put-item.is in
    let whole = before.1 ∙ ap (λ l. before.0 ++ l) next in
    prints_err _ _ _ _ _ _ _ c.from_residual.ensures.1
    (puts_fails _ _ _ _ _ _ _ _ _ whole before.2 c.in_err-put_datagram.ensures)
