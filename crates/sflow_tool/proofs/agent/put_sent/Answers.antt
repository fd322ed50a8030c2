use Rattle.text_lines.proofs.PageLaws.{prints_err, prints_first, prints_same, puts_both, puts_part}
use Rattle.sflow_tool.proofs.AgentTexts.{not_empty, put_whole, short_puts, some_put}
use Rattle.sflow_tool.proofs.agent.put_sent.Goals as goal

pub returns-in_err-put_opening-clause-prints : goal.returns-in_err-put_opening-clause-prints
returns-in_err-put_opening-clause-prints g c =
    let some = not_empty c.puts-puts.result.now c.is_empty.result c.is_empty.ensures c.if-is_empty.false in
    prints_same _ _ _ _ _ _ _
    (some_put c.args.opened c.args.sent.now.at c.puts-puts.result.now c.args.sent.now.datagrams.taken c.puts-puts.ensures some)
    (prints_first _ _ _ _ _ _ _ _ c.from_residual.ensures.1 c.in_err-put_opening.ensures)

pub put_all-requires : goal.put_all-requires
put_all-requires g c =
    short_puts c.args.opened c.args.sent.now.at c.puts-puts.result.now c.args.sent.now.datagrams.taken c.puts-puts.ensures
    c.requires.short

pub returns-in_err-put_all-clause-prints : goal.returns-in_err-put_all-clause-prints
returns-in_err-put_all-clause-prints g c =
    let some = not_empty c.puts-puts.result.now c.is_empty.result c.is_empty.ensures c.if-is_empty.false in
    prints_same _ _ _ _ _ _ _
    (some_put c.args.opened c.args.sent.now.at c.puts-puts.result.now c.args.sent.now.datagrams.taken c.puts-puts.ensures some)
    (prints_err _ _ _ _ _ _ _ c.from_residual-in_err-put_all.ensures.1
    (puts_part _ _ _ _ _ _ _ c.in_ok-put_opening.ensures c.in_err-put_all.ensures))

pub returns-clause-prints : goal.returns-clause-prints
returns-clause-prints g c =
    let some = not_empty c.puts-puts.result.now c.is_empty.result c.is_empty.ensures c.if-is_empty.false in
    put_whole _ _ _ _ _ _
    (some_put c.args.opened c.args.sent.now.at c.puts-puts.result.now c.args.sent.now.datagrams.taken c.puts-puts.ensures some)
    (puts_both _ _ _ _ _ _ _ _ c.in_ok-put_opening.ensures c.in_ok-put_all.ensures)
