use Rattle.sflow_tool.proofs.AgentRuns.{finished, lacking, refused, write_failed}
use Rattle.sflow_tool.proofs.agent.agent.Goals as goal

pub returns-in-Ok-take_lines : goal.returns-in-Ok-take_lines
returns-in-Ok-take_lines g c =
    finished _ _ _ _ _ _ _ c.new-page.ensures c.in-Ok-take_lines.opened _
    c.in-Ok-take_lines.ensures.ends c.in-Ok-take_lines.ensures.at_end c.in-Ok-take_lines.ensures.cause
    c.finish.ensures

pub returns-in-Err-Read : goal.returns-in-Err-Read
returns-in-Err-Read g c =
    let seen = rw c.in-Err-Read.field-0-is at c.in-Err-Read.ensures.ends in
    let cause = rw c.in-Err-Read.field-0-is at c.in-Err-Read.ensures.cause in
    refused _ _ _ _ _ _ _ c.new-page.ensures _ _ _ c.status_of.ensures seen cause c.flush.ensures

pub returns-in-Err-Write : goal.returns-in-Err-Write
returns-in-Err-Write g c =
    let seen = rw c.in-Err-Write.field-0-is at c.in-Err-Write.ensures.ends in
    let cause = rw c.in-Err-Write.field-0-is at c.in-Err-Write.ensures.cause in
    write_failed _ _ _ _ (g.K.Sink.seen c.args.sink.now) _ _ c.new-page.ensures seen cause

pub returns : goal.returns
returns g c =
    let seen = rw c.in-Err-Memory.field-0-is at c.in-Err-Memory.ensures.ends in
    let cause = rw c.in-Err-Memory.field-0-is at c.in-Err-Memory.ensures.cause in
    lacking _ _ _ _ (g.K.Sink.seen c.args.sink.now) _ _ c.new-page.ensures seen cause
