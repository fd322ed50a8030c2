use Rattle.std.proofs.Common.{ap, ◌∙◌}
use Rattle.command_runs.specs.Endings.{refusal_status}
use Rattle.sflow_tool.proofs.SendRuns.{finished, link_failed, refused}
use Rattle.sflow_tool.proofs.send.send.Goals as goal

pub returns-in-Ok-send_entries : goal.returns-in-Ok-send_entries
returns-in-Ok-send_entries g c = λ taps.
    finished c.args.to.now _ _ _ _ _ _ _ c.in-Ok-aim.ensures taps _ c.new-page.ensures _ _
    c.in-Ok-send_entries.ensures.sends c.in-Ok-send_entries.ensures.at_end c.in-Ok-send_entries.ensures.cause c.finish.ensures

pub returns-in-Err-Read : goal.returns-in-Err-Read
returns-in-Err-Read g c = λ taps.
    let seen = rw c.in-Err-Read.field-0-is at c.in-Err-Read.ensures.sends in
    let cause = rw c.in-Err-Read.field-0-is at c.in-Err-Read.ensures.cause in
    refused c.args.to.now _ _ _ (g.K.Sink.seen c.args.sink.now) _ _ _ c.in-Ok-aim.ensures taps _ _
    (c.status_of.ensures ∙ ap refusal_status c.in-Err-Read.refusal-is) seen cause

pub returns : goal.returns
returns g c = λ taps.
    let seen = rw c.in-Err-Link.field-0-is at c.in-Err-Link.ensures.sends in
    let cause = rw c.in-Err-Link.field-0-is at c.in-Err-Link.ensures.cause in
    link_failed c.args.to.now _ _ _ (g.K.Sink.seen c.args.sink.now) _ _ _ c.in-Ok-aim.ensures taps seen cause
