use Rattle.script_lines.specs.Shown.{shown}
use Rattle.text_lines.proofs.PageLaws.{puts_none}
use Rattle.sflow_tool.proofs.AgentLines.{line_took, line_unwritten, said_may, sent_short}
use Rattle.sflow_tool.proofs.agent.take_line.Goals as goal

pub put_step-requires : goal.put_step-requires
put_step-requires g c = record {
  short =
      let may = said_may (shown c.args.line) c.requires.said c.lines_are_written.ensures in
      sent_short c.args.run.now c.take.new.self c.requires.sound.0 (shown c.args.line) c.in-Ok.step c.requires.sound.1
      (c.in-Ok.ensures.takes c.requires.sound.0 may c.requires.sound.1);
}

pub returns-in-Ok-put_step : goal.returns-in-Ok-put_step
returns-in-Ok-put_step g c = λ lines stands.
    let may = said_may (shown c.args.line) c.requires.said c.lines_are_written.ensures in
    line_took c.take.new.self lines (shown c.args.line) c.in-Ok.step c.args.opened c.in-Ok-put_step.now _
    (c.in-Ok.ensures.takes lines may stands) c.in-Ok-put_step.ensures.opened c.in-Ok-put_step.ensures.prints

pub returns-in-Ok : goal.returns-in-Ok
returns-in-Ok g c = λ lines stands.
    let may = said_may (shown c.args.line) c.requires.said c.lines_are_written.ensures in
    line_unwritten c.take.new.self lines (shown c.args.line) c.in-Ok.step c.args.opened
    (record {
      sink = g.K.Sink.seen c.args.sink.now;
      sink' = g.K.Sink.seen c.put_step.new.sink;
      page = c.args.page.now;
      page' = c.put_step.new.page;
    })
    (c.in-Ok.ensures.takes lines may stands) c.in-Err.ensures.prints

pub returns-in-Err-Breaks : goal.returns-in-Err-Breaks
returns-in-Err-Breaks g c = λ lines stands.
    let may = said_may (shown c.args.line) c.requires.said c.lines_are_written.ensures in
    (rw c.in-Err-Breaks.field-0-is at (c.in-Err-Breaks.ensures.takes lines may stands), c.broken.ensures, puts_none _ _)

pub returns : goal.returns
returns g c = λ lines stands.
    let may = said_may (shown c.args.line) c.requires.said c.lines_are_written.ensures in
    (rw c.in-Err-Memory.field-0-is at (c.in-Err-Memory.ensures.takes lines may stands), puts_none _ _)
