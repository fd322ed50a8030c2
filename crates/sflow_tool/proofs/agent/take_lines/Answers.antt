use Rattle.std.proofs.Common.{◌∙◌, refl, arith}
use Rattle.sflow_tool.proofs.AgentLines.{all_taken, fresh_count, fresh_open, line_ends, nothing_reached, one_line, refused_behind}
use Rattle.sflow_tool.proofs.agent.take_lines.Goals as goal

pub loop-init : goal.loop-init
loop-init g c = record {
  far = nothing_reached _ _ _ _ _ c.requires.fresh c.new-run.ensures;
  going = fresh_open c.args.reader.now c.requires.fresh;
  above = omega arith;
  few = omega (arith, fresh_count c.args.reader.now c.requires.fresh);
  kept = refl;
}

pub returns-in-Ok-None-clause-ends : goal.returns-in-Ok-None-clause-ends
returns-in-Ok-None-clause-ends g c =
    all_taken _ _ (g.S.Source.seen c.next.new.source) _ _ _ _ _ c.next.new.self _ _ c.loop.invariant.far
    (λ bytes left. rw c.in-Ok-None.field-0-is at (c.in-Ok-None.ensures.told bytes c.loop.invariant.going left))

pub returns-in-Err-clause-ends : goal.returns-in-Err-clause-ends
returns-in-Err-clause-ends g c =
    refused_behind _ _ _ _ _ _ _ _ c.next.new.self _ _ c.loop.invariant.far c.in-Err.refusal
    (λ bytes left. c.in-Err.ensures.told bytes c.loop.invariant.going left)

pub returns-in-Err-take_line-clause-ends : goal.returns-in-Err-take_line-clause-ends
returns-in-Err-take_line-clause-ends g c =
    let before = c.loop.invariant in
    line_ends _ _ _ _ _ _ _ _ c.next.new.self c.loop.run c.take_line.new.run _ before.far c.in-Ok-Some.line
    (λ bytes left. rw c.in-Ok-Some.field-0-is at (c.in-Ok-Some.ensures.told bytes before.going left))
    c.number.result c.in-Err-take_line.stop _ _
    (c.number.ensures ∙ (rw c.in-Ok-Some.field-0-is at c.in-Ok-Some.ensures.given))
    (c.in-Err-take_line.ensures before.far.lines before.far.stands)

pub loop-preserved : goal.loop-preserved
loop-preserved g c =
    let before = c.loop.invariant in
    let next = rw c.in-Ok-Some.field-0-is at (c.in-Ok-Some.ensures.next before.going) in
    record {
      far = one_line _ _ _ _ _ _ _ _ c.next.new.self c.loop.run c.take_line.new.run _ before.far c.in-Ok-Some.line
          (λ bytes left. rw c.in-Ok-Some.field-0-is at (c.in-Ok-Some.ensures.told bytes before.going left))
          _ _ _ next.1 (c.in-Ok.ensures before.far.lines before.far.stands);
      going = rw c.in-Ok-Some.field-0-is at c.in-Ok-Some.ensures.ended;
      above = omega (arith, before.above, next.1);
      few = next.2;
      kept = c.in-Ok-Some.ensures.cause before.going ∙ before.kept;
    }
