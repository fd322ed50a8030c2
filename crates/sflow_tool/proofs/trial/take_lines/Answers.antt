use Rattle.std.proofs.Common.{◌∙◌, Err, ap, refl, arith}
use Rattle.script_lines.specs.Shown.{shown}
use Rattle.sflow_tool.proofs.AgentLines.{fresh_count, fresh_open, said_may}
use Rattle.sflow_tool.proofs.Arrived.{few_arrived}
use Rattle.sflow_tool.proofs.TriedLines.{kept_collected, none_collected}
use Rattle.sflow_tool.proofs.TrialWalk.{all_tracked, breaks_so, lacks_so, nothing_tracked, one_tracked, refused_so}
use Rattle.sflow_tool.proofs.trial.take_lines.Goals as goal

pub loop-init : goal.loop-init
loop-init g c = record {
  far = nothing_tracked _ _ _ c.requires.fresh (c.requires.new, none_collected _ _ _ _ _ _ c.requires.stands c.requires.classes);
  limits = refl;
  few = refl;
  going = fresh_open c.args.reader.now c.requires.fresh;
  above = omega arith;
  numbered = omega (arith, fresh_count c.args.reader.now c.requires.fresh);
  kept = refl;
}

pub loop-preserved : goal.loop-preserved
loop-preserved g c =
    let before = c.loop.invariant in
    let lines = before.far.lines in
    let next = rw c.in-Ok-Some.field-0-is at (c.in-Ok-Some.ensures.next before.going) in
    let may = said_may (shown c.in-Ok-Some.line) next.0 c.lines_are_written.ensures in
    record {
      far = one_tracked _ _ _ _ before.far _ c.next.new.self c.in-Ok-Some.line
          (λ bytes left. rw c.in-Ok-Some.field-0-is at (c.in-Ok-Some.ensures.told bytes before.going left)) _
          (c.in-Ok-take.ensures.follows lines may before.far.were.0) (
            c.in-Ok-take.ensures.stands lines may (omega (arith, before.far.few, next.1, next.2)) before.far.were.0,
            c.in-Ok-take.ensures.takes _ lines _ _ may before.far.were.0
                (omega (arith, few_arrived lines, before.far.few, next.1, next.2)) before.far.were.1,
          ) next.1;
      limits = c.take.ensures.limits ∙ before.limits;
      few = c.take.ensures.ended ∙ before.few;
      going = rw c.in-Ok-Some.field-0-is at c.in-Ok-Some.ensures.ended;
      above = omega (arith, before.above, next.1);
      numbered = next.2;
      kept = c.in-Ok-Some.ensures.cause before.going ∙ before.kept;
    }

pub returns-in-Ok-clause-ends : goal.returns-in-Ok-clause-ends
returns-in-Ok-clause-ends g c =
    let before = c.loop.invariant in
    all_tracked _ _ _ _ before.far _ _
    (c.in-Ok.ensures.open before.far.lines before.far.were.0, omega (arith, before.far.few, before.numbered)) before.far.were.1
    (λ bytes left. rw c.in-Ok-None.field-0-is at (c.in-Ok-None.ensures.told bytes before.going left))

pub returns-in-Err-open-clause-ends : goal.returns-in-Err-open-clause-ends
returns-in-Err-open-clause-ends g c = lacks_so _ _ _ _ c.loop.invariant.far _ c.loop.invariant.far.were.1

pub returns-in-Err-clause-ends : goal.returns-in-Err-clause-ends
returns-in-Err-clause-ends g c =
    refused_so _ _ _ _ c.loop.invariant.far _ c.next.new.self _ c.loop.invariant.far.were.1 c.in-Err.refusal
    (λ bytes left. c.in-Err.ensures.told bytes c.loop.invariant.going left)

pub returns-in-Err-Breaks-clause-ends : goal.returns-in-Err-Breaks-clause-ends
returns-in-Err-Breaks-clause-ends g c =
    let before = c.loop.invariant in
    let next = rw c.in-Ok-Some.field-0-is at (c.in-Ok-Some.ensures.next before.going) in
    let may = said_may (shown c.in-Ok-Some.line) next.0 c.lines_are_written.ensures in
    breaks_so _ _ _ _ before.far _ c.next.new.self c.in-Ok-Some.line
    (λ bytes left. rw c.in-Ok-Some.field-0-is at (c.in-Ok-Some.ensures.told bytes before.going left)) _
    (kept_collected _ _ _ _ _ _ _ _ _ _ _ before.far.lines c.in-Err-Breaks.ensures.failed.0
    (ap (λ t. t.held.items) c.in-Err-Breaks.ensures.failed.1) c.take.ensures.ended before.far.were.1)
    c.number.result _ (c.number.ensures ∙ (rw c.in-Ok-Some.field-0-is at c.in-Ok-Some.ensures.given))
    (c.take.ensures.breaks (c.in-Err-Breaks.is ∙ ap (λ u. Err u) c.in-Err-Breaks.field-0-is) before.far.lines may before.far.were.0)
    c.broken.ensures

pub returns-in-Err-Memory-clause-ends : goal.returns-in-Err-Memory-clause-ends
returns-in-Err-Memory-clause-ends g c =
    let before = c.loop.invariant in
    lacks_so _ _ _ _ before.far _
    (kept_collected _ _ _ _ _ _ _ _ _ _ _ before.far.lines c.in-Err-Memory.ensures.failed.0
    (ap (λ t. t.held.items) c.in-Err-Memory.ensures.failed.1) c.take.ensures.ended before.far.were.1)
