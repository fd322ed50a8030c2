use Rattle.std.proofs.Common.{◌∙◌, [], Err, ap, refl, sym, arith}
use Rattle.std.proofs.lemmas.Bool.{true≢false}
use Rattle.script_lines.specs.Shown.{shown}
use Rattle.sflow_tool.proofs.Arrived.{few_arrived}
use Rattle.sflow_tool.proofs.MadeLines.{few_told, sent_told}
use Rattle.sflow_tool.proofs.MadeWalk.{ends_so, lacking, none_at, on_ok, one_more, some_at, whole_so}
use Rattle.sflow_tool.proofs.TriedLines.{kept_collected, none_collected}
use Rattle.sflow_tool.proofs.made_trial.take_lines.Goals as goal

pub loop-init : goal.loop-init
loop-init g c = record {
  far = record {
    lines = [];
    gave = c.requires.gave;
    seed_is = refl;
    total_is = refl;
    were = (c.requires.new, none_collected _ _ _ _ _ _ c.requires.stands c.requires.classes, omega arith);
  };
  limits = refl;
  few = refl;
}

pub loop-preserved : goal.loop-preserved
loop-preserved g c =
    let far = c.loop.invariant.far in
    let sent = sent_told c.loop.run c.loop.script far.lines c.sent.result far.gave far.were.0 c.sent.ensures.of_first
    c.sent.ensures.setting_up in
    let gives = some_at _ c.in-Some.line _ c.in-Some.is c.in_ok-line.ensures.some far.lines far.gave sent in
    let few = few_told c.loop.script far.lines far.gave in
    record {
      far = one_more _ _ _ _ far _ c.next.new.self (shown c.in-Some.line) gives (
        c.in-Ok.ensures.stands far.lines gives.written (omega (arith, few)) far.were.0,
        c.in-Ok.ensures.takes _ far.lines _ _ gives.written far.were.0 (omega (arith, few_arrived far.lines, few)) far.were.1,
        omega (arith, far.were.2),
      );
      limits = c.take.ensures.limits ∙ c.loop.invariant.limits;
      few = c.take.ensures.ended ∙ c.loop.invariant.few;
    }

pub take-requires-clause-sound : goal.take-requires-clause-sound
take-requires-clause-sound g c =
    let far = c.loop.invariant.far in
    (far.lines, far.were.0.run, omega (arith, few_told c.loop.script far.lines far.gave))

pub returns-in_default-clause-ends : goal.returns-in_default-clause-ends
returns-in_default-clause-ends g c =
    let far = c.loop.invariant.far in
    let sent = sent_told c.loop.run c.loop.script far.lines c.sent.result far.gave far.were.0 c.sent.ensures.of_first
    c.sent.ensures.setting_up in
    let all = none_at _ _ c.in_default.is c.in_ok-line.ensures.none far.lines far.gave sent in
    ends_so _ _ _ _ far c.open.result _ _ _ (whole_so _ _ _ _ far all)
    (on_ok c.open.result _ _ (λ opens. (opens far.lines far.were.0, omega (arith, few_told c.loop.script far.lines far.gave)))
    c.open.ensures.open)
    all.lawful far.were.1

pub unreachable-requires : goal.unreachable-requires
unreachable-requires g c =
    let far = c.loop.invariant.far in
    let sent = sent_told c.loop.run c.loop.script far.lines c.sent.result far.gave far.were.0 c.sent.ensures.of_first
    c.sent.ensures.setting_up in
    let gives = some_at _ c.in-Some.line _ c.in-Some.is c.in_ok-line.ensures.some far.lines far.gave sent in
    true≢false (sym gives.follows
    ∙ c.take.ensures.breaks (c.in-Err-Breaks.is ∙ ap (λ u. Err u) c.in-Err-Breaks.field-0-is) far.lines gives.written far.were.0)

pub returns-in-Err-Memory-clause-ends : goal.returns-in-Err-Memory-clause-ends
returns-in-Err-Memory-clause-ends g c =
    let far = c.loop.invariant.far in
    lacking _ _ _ _ far _ _ far.were.0.run.lawful
    (kept_collected _ _ _ _ _ _ _ _ _ _ _ far.lines c.in-Err-Memory.ensures.failed.0
    (ap (λ t. t.held.items) c.in-Err-Memory.ensures.failed.1) c.take.ensures.ended far.were.1)

pub unreachable-requires-2 : goal.unreachable-requires-2
unreachable-requires-2 g c =
    let far = c.loop.invariant.far in
    omega (arith, few_told c.loop.script far.lines far.gave, far.were.2, c.loop-test.false, c.loop.auto.counter-end)
