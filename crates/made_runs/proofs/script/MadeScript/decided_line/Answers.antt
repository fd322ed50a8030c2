use Rattle.std.proofs.Common.{◌≡◌, ◌∙◌, ◌+◌, refl, subst, sym, ap, arith}
use Rattle.script_lines.specs.Shown.{shown}
use Rattle.made_runs.specs.declared.script.Phase.TheVariants.{Decide}
use Rattle.made_runs.specs.Scripts.{ScriptState, Told, IsWhole, nothing_due}
use Rattle.made_runs.proofs.Scripting.{all_decided_so, gives_from, if_none, if_some, one_decided}
use Rattle.made_runs.proofs.script.MadeScript.decided_line.Goals as goal

pub loop-number-init : goal.loop-number-init
loop-number-init c = record {
  stage = c.requires.stage;
  none_due = c.requires.none_due;
  decided = sym (ap (λ (s : ScriptState). s.decided) c.self.view_is);
  seed = refl;
  total = refl;
  told = λ lines g sent. g;
}

pub loop-number-preserved : goal.loop-number-preserved
loop-number-preserved c =
    let before = c.loop-number.invariant in
    let now = c.in_default.ensures.none in
    let view = c.self-in-loop-number.view_is in
    record {
      stage = ap (λ (s : ScriptState). s.stage) now.0 ∙ ap (λ (s : ScriptState). s.stage) view ∙ before.stage;
      none_due = ap (λ (s : ScriptState). s.due) now.0 ∙ now.1;
      decided = ap (λ (s : ScriptState). s.decided) now.0;
      seed = ap (λ (s : ScriptState). s.seed) now.0 ∙ ap (λ (s : ScriptState). s.seed) view ∙ before.seed;
      total = ap (λ (s : ScriptState). s.total) now.0 ∙ ap (λ (s : ScriptState). s.total) view ∙ before.total;
      told = λ lines g sent.
          let S : ScriptState = record { seed = c.self-in-loop-number.inside.seed; total = c.self-in-loop-number.inside.total; run = c.self-in-loop-number.inside.run; packets = c.self-in-loop-number.inside.packets; decided = c.self-in-loop-number.inside.decided; due = c.self-in-loop-number.inside.due; stage = c.self-in-loop-number.inside.stage } in
          let T : ScriptState = record S { run = c.decide-self-inside.new.self; decided = c.loop-number.number + 1; due = c.decide-self-inside.result } in
          let P : ScriptState → Type 0 = λ s. s.due ≡ nothing_due → Told Decide s lines → s.decided ≡ c.loop-number.number
          → Told Decide T lines in
          subst (λ s. Told Decide s lines) (sym now.0)
          (subst P view (λ none h is.
          one_decided S lines none c.decide-self-inside.new.self c.decide-self-inside.result (c.loop-number.number + 1) h
          (omega (arith, is, sent, c.loop-number-test.true)) (omega (arith, is)) c.decide-self-inside.ensures)
          before.none_due (before.told lines g sent) before.decided);
    }

pub returns-in-Some-clause-some : goal.returns-in-Some-clause-some
returns-in-Some-clause-some c = λ lines g sent.
    let before = c.loop-number.invariant in
    let view = c.self-in-loop-number.view_is in
    let S : ScriptState = record { seed = c.self-in-loop-number.inside.seed; total = c.self-in-loop-number.inside.total; run = c.self-in-loop-number.inside.run; packets = c.self-in-loop-number.inside.packets; decided = c.self-in-loop-number.inside.decided; due = c.self-in-loop-number.inside.due; stage = c.self-in-loop-number.inside.stage } in
    let T : ScriptState = record S { run = c.decide-self-inside.new.self; decided = c.loop-number.number + 1; due = c.decide-self-inside.result } in
    let P : ScriptState → Type 0 = λ s. s.due ≡ nothing_due → Told Decide s lines → s.decided ≡ c.loop-number.number
    → Told Decide T lines in
    gives_from c.args.self.now T c.due_line.new.self lines (shown c.in-Some.line)
    (ap (λ (s : ScriptState). s.seed) view ∙ before.seed) (ap (λ (s : ScriptState). s.total) view ∙ before.total)
    (c.in-Some.ensures.some Decide lines (ap (λ (s : ScriptState). s.stage) view ∙ before.stage)
    (subst P view (λ none h is.
    one_decided S lines none c.decide-self-inside.new.self c.decide-self-inside.result (c.loop-number.number + 1) h
    (omega (arith, is, sent, c.loop-number-test.true)) (omega (arith, is)) c.decide-self-inside.ensures)
    before.none_due (before.told lines g sent) before.decided))

pub returns-clause-some : goal.returns-clause-some
returns-clause-some c =
    let before = c.loop-number.invariant in
    if_some c.line_behind.result _ _ (λ line h lines g sent.
    let told = before.told lines g sent in
    gives_from c.args.self.now c.loop-number.self c.line_behind.new.self lines (shown line) before.seed before.total
    (h lines told before.none_due
    (all_decided_so c.loop-number.self lines told (omega (arith, before.decided, sent, c.loop-number-test.false)))))
    c.line_behind.ensures.some

pub returns-clause-none : goal.returns-clause-none
returns-clause-none c =
    let before = c.loop-number.invariant in
    if_none c.line_behind.result _ _ (λ h lines g sent.
    let told = before.told lines g sent in
    subst (λ k. IsWhole k c.args.self.now.total lines) before.seed
    (subst (λ k. IsWhole c.loop-number.self.seed k lines) before.total
    (h lines told before.none_due
    (all_decided_so c.loop-number.self lines told (omega (arith, before.decided, sent, c.loop-number-test.false))))))
    c.line_behind.ensures.none
