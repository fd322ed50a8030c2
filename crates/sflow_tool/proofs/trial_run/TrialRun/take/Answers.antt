use Rattle.std.proofs.Common.{sym, ◌∙◌}
use Rattle.script_lines.specs.Shown.{shown}
use Rattle.sflow_tool.proofs.TriedLines.{acted_more, open_as, opened_so, set_collected, set_more}
use Rattle.sflow_tool.proofs.trial_run.TrialRun.take.Goals as goal

pub returns-then-sets_up-clause-stands : goal.returns-then-sets_up-clause-stands
returns-then-sets_up-clause-stands g c = λ lines may few stands.
    let took = c.in_ok-take.ensures.takes lines may stands.run in
    set_more c.args.self.now c.take.new.self (shown c.args.line) lines (sym c.sets_up.ensures ∙ c.if-sets_up.true) took.1 stands

pub returns-then-sets_up-clause-takes : goal.returns-then-sets_up-clause-takes
returns-then-sets_up-clause-takes g c = λ m lines xs all may stands few so_far.
    let took = c.in_ok-take.ensures.takes lines may stands.run in
    set_collected _ _ m _ xs _ all _ (shown c.args.line) lines c.take.new.self (sym c.sets_up.ensures ∙ c.if-sets_up.true) took.1 so_far

pub returns-in-Ok-clause-stands : goal.returns-in-Ok-clause-stands
returns-in-Ok-clause-stands g c = λ lines may few stands.
    let acts = sym c.sets_up.ensures ∙ c.if-sets_up.false in
    let ready = opened_so c.open.result c.is_err.result c.is_err.ensures.value c.if-is_err.false c.open.ensures.open lines stands in
    let took = c.in_ok-step.ensures.takes lines may ready.run in
    acted_more _ c.take-2.new.self _ (shown c.args.line) lines acts took.1
    (c.in-Ok.ensures.stands _ lines (shown c.args.line) took.1.lawful few acts took.2 (open_as c.open.new.self _ lines ready c.in-Some.is))

pub returns-in-Ok-clause-takes : goal.returns-in-Ok-clause-takes
returns-in-Ok-clause-takes g c = λ m lines xs all may stands few so_far.
    let acts = sym c.sets_up.ensures ∙ c.if-sets_up.false in
    let ready = opened_so c.open.result c.is_err.result c.is_err.ensures.value c.if-is_err.false c.open.ensures.open lines stands in
    let took = c.in_ok-step.ensures.takes lines may ready.run in
    c.in-Ok.ensures.takes _ m lines (shown c.args.line) xs all took.1.lawful acts took.2
    (open_as c.open.new.self _ lines ready c.in-Some.is) few so_far
