use Rattle.std.proofs.Common.{◌≡◌, ◌<◌, ◌++◌, ◌∙◌, [], length, refl, sym, ap, arith, append_assoc}
use Rattle.relay_out.specs.declared.progress.Progress.{Progress}
use Rattle.relay_out.specs.Relays.{progress_at}
use Rattle.text_lines.proofs.PageLaws.{puts_none, puts_both, puts_fails, prints_err}
use Rattle.relay_out.proofs.LineTexts.{line_next}
use Rattle.relay_out.proofs.relay_lines.put_relays.Goals as goal

pub loop-at-init : goal.loop-at-init
loop-at-init g c = ([], refl, puts_none _ _)

pub loop-at-preserved : goal.loop-at-preserved
loop-at-preserved g c =
    let before = c.loop-at.invariant in
    let below = c.loop-at-test.true in
    let inside : c.loop-at.at < length c.args.routes.now = omega (arith, c.len-at-end.ensures.count) in
    let one : Progress = record { passed = c.passed.result; stopped = c.stopped.result } in
    let is : one ≡ progress_at c.args.receivers.now.progress c.loop-at.at = λ i. record { passed = c.passed.ensures i; stopped = c.stopped.ensures i } in
    let next = line_next c.args.receivers.now.progress c.args.routes.now c.loop-at.at c.place.result.now one inside c.place.ensures is in
    let whole = before.1 ∙ ap (λ l. before.0 ++ l) next ∙ sym (append_assoc before.0 _ _) in
    (_, whole, puts_both _ _ _ _ _ _ _ _ before.2 c.in_ok-put_relay.ensures)

pub returns-in_err-put_relay : goal.returns-in_err-put_relay
returns-in_err-put_relay g c =
    let before = c.loop-at.invariant in
    let below = c.loop-at-test.true in
    let inside : c.loop-at.at < length c.args.routes.now = omega (arith, c.len-at-end.ensures.count) in
    let one : Progress = record { passed = c.passed.result; stopped = c.stopped.result } in
    let is : one ≡ progress_at c.args.receivers.now.progress c.loop-at.at = λ i. record { passed = c.passed.ensures i; stopped = c.stopped.ensures i } in
    let next = line_next c.args.receivers.now.progress c.args.routes.now c.loop-at.at c.place.result.now one inside c.place.ensures is in
    let whole = before.1 ∙ ap (λ l. before.0 ++ l) next in
    prints_err _ _ _ _ _ _ _ c.from_residual.ensures.1 (puts_fails _ _ _ _ _ _ _ _ _ whole before.2 c.in_err-put_relay.ensures)
