use Rattle.std.proofs.Common.{[], ◌++◌, codes, refl, sym, ap, ◌∙◌, append_assoc}
use Rattle.text_lines.proofs.PageLaws.{puts_none, puts_both, puts_fails, prints_err}
use Rattle.report_lines.proofs.TapTexts.{texts_at}
use Rattle.report_lines.proofs.tap_lines.put_taps.Goals as goal

pub loop-place-init : goal.loop-place-init
loop-place-init g c = ([], refl, puts_none _ _)

pub loop-place-preserved : goal.loop-place-preserved
loop-place-preserved g c =
    let before = c.loop-place.invariant in
    let put = c.in_ok-put_tap.ensures in
    let next = texts_at (λ x. (goal.Tap-dyn g (x.vtable, x.value)).text x.value ++ codes "\n") c.args.taps.now.held.items c.loop-place.place put.0 put.1 in
    let whole = before.1 ∙ ap (λ l. before.0 ++ l) next ∙ sym (append_assoc before.0 _ _) in
    (_, whole, puts_both _ _ _ _ _ _ _ _ before.2 put.2)

pub returns-in_err-put_tap : goal.returns-in_err-put_tap
returns-in_err-put_tap g c =
    let before = c.loop-place.invariant in
    let put = c.in_err-put_tap.ensures in
    let next = texts_at (λ x. (goal.Tap-dyn g (x.vtable, x.value)).text x.value ++ codes "\n") c.args.taps.now.held.items c.loop-place.place put.0 put.1 in
    let whole = before.1 ∙ ap (λ l. before.0 ++ l) next in
    prints_err _ _ _ _ _ _ _ c.from_residual.ensures.1 (puts_fails _ _ _ _ _ _ _ _ _ whole before.2 put.2)
