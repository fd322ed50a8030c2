use Rattle.std.proofs.Common.{[], ◌++◌, refl, sym, ap, ◌∙◌, append_assoc}
use Rattle.text_lines.proofs.Eights.{hex_eight}
use Rattle.text_lines.proofs.PageLaws.{puts_none, puts_both, puts_fails, prints_err, prints_second, prints_same}
use Rattle.text_lines.proofs.page.Page.put_pairs.Goals as goal

pub loop-rest-init : goal.loop-rest-init
loop-rest-init g c = ([], refl, puts_none _ _)

pub loop-rest-preserved : goal.loop-rest-preserved
loop-rest-preserved g c =
    let before = c.loop-rest.invariant in
    let next = hex_eight c.loop-rest.rest.now c.in-len8-up.len_at_least in
    let whole = before.1 ∙ ap (λ l. before.0 ++ l) next ∙ sym (append_assoc before.0 _ _) in
    (_, whole, puts_both _ _ _ _ _ _ _ _ before.2 (rw c.eight_pairs.ensures at c.in_ok-put.ensures))

pub returns-in_err-put : goal.returns-in_err-put
returns-in_err-put g c =
    let before = c.loop-rest.invariant in
    let next = hex_eight c.loop-rest.rest.now c.in-len8-up.len_at_least in
    let whole = before.1 ∙ ap (λ l. before.0 ++ l) next in
    prints_err _ _ _ _ _ _ _ c.from_residual.ensures.1
    (puts_fails _ _ _ _ _ _ _ _ _ whole before.2 (rw c.eight_pairs.ensures at c.in_err-put.ensures))

pub returns : goal.returns
returns g c =
    let before = c.loop-rest.invariant in
    prints_same _ _ _ _ _ _ _ (sym before.1) (prints_second _ _ _ _ _ _ _ _ _ before.2 c.put_few_pairs.ensures)
