use Rattle.std.proofs.Common.{ℕ, List, [], ◌++◌, codes, decimal, refl, sym, ap, ◌∙◌, append_assoc}
use Rattle.text_lines.proofs.PageLaws.{puts_none, puts_both, puts_fails, prints_err, texts-drop}
use Rattle.show_lines.proofs.parts.put_row.Goals as goal

abbrev text : ℕ → List ℕ
text n = codes " " ++ decimal n

pub loop-number-init : goal.loop-number-init
loop-number-init g c = ([], refl, puts_none _ _)

pub loop-number-preserved : goal.loop-number-preserved
loop-number-preserved g c =
    let before = c.loop-number.invariant in
    let put = c.in_ok-put_number.ensures in
    let next = texts-drop text c.args.numbers.now c.loop-number.number-index 0 c.loop-number-test.true in
    let whole = before.1 ∙ ap (λ l. before.0 ++ l) next ∙ sym (append_assoc before.0 _ _) in
    (_, whole, puts_both _ _ _ _ _ _ _ _ before.2 put)

pub returns-in_err-put_number : goal.returns-in_err-put_number
returns-in_err-put_number g c =
    let before = c.loop-number.invariant in
    let next = texts-drop text c.args.numbers.now c.loop-number.number-index 0 c.loop-number-test.true in
    let whole = before.1 ∙ ap (λ l. before.0 ++ l) next in
    prints_err _ _ _ _ _ _ _ c.from_residual.ensures.1
    (puts_fails _ _ _ _ _ _ _ _ _ whole before.2 c.in_err-put_number.ensures)
