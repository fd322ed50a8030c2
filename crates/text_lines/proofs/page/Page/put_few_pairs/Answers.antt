use Rattle.std.proofs.Common.{[], ◌++◌, refl, sym, ap, ◌∙◌, append_assoc}
use Rattle.wire_spec.specs.Texts.{hex_byte}
use Rattle.text_lines.proofs.PageLaws.{puts_none, puts_both, puts_fails, prints_err, texts-drop}
use Rattle.text_lines.proofs.page.Page.put_few_pairs.Goals as goal

pub loop-byte-init : goal.loop-byte-init
loop-byte-init g c = ([], refl, puts_none _ _)

pub loop-byte-preserved : goal.loop-byte-preserved
loop-byte-preserved g c =
    let before = c.loop-byte.invariant in
    let put = c.in_ok-put.ensures in
    let next = texts-drop hex_byte c.args.bytes.now c.loop-byte.byte-index 0 c.loop-byte-test.true in
    let whole = before.1 ∙ ap (λ l. before.0 ++ l) next ∙ sym (append_assoc before.0 _ _) in
    (_, whole, puts_both _ _ _ _ _ _ _ _ before.2 (rw c.pair.ensures at put))

pub returns-in_err-put : goal.returns-in_err-put
returns-in_err-put g c =
    let before = c.loop-byte.invariant in
    let next = texts-drop hex_byte c.args.bytes.now c.loop-byte.byte-index 0 c.loop-byte-test.true in
    let whole = before.1 ∙ ap (λ l. before.0 ++ l) next in
    prints_err _ _ _ _ _ _ _ c.from_residual.ensures.1
    (puts_fails _ _ _ _ _ _ _ _ _ whole before.2 (rw c.pair.ensures at c.in_err-put.ensures))
