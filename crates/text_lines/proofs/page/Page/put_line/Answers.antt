use Rattle.std.proofs.Common.{[], ◌++◌, refl, sym, ap, ◌∙◌, append_assoc}
use Rattle.text_lines.specs.Pieces.{piece_text}
use Rattle.text_lines.proofs.PageLaws.{puts_none, puts_both, puts_fails, prints_err, texts-drop}
use Rattle.text_lines.proofs.page.Page.put_line.Goals as goal

pub loop-piece-init : goal.loop-piece-init
loop-piece-init g c = ([], refl, puts_none _ _)

pub loop-piece-preserved : goal.loop-piece-preserved
loop-piece-preserved g c =
    let before = c.loop-piece.invariant in
    let put = c.in_ok-put_piece.ensures in
    let next = texts-drop piece_text c.args.pieces.now c.loop-piece.piece-index _ c.loop-piece-test.true in
    let whole = before.1 ∙ ap (λ l. before.0 ++ l) next ∙ sym (append_assoc before.0 _ _) in
    (_, whole, puts_both _ _ _ _ _ _ _ _ before.2 put)

pub returns-in_err-put_piece : goal.returns-in_err-put_piece
returns-in_err-put_piece g c =
    let before = c.loop-piece.invariant in
    let next = texts-drop piece_text c.args.pieces.now c.loop-piece.piece-index _ c.loop-piece-test.true in
    let whole = before.1 ∙ ap (λ l. before.0 ++ l) next in
    prints_err _ _ _ _ _ _ _ c.from_residual.ensures.1
    (puts_fails _ _ _ _ _ _ _ _ _ whole before.2 c.in_err-put_piece.ensures)
