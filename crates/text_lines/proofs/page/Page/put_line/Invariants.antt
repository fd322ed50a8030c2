-- The pieces so far were put, and no call has failed.
use Rattle.std.proofs.Common.{◌≡◌, ℕ, List, ◌++◌, drop}
use Rattle.text_lines.specs.Pages.{Puts}
use Rattle.text_lines.specs.Pieces.{pieces_text}
use Rattle.text_lines.proofs.page.Page.put_line.Given as goal

abbrev pub invariant-loop-piece : goal.invariant-loop-piece
invariant-loop-piece g l =
    (done : List ℕ) × (pieces_text l.pieces ≡ done ++ pieces_text (drop l.piece-index l.pieces))
    × Puts (g.K.Sink.seen l.initial.sink) (g.K.Sink.seen l.sink) l.initial.self l.self done
