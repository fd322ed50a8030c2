-- The pairs so far were put, and no call has failed.
use Rattle.std.proofs.Common.{◌≡◌, ℕ, List, ◌++◌, length}
use Rattle.wire_spec.specs.Texts.{hex}
use Rattle.text_lines.specs.Pages.{Puts}
use Rattle.text_lines.proofs.page.Page.put_pairs.Given as goal

abbrev pub invariant-loop-rest : goal.invariant-loop-rest
invariant-loop-rest g l =
    (done : List ℕ) × (hex l.bytes ≡ done ++ hex l.rest)
    × Puts (g.K.Sink.seen l.initial.sink) (g.K.Sink.seen l.sink) l.initial.self l.self done

abbrev pub decreases-loop-rest : goal.decreases-loop-rest
decreases-loop-rest g l = length l.rest
