-- The pairs so far were put, and no call has failed.
use Rattle.std.proofs.Common.{◌≡◌, ℕ, List, ◌++◌, drop}
use Rattle.wire_spec.specs.Texts.{hex}
use Rattle.text_lines.specs.Pages.{Puts}
use Rattle.text_lines.proofs.page.Page.put_few_pairs.Given as goal

abbrev pub invariant-loop-byte : goal.invariant-loop-byte
invariant-loop-byte g l =
    (done : List ℕ) × (hex l.bytes ≡ done ++ hex (drop l.byte-index l.bytes))
    × Puts (g.K.Sink.seen l.initial.sink) (g.K.Sink.seen l.sink) l.initial.self l.self done
