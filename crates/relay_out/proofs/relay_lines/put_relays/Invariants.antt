-- The lines so far were put, and no call has failed.
use Rattle.std.proofs.Common.{◌≡◌, ℕ, List, ◌++◌, drop}
use Rattle.text_lines.specs.Pages.{Puts}
use Rattle.relay_out.specs.Lines.{relay_lines, relay_text}
use Rattle.relay_out.proofs.relay_lines.put_relays.Given as goal

abbrev pub invariant-loop-at : goal.invariant-loop-at
invariant-loop-at g l =
    (done : List ℕ)
    × (relay_text l.routes l.receivers.progress ≡ done ++ relay_lines l.at (drop l.at l.routes) l.receivers.progress)
    × Puts (g.K.Sink.seen l.initial.sink) (g.K.Sink.seen l.sink) l.initial.page l.page done
