-- The lines so far were put, and no call has failed.
use Rattle.std.proofs.Common.{◌≡◌, ℕ, List, ◌++◌, drop}
use Rattle.text_lines.specs.Pages.{Puts}
use Rattle.report_lines.specs.HeaderLines.{tap_texts}
use Rattle.report_lines.proofs.tap_lines.put_taps.Given as goal

abbrev pub invariant-loop-place : goal.invariant-loop-place
invariant-loop-place g l =
    (done : List ℕ)
    × (tap_texts (λ x. (goal.Tap-dyn g (x.vtable, x.value)).text x.value) l.taps.held.items
    ≡ done ++ tap_texts (λ x. (goal.Tap-dyn g (x.vtable, x.value)).text x.value) (drop l.place l.taps.held.items))
    × Puts (g.K.Sink.seen l.initial.sink) (g.K.Sink.seen l.sink) l.initial.page l.page done
