-- The numbers so far were put, and no call has failed.
use Rattle.std.proofs.Common.{◌≡◌, ℕ, List, codes, decimal, ◌++◌, flat_map, drop}
use Rattle.text_lines.specs.Pages.{Puts}
use Rattle.show_lines.proofs.parts.put_row.Given as goal

abbrev pub invariant-loop-number : goal.invariant-loop-number
invariant-loop-number g l =
    let text : ℕ → List ℕ = λ n. codes " " ++ decimal n in
    (done : List ℕ) × (flat_map text l.numbers ≡ done ++ flat_map text (drop l.number-index l.numbers))
    × Puts (g.K.Sink.seen l.initial.sink) (g.K.Sink.seen l.sink) l.initial.page l.page done
