-- What was taken so far and what is left are the whole, and no call has failed.
use Rattle.std.proofs.Common.{ℕ, List, length, ◌≡◌, ◌++◌}
use Rattle.byte_ends.specs.Seen.{Takes}
use Rattle.byte_ends.proofs.sink.write_all.Given as goal

abbrev pub invariant-loop-rest : goal.invariant-loop-rest
invariant-loop-rest g l =
    (done : List ℕ) × (l.bytes ≡ done ++ l.rest)
    × Takes (g.K.Sink.seen l.initial.sink) (g.K.Sink.seen l.sink) done

abbrev pub decreases-loop-rest : goal.decreases-loop-rest
decreases-loop-rest g l = length l.rest
