use Rattle.std.proofs.Common.{◌≡◌, ℕ, List, [], take, length}
use Rattle.books_spec.specs.Items.{SourceId}
use Rattle.trial_premises.specs.Pairs.{Each}
use Rattle.trial_premises.specs.Streams.{StreamState, StandsFor}
use Rattle.trial_premises.proofs.streams.new_streams.Given as goal

abbrev pub invariant-loop-count : goal.invariant-loop-count
invariant-loop-count l = Each (λ (n : ℕ) (s : StreamState). (ids : List SourceId) → length ids ≡ n
    → StandsFor l.limits ids s []) (take l.count-index l.sources) l.streams.items
