use Rattle.std.proofs.Common.{◌≡◌, ◌≤◌, List, ◌∷◌, drop, pos}
use Rattle.agent_spec.specs.Samples.{Sample}
use Rattle.books_spec.specs.Items.{SourceId}
use Rattle.books_spec.specs.Books.{onto}
use Rattle.books_spec.specs.Listing.{same_id, AreDistinct}
use Rattle.account_spec.specs.Arrivals.{Arrived, arrived_from}
use Rattle.trial_premises.specs.Delivered.{AreSamples}
use Rattle.trial_premises.specs.Streams.{SourcesStand, samples_of}
use Rattle.trial_premises.proofs.streams.enter_samples.Given as goal

abbrev pub invariant-loop-index : goal.invariant-loop-index
invariant-loop-index l = (ids : List SourceId) (given : List Sample) (before : List Arrived)
    (closed : SourceId → List (List Arrived)) → AreDistinct same_id ids → 1 ≤ l.boot → AreSamples ids l.samples given
    → SourcesStand l.width l.boot (λ id. samples_of id before ∷ closed id) ids l.initial.sources.items
    → (done : List Arrived) × (SourcesStand l.width l.boot (λ id. samples_of id done ∷ closed id) ids l.sources.items)
    × (onto (arrived_from l.boot (pos l.number) l.index (drop l.index given)) done
    ≡ onto (arrived_from l.boot (pos l.number) 0 given) before)
