-- The premises of a history, and the deliveries for which what is kept stands: the LATEST FIRST.
use Rattle.std.specs.Prelude.{◌≡◌, ℕ, Bool, List, length}
use Rattle.books_spec.specs.declared.limits.Limits.{Limits}
use Rattle.account_spec.specs.Histories.{SubAgent}
use Rattle.account_spec.specs.Deliveries.{Delivery}
use Rattle.trial_premises.specs.Pairs.{Each}
use Rattle.trial_premises.specs.Streams.{StreamState, sources_of, StreamsStand}

pub record PremiseState : Type 0 where
  pub limits : Limits
  -- by their places
  pub streams : List StreamState
  -- whether there was no memory for a delivery
  pub spent : Bool

pub record StandsFor (s : PremiseState) (history : List SubAgent) (deliveries : List Delivery) : Type 0 where
  pub streams_stand : StreamsStand s.limits history s.streams deliveries

-- the sub-agents have so many sources
abbrev pub HaveSources : List SubAgent → List ℕ → Type 0
HaveSources history counts = Each (λ (a : SubAgent) (n : ℕ). length (sources_of a) ≡ n) history counts
