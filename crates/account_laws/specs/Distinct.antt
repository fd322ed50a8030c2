-- How many samples of a source the delivered datagrams hold, each counted once. Every list has the LATEST FIRST.
use Rattle.std.specs.Prelude.{◌≡◌, ℕ, ◌&&◌, ◌==◌, Bool, cond, List, [], ◌∷◌, ◌++◌, length}
use Rattle.std.specs.List.{filter, list_any}
use Rattle.books_spec.specs.declared.limits.Limits.{Limits}
use Rattle.books_spec.specs.Items.{SourceId, Source}
use Rattle.books_spec.specs.Listing.{same_id}
use Rattle.account_spec.specs.Histories.{SubAgent}
use Rattle.account_spec.specs.Deliveries.{Delivery, number_of, id_in}
use Rattle.account_spec.specs.Arrivals.{Arrived, generation_of, arrived_from}
use Rattle.account_spec.specs.Accounts.{stream_account, line_account}

-- the samples of a source in a delivered datagram
abbrev pub held_by : SourceId → Delivery → List Arrived
held_by id d = filter (λ (x : Arrived). same_id id (id_in x.sample)) (arrived_from d.boot (number_of d) 0 d.datagram.samples)

abbrev pub all_held : SourceId → List Delivery → List Arrived
all_held id [] = []
all_held id (d ∷ before) = held_by id d ++ all_held id before

-- samples of a source are the same where their boots, generations and numbers are
abbrev pub same_sample : Arrived → Arrived → Bool
same_sample x y =
    (x.boot == y.boot) && (generation_of x == generation_of y) && (x.sample.number == y.sample.number)

abbrev pub each_once : List Arrived → List Arrived
each_once [] = []
each_once (x ∷ before) = cond (list_any (same_sample x) before) (each_once before) (x ∷ each_once before)

abbrev pub distinct_samples : SourceId → List Delivery → ℕ
distinct_samples id deliveries = length (each_once (all_held id deliveries))

-- no delivery of the sub-agent and no sample of the source is stale or late
pub record AreAllInTime (l : Limits) (history : List SubAgent) (deliveries : List Delivery) (source : Source) : Type 0 where
  pub stale : (stream_account l deliveries source.stream).stale ≡ 0
  pub late : (stream_account l deliveries source.stream).view.late ≡ 0
  pub stale_samples : (line_account l history deliveries source).view.stale ≡ 0
  pub late_samples : (line_account l history deliveries source).view.ledger.late ≡ 0
