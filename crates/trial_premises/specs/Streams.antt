-- A sub-agent, and the deliveries for which what is kept of it stands: the LATEST FIRST.
use Rattle.std.specs.Prelude.{◌≡◌, ℕ, ◌≤◌, Bool, ◌++◌, List, map}
use Rattle.std.specs.List.{filter, AllByRecursion, list_all}
use Rattle.count_spec.specs.TrueStretches.{newest_index, true_stretches}
use Rattle.books_spec.specs.declared.limits.Limits.{Limits}
use Rattle.books_spec.specs.Items.{SourceId}
use Rattle.books_spec.specs.Listing.{same_id}
use Rattle.agent_spec.specs.Sources.{Source}
use Rattle.account_spec.specs.Histories.{SubAgent, stream_in, flow_sources, counter_sources}
use Rattle.account_spec.specs.Deliveries.{Delivery, boot_of, numbers_of, deliveries_of, id_of, id_in}
use Rattle.account_spec.specs.Arrivals.{Arrived, source_boots}
use Rattle.trial_premises.specs.Pairs.{Each}
use Rattle.trial_premises.specs.Boots.{BootState}
use Rattle.trial_premises.specs.Boots as boots
use Rattle.trial_premises.specs.Window.{WindowState}
use Rattle.trial_premises.specs.Window as window
use Rattle.trial_premises.specs.Samples.{SourceState}
use Rattle.trial_premises.specs.Sources.{current_of}
use Rattle.trial_premises.specs.Sources as sources

pub record StreamState : Type 0 where
  pub boots : BootState
  pub window : WindowState
  -- by their places
  pub sources : List SourceState

-- the sources stand for what came of each in each boot, of which the current one has this number
abbrev pub SourcesStand : ℕ → ℕ → (SourceId → List (List Arrived)) → List SourceId → List SourceState → Type 0
SourcesStand width boot boots_of ids states =
    Each (λ (id : SourceId) (s : SourceState). sources.StandsFor width boot s (boots_of id)) ids states

-- those of these samples that are of a source
abbrev pub samples_of : SourceId → List Arrived → List Arrived
samples_of id samples = filter (λ (x : Arrived). same_id id (id_in x.sample)) samples

-- of sources that have these ids
pub record StandsFor (l : Limits) (ids : List SourceId) (s : StreamState) (deliveries : List Delivery) : Type 0 where
  pub boots_stand : boots.StandsFor l.boot_slack s.boots deliveries
  pub numbered : AllByRecursion (λ (d : Delivery). 1 ≤ boot_of d) deliveries
  pub width_is : s.window.width ≡ l.datagram_width
  pub window_stands : window.StandsFor s.window (numbers_of (current_of (true_stretches boot_of deliveries)))
  pub sources_stand : SourcesStand l.sample_width (newest_index boot_of deliveries)
      (λ (id : SourceId). source_boots l.datagram_width id deliveries) ids s.sources

-- the sources of a sub-agent in the order of their places
abbrev pub sources_of : SubAgent → List Source
sources_of a = flow_sources a.setup ++ counter_sources a.setup

abbrev pub ids_of : SubAgent → List SourceId
ids_of a = map id_of (sources_of a)

-- what is kept of each sub-agent stands for its deliveries
abbrev pub StreamsStand : Limits → List SubAgent → List StreamState → List Delivery → Type 0
StreamsStand l history states deliveries =
    Each (λ (a : SubAgent) (s : StreamState). StandsFor l (ids_of a) s (deliveries_of (stream_in a) deliveries)) history states

-- ---- answers

abbrev pub is_visible : StreamState → Bool
is_visible s = s.boots.visible

abbrev pub is_close : StreamState → Bool
is_close s = s.boots.close

abbrev pub are_close : StreamState → Bool
are_close s = list_all (λ (x : SourceState). x.close) s.sources

abbrev pub are_apparent : StreamState → Bool
are_apparent s = list_all (λ (x : SourceState). x.apparent) s.sources
