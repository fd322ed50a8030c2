-- What is assumed of a history and of what is delivered of it, so that what a collector shows is the account: for each
-- sub-agent, and for each of its sources. Deliveries have the LATEST FIRST.
use Rattle.std.specs.Prelude.{ℕ, List, ◌++◌, map}
use Rattle.std.specs.List.{AllByRecursion}
use Rattle.books_spec.specs.declared.limits.Limits.{Limits}
use Rattle.books_spec.specs.Parting.{ListsAll}
use Rattle.agent_spec.specs.Sources.{Source}
use Rattle.account_spec.specs.Histories.{SubAgent, stream_in, flow_sources, counter_sources, IsHistory}
use Rattle.account_spec.specs.Deliveries.{Delivery, boot_of, number_of, deliveries_of, id_of, AreSent, item}
use Rattle.account_spec.specs.Arrivals.{Arrived, source_boots}
use Rattle.account_spec.specs.Visible.{AreVisible}
use Rattle.account_spec.specs.Close.{AreCloseEach, AreCloseSamples}
use Rattle.account_spec.specs.Apparent.{AreApparent}

-- this holds of the samples of each source in each boot
abbrev pub OfEachSource : (List Arrived → Type 0) → ℕ → List Delivery → SubAgent → Type 0
OfEachSource P width deliveries a =
    AllByRecursion (λ (s : Source). AllByRecursion P (source_boots width (id_of s) (deliveries_of (stream_in a) deliveries)))
    (flow_sources a.setup ++ counter_sources a.setup)

-- restarts show in uptime
abbrev pub Visible : Limits → List SubAgent → List Delivery → Type 0
Visible l history deliveries =
    AllByRecursion (λ (a : SubAgent). AreVisible l.boot_slack (deliveries_of (stream_in a) deliveries)) history

-- fewer than 2^31 numbers separate receipts, and pools and drops rise by less than 2^32
pub record Close (l : Limits) (history : List SubAgent) (deliveries : List Delivery) : Type 0 where
  pub datagrams : AllByRecursion
      (λ (a : SubAgent). AreCloseEach boot_of number_of (deliveries_of (stream_in a) deliveries)) history
  pub samples : AllByRecursion
      (OfEachSource (AreCloseSamples l.sample_width) l.datagram_width deliveries) history

-- resets show in numbers and their order
abbrev pub Apparent : Limits → List SubAgent → List Delivery → Type 0
Apparent l history deliveries = AllByRecursion (OfEachSource AreApparent l.datagram_width deliveries) history

-- each stream and each source is listed
abbrev pub Roomy : Limits → List Delivery → Type 0
Roomy l deliveries = ListsAll l (map item deliveries)

pub record Premises (l : Limits) (history : List SubAgent) (deliveries : List Delivery) : Type 0 where
  pub history_is : IsHistory history
  pub sent : AreSent history deliveries
  pub visible : Visible l history deliveries
  pub close : Close l history deliveries
  pub roomy : Roomy l deliveries
  pub apparent : Apparent l history deliveries
