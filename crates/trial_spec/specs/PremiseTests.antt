-- The four premises as tests, for each sub-agent and each of its sources. Deliveries have the LATEST FIRST.
use Rattle.std.specs.Prelude.{ℕ, ◌==◌, Bool, ◌&&◌, List, ◌++◌, map}
use Rattle.std.specs.List.{list_all}
use Rattle.books_spec.specs.declared.limits.Limits.{Limits}
use Rattle.books_spec.specs.Books.{totals}
use Rattle.agent_spec.specs.Sources.{Source}
use Rattle.account_spec.specs.Histories.{SubAgent, stream_in, flow_sources, counter_sources}
use Rattle.account_spec.specs.Deliveries.{Delivery, boot_of, number_of, deliveries_of, id_of, item}
use Rattle.account_spec.specs.Arrivals.{Arrived, source_boots}
use Rattle.trial_spec.specs.VisibleTests.{are_visible}
use Rattle.trial_spec.specs.CloseTests.{are_close_each, are_close_samples}
use Rattle.trial_spec.specs.ApparentTests.{are_apparent}

-- whether this holds of the samples of each source in each boot
abbrev pub of_each_source : (List Arrived → Bool) → ℕ → List Delivery → SubAgent → Bool
of_each_source p width deliveries a =
    list_all (λ (s : Source). list_all p (source_boots width (id_of s) (deliveries_of (stream_in a) deliveries)))
    (flow_sources a.setup ++ counter_sources a.setup)

-- restarts show in uptime
abbrev pub visible : Limits → List SubAgent → List Delivery → Bool
visible l history deliveries =
    list_all (λ (a : SubAgent). are_visible l.boot_slack (deliveries_of (stream_in a) deliveries)) history

-- fewer than 2^31 numbers separate receipts, and pools and drops rise by less than 2^32
abbrev pub close : Limits → List SubAgent → List Delivery → Bool
close l history deliveries =
    list_all (λ (a : SubAgent). are_close_each boot_of number_of (deliveries_of (stream_in a) deliveries)) history
    && list_all (of_each_source (are_close_samples l.sample_width) l.datagram_width deliveries) history

-- each stream and each source is listed
abbrev pub roomy : Limits → List Delivery → Bool
roomy l deliveries =
    ((totals l (map item deliveries)).unlisted == 0) && ((totals l (map item deliveries)).unlisted_samples == 0)

-- resets show in numbers and their order
abbrev pub apparent : Limits → List SubAgent → List Delivery → Bool
apparent l history deliveries = list_all (of_each_source are_apparent l.datagram_width deliveries) history
