-- The four premises have tests.
use Rattle.std.proofs.Common.{ℕ, Bool, List, ◌++◌, map}
use Rattle.std.specs.Prelude.{◌==◌}
use Rattle.std.specs.Bool.{Decides}
use Rattle.std.specs.List.{AllByRecursion, list_all}
use Rattle.std.proofs.lemmas.Bool.Decides.{Decides-and, Decides-like, Decides-eqb}
use Rattle.books_spec.specs.declared.limits.Limits.{Limits}
use Rattle.books_spec.specs.Books.{totals}
use Rattle.agent_spec.specs.Sources.{Source}
use Rattle.account_spec.specs.Histories.{SubAgent, stream_in, flow_sources, counter_sources}
use Rattle.account_spec.specs.Deliveries.{Delivery, boot_of, number_of, deliveries_of, id_of, item}
use Rattle.account_spec.specs.Arrivals.{Arrived, source_boots}
use Rattle.account_spec.specs.Visible.{AreVisible}
use Rattle.account_spec.specs.Close.{AreCloseEach, AreCloseSamples}
use Rattle.account_spec.specs.Apparent.{AreApparent}
use Rattle.account_spec.specs.Premises.{OfEachSource, Visible, Close, Roomy, Apparent}
use Rattle.trial_spec.specs.VisibleTests.{are_visible}
use Rattle.trial_spec.specs.CloseTests.{are_close_each, are_close_samples}
use Rattle.trial_spec.specs.ApparentTests.{are_apparent}
use Rattle.trial_spec.specs.PremiseTests.{of_each_source, visible, close, roomy, apparent}
use Rattle.trial_spec.proofs.Tests.{decides-each}
use Rattle.trial_spec.proofs.VisibleTests.{decides-visible}
use Rattle.trial_spec.proofs.Newest.{decides-close-each}
use Rattle.trial_spec.proofs.CloseTests.{decides-samples}
use Rattle.trial_spec.proofs.ApparentTests.{decides-apparent}

decides-sources : (p : List Arrived → Bool) (P : List Arrived → Type 0) → ((xs : List Arrived) → Decides (p xs) (P xs))
    → (width : ℕ) (deliveries : List Delivery) (a : SubAgent)
    → Decides (of_each_source p width deliveries a) (OfEachSource P width deliveries a)
decides-sources p P each width deliveries a =
    decides-each (λ (s : Source). list_all p (source_boots width (id_of s) (deliveries_of (stream_in a) deliveries)))
    (λ (s : Source). AllByRecursion P (source_boots width (id_of s) (deliveries_of (stream_in a) deliveries)))
    (λ s. decides-each p P each (source_boots width (id_of s) (deliveries_of (stream_in a) deliveries)))
    (flow_sources a.setup ++ counter_sources a.setup)

pub visible-is : (l : Limits) (history : List SubAgent) (deliveries : List Delivery)
    → Decides (visible l history deliveries) (Visible l history deliveries)
visible-is l history deliveries =
    decides-each (λ (a : SubAgent). are_visible l.boot_slack (deliveries_of (stream_in a) deliveries))
    (λ (a : SubAgent). AreVisible l.boot_slack (deliveries_of (stream_in a) deliveries))
    (λ a. decides-visible l.boot_slack (deliveries_of (stream_in a) deliveries)) history

pub close-is : (l : Limits) (history : List SubAgent) (deliveries : List Delivery)
    → Decides (close l history deliveries) (Close l history deliveries)
close-is l history deliveries =
    Decides-like (close l history deliveries)
    (λ h. record { datagrams = h.0; samples = h.1 }) (λ h. (h.datagrams, h.samples))
    (Decides-and
    (list_all (λ (a : SubAgent). are_close_each boot_of number_of (deliveries_of (stream_in a) deliveries)) history)
    (list_all (of_each_source (are_close_samples l.sample_width) l.datagram_width deliveries) history)
    (decides-each (λ (a : SubAgent). are_close_each boot_of number_of (deliveries_of (stream_in a) deliveries))
    (λ (a : SubAgent). AreCloseEach boot_of number_of (deliveries_of (stream_in a) deliveries))
    (λ a. decides-close-each boot_of number_of (deliveries_of (stream_in a) deliveries)) history)
    (decides-each (of_each_source (are_close_samples l.sample_width) l.datagram_width deliveries)
    (OfEachSource (AreCloseSamples l.sample_width) l.datagram_width deliveries)
    (decides-sources (are_close_samples l.sample_width) (AreCloseSamples l.sample_width) (decides-samples l.sample_width)
    l.datagram_width deliveries) history))

pub roomy-is : (l : Limits) (deliveries : List Delivery) → Decides (roomy l deliveries) (Roomy l deliveries)
roomy-is l deliveries =
    Decides-like (roomy l deliveries)
    (λ h. record { streams = h.0; samples = h.1 }) (λ h. (h.streams, h.samples))
    (Decides-and ((totals l (map item deliveries)).unlisted == 0) ((totals l (map item deliveries)).unlisted_samples == 0)
    (Decides-eqb (totals l (map item deliveries)).unlisted 0)
    (Decides-eqb (totals l (map item deliveries)).unlisted_samples 0))

pub apparent-is : (l : Limits) (history : List SubAgent) (deliveries : List Delivery)
    → Decides (apparent l history deliveries) (Apparent l history deliveries)
apparent-is l history deliveries =
    decides-each (of_each_source are_apparent l.datagram_width deliveries)
    (OfEachSource AreApparent l.datagram_width deliveries)
    (decides-sources are_apparent AreApparent decides-apparent l.datagram_width deliveries) history
