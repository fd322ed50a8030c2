-- The account: what a collector is to show, by the agents' own numbers of what was delivered.
-- Deliveries and samples have the LATEST FIRST, boots and generations the current one first; what is listed stands in
-- order of first arrival.
use Rattle.std.specs.Prelude.{ℕ, ◌+◌, ◌-◌, Bool, true, false, cond, not, ◌&&◌, List, [], ◌∷◌, length, map, None}
use Rattle.std.specs.List.{sum_by, position_or_len}
use Rattle.count_spec.specs.Rise.{NumberedValue, value_at_greatest, value_at_least}
use Rattle.count_spec.specs.TrueStretches.{is_past, stretch_of, true_stretches, past_items}
use Rattle.books_spec.specs.declared.limits.Limits.{Limits}
use Rattle.books_spec.specs.declared.ledger_view.LedgerView.{LedgerView}
use Rattle.books_spec.specs.declared.source_view.SourceLedgerView.{SourceLedgerView}
use Rattle.books_spec.specs.Items.{Stream, Source}
use Rattle.books_spec.specs.Listing.{same_stream, same_id, same_source, first_arrivals}
use Rattle.books_spec.specs.Views.{Figures, sum_over, view_with}
use Rattle.books_spec.specs.Books.{onto, StreamBooks}
use Rattle.books_spec.specs.SourceViews.{over_boots}
use Rattle.books_spec.specs.WholeBooks.{SourceLine, WholeBooks, whole_books}
use Rattle.agent_spec.specs.Sources.{FlowSetup}
use Rattle.agent_spec.specs.Samples.{Sample}
use Rattle.account_spec.specs.Histories.{SubAgent, agent_of}
use Rattle.account_spec.specs.Deliveries.{Delivery, boot_of, numbers_of, deliveries_of, id_of, id_in, item}
use Rattle.account_spec.specs.TrueNumbers.{is_late, true_figures}
use Rattle.account_spec.specs.Arrivals.{Arrived, generation_of, sample_number, sample_numbers, is_first_in_time, source_boots}

-- ---- streams

-- the boots of a sub-agent that were delivered in time
abbrev pub boots_of : List Delivery → List (List Delivery)
boots_of deliveries = true_stretches boot_of deliveries

-- each datagram once; and what was pending in an earlier boot is lost
abbrev pub stream_figures : ℕ → List Delivery → Figures
stream_figures width deliveries =
    sum_over (map (λ boot. true_figures width (numbers_of boot)) (boots_of deliveries))

abbrev pub stream_account : Limits → List Delivery → Stream → StreamBooks
stream_account l deliveries stream =
    let own : List Delivery = deliveries_of stream deliveries in
    record {
      stream = stream;
      boots = length (boots_of own);
      view = view_with (stream_figures l.datagram_width own) 0 0 0;
      stale = length (past_items boot_of own);
    }

-- ---- sources

-- the generations of a source in all boots, of which all but the first are closed
abbrev pub generations_of : List (List Arrived) → List (List Arrived)
generations_of boots = over_boots (map (true_stretches generation_of) boots)

-- of one generation: no sample is delivered twice
abbrev pub generation_figures : ℕ → List Arrived → Figures
generation_figures width samples = record (true_figures width (sample_numbers samples)) { repeated = 0 }

-- the samples of a generation that came in time
abbrev pub kept : ℕ → List Arrived → List Arrived
kept width [] = []
kept width (x ∷ before) =
    cond (is_late width (sample_numbers before) (sample_number x)) (kept width before) (x ∷ kept width before)

-- a true value of each, at its number
abbrev pub values : (Arrived → ℕ) → List Arrived → List NumberedValue
values value samples = map (λ (x : Arrived). record { number = sample_number x; value = value x }) samples

-- the true value at the newest less that at the least
abbrev pub difference : (Arrived → ℕ) → ℕ → List Arrived → ℕ
difference value width samples =
    value_at_greatest (values value (kept width samples)) - value_at_least (values value (kept width samples))

abbrev pub differences : (Arrived → ℕ) → ℕ → List (List Arrived) → ℕ
differences value width generations = sum_by (difference value width) generations

abbrev pub pool_of : Arrived → ℕ
pool_of x = x.sample.pool

abbrev pub drops_of : Arrived → ℕ
drops_of x = x.sample.drops

abbrev pub figures_over : ℕ → List (List Arrived) → Figures
figures_over width generations = sum_over (map (generation_figures width) generations)

-- of flow samples; the rate is that of the set-up
abbrev pub ledger_account : Bool → ℕ → ℕ → List (List Arrived) → LedgerView
ledger_account true width rate generations = view_with (figures_over width generations)
    (differences pool_of width generations) (differences drops_of width generations) rate
ledger_account false width rate generations = view_with (figures_over width generations) 0 0 0

-- each generation that was delivered has a sample in time, its first one
abbrev pub source_account : Bool → ℕ → ℕ → List (List Arrived) → SourceLedgerView
source_account flow width rate boots = record {
  generations = sum_by (λ boot. length (true_stretches generation_of boot)) boots;
  ledger = ledger_account flow width rate (generations_of boots);
  stale = sum_by (λ boot. length (past_items generation_of boot)) boots;
}

-- ---- what is listed: the sub-agents of which a datagram was delivered, and the sources of which a sample was

abbrev pub delivered_streams : List Delivery → List Stream
delivered_streams deliveries = first_arrivals same_stream (map (λ (d : Delivery). d.stream) deliveries)

-- whether a delivery, after these of its sub-agent, is the first in time of its datagram
abbrev pub is_delivered : ℕ → List Delivery → Delivery → Bool
is_delivered width before d =
    not (is_past boot_of before d) && is_first_in_time width (stretch_of boot_of d.boot before) d

abbrev pub source_in : Stream → Sample → Source
source_in stream s = record { stream = stream; id = id_in s }

abbrev pub sources_with : Bool → Delivery → List Source
sources_with true d = map (source_in d.stream) d.datagram.samples
sources_with false d = []

-- the source of each sample that is delivered
abbrev pub sample_sources : ℕ → List Delivery → List Source
sample_sources width [] = []
sample_sources width (d ∷ before) =
    onto (sources_with (is_delivered width (deliveries_of d.stream before) d) d) (sample_sources width before)

abbrev pub delivered_sources : ℕ → List Delivery → List Source
delivered_sources width deliveries = first_arrivals same_source (sample_sources width deliveries)

-- ---- all that is shown

-- the rate of a source; 0 where it has no flow samples
abbrev pub rate_among : List FlowSetup → Source → ℕ
rate_among [] source = 0
rate_among (f ∷ more) source = cond (same_id (id_of f.source) source.id) f.rate (rate_among more source)

abbrev pub line_account : Limits → List SubAgent → List Delivery → Source → SourceLine
line_account l history deliveries source = record {
  stream = position_or_len (same_stream source.stream) (delivered_streams deliveries) + 1;
  id = source.id;
  view = source_account source.id.flow l.sample_width
      (rate_among (agent_of history source.stream).setup.flows source)
      (source_boots l.datagram_width source.id (deliveries_of source.stream deliveries));
}

-- nothing is malformed, of another format, or unlisted; interface counters show the rise that the entries have
abbrev pub account : Limits → List SubAgent → List Delivery → WholeBooks
account l history deliveries = record {
  totals = record {
    entries = length deliveries;
    malformed = 0;
    unlisted = 0;
    unlisted_samples = 0;
    other = 0;
    first_fault = None;
  };
  streams = map (stream_account l deliveries) (delivered_streams deliveries);
  sources = map (line_account l history deliveries) (delivered_sources l.datagram_width deliveries);
  interfaces = (whole_books l (map item deliveries)).interfaces;
}
