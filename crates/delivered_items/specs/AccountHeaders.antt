-- The headers of the account: those of the flow samples that were delivered in time, by the agents' own numbers, each sample
-- once; and what they feed consumers.
-- Deliveries and samples have the LATEST FIRST, but the samples of a datagram stand in its order; headers and briefs stand
-- in order of arrival.
use Rattle.std.specs.Prelude.{ℕ, ◌+◌, Bool, not, ◌&&◌, cond, List, [], ◌∷◌, ◌++◌, map}
use Rattle.std.specs.List.{filter, position_or_len, sum_by}
use Rattle.count_spec.specs.TrueStretches.{is_past, stretch_of}
use Rattle.books_spec.specs.declared.limits.Limits.{Limits}
use Rattle.books_spec.specs.Items.{SourceId}
use Rattle.books_spec.specs.Listing.{same_stream, same_id}
use Rattle.books_spec.specs.SampledHeaders.{FirstHeader, header_from}
use Rattle.books_spec.specs.WholeBooks.{SourceLine, WholeBooks}
use Rattle.agent_spec.specs.Samples.{Sample}
use Rattle.account_spec.specs.Deliveries.{Delivery, boot_of, number_of, deliveries_of, id_in, reading_shown}
use Rattle.account_spec.specs.TrueNumbers.{is_late}
use Rattle.account_spec.specs.Arrivals.{Arrived, generation_of, sample_number, sample_numbers, arrived_from, arrived}
use Rattle.account_spec.specs.Accounts.{is_delivered, delivered_streams}
use Rattle.sample_taps.specs.declared.brief.Brief.{Brief}
use Rattle.sample_taps.specs.declared.class_totals.ClassTotals.{ClassTotals}
use Rattle.sample_taps.specs.Briefs.{facts_in}
use Rattle.sample_taps.specs.Classes.{classes}
use Rattle.sample_taps.specs.BookBriefs.{brief_in}
use Rattle.delivered_items.specs.PacketHeaders.{sample_headers}

-- ---- one sample

abbrev pub is_of : SourceId → Arrived → Bool
is_of id x = same_id id (id_in x.sample)

-- whether a sample is in time after these of its source in its boot: none of a later generation came before it, and its
-- number isn't late among those of its own
abbrev pub is_in_time : ℕ → List Arrived → Arrived → Bool
is_in_time width before x =
    not (is_past generation_of before x)
    && not (is_late width (sample_numbers (stretch_of generation_of (generation_of x) before)) (sample_number x))

-- its headers, with the number of its stream
abbrev pub headers_with : ℕ → Sample → List FirstHeader
headers_with stream s = map (header_from stream (id_in s) (reading_shown s)) (sample_headers s)

-- ---- all samples

-- the headers of the samples of a datagram, in its order, behind these samples of its boot
abbrev pub headers_each : ℕ → ℕ → List Arrived → List Arrived → List FirstHeader
headers_each width stream before [] = []
headers_each width stream before (x ∷ more) =
    cond (is_in_time width (filter (is_of (id_in x.sample)) before) x) (headers_with stream x.sample) []
    ++ headers_each width stream (x ∷ before) more

-- the number of the stream of a delivery, in order of first arrival
abbrev pub number_shown : List Delivery → Delivery → ℕ
number_shown before d = position_or_len (same_stream d.stream) (delivered_streams (d ∷ before)) + 1

-- the headers of a delivery after these: where it is the first one in time of its datagram
abbrev pub headers_brought : Limits → List Delivery → Delivery → List FirstHeader
headers_brought l before d =
    let own : List Delivery = deliveries_of d.stream before in
    cond (is_delivered l.datagram_width own d)
    (headers_each l.sample_width (number_shown before d)
    (arrived l.datagram_width (stretch_of boot_of d.boot own))
    (arrived_from d.boot (number_of d) 0 d.datagram.samples)) []

abbrev pub account_headers : Limits → List Delivery → List FirstHeader
account_headers l [] = []
account_headers l (d ∷ before) = account_headers l before ++ headers_brought l before d

-- ---- what they feed

abbrev pub account_briefs : Limits → List Delivery → List Brief
account_briefs l deliveries = map brief_in (account_headers l deliveries)

-- how many of them are of each class
abbrev pub account_classes : Limits → List Delivery → ClassTotals
account_classes l deliveries = classes (map facts_in (account_briefs l deliveries))

-- ---- what the lines say

-- how many samples the flow sources received
abbrev pub flow_samples_received : WholeBooks → ℕ
flow_samples_received b = sum_by (λ (line : SourceLine). cond line.id.flow line.view.ledger.received 0) b.sources
