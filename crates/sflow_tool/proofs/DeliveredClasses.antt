-- Where a capture delivers what agents sent and the premises hold, the headers that count are those of the account: so are the
-- classes that are reported, and the briefs that consumers are fed.
use Rattle.std.proofs.Common.{◌≡◌, ℕ, Bool, List, [], ◌∷◌, map, Some, Result, Ok, Err, refl, ap, subst, ◌∙◌}
use Rattle.std.specs.Prelude.{reverse}
use Rattle.std.proofs.lemmas.List.{reverse-reverse}
use Rattle.wire_spec.specs.declared.fault.Fault.{Fault}
use Rattle.wire_spec.specs.declared.pad.Pad.TheVariants.{Any}
use Rattle.wire_spec.specs.Bytes.{AreBytes}
use Rattle.wire_spec.specs.Shapes.{Tree}
use Rattle.wire_spec.specs.Whole.{whole_reading}
use Rattle.wire_spec.specs.Captures.{Entry}
use Rattle.datagram_core.specs.Tables.{datagram_read}
use Rattle.byte_ends.specs.Seen.{Seen, Takes}
use Rattle.capture_spec.specs.Items.{Received, entry_of}
use Rattle.sflow_io.specs.CaptureSteps.{IsAllOf}
use Rattle.books_spec.specs.declared.limits.Limits.{Limits}
use Rattle.books_spec.specs.SampledHeaders.{HeaderedItem, first_headers}
use Rattle.account_spec.specs.Histories.{SubAgent, IsHistory}
use Rattle.account_spec.specs.Deliveries.{Delivery, Delivers}
use Rattle.account_spec.specs.Accounts.{account}
use Rattle.account_spec.specs.Premises.{Premises}
use Rattle.account_laws.proofs.Weaker.{lesser}
use Rattle.sample_taps.specs.declared.brief.Brief.{Brief}
use Rattle.sample_taps.specs.declared.class_totals.ClassTotals.{ClassTotals}
use Rattle.sample_taps.specs.Feeding.{Held}
use Rattle.sample_taps.specs.Briefs.{facts_in}
use Rattle.sample_taps.specs.Classes.{classes}
use Rattle.sample_taps.specs.BookBriefs.{brief_in}
use Rattle.delivered_items.specs.Accepted.{AreAccepted}
use Rattle.delivered_items.specs.PacketHeaders.{headered, IsHeaderReader, headers_by, headered_entry as sent_headered}
use Rattle.delivered_items.specs.AccountHeaders.{account_headers, account_briefs, account_classes}
use Rattle.delivered_items.specs.Readers.{item_by}
use Rattle.delivered_items.proofs.Read.{all-good}
use Rattle.delivered_items.proofs.Headers.{all-headered}
use Rattle.delivered_items.proofs.AccountHeaders.{headers-are}
use Rattle.flow_collector.specs.Items.{sample_in, samples_in}
use Rattle.flow_collector.specs.Headers.{headers_among, headers_of, headers_each, headered_of, headered_entry}
use Rattle.report_lines.specs.InterfaceLines.{report_with}
use Rattle.command_words.specs.declared.command.Command.{Command}
use Rattle.command_words.specs.declared.command.Command.TheVariants.{Replay}
use Rattle.command_runs.specs.declared.status.Status.{Status}
use Rattle.command_runs.specs.declared.status.Status.TheVariants.{Done}
use Rattle.command_runs.specs.Visits.{HasRead, HasVisited}
use Rattle.sflow_tool.specs.Headlines.{IsDelivered}
use Rattle.sflow_tool.specs.Performances.{Performs}
use Rattle.sflow_tool.specs.Surroundings.{Surroundings}
use Rattle.sflow_tool.specs.Replays.{briefs_in, classes_in, headered_items, headered_received}
use Rattle.sflow_tool.proofs.Headline.{reader, same_received, headline_of}
use Rattle.sflow_tool.proofs.Items.{map_reverse}

-- ---- the collector reads the headers that were sent

header_reader : IsHeaderReader headers_among headers_of headers_each
unfolding headers_of
header_reader = record {
  no_records = refl;
  raw_header = λ protocol frame_length stripped bytes more. refl;
  switch = λ vlan priority out_vlan out_priority more. refl;
  flow = λ n source rate pool drops input output own. refl;
  counters = λ n source reading. refl;
  expanded_flow = λ n class index rate pool drops in_form input out_form output own. refl;
  expanded_counters = λ n class index reading. refl;
  no_samples = refl;
  samples = λ t more. refl;
}

read_so : (arrival : ℕ) (r : Result Tree Fault)
    → headered_of arrival r ≡ record { item = item_by samples_in arrival r; headers = headers_by headers_each r }
read_so arrival (Ok t) = refl
read_so arrival (Err f) = refl

abbrev headered_at : Entry → HeaderedItem
headered_at e = headered_entry e.arrival e.bytes

each_read : (entries : List Entry) → map headered_at entries ≡ map (sent_headered samples_in headers_each) entries
each_read [] = refl
each_read (e ∷ more) = λ j. read_so e.arrival (whole_reading Any datagram_read e.bytes) j ∷ each_read more j

delivered_headers : (history : List SubAgent) (deliveries : List Delivery) (entries : List Entry) → IsHistory history
    → AreAccepted history → Delivers history deliveries entries → map headered_at entries ≡ map headered deliveries
delivered_headers history deliveries entries is accepted d =
    each_read entries
    ∙ ap (λ (es : List Entry). map (sent_headered samples_in headers_each) es) d.entries_are
    ∙ all-headered headers_among headers_of headers_each header_reader sample_in samples_in reader history deliveries
    (all-good history deliveries is accepted d.sent)

-- ---- entries in order of arrival

of_received : (es : List Received) → map headered_received es ≡ map headered_at (map entry_of es)
of_received [] = refl
of_received (e ∷ es) = ap (λ (items : List HeaderedItem). headered_received e ∷ items) (of_received es)

in_their_order : (received : List Received) (entries : List Entry) → map entry_of received ≡ reverse entries
    → headered_items received ≡ map headered_at entries
in_their_order received entries order =
    ap reverse (of_received received ∙ ap (map headered_at) order ∙ map_reverse headered_at entries)
    ∙ reverse-reverse (map headered_at entries)

-- Their items with their headers are those of the deliveries
pub headered_as_sent : (history : List SubAgent) (deliveries : List Delivery) (entries : List Entry) (received : List Received)
    → IsHistory history → AreAccepted history → Delivers history deliveries entries → map entry_of received ≡ reverse entries
    → headered_items received ≡ map headered deliveries
headered_as_sent history deliveries entries received is accepted delivers order =
    in_their_order received entries order ∙ delivered_headers history deliveries entries is accepted delivers

-- those that count are those of the account
first_as_sent : (l : Limits) (history : List SubAgent) (deliveries : List Delivery) (entries : List Entry)
    (received : List Received) → Premises l history deliveries → AreAccepted history → Delivers history deliveries entries
    → map entry_of received ≡ reverse entries → first_headers l (headered_items received) ≡ account_headers l deliveries
first_as_sent l history deliveries entries received premises accepted delivers order =
    ap (first_headers l) (headered_as_sent history deliveries entries received premises.history_is accepted delivers order)
    ∙ headers-are l history deliveries (lesser l history deliveries premises)

-- and so are the briefs
pub briefs_as_sent : (l : Limits) (history : List SubAgent) (deliveries : List Delivery) (entries : List Entry)
    (received : List Received) → Premises l history deliveries → AreAccepted history → Delivers history deliveries entries
    → map entry_of received ≡ reverse entries → briefs_in l received ≡ account_briefs l deliveries
briefs_as_sent l history deliveries entries received premises accepted delivers order =
    ap (map brief_in) (first_as_sent l history deliveries entries received premises accepted delivers order)

-- and the classes
pub classes_as_sent : (l : Limits) (history : List SubAgent) (deliveries : List Delivery) (entries : List Entry)
    (received : List Received) → Premises l history deliveries → AreAccepted history → Delivers history deliveries entries
    → map entry_of received ≡ reverse entries → classes_in l received ≡ account_classes l deliveries
classes_as_sent l history deliveries entries received premises accepted delivers order =
    ap (λ (briefs : List Brief). classes (map facts_in briefs))
    (briefs_as_sent l history deliveries entries received premises accepted delivers order)

-- ---- a run

pub delivered_headline : (c : Command) (l : Limits) (interfaces : Bool) (history : List SubAgent) (deliveries : List Delivery)
    (input : List ℕ) (before after : Surroundings) (status : Status) → Performs c before after status
    → Replay l interfaces ≡ c → status ≡ Done → AreBytes input → before.ends.source.told ≡ Some input
    → IsDelivered l history deliveries input
    → Takes before.ends.sink after.ends.sink
    (report_with interfaces (account l history deliveries) (account_classes l deliveries) after.taps)
delivered_headline c l interfaces history deliveries input before after status performed same done are told d =
    subst (λ (t : ClassTotals). Takes before.ends.sink after.ends.sink
    (report_with interfaces (account l history deliveries) t after.taps))
    (classes_as_sent l history deliveries d.entries d.capture.received d.premises d.accepted d.delivers d.capture.in_order)
    (headline_of c l interfaces history deliveries input before after status performed same done are told d)

-- what the consumers are fed
pub delivered_briefs : {X : Type 0} (step : X → Brief → X → Type 0) (done : X → Bool) (l : Limits) (history : List SubAgent)
    (deliveries : List Delivery) (input : List ℕ) (source source' : Seen) (status : Status) (briefs : List Brief) (xs ys : List X)
    → HasVisited (λ entries. briefs ≡ briefs_in l entries) source source' status → Held step done briefs xs ys
    → status ≡ Done → AreBytes input → source.told ≡ Some input → IsDelivered l history deliveries input
    → Held step done (account_briefs l deliveries) xs ys
delivered_briefs step done l history deliveries input source source' status briefs xs ys visited held ended are told d =
    let whole : IsAllOf visited.read.version visited.read.entries input =
    subst (HasRead input source'.told visited.read) ended (visited.reads input are told) in
    subst (λ (bs : List Brief). Held step done bs xs ys)
    (visited.were
    ∙ ap (briefs_in l) (same_received _ _ visited.read.entries d.capture.received input whole.capture d.capture.whole.capture)
    ∙ briefs_as_sent l history deliveries d.entries d.capture.received d.premises d.accepted d.delivers d.capture.in_order)
    held
