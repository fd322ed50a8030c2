-- Where a capture delivers what agents sent and the premises hold, a report is that of the agents' account.
use Rattle.std.proofs.Common.{◌≡◌, ℕ, Bool, List, [], ◌∷◌, map, Some, Result, Ok, Err, refl, sym, ap, subst, ◌∙◌}
use Rattle.std.specs.Prelude.{reverse}
use Rattle.std.proofs.lemmas.List.{reverse-reverse}
use Rattle.wire_spec.specs.declared.fault.Fault.{Fault}
use Rattle.wire_spec.specs.Bytes.{AreBytes}
use Rattle.wire_spec.specs.Shapes.{Tree}
use Rattle.wire_spec.specs.declared.pad.Pad.TheVariants.{Any}
use Rattle.wire_spec.specs.Whole.{whole_reading}
use Rattle.wire_spec.specs.Captures.{Entry}
use Rattle.datagram_core.specs.Tables.{datagram_read}
use Rattle.byte_ends.specs.Seen.{Takes}
use Rattle.capture_spec.specs.declared.capture_version.CaptureVersion.{CaptureVersion}
use Rattle.capture_spec.specs.Items.{Received, entry_of}
use Rattle.capture_spec.specs.VersionedCaptures.{ReceivedAll, ReceivedOutcome}
use Rattle.capture_spec.proofs.VersionedOutcomes.{outcome_back}
use Rattle.books_spec.specs.Items.{Item}
use Rattle.books_spec.specs.WholeBooks.{WholeBooks, whole_books}
use Rattle.books_spec.specs.declared.limits.Limits.{Limits}
use Rattle.account_spec.specs.Histories.{SubAgent, IsHistory}
use Rattle.account_spec.specs.Deliveries.{Delivery, Delivers, item}
use Rattle.account_spec.specs.Accounts.{account}
use Rattle.account_laws.proofs.Weaker.{lesser}
use Rattle.account_laws.proofs.Whole.{books-are}
use Rattle.delivered_items.specs.Accepted.{AreAccepted}
use Rattle.delivered_items.specs.Readers.{IsReader, item_by, entry_item as delivered_item}
use Rattle.delivered_items.proofs.Read.{all-good, all-items}
use Rattle.flow_collector.specs.Items.{sample_in, samples_in, item_of, item_in}
use Rattle.sample_taps.specs.declared.class_totals.ClassTotals.{ClassTotals}
use Rattle.report_lines.specs.HeaderLines.{ShownTaps}
use Rattle.report_lines.specs.InterfaceLines.{report_with}
use Rattle.command_runs.specs.Grammars.{Capture, captures}
use Rattle.command_runs.specs.Outside.{Outside}
use Rattle.command_runs.specs.Runs.{Runs}
use Rattle.command_words.specs.declared.command.Command.{Command}
use Rattle.command_words.specs.declared.command.Command.TheVariants.{Replay}
use Rattle.command_runs.specs.declared.status.Status.{Status}
use Rattle.command_runs.specs.declared.status.Status.TheVariants.{Done}
use Rattle.sflow_tool.specs.Headlines.{IsDelivered}
use Rattle.sflow_tool.specs.Performances.{Performs}
use Rattle.sflow_tool.specs.Surroundings.{Surroundings}
use Rattle.sflow_tool.specs.Replays.{classes_in, entry_item, items_in, replay_act, report_of}
use Rattle.sflow_tool.proofs.Items.{map_reverse}

-- ---- the collector reads what was sent

pub reader : IsReader sample_in samples_in
unfolding sample_in
reader = record {
  flow = λ n source rate pool drops input output records. refl;
  counters = λ n source reading. refl;
  expanded_flow = λ n class index rate pool drops in_form input out_form output records. refl;
  expanded_counters = λ n class index reading. refl;
  no_samples = refl;
  samples = λ t more. refl;
}

read_so : (arrival : ℕ) (r : Result Tree Fault) → item_of arrival r ≡ item_by samples_in arrival r
read_so arrival (Ok t) = refl
read_so arrival (Err f) = refl

abbrev pub item_at : Entry → Item
item_at e = item_in e.arrival e.bytes

each_read : (entries : List Entry) → map item_at entries ≡ map (delivered_item samples_in) entries
each_read [] = refl
each_read (e ∷ more) = λ j. read_so e.arrival (whole_reading Any datagram_read e.bytes) j ∷ each_read more j

pub delivered : (history : List SubAgent) (deliveries : List Delivery) (entries : List Entry) → IsHistory history
    → AreAccepted history → Delivers history deliveries entries → map item_at entries ≡ map item deliveries
delivered history deliveries entries is accepted d =
    each_read entries
    ∙ ap (λ (es : List Entry). map (delivered_item samples_in) es) d.entries_are
    ∙ all-items sample_in samples_in reader history deliveries (all-good history deliveries is accepted d.sent)

-- ---- the entries of a capture

abbrev entries_in : ReceivedOutcome → List Received
entries_in (Ok capture) = capture.1
entries_in (Err fault) = []

-- bytes are a capture of one list of entries
pub same_received : (v w : CaptureVersion) (es fs : List Received) (input : List ℕ) → ReceivedAll v es input
    → ReceivedAll w fs input → es ≡ fs
same_received v w es fs input one other =
    ap entries_in (sym (outcome_back input (Ok (v, es)) one) ∙ outcome_back input (Ok (w, fs)) other)

of_received : (es : List Received) → map entry_item es ≡ map item_at (map entry_of es)
of_received [] = refl
of_received (e ∷ es) = ap (λ items. entry_item e ∷ items) (of_received es)

pub in_their_order : (received : List Received) (entries : List Entry) → map entry_of received ≡ reverse entries
    → items_in received ≡ map item_at entries
in_their_order received entries order =
    ap reverse (of_received received ∙ ap (map item_at) order ∙ map_reverse item_at entries)
    ∙ reverse-reverse (map item_at entries)

-- ---- a run

pub headline : (l : Limits) (interfaces : Bool) (taps : ShownTaps) (history : List SubAgent) (deliveries : List Delivery)
    (input : List ℕ) (before after : Outside) → Runs captures (replay_act l interfaces taps) before after Done
    → AreBytes input → before.source.told ≡ Some input → (d : IsDelivered l history deliveries input)
    → Takes before.sink after.sink
    (report_with interfaces (account l history deliveries) (classes_in l d.capture.received) taps)
unfolding report_of
headline l interfaces taps history deliveries input before after ran are told d =
    let wrote = ran.ends input are told in
    let read : Capture = wrote.read in
    let same : read.entries ≡ d.capture.received =
    same_received _ _ _ _ input wrote.reads.all.capture d.capture.whole.capture in
    let items : items_in read.entries ≡ map item deliveries =
    ap items_in same ∙ in_their_order d.capture.received d.entries d.capture.in_order
    ∙ delivered history deliveries d.entries d.premises.history_is d.accepted d.delivers in
    let books : whole_books l (items_in read.entries) ≡ account l history deliveries =
    ap (whole_books l) items ∙ books-are l history deliveries (lesser l history deliveries d.premises) in
    let classes : classes_in l read.entries ≡ classes_in l d.capture.received = ap (classes_in l) same in
    subst (λ (text : List ℕ). Takes before.sink after.sink text)
    (ap (λ (b : WholeBooks). report_with interfaces b (classes_in l read.entries) taps) books
    ∙ ap (λ (t : ClassTotals). report_with interfaces (account l history deliveries) t taps) classes) wrote.taken

-- of the command that the words name
pub headline_of : (c : Command) (l : Limits) (interfaces : Bool) (history : List SubAgent) (deliveries : List Delivery)
    (input : List ℕ) (before after : Surroundings) (status : Status) → Performs c before after status
    → Replay l interfaces ≡ c → status ≡ Done → AreBytes input → before.ends.source.told ≡ Some input
    → (d : IsDelivered l history deliveries input)
    → Takes before.ends.sink after.ends.sink
    (report_with interfaces (account l history deliveries) (classes_in l d.capture.received) after.taps)
headline_of c l interfaces history deliveries input before after status performed same done are told d =
    let ran : Performs (Replay l interfaces) before after status =
    subst (λ (e : Command). Performs e before after status) (sym same) performed in
    headline l interfaces after.taps history deliveries input before.ends after.ends
    (subst (λ (s : Status). Runs captures (replay_act l interfaces after.taps) before.ends after.ends s) done ran.ran)
    are told d
