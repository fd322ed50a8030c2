-- What `replay` writes and what it feeds: the report of the books of a capture's entries, each an item for the collector,
-- and a brief for each sampled header that counts.
use Rattle.std.specs.Prelude.{◌≡◌, ℕ, Bool, false, true, List, [], map, reverse, Option, Some, Result, Ok, Err}
use Rattle.wire_spec.specs.Bytes.{AreBytes}
use Rattle.byte_ends.specs.Seen.{Seen}
use Rattle.capture_spec.specs.declared.capture_version.CaptureVersion.{CaptureVersion}
use Rattle.sflow_io.specs.CaptureSteps.{EndsAt, IsAllOf}
use Rattle.sflow_io.specs.declared.capture.ReadRefusal.{ReadRefusal}
use Rattle.sflow_io.specs.declared.capture.ReadRefusal.TheVariants as refusals
use Rattle.capture_spec.specs.Items.{Received}
use Rattle.books_spec.specs.Items.{Item}
use Rattle.books_spec.specs.SampledHeaders.{HeaderedItem}
use Rattle.books_spec.specs.WholeBooks.{whole_books}
use Rattle.books_spec.specs.declared.limits.Limits.{Limits}
use Rattle.sample_taps.specs.BookBriefs.{book_briefs, book_classes}
use Rattle.sample_taps.specs.declared.brief.Brief.{Brief}
use Rattle.sample_taps.specs.declared.class_totals.ClassTotals.{ClassTotals}
use Rattle.flow_collector.specs.Collectors.{CollectorState}
use Rattle.flow_collector.specs.Gathering.{Gathered}
use Rattle.flow_collector.specs.Headers.{headered_entry}
use Rattle.flow_collector.specs.Items.{item_in}
use Rattle.report_lines.specs.HeaderLines.{ShownTaps}
use Rattle.report_lines.specs.InterfaceLines.{report_with}
use Rattle.command_runs.specs.Acts.{Act}
use Rattle.command_runs.specs.Grammars.{Capture}
use Rattle.sflow_tool.specs.WalkEnds.{HasCause}

-- a datagram with its arrival, or the fault of the entry's bytes, where padding is free
abbrev pub entry_item : Received → Item
entry_item e = item_in e.arrival e.bytes

-- the items of the entries, the LATEST FIRST, as the books have them
abbrev pub items_in : List Received → List Item
items_in entries = reverse (map entry_item entries)

-- the same with the sampled headers of each
abbrev pub headered_received : Received → HeaderedItem
headered_received e = headered_entry e.arrival e.bytes

abbrev pub headered_items : List Received → List HeaderedItem
headered_items entries = reverse (map headered_received entries)

-- what these entries feed the consumers, in order
abbrev pub briefs_in : Limits → List Received → List Brief
briefs_in limits entries = book_briefs limits (headered_items entries)

-- how many of the headers that count are of each class
abbrev pub classes_in : Limits → List Received → ClassTotals
classes_in limits entries = book_classes limits (headered_items entries)

-- the report of these entries under these limits and of these consumers, with the lines of interfaces or without
unfoldable pub report_of : Limits → Bool → ShownTaps → List Received → List ℕ
report_of limits interfaces taps entries =
    report_with interfaces (whole_books limits (items_in entries)) (classes_in limits entries) taps

-- where the consumers show this when all is read
abbrev pub replay_act : Limits → Bool → ShownTaps → Act Capture
replay_act limits interfaces taps = record {
  whole = λ c. report_of limits interfaces taps c.entries;
  part = λ c. [];
  finds = λ c. false;
  may_find = false;
  at_end = true;
  memory_first = true;
}

-- Under these limits a collector stands for these entries, and the consumers are those that were handed in, as the briefs
-- of the entries leave them.
pub record Collects {X : Type 0} (step : X → Brief → X → Type 0) (done : X → Bool) (l : Limits) (now : CollectorState)
    (xs ys : List X) (all left : ℕ) (entries : List Received) : Type 0 where
  pub gathered : Gathered step done now l (headered_items entries) xs ys
  -- how many consumers there are, with those that were dropped
  pub taps_kept : left ≡ all

-- ---- entries that are taken as they are read

-- all entries of what the source told were taken
pub record TookAll (takes : List Received → Type 0) (source : Seen) : Type 0 where
  pub capture : Capture
  pub all : (input : List ℕ) → AreBytes input → source.told ≡ Some input
      → IsAllOf capture.version capture.entries input
  pub were : takes capture.entries

-- reading ended behind these entries with this refusal
pub record TookSome (takes : List Received → Type 0) (source source' : Seen) (refusal : ReadRefusal) : Type 0 where
  pub entries : List Received
  pub version : Option CaptureVersion
  pub ends : (input : List ℕ) → AreBytes input → source.told ≡ Some input
      → EndsAt version entries input source'.told (Err refusal)
  pub were : takes entries

abbrev pub Took : (List Received → Type 0) → Seen → Seen → Result (Unit {0}) ReadRefusal → Type 0
Took takes source source' (Ok all) = TookAll takes source
Took takes source source' (Err refusal) = TookSome takes source source' refusal

-- at a read fault one call of the source failed, and else none
abbrev pub HasTakeCause : Seen → Seen → Result (Unit {0}) ReadRefusal → Type 0
HasTakeCause source source' result = HasCause (result ≡ Err refusals.ReadFault) source source'
