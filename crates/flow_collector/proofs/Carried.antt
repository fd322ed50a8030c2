-- The first record of interface counters of a counters sample.
use Rattle.std.proofs.Common.{◌≡◌, ◌∙◌, ℕ, ◌<◌, nat_lt, cond, arith, Bool, true, false, Option, Some, None, List, [], ◌∷◌, refl, sym, ap, subst, true≢false, ◌||◌, if◌then◌else◌}
use Rattle.std.specs.Prelude.{◌==◌, slice_get}
use Rattle.std.proofs.lemmas.Bool.{lt-ltb}
use Rattle.wire_spec.specs.Shapes.{Tree, known, Trees, none}
use Rattle.data_format.specs.declared.heads.CountersHead.{CountersHead}
use Rattle.data_format.specs.declared.heads.Form.{Form}
use Rattle.data_format.specs.declared.heads.Form.TheVariants.{Compact, Expanded}
use Rattle.data_format.specs.Trees.{frame_tree, frame_trees}
use Rattle.data_format.specs.Values.{members_of, counter_records_in}
use Rattle.data_format.specs.Views.{FrameView}
use Rattle.datagram_core.specs.declared.records.Record.{Record}
use Rattle.datagram_core.specs.declared.records.Record.TheVariants as records
use Rattle.datagram_core.specs.declared.records.RecordKind.{RecordKind}
use Rattle.datagram_core.specs.declared.records.RecordKind.TheVariants as kinds
use Rattle.datagram_core.specs.declared.sample.Sample.{Sample}
use Rattle.datagram_core.specs.declared.sample.Sample.TheVariants as samples
use Rattle.datagram_core.specs.Kinds.{HasKind}
use Rattle.datagram_core.specs.Records.{record_tree, IsRecordOf, records_of}
use Rattle.datagram_core.specs.SampleHeads.{AreCountersIn}
use Rattle.datagram_core.specs.Samples.{sample_tree, IsSampleOf}
use Rattle.datagram_core.specs.Tables.{counter_records_read, samples_read}
use Rattle.count_spec.specs.declared.entered.Entered.TheVariants.{First, Repeat, Late}
use Rattle.books_spec.specs.declared.booked.Booked.{Booked}
use Rattle.books_spec.specs.declared.booked.Booked.TheVariants.{Entered, Past}
use Rattle.books_spec.specs.declared.source_view.IfView.{IfView}
use Rattle.books_spec.specs.InterfaceRise.{InterfaceCounters, NumberedCounters, interface_view, interface_shown}
use Rattle.books_spec.specs.PlacedSamples.{InterfaceSample}
use Rattle.books_spec.specs.WholeBooks.{carried}
use Rattle.stream_books.specs.declared.source.SourceRecord.{SourceRecord}
use Rattle.collector_tables.specs.declared.keys.SourceKey.{SourceKey}
use Rattle.collector_tables.specs.declared.sources.EnteredAt.{EnteredAt}
use Rattle.if_ledger.specs.Ledgers.{IfState, StandsFor}
use Rattle.if_ledger.specs.Boots.{runs_of, StandsForBoots, added}
use Rattle.if_ledger.proofs.Shown.{view-runs, shown-by}
use Rattle.flow_collector.specs.Interfaces.{run_in, number_booked, AreEntered, AreEnteredFor}
use Rattle.flow_collector.specs.Items.{interface_in, or_else, first_interface, sample_in}
use Rattle.flow_collector.specs.Shown.{counters_of, is_counters_sample}
use Rattle.flow_collector.proofs.Readings.{counters-form}

-- ---- among records

abbrev is_counters : RecordKind → Bool
is_counters kinds.Flow = false
is_counters kinds.Counters = true
is_counters kinds.Unknown = false

not-flow : (A : Type 0) → ◌≡◌ {A = RecordKind} kinds.Flow kinds.Counters → A
not-flow A e = absurd (true≢false (sym (ap is_counters e)))

abbrev is_interface : Record → Bool
is_interface (records.IfCounters r) = true
is_interface _ = false

-- one of another format carries none
pub none-carried : (r : Record) → HasKind kinds.Counters r → is_interface r ≡ false → None ≡ interface_in (record_tree r)
none-carried (records.RawHeader r) kind not = not-flow _ kind
none-carried (records.Ethernet r) kind not = not-flow _ kind
none-carried (records.Ipv4 r) kind not = not-flow _ kind
none-carried (records.Ipv6 r) kind not = not-flow _ kind
none-carried (records.Switch r) kind not = not-flow _ kind
none-carried (records.Router r) kind not = not-flow _ kind
none-carried (records.Gateway r) kind not = not-flow _ kind
none-carried (records.User r) kind not = not-flow _ kind
none-carried (records.Url r) kind not = not-flow _ kind
none-carried (records.Mpls r) kind not = not-flow _ kind
none-carried (records.Nat r) kind not = not-flow _ kind
none-carried (records.IfCounters r) kind not = absurd (true≢false not)
none-carried (records.EthernetCounters r) kind not = refl
none-carried (records.VlanCounters r) kind not = refl
none-carried (records.Processor r) kind not = refl
none-carried (records.Other frame) kind not = refl

-- the first of these is carried, or what is behind it is
pub first-of : (f : FrameView) (left rest : List FrameView) (r : Record) (o : Option InterfaceCounters) → left ≡ f ∷ rest
    → IsRecordOf kinds.Counters f r → o ≡ interface_in (record_tree r)
    → or_else o (first_interface (frame_trees counter_records_read rest)) ≡ first_interface (frame_trees counter_records_read left)
first-of f left rest r o is of_frame shows =
    ap (λ x. or_else x (first_interface (frame_trees counter_records_read rest))) (shows ∙ ap interface_in of_frame.value)
    ∙ ap (λ fs. first_interface (frame_trees counter_records_read fs)) (sym is)

-- ---- of a sample

-- the records of a counters sample
abbrev records_in : Tree → Trees
records_in (known k value tail) = if k == 2 then counter_records_in Compact (members_of value) else counter_records_in Expanded (members_of value)
records_in _ = none

abbrev is_counters_tree : Tree → Bool
is_counters_tree (known k value tail) = (k == 2) || (k == 4)
is_counters_tree _ = false

records-of-frame : (form : Form) (f : FrameView) (h : CountersHead) (this : AreCountersIn form f h)
    → records_in (frame_tree samples_read f) ≡ frame_trees counter_records_read this.frames
records-of-frame Compact f h this = ap records_in this.value
records-of-frame Expanded f h this = ap records_in this.value

counters-of-frame : (form : Form) (f : FrameView) (h : CountersHead) → AreCountersIn form f h
    → is_counters_tree (frame_tree samples_read f) ≡ true
counters-of-frame Compact f h this = ap is_counters_tree this.value
counters-of-frame Expanded f h this = ap is_counters_tree this.value

same-records : (s : Sample) → is_counters_sample s ≡ true
    → frame_trees counter_records_read (records_of s).frames ≡ records_in (sample_tree s)
same-records (samples.Flow s) e = absurd (true≢false (sym e))
same-records (samples.Counters s) e = refl
same-records (samples.FlowX s) e = absurd (true≢false (sym e))
same-records (samples.CountersX s) e = refl
same-records (samples.Other frame) e = absurd (true≢false (sym e))

same-kind : (s : Sample) → is_counters_tree (sample_tree s) ≡ is_counters_sample s
same-kind (samples.Flow s) = refl
same-kind (samples.Counters s) = refl
same-kind (samples.FlowX s) = refl
same-kind (samples.CountersX s) = refl
same-kind (samples.Other frame) = refl

abbrev first_frame : List FrameView → Option FrameView
first_frame [] = None
first_frame (f ∷ rest) = Some f

same-frame : (f g : FrameView) (fs gs : List FrameView) → f ∷ fs ≡ g ∷ gs → f ≡ g
same-frame f g fs gs e = let both : Some f ≡ Some g = ap first_frame e in cc

pub records-kind : (s : Sample) → is_counters_sample s ≡ true → (records_of s).kind ≡ kinds.Counters
records-kind (samples.Flow s) e = absurd (true≢false (sym e))
records-kind (samples.Counters s) e = refl
records-kind (samples.FlowX s) e = absurd (true≢false (sym e))
records-kind (samples.CountersX s) e = refl
records-kind (samples.Other frame) e = absurd (true≢false (sym e))

-- what the sample's records carry is what the books say of its value
pub carried-is : (s : Sample) (all now rest : List FrameView) (f g : FrameView) (form : Form) (h : CountersHead) (o : Option InterfaceCounters)
    → all ≡ g ∷ now → IsSampleOf g s → all ≡ f ∷ rest → (this : AreCountersIn form f h) → is_counters_sample s ≡ true
    → o ≡ first_interface (frame_trees counter_records_read (records_of s).frames)
    → counters_of h o ≡ sample_in (frame_tree samples_read f)
carried-is s all now rest f g form h o here of_frame there this kind shows =
    let same : g ≡ f = same-frame g f now rest (sym here ∙ there) in
    let trees : frame_trees counter_records_read (records_of s).frames ≡ frame_trees counter_records_read this.frames =
    same-records s kind ∙ ap records_in of_frame.value ∙ ap (λ x. records_in (frame_tree samples_read x)) same
    ∙ records-of-frame form f h this in
    ap (counters_of h) (shows ∙ ap first_interface trees) ∙ counters-form form f h this

-- another sample has no head of a counters sample
pub not-counters : (A : Type 0) (s : Sample) (all now rest : List FrameView) (f g : FrameView) (form : Form) (h : CountersHead)
    → all ≡ g ∷ now → IsSampleOf g s → all ≡ f ∷ rest → AreCountersIn form f h → is_counters_sample s ≡ false → A
not-counters A s all now rest f g form h here of_frame there this kind =
    let same : g ≡ f = same-frame g f now rest (sym here ∙ there) in
    absurd (true≢false (sym (counters-of-frame form f h this) ∙ ap (λ x. is_counters_tree (frame_tree samples_read x)) (sym same)
    ∙ ap is_counters_tree (sym of_frame.value) ∙ same-kind s ∙ kind))

-- ---- what is entered, and what is shown

pub added-none : (b : Booked) → added b None ≡ None
added-none (Entered answer) = refl
added-none Past = refl

-- nothing of one that isn't First
pub added-not : (b : Booked) (c : InterfaceCounters) → None ≡ number_booked b → added b (Some c) ≡ None
added-not (Entered (First p m)) c e = absurd cc
added-not (Entered Repeat) c e = refl
added-not (Entered Late) c e = refl
added-not Past c e = refl

-- an entry of some, and what some carry
pub entered-some : (old new : List IfState) (entries : List (SourceKey × SourceRecord)) (carried : Option InterfaceCounters)
    (o : Option EnteredAt) (e : EnteredAt) → o ≡ Some e
    → ((k : SourceKey) (s : SourceRecord) → slice_get entries e.place ≡ Some (k, s)
    → AreEntered old new e.place (run_in s) (added e.booked carried))
    → AreEnteredFor old new entries carried o
entered-some old new entries carried o e is all =
    let P : Option EnteredAt → Type 0 = λ x. AreEnteredFor old new entries carried x in
    subst P (sym is) all

-- what is shown of the interface counters of a source
pub none-shown : (width : ℕ) (s : IfState) (boots : List (List InterfaceSample)) (n : ℕ) → n ≡ 0
    → ((runs : List (List NumberedCounters)) → StandsFor s runs → n ≡ (interface_view runs).samples)
    → StandsForBoots width s boots → None ≡ interface_shown (carried width boots)
none-shown width s boots n zero_is samples st =
    let is = samples (runs_of (carried width boots)) st.runs_stand
    ∙ ap (λ (v : IfView). v.samples) (view-runs (carried width boots)) in
    let empty : (interface_view (carried width boots)).samples ≡ 0 = omega (arith, is, zero_is) in
    sym (ap (λ (k : ℕ). cond (nat_lt 0 k) (Some (interface_view (carried width boots))) None) empty)

pub some-shown : (width : ℕ) (s : IfState) (boots : List (List InterfaceSample)) (view : IfView) → 0 < view.samples
    → ((runs : List (List NumberedCounters)) → StandsFor s runs → view ≡ interface_view runs)
    → StandsForBoots width s boots → Some view ≡ interface_shown (carried width boots)
some-shown width s boots view some views st =
    sym (ap (λ (b : Bool). cond b (Some view) None) (lt-ltb 0 view.samples some)) ∙ shown-by width s boots view st views
