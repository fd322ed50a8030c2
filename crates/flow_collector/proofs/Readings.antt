-- What a sample shows is what stands in its value, and how many readings there are.
use Rattle.std.proofs.Common.{◌≡◌, ℕ, suc, true, Option, List, [], ◌∷◌, length, map, refl, sym, ap, subst, ◌∙◌, arith}
use Rattle.std.specs.List.{sum_by, count_by}
use Rattle.std.proofs.lemmas.List.Sums.{sum_by-cons}
use Rattle.wire_spec.specs.Heads.{AgentAddress}
use Rattle.data_format.specs.declared.heads.Form.{Form}
use Rattle.data_format.specs.declared.heads.Form.TheVariants.{Compact, Expanded}
use Rattle.data_format.specs.declared.heads.FlowHead.{FlowHead}
use Rattle.data_format.specs.declared.heads.CountersHead.{CountersHead}
use Rattle.data_format.specs.declared.source.SourceId.{SourceId}
use Rattle.data_format.specs.Trees.{frame_tree, frame_trees}
use Rattle.data_format.specs.Views.{FrameView}
use Rattle.data_format.proofs.Values.{source_of-word, address_in-tree}
use Rattle.datagram_core.specs.Heads.{DatagramView}
use Rattle.datagram_core.specs.SampleHeads.{IsFlowIn, AreCountersIn, IsHeadOf}
use Rattle.datagram_core.specs.Tables.{counter_records_read, samples_read}
use Rattle.datagram_core.specs.Trees.{tree_of}
use Rattle.datagram_core.specs.declared.sample_head.SampleHead.{SampleHead}
use Rattle.datagram_core.specs.declared.sample_head.SampleHead.TheVariants as heads
use Rattle.books_spec.specs.declared.limits.Limits.{Limits}
use Rattle.books_spec.specs.declared.reading.SampleReading.{SampleReading}
use Rattle.books_spec.specs.Items.{Sample, Other, Datagram, Item, Source, flow_sample}
use Rattle.books_spec.specs.Listing.{same_stream, same_source, among}
use Rattle.books_spec.specs.Books.{listed_streams, sources_of, source_boots}
use Rattle.books_spec.specs.SourceViews.{PlacedReading}
use Rattle.books_spec.specs.PlacedSamples.{placed_boots}
use Rattle.books_spec.proofs.Entered.{readings-are-entered as entered-readings}
use Rattle.books_spec.proofs.Placed.{reading_in, boots-are}
use Rattle.books_spec.specs.InterfaceRise.{InterfaceCounters}
use Rattle.flow_collector.specs.Items.{first_interface, counters_with, sample_in, samples_in, datagram_in}
use Rattle.flow_collector.specs.Shown.{flow_of, counters_of}

-- what a head shows stands in the value of its frame

flow-form : (form : Form) (f : FrameView) (h : FlowHead) → IsFlowIn form f h → flow_of h ≡ sample_in (frame_tree samples_read f)
unfolding sample_in
flow-form Compact f h this =
    let A : SourceId → Sample = λ i. flow_sample i.class i.index
    (record { sequence = h.sequence; pool = h.pool; drops = h.drops; rate = h.rate }) in
    ap A (sym (source_of-word h.source this.fits.0)) ∙ ap sample_in (sym this.value)
flow-form Expanded f h this = ap sample_in (sym this.value)

-- the counters of the first record of interface counters of a counters sample
abbrev pub interface_behind : List FrameView → Option InterfaceCounters
interface_behind frames = first_interface (frame_trees counter_records_read frames)

pub counters-form : (form : Form) (f : FrameView) (h : CountersHead) (this : AreCountersIn form f h)
    → counters_of h (interface_behind this.frames) ≡ sample_in (frame_tree samples_read f)
unfolding sample_in
counters-form Compact f h this =
    let A : SourceId → Sample = λ i. counters_with i.class i.index h.sequence (interface_behind this.frames) in
    ap A (sym (source_of-word h.source this.fits)) ∙ ap sample_in (sym this.value)
counters-form Expanded f h this = ap sample_in (sym this.value)

pub flow-shown : (x : SampleHead) (f : FrameView) (h : FlowHead) → x ≡ heads.Flow h → IsHeadOf f x
    → flow_of h ≡ sample_in (frame_tree samples_read f)
flow-shown x f h is of_frame =
    let P : SampleHead → Type 0 = IsHeadOf f in
    let this : P (heads.Flow h) = subst P is of_frame in
    flow-form this.0 f h this.1

-- a counters sample's head in its form
pub counters-head : (x : SampleHead) (f : FrameView) (h : CountersHead) → x ≡ heads.Counters h → IsHeadOf f x
    → (form : Form) × AreCountersIn form f h
counters-head x f h is of_frame =
    let P : SampleHead → Type 0 = IsHeadOf f in
    let this : P (heads.Counters h) = subst P is of_frame in
    this

pub other-shown : (x : SampleHead) (f : FrameView) → x ≡ heads.Other → IsHeadOf f x
    → Other ≡ sample_in (frame_tree samples_read f)
unfolding sample_in
other-shown x f is of_frame =
    let P : SampleHead → Type 0 = IsHeadOf f in
    let this : P heads.Other = subst P is of_frame in
    ap sample_in (sym this.value)

-- the datagram of a value that was read
pub datagram-in-tree : (arrival : ℕ) (d : DatagramView) → datagram_in arrival (tree_of d)
    ≡ record { arrival = arrival; head = d.head; samples = samples_in (frame_trees samples_read d.samples) }
datagram-in-tree arrival d =
    let A : AgentAddress → Datagram = λ a. record {
      arrival = arrival;
      head = record { agent = a; sub_agent = d.head.sub_agent; sequence = d.head.sequence; uptime = d.head.uptime };
      samples = samples_in (frame_trees samples_read d.samples);
    } in
    ap A (address_in-tree d.head.agent)

-- ---- how many readings there are

-- as many readings with their places as without
pub placed-sum : (l : Limits) (source : Source) (items : List Item)
    → sum_by length (placed_boots l source items) ≡ sum_by length (source_boots l source items)
placed-sum l source items =
    sum-of (placed_boots l source items) ∙ ap (sum_by length) (boots-are l source items)
  where
    length-of : (rs : List PlacedReading) → length rs ≡ length (map reading_in rs)
    length-of [] = refl
    length-of (r ∷ rs) = ap suc (length-of rs)

    sum-of : (bs : List (List PlacedReading)) → sum_by length bs ≡ sum_by length (map (map reading_in) bs)
    sum-of [] = refl
    sum-of (b ∷ more) =
        let here = length-of b in
        let later = sum-of more in
        let x = sum_by-cons (λ (rs : List PlacedReading). length rs) b more in
        let y = sum_by-cons (λ (rs : List SampleReading). length rs) (map reading_in b) (map (map reading_in) more) in
        omega (arith, here, later, x, y)

-- the readings are the entered samples
pub readings-are-entered : (l : Limits) (k : Source) (items : List Item)
    → among same_stream (listed_streams l items) k.stream ≡ true
    → sum_by length (placed_boots l k items) ≡ count_by (same_source k) (sources_of l items)
readings-are-entered l k items there = placed-sum l k items ∙ entered-readings l k items there
