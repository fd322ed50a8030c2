-- The fields of the values that were read, at their places.
use Rattle.std.proofs.Common.{◌≡◌, ℕ, List, ◌++◌, codes, length, refl, sym, ap, subst, ◌∙◌}
use Rattle.wire_spec.specs.Shapes.{Table, Tree, count_of}
use Rattle.wire_spec.specs.Heads.{Head}
use Rattle.wire_spec.specs.Members.{with_last_tree}
use Rattle.data_format.specs.declared.format.Frame.{Frame}
use Rattle.data_format.specs.declared.heads.Form.{Form}
use Rattle.data_format.specs.declared.heads.Form.TheVariants.{Compact, Expanded}
use Rattle.data_format.specs.declared.heads.FlowHead.{FlowHead}
use Rattle.data_format.specs.declared.heads.CountersHead.{CountersHead}
use Rattle.data_format.specs.Samples.{SampleView, flow_trees, IsFlowHead, flow_tree, counters_trees, IsCountersHead, counters_tree}
use Rattle.data_format.specs.Trees.{frame_tree, trees_of, frame_trees}
use Rattle.data_format.specs.Views.{FrameView}
use Rattle.data_format.proofs.Values.{format_of-word, address_in-tree, flow_head_in-trees, counters_head_in-trees, flow_records_in-trees, counter_records_in-trees, count_of-trees}
use Rattle.datagram_core.specs.Heads.{DatagramView}
use Rattle.datagram_core.specs.Records.{RecordsView, IsRecordOf, records_of, record_tree, table_of}
use Rattle.datagram_core.specs.Samples.{IsItself, IsSampleOf, sample_tree}
use Rattle.datagram_core.specs.Tables.{flow_records_read, counter_records_read, samples_read}
use Rattle.datagram_core.specs.Trees.{tree_of}
use Rattle.datagram_core.specs.declared.records.Record.{Record}
use Rattle.datagram_core.specs.declared.records.RecordKind.{RecordKind}
use Rattle.datagram_core.specs.declared.sample.Sample.{Sample}
use Rattle.datagram_core.specs.declared.sample.Sample.TheVariants as samples
use Rattle.data_format.specs.Values.{members_of, flow_head_in, counters_head_in}
use Rattle.show_lines.specs.Lines.{datagram_line, flow_front, counters_front, frame_front}
use Rattle.show_lines.specs.Joined.{texts_of}
use Rattle.show_lines.specs.Shown.{record_text, flow_text, counters_text, sample_front, sample_records, sample_text, datagram_text}

-- ---- records

-- the line of a record, whose kind is also this
pub record_line : (kind other : RecordKind) (f : FrameView) (r : Record) → kind ≡ other → IsRecordOf kind f r
    → record_text kind (record_tree r) ≡ record_text other (frame_tree (table_of other) f)
record_line kind other f r e is =
    ap (record_text kind) is.value ∙ ap (λ k. record_text k (frame_tree (table_of k) f)) e

-- ---- samples

-- the front of a flow sample over any table
flow_same : (name : List ℕ) (form : Form) (T : Table) (s : SampleView FlowHead) (h : FlowHead) (n : ℕ)
    → h ≡ s.head → n ≡ length s.frames → IsFlowHead form h
    → flow_front name h n ≡ flow_text name form (members_of (flow_tree form T s))
flow_same name form T s h n head count given =
    let ts = frame_trees T s.frames in
    let fits : IsFlowHead form s.head = subst (IsFlowHead form) head given in
    ap (λ x. flow_front name x n) (head ∙ sym (flow_head_in-trees form s.head (Tree.array ts) fits))
    ∙ ap (flow_front name (flow_head_in form (with_last_tree (flow_trees form s.head) (Tree.array ts))))
    (count ∙ sym (count_of-trees (frame_tree T) s.frames) ∙ ap count_of (sym (flow_records_in-trees form s.head ts)))

counters_same : (name : List ℕ) (form : Form) (T : Table) (s : SampleView CountersHead) (h : CountersHead) (n : ℕ)
    → h ≡ s.head → n ≡ length s.frames → IsCountersHead form h
    → counters_front name h n ≡ counters_text name form (members_of (counters_tree form T s))
counters_same name form T s h n head count given =
    let ts = frame_trees T s.frames in
    let fits : IsCountersHead form s.head = subst (IsCountersHead form) head given in
    ap (λ x. counters_front name x n) (head ∙ sym (counters_head_in-trees form s.head (Tree.array ts) fits))
    ∙ ap (counters_front name (counters_head_in form (with_last_tree (counters_trees form s.head) (Tree.array ts))))
    (count ∙ sym (count_of-trees (frame_tree T) s.frames) ∙ ap count_of (sym (counter_records_in-trees form s.head ts)))

pub front-flow : (s : SampleView FlowHead) (x : Sample) (h : FlowHead) (n : ℕ) → x ≡ samples.Flow s
    → h ≡ s.head → n ≡ length s.frames → IsFlowHead Compact h
    → flow_front (codes " flow") h n ≡ sample_front (sample_tree x)
unfolding sample_front
front-flow s x h n is head count fits =
    flow_same (codes " flow") Compact flow_records_read s h n head count fits ∙ ap (λ y. sample_front (sample_tree y)) (sym is)

pub front-flowx : (s : SampleView FlowHead) (x : Sample) (h : FlowHead) (n : ℕ) → x ≡ samples.FlowX s
    → h ≡ s.head → n ≡ length s.frames → flow_front (codes " flowx") h n ≡ sample_front (sample_tree x)
unfolding sample_front
front-flowx s x h n is head count =
    flow_same (codes " flowx") Expanded flow_records_read s h n head count tt ∙ ap (λ y. sample_front (sample_tree y)) (sym is)

pub front-counters : (s : SampleView CountersHead) (x : Sample) (h : CountersHead) (n : ℕ) → x ≡ samples.Counters s
    → h ≡ s.head → n ≡ length s.frames → IsCountersHead Compact h
    → counters_front (codes " counters") h n ≡ sample_front (sample_tree x)
unfolding sample_front
front-counters s x h n is head count fits =
    counters_same (codes " counters") Compact counter_records_read s h n head count fits ∙ ap (λ y. sample_front (sample_tree y)) (sym is)

pub front-countersx : (s : SampleView CountersHead) (x : Sample) (h : CountersHead) (n : ℕ)
    → x ≡ samples.CountersX s → h ≡ s.head → n ≡ length s.frames
    → counters_front (codes " countersx") h n ≡ sample_front (sample_tree x)
unfolding sample_front
front-countersx s x h n is head count =
    counters_same (codes " countersx") Expanded counter_records_read s h n head count tt ∙ ap (λ y. sample_front (sample_tree y)) (sym is)

pub front-other : (frame : Frame) (f : FrameView) (x : Sample) → x ≡ samples.Other frame → IsSampleOf f x
    → frame_front (codes " sample ") frame.format frame.body.now ≡ sample_front (sample_tree x)
unfolding sample_front
front-other frame f x is of =
    let fits : IsItself f (samples.Other frame) = subst (IsItself f) is of.itself in
    ap (λ w. frame_front (codes " sample ") w frame.body.now) (sym (format_of-word frame.format fits.1))
    ∙ ap (λ y. sample_front (sample_tree y)) (sym is)

-- the lines of its records are those of the frames
records-sample : (s : Sample) → sample_records (sample_tree s)
    ≡ texts_of (record_text (records_of s).kind) (trees_of (frame_tree (table_of (records_of s).kind)) (records_of s).frames)
unfolding sample_records
records-sample (samples.Flow s) = refl
records-sample (samples.Counters s) = refl
records-sample (samples.FlowX s) = refl
records-sample (samples.CountersX s) = refl
records-sample (samples.Other f) = refl

pub records_shown : (v : RecordsView) (s : Sample) → v ≡ records_of s
    → texts_of (record_text v.kind) (trees_of (frame_tree (table_of v.kind)) v.frames) ≡ sample_records (sample_tree s)
records_shown v s is =
    ap (λ (w : RecordsView). texts_of (record_text w.kind) (trees_of (frame_tree (table_of w.kind)) w.frames)) is
    ∙ sym (records-sample s)

-- ---- datagrams

pub text-datagram : (d : DatagramView) → datagram_text (tree_of d)
    ≡ datagram_line d.head (length d.samples) ++ texts_of sample_text (frame_trees samples_read d.samples)
unfolding datagram_text
text-datagram d =
    let ts = frame_trees samples_read d.samples in
    ap (λ a. datagram_line (record d.head { agent = a }) (count_of ts) ++ texts_of sample_text ts) (address_in-tree d.head.agent)
    ∙ ap (λ n. datagram_line d.head n ++ texts_of sample_text ts) (count_of-trees (frame_tree samples_read) d.samples)

pub line-datagram : (d : DatagramView) (h : Head) (n : ℕ) → h ≡ d.head → n ≡ length d.samples
    → datagram_line h n ≡ datagram_line d.head (length d.samples)
line-datagram d h n head count = ap (λ x. datagram_line x n) head ∙ ap (datagram_line d.head) count
