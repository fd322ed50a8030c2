use Rattle.std.proofs.Common.{◌≡◌, ◌<◌, length, refl, subst}
use Rattle.data_format.specs.declared.heads.Form.TheVariants.{Compact, Expanded}
use Rattle.data_format.specs.declared.heads.FlowHead.{FlowHead}
use Rattle.data_format.specs.declared.heads.CountersHead.{CountersHead}
use Rattle.data_format.specs.Trees.{frame_trees}
use Rattle.data_format.specs.Views.{format_word}
use Rattle.wire_spec.specs.Shapes.{other}
use Rattle.datagram_core.specs.Records.{table_of}
use Rattle.datagram_core.specs.Samples.{sample_tree}
use Rattle.datagram_core.specs.Tables.{flow_records_read, counter_records_read}
use Rattle.datagram_core.specs.Written.{begun_flow, begun_counters, begun_bytes, filled, closed_sample}
use Rattle.datagram_core.specs.Writers.{left_of}
use Rattle.datagram_core.proofs.Filling.{front_full, kept_full, has_same, full_same, if_err, same_room, adds_room}
use Rattle.datagram_core.proofs.rewriting.write_sample.Goals as goal

pub returns-in_err-open_flow-in-Flow-clause-full : goal.returns-in_err-open_flow-in-Flow-clause-full
returns-in_err-open_flow-in-Flow-clause-full c = λ h samples has.
    let w = c.args.writer.now in
    let s = c.in-Flow.flow in
    let Short : FlowHead → Type 0 = λ head. left_of w < length (begun_bytes (begun_flow Compact head)) in
    rw c.in-Flow.is (if_err c.from_residual.result
    (front_full w h samples (begun_flow Compact s.head) (frame_trees flow_records_read s.frames) s.tail has refl
    (subst Short c.head.ensures.head c.in_err-open_flow-in-Flow.ensures.room.short)))

pub returns-in_ok-open_flow-in-Flow-clause-has : goal.returns-in_ok-open_flow-in-Flow-clause-has
returns-in_ok-open_flow-in-Flow-clause-has c = λ h samples has.
    let begun = begun_flow Compact c.head.result in
    let records = frame_trees (table_of c.records.result.kind) c.records.result.frames in
    let t = closed_sample (filled begun records) c.tail.result.now in
    let same : t ≡ sample_tree c.args.sample.now = rw (c.head.ensures.head, c.records.ensures, c.tail.ensures, c.in-Flow.is) refl in
    has_same c.args.writer.now c.fill.new.writer c.fill.result h samples t (sample_tree c.args.sample.now) same
    (c.fill.ensures.has h samples begun (c.in_ok-open_flow-in-Flow.ensures.begun h samples has) refl)

pub returns-in_ok-open_flow-in-Flow-clause-full : goal.returns-in_ok-open_flow-in-Flow-clause-full
returns-in_ok-open_flow-in-Flow-clause-full c = λ h samples has.
    let begun = begun_flow Compact c.head.result in
    let records = frame_trees (table_of c.records.result.kind) c.records.result.frames in
    let t = closed_sample (filled begun records) c.tail.result.now in
    let same : t ≡ sample_tree c.args.sample.now = rw (c.head.ensures.head, c.records.ensures, c.tail.ensures, c.in-Flow.is) refl in
    full_same c.args.writer.now c.fill.new.writer c.fill.result h samples t (sample_tree c.args.sample.now) same
    c.open_flow.new.self (adds_room c.args.writer.now c.open_flow.new.self c.open_flow.result _ c.open_flow.ensures.room)
    (c.fill.ensures.full h samples begun (c.in_ok-open_flow-in-Flow.ensures.begun h samples has) refl)

pub returns-in_err-open_flow-in-FlowX-clause-full : goal.returns-in_err-open_flow-in-FlowX-clause-full
returns-in_err-open_flow-in-FlowX-clause-full c = λ h samples has.
    let w = c.args.writer.now in
    let s = c.in-FlowX.flow in
    let Short : FlowHead → Type 0 = λ head. left_of w < length (begun_bytes (begun_flow Expanded head)) in
    rw c.in-FlowX.is (if_err c.from_residual-in_err-open_flow-in-FlowX.result
    (front_full w h samples (begun_flow Expanded s.head) (frame_trees flow_records_read s.frames) s.tail has refl
    (subst Short c.head-in-FlowX.ensures.head c.in_err-open_flow-in-FlowX.ensures.room.short)))

pub returns-in_ok-open_flow-in-FlowX-clause-has : goal.returns-in_ok-open_flow-in-FlowX-clause-has
returns-in_ok-open_flow-in-FlowX-clause-has c = λ h samples has.
    let begun = begun_flow Expanded c.head-in-FlowX.result in
    let records = frame_trees (table_of c.records-in-FlowX.result.kind) c.records-in-FlowX.result.frames in
    let t = closed_sample (filled begun records) c.tail-in-FlowX.result.now in
    let same : t ≡ sample_tree c.args.sample.now = rw (c.head-in-FlowX.ensures.head, c.records-in-FlowX.ensures, c.tail-in-FlowX.ensures, c.in-FlowX.is) refl in
    has_same c.args.writer.now c.fill-in-FlowX.new.writer c.fill-in-FlowX.result h samples t (sample_tree c.args.sample.now) same
    (c.fill-in-FlowX.ensures.has h samples begun (c.in_ok-open_flow-in-FlowX.ensures.begun h samples has) refl)

pub returns-in_ok-open_flow-in-FlowX-clause-full : goal.returns-in_ok-open_flow-in-FlowX-clause-full
returns-in_ok-open_flow-in-FlowX-clause-full c = λ h samples has.
    let begun = begun_flow Expanded c.head-in-FlowX.result in
    let records = frame_trees (table_of c.records-in-FlowX.result.kind) c.records-in-FlowX.result.frames in
    let t = closed_sample (filled begun records) c.tail-in-FlowX.result.now in
    let same : t ≡ sample_tree c.args.sample.now = rw (c.head-in-FlowX.ensures.head, c.records-in-FlowX.ensures, c.tail-in-FlowX.ensures, c.in-FlowX.is) refl in
    full_same c.args.writer.now c.fill-in-FlowX.new.writer c.fill-in-FlowX.result h samples t (sample_tree c.args.sample.now) same
    c.open_flow-in-FlowX.new.self (adds_room c.args.writer.now c.open_flow-in-FlowX.new.self c.open_flow-in-FlowX.result _ c.open_flow-in-FlowX.ensures.room)
    (c.fill-in-FlowX.ensures.full h samples begun (c.in_ok-open_flow-in-FlowX.ensures.begun h samples has) refl)

pub returns-in_err-open_counters-in-Counters-clause-full : goal.returns-in_err-open_counters-in-Counters-clause-full
returns-in_err-open_counters-in-Counters-clause-full c = λ h samples has.
    let w = c.args.writer.now in
    let s = c.in-Counters.counters in
    let Short : CountersHead → Type 0 = λ head. left_of w < length (begun_bytes (begun_counters Compact head)) in
    rw c.in-Counters.is (if_err c.from_residual-in_err-open_counters-in-Counters.result
    (front_full w h samples (begun_counters Compact s.head) (frame_trees counter_records_read s.frames) s.tail has refl
    (subst Short c.head-in-Counters.ensures.head c.in_err-open_counters-in-Counters.ensures.room.short)))

pub returns-in_ok-open_counters-in-Counters-clause-has : goal.returns-in_ok-open_counters-in-Counters-clause-has
returns-in_ok-open_counters-in-Counters-clause-has c = λ h samples has.
    let begun = begun_counters Compact c.head-in-Counters.result in
    let records = frame_trees (table_of c.records-in-Counters.result.kind) c.records-in-Counters.result.frames in
    let t = closed_sample (filled begun records) c.tail-in-Counters.result.now in
    let same : t ≡ sample_tree c.args.sample.now = rw (c.head-in-Counters.ensures.head, c.records-in-Counters.ensures, c.tail-in-Counters.ensures, c.in-Counters.is) refl in
    has_same c.args.writer.now c.fill-in-Counters.new.writer c.fill-in-Counters.result h samples t (sample_tree c.args.sample.now) same
    (c.fill-in-Counters.ensures.has h samples begun (c.in_ok-open_counters-in-Counters.ensures.begun h samples has) refl)

pub returns-in_ok-open_counters-in-Counters-clause-full : goal.returns-in_ok-open_counters-in-Counters-clause-full
returns-in_ok-open_counters-in-Counters-clause-full c = λ h samples has.
    let begun = begun_counters Compact c.head-in-Counters.result in
    let records = frame_trees (table_of c.records-in-Counters.result.kind) c.records-in-Counters.result.frames in
    let t = closed_sample (filled begun records) c.tail-in-Counters.result.now in
    let same : t ≡ sample_tree c.args.sample.now = rw (c.head-in-Counters.ensures.head, c.records-in-Counters.ensures, c.tail-in-Counters.ensures, c.in-Counters.is) refl in
    full_same c.args.writer.now c.fill-in-Counters.new.writer c.fill-in-Counters.result h samples t (sample_tree c.args.sample.now) same
    c.open_counters.new.self (adds_room c.args.writer.now c.open_counters.new.self c.open_counters.result _ c.open_counters.ensures.room)
    (c.fill-in-Counters.ensures.full h samples begun (c.in_ok-open_counters-in-Counters.ensures.begun h samples has) refl)

pub returns-in_err-open_counters-in-CountersX-clause-full : goal.returns-in_err-open_counters-in-CountersX-clause-full
returns-in_err-open_counters-in-CountersX-clause-full c = λ h samples has.
    let w = c.args.writer.now in
    let s = c.in-CountersX.counters in
    let Short : CountersHead → Type 0 = λ head. left_of w < length (begun_bytes (begun_counters Expanded head)) in
    rw c.in-CountersX.is (if_err c.from_residual-in_err-open_counters-in-CountersX.result
    (front_full w h samples (begun_counters Expanded s.head) (frame_trees counter_records_read s.frames) s.tail has refl
    (subst Short c.head-in-CountersX.ensures.head c.in_err-open_counters-in-CountersX.ensures.room.short)))

pub returns-in_ok-open_counters-in-CountersX-clause-has : goal.returns-in_ok-open_counters-in-CountersX-clause-has
returns-in_ok-open_counters-in-CountersX-clause-has c = λ h samples has.
    let begun = begun_counters Expanded c.head-in-CountersX.result in
    let records = frame_trees (table_of c.records-in-CountersX.result.kind) c.records-in-CountersX.result.frames in
    let t = closed_sample (filled begun records) c.tail-in-CountersX.result.now in
    let same : t ≡ sample_tree c.args.sample.now = rw (c.head-in-CountersX.ensures.head, c.records-in-CountersX.ensures, c.tail-in-CountersX.ensures, c.in-CountersX.is) refl in
    has_same c.args.writer.now c.fill-in-CountersX.new.writer c.fill-in-CountersX.result h samples t (sample_tree c.args.sample.now) same
    (c.fill-in-CountersX.ensures.has h samples begun (c.in_ok-open_counters-in-CountersX.ensures.begun h samples has) refl)

pub returns-in_ok-open_counters-in-CountersX-clause-full : goal.returns-in_ok-open_counters-in-CountersX-clause-full
returns-in_ok-open_counters-in-CountersX-clause-full c = λ h samples has.
    let begun = begun_counters Expanded c.head-in-CountersX.result in
    let records = frame_trees (table_of c.records-in-CountersX.result.kind) c.records-in-CountersX.result.frames in
    let t = closed_sample (filled begun records) c.tail-in-CountersX.result.now in
    let same : t ≡ sample_tree c.args.sample.now = rw (c.head-in-CountersX.ensures.head, c.records-in-CountersX.ensures, c.tail-in-CountersX.ensures, c.in-CountersX.is) refl in
    full_same c.args.writer.now c.fill-in-CountersX.new.writer c.fill-in-CountersX.result h samples t (sample_tree c.args.sample.now) same
    c.open_counters-in-CountersX.new.self (adds_room c.args.writer.now c.open_counters-in-CountersX.new.self c.open_counters-in-CountersX.result _ c.open_counters-in-CountersX.ensures.room)
    (c.fill-in-CountersX.ensures.full h samples begun (c.in_ok-open_counters-in-CountersX.ensures.begun h samples has) refl)

pub returns-in-Other-clause-full : goal.returns-in-Other-clause-full
returns-in-Other-clause-full c = λ h samples has.
    let frame = c.in-Other.frame in
    rw c.in-Other.is (kept_full c.args.writer.now c.push_other.new.self c.push_other.result h samples
    (other (format_word frame.format) frame.body.now) c.push_other.ensures.room has)

pub returns-in_err-open_flow-in-Flow-clause-room : goal.returns-in_err-open_flow-in-Flow-clause-room
returns-in_err-open_flow-in-Flow-clause-room c =
    adds_room c.args.writer.now c.open_flow.new.self c.open_flow.result _ c.open_flow.ensures.room

pub returns-in_ok-open_flow-in-Flow-clause-room : goal.returns-in_ok-open_flow-in-Flow-clause-room
returns-in_ok-open_flow-in-Flow-clause-room c =
    same_room c.args.writer.now c.open_flow.new.self c.fill.new.writer
    (adds_room c.args.writer.now c.open_flow.new.self c.open_flow.result _ c.open_flow.ensures.room) c.fill.ensures.room

pub returns-in_err-open_flow-in-FlowX-clause-room : goal.returns-in_err-open_flow-in-FlowX-clause-room
returns-in_err-open_flow-in-FlowX-clause-room c =
    adds_room c.args.writer.now c.open_flow-in-FlowX.new.self c.open_flow-in-FlowX.result _ c.open_flow-in-FlowX.ensures.room

pub returns-in_ok-open_flow-in-FlowX-clause-room : goal.returns-in_ok-open_flow-in-FlowX-clause-room
returns-in_ok-open_flow-in-FlowX-clause-room c =
    same_room c.args.writer.now c.open_flow-in-FlowX.new.self c.fill-in-FlowX.new.writer
    (adds_room c.args.writer.now c.open_flow-in-FlowX.new.self c.open_flow-in-FlowX.result _ c.open_flow-in-FlowX.ensures.room) c.fill-in-FlowX.ensures.room

pub returns-in_err-open_counters-in-Counters-clause-room : goal.returns-in_err-open_counters-in-Counters-clause-room
returns-in_err-open_counters-in-Counters-clause-room c =
    adds_room c.args.writer.now c.open_counters.new.self c.open_counters.result _ c.open_counters.ensures.room

pub returns-in_ok-open_counters-in-Counters-clause-room : goal.returns-in_ok-open_counters-in-Counters-clause-room
returns-in_ok-open_counters-in-Counters-clause-room c =
    same_room c.args.writer.now c.open_counters.new.self c.fill-in-Counters.new.writer
    (adds_room c.args.writer.now c.open_counters.new.self c.open_counters.result _ c.open_counters.ensures.room) c.fill-in-Counters.ensures.room

pub returns-in_err-open_counters-in-CountersX-clause-room : goal.returns-in_err-open_counters-in-CountersX-clause-room
returns-in_err-open_counters-in-CountersX-clause-room c =
    adds_room c.args.writer.now c.open_counters-in-CountersX.new.self c.open_counters-in-CountersX.result _ c.open_counters-in-CountersX.ensures.room

pub returns-in_ok-open_counters-in-CountersX-clause-room : goal.returns-in_ok-open_counters-in-CountersX-clause-room
returns-in_ok-open_counters-in-CountersX-clause-room c =
    same_room c.args.writer.now c.open_counters-in-CountersX.new.self c.fill-in-CountersX.new.writer
    (adds_room c.args.writer.now c.open_counters-in-CountersX.new.self c.open_counters-in-CountersX.result _ c.open_counters-in-CountersX.ensures.room) c.fill-in-CountersX.ensures.room

pub returns-in-Other-clause-room : goal.returns-in-Other-clause-room
returns-in-Other-clause-room c =
    adds_room c.args.writer.now c.push_other.new.self c.push_other.result _ c.push_other.ensures.room
