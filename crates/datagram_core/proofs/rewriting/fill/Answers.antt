use Rattle.std.proofs.Common.{ap, subst, refl, ◌∙◌, List}
use Rattle.data_format.specs.Views.{FrameView}
use Rattle.data_format.specs.Trees.{frame_trees}
use Rattle.datagram_core.specs.Records.{record_tree, table_of}
use Rattle.datagram_core.specs.Kinds.{HasKind}
use Rattle.datagram_core.specs.declared.records.RecordKind.{RecordKind}
use Rattle.datagram_core.proofs.Slices.{slices_fit}
use Rattle.datagram_core.proofs.Filling.{filling_start, filling_step, filling_next, record_full, end_has, end_full, one_of_all, is_open_for, one_kind, same_room, adds_room, if_err}
use Rattle.datagram_core.proofs.rewriting.fill.Goals as goal

pub loop-record-init : goal.loop-record-init
loop-record-init c = record {
  kind = refl;
  filling = filling_start c.args.writer.now c.args.records.kind _ c.requires.kind;
}

pub push_record-requires-clause-open : goal.push_record-requires-clause-open
push_record-requires-clause-open c =
    is_open_for c.args.records.kind c.loop-record.writer c.loop-record.invariant.filling.begun

pub push_record-requires-clause-kind : goal.push_record-requires-clause-kind
push_record-requires-clause-kind c = λ kind begun.
    let P : RecordKind → Type 0 = λ k. HasKind k c.in-Some.record in
    let writer = c.loop-record.writer in
    let invariant = c.loop-record.invariant in
    subst P (invariant.kind ∙ one_kind c.args.records.kind kind writer invariant.filling.begun begun) c.in-Some.ensures.of_kind

pub push_record-requires-clause-slices : goal.push_record-requires-clause-slices
push_record-requires-clause-slices c =
    let first = c.args.records.kind in
    let r = c.in-Some.record in
    let all = frame_trees (table_of first) c.args.records.frames in
    let new = c.next.new.self.frames in
    let f = filling_next c.args.writer.now c.loop-record.writer c.loop-record.records.kind first all
    c.loop-record.records.frames new r c.loop-record.invariant.filling c.loop-record.invariant.kind c.in-Some.ensures.some in
    slices_fit r (one_of_all f.front (record_tree r) (frame_trees (table_of first) new) all 65535 f.parts c.requires.records)

pub loop-record-preserved : goal.loop-record-preserved
loop-record-preserved c =
    let first = c.args.records.kind in
    let start = c.args.writer.now in
    let now = c.loop-record.writer in
    let r = c.in-Some.record in
    let all = frame_trees (table_of first) c.args.records.frames in
    let new = c.next.new.self.frames in
    let invariant = c.loop-record.invariant in
    let f = filling_next start now c.loop-record.records.kind first all c.loop-record.records.frames new r invariant.filling
    invariant.kind c.in-Some.ensures.some in
    record {
      kind = c.next.ensures.kind ∙ invariant.kind;
      filling = filling_step start now c.push_record.new.self first all (record_tree r) (frame_trees (table_of first) new) f
          (adds_room now c.push_record.new.self c.push_record.result _ c.push_record.ensures.room)
          (c.push_record.ensures.kind first f.begun) c.in_ok-push_record.ensures.pushed;
    }

pub returns-in_err-push_record-clause-room : goal.returns-in_err-push_record-clause-room
returns-in_err-push_record-clause-room c =
    let now = c.loop-record.writer in
    same_room c.args.writer.now now c.push_record.new.self c.loop-record.invariant.filling.room
    (adds_room now c.push_record.new.self c.push_record.result _ c.push_record.ensures.room)

pub returns-in_err-push_record-clause-full : goal.returns-in_err-push_record-clause-full
returns-in_err-push_record-clause-full c = λ h samples s has empty.
    let first = c.args.records.kind in
    let start = c.args.writer.now in
    let now = c.loop-record.writer in
    let r = c.in-Some.record in
    let all = frame_trees (table_of first) c.args.records.frames in
    let new = c.next.new.self.frames in
    let invariant = c.loop-record.invariant in
    let f = filling_next start now c.loop-record.records.kind first all c.loop-record.records.frames new r invariant.filling
    invariant.kind c.in-Some.ensures.some in
    if_err c.from_residual.result
    (record_full start now first all (record_tree r) (frame_trees (table_of first) new) c.args.tail.now f
    c.in_err-push_record.ensures.room.short h samples s has empty)

pub close_sample-requires-clause-open : goal.close_sample-requires-clause-open
close_sample-requires-clause-open c =
    is_open_for c.args.records.kind c.loop-record.writer c.loop-record.invariant.filling.begun

pub returns-clause-room : goal.returns-clause-room
returns-clause-room c =
    let now = c.loop-record.writer in
    same_room c.args.writer.now now c.close_sample.new.self c.loop-record.invariant.filling.room
    (adds_room now c.close_sample.new.self c.close_sample.result _ c.close_sample.ensures.room)

pub returns-clause-has : goal.returns-clause-has
returns-clause-has c =
    let T = table_of c.args.records.kind in
    let all_pushed = ap (λ (fs : List FrameView). frame_trees T fs) c.in_default.ensures.none.0 in
    end_has c.args.writer.now c.loop-record.writer c.close_sample.new.self c.args.records.kind
    (frame_trees T c.args.records.frames) (frame_trees T c.loop-record.records.frames) c.args.tail.now c.close_sample.result
    c.loop-record.invariant.filling all_pushed c.close_sample.ensures.has

pub returns-clause-full : goal.returns-clause-full
returns-clause-full c =
    let T = table_of c.args.records.kind in
    let all_pushed = ap (λ (fs : List FrameView). frame_trees T fs) c.in_default.ensures.none.0 in
    end_full c.args.writer.now c.loop-record.writer c.close_sample.new.self c.args.records.kind
    (frame_trees T c.args.records.frames) (frame_trees T c.loop-record.records.frames) c.args.tail.now c.close_sample.result
    c.loop-record.invariant.filling all_pushed c.close_sample.ensures.room
