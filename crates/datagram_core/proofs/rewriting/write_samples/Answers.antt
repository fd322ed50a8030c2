use Rattle.std.proofs.Common.{List, ap}
use Rattle.data_format.specs.Views.{FrameView}
use Rattle.data_format.specs.Trees.{frame_trees}
use Rattle.datagram_core.specs.Samples.{sample_tree}
use Rattle.datagram_core.specs.Tables.{samples_read}
use Rattle.datagram_core.proofs.Anew.{writing_start, writing_next, writing_step, writing_end, has_format, sample_short, sample_full}
use Rattle.datagram_core.proofs.Filling.{if_err, same_room}
use Rattle.datagram_core.proofs.rewriting.write_samples.Goals as goal

pub loop-sample-init : goal.loop-sample-init
loop-sample-init c = writing_start c.args.writer.now (frame_trees samples_read c.args.samples) c.requires.closed

pub write_sample-requires-clause-records : goal.write_sample-requires-clause-records
write_sample-requires-clause-records c = let (f, parts, of) = c.in-Some.ensures.some in of.records

pub write_sample-requires-clause-format : goal.write_sample-requires-clause-format
write_sample-requires-clause-format c =
    let (f, parts, of) = c.in-Some.ensures.some in has_format f c.in-Some.sample of.itself

pub write_sample-requires-clause-short : goal.write_sample-requires-clause-short
write_sample-requires-clause-short c =
    let start = c.args.writer.now in
    let now = c.loop-sample.writer in
    let all = frame_trees samples_read c.args.samples in
    let s = c.in-Some.sample in
    let f = writing_next start now all c.loop-sample.samples c.next.new.self s c.loop-sample.invariant c.in-Some.ensures.some in
    sample_short start now all (sample_tree s) (frame_trees samples_read c.next.new.self) f c.requires.short

pub loop-sample-preserved : goal.loop-sample-preserved
loop-sample-preserved c =
    let start = c.args.writer.now in
    let now = c.loop-sample.writer in
    let new = c.write_sample.new.writer in
    let all = frame_trees samples_read c.args.samples in
    let s = c.in-Some.sample in
    let f = writing_next start now all c.loop-sample.samples c.next.new.self s c.loop-sample.invariant c.in-Some.ensures.some in
    writing_step start now new all (sample_tree s) (frame_trees samples_read c.next.new.self) f c.write_sample.ensures.room
    c.in_ok-write_sample.ensures.closed c.in_ok-write_sample.ensures.has

pub returns-in_err-write_sample-clause-full : goal.returns-in_err-write_sample-clause-full
returns-in_err-write_sample-clause-full c = λ h begun.
    let start = c.args.writer.now in
    let now = c.loop-sample.writer in
    let all = frame_trees samples_read c.args.samples in
    let s = c.in-Some.sample in
    let f = writing_next start now all c.loop-sample.samples c.next.new.self s c.loop-sample.invariant c.in-Some.ensures.some in
    if_err c.from_residual.result
    (sample_full start now all (sample_tree s) (frame_trees samples_read c.next.new.self) h f begun
    c.in_err-write_sample.ensures.full)

pub returns-clause-has : goal.returns-clause-has
returns-clause-has c = λ h begun.
    writing_end c.args.writer.now c.loop-sample.writer (frame_trees samples_read c.args.samples)
    (frame_trees samples_read c.loop-sample.samples) c.loop-sample.invariant
    (ap (λ (fs : List FrameView). frame_trees samples_read fs) c.in_default.ensures.none.0) h begun

pub returns-in_err-write_sample-clause-room : goal.returns-in_err-write_sample-clause-room
returns-in_err-write_sample-clause-room c =
    same_room c.args.writer.now c.loop-sample.writer c.write_sample.new.writer c.loop-sample.invariant.room c.write_sample.ensures.room
