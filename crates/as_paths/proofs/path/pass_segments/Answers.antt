use Rattle.std.proofs.Common.{◌∙◌}
use Rattle.std.proofs.lemmas.Result.{err_from_is_err_and}
use Rattle.wire_spec.specs.Bodies.{items_at}
use Rattle.wire_spec.proofs.Runs.{goes_on, breaks_off, arrives}
use Rattle.xdr_words.specs.Readers.{remaining}
use Rattle.as_paths.specs.Paths.{segment_at}
use Rattle.as_paths.proofs.path.pass_segments.Goals as goal

pub loop-preserved : goal.loop-preserved
loop-preserved c =
    let all = items_at segment_at c.args.count (remaining c.args.cursor.now) in
    record {
      same_pad = c.in_ok-read.ensures.1 ∙ c.loop.invariant.same_pad;
      under_way = goes_on segment_at c.args.count c.loop.counter (remaining c.loop.cursor) all c.in_ok-read.field-0
          (remaining c.read.new.cursor) c.loop-test.true c.in_ok-read.ensures.0 c.loop.invariant.under_way;
    }

pub returns-in_err-read-clause-err : goal.returns-in_err-read-clause-err
returns-in_err-read-clause-err c =
    let all = items_at segment_at c.args.count (remaining c.args.cursor.now) in
    let p = err_from_is_err_and c.from_residual.result c.from_residual.ensures.1 in
    rw (p.1, p.2) (breaks_off segment_at c.args.count c.loop.counter (remaining c.loop.cursor) all _ c.loop-test.true
    c.in_err-read.ensures.0 c.loop.invariant.under_way)

pub returns-clause-ok : goal.returns-clause-ok
returns-clause-ok c =
    let all = items_at segment_at c.args.count (remaining c.args.cursor.now) in
    arrives segment_at c.args.count c.loop.counter (remaining c.loop.cursor) all c.loop-test.false c.loop.invariant.under_way
