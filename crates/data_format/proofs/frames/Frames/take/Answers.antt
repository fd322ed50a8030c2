use Rattle.std.proofs.Common.{◌≡◌, ◌∙◌, sym, Ok}
use Rattle.wire_spec.specs.Fails.{Remaining}
use Rattle.wire_spec.specs.Reading.{word_at}
use Rattle.wire_spec.specs.Bodies.{items_at}
use Rattle.wire_spec.proofs.Runs.{goes_on, arrives}
use Rattle.xdr_words.specs.Readers.{remaining}
use Rattle.data_format.specs.Frames.{Test, checked_at}
use Rattle.data_format.specs.Views.{frame_view}
use Rattle.data_format.proofs.Again.{frames_again}
use Rattle.data_format.proofs.frames.Frames.take.Goals as goal

pub loop-preserved : goal.loop-preserved
loop-preserved g c =
    let test : Test = λ f. g.C.BodyCheck.test c.args.check.now c.args.pad f in
    let each = checked_at c.args.pad test in
    let b : Remaining = record { at = c.at-at.result; bytes = c.rest-rest.result.now } in
    let n = c.in_ok-count.count in
    record {
      same_pad = c.loop.invariant.same_pad ∙ sym c.in_ok-read_frame.ensures.exact.1;
      under_way = goes_on each n c.loop.counter (remaining c.loop.next) (items_at each n b)
          (frame_view c.in_ok-read_frame.field-0) (remaining c.read_frame.new.cursor) c.loop-test.true
          c.in_ok-read_frame.ensures.exact.0 c.loop.invariant.under_way;
    }

pub invariant_of-result : goal.invariant_of-result
invariant_of-result g c =
    let test : Test = λ f. g.C.BodyCheck.test c.args.check.now c.args.pad f in
    let each = checked_at c.args.pad test in
    let b : Remaining = record { at = c.at-at.result; bytes = c.rest-rest.result.now } in
    let n = c.in_ok-count.count in
    let all = arrives each n c.loop.counter (remaining c.loop.next) (items_at each n b) c.loop-test.false
    c.loop.invariant.under_way in
    let again = frames_again c.args.pad test n b (remaining c.loop.next) all.0 all.1 in
    (rw (c.at-at.ensures.place, c.rest-rest.ensures) c.at-at.ensures.end, again.0)

pub returns : goal.returns
returns g c =
    let test : Test = λ f. g.C.BodyCheck.test c.args.check.now c.args.pad f in
    let each = checked_at c.args.pad test in
    let b : Remaining = record { at = c.at-at.result; bytes = c.rest-rest.result.now } in
    let n = c.in_ok-count.count in
    let all = arrives each n c.loop.counter (remaining c.loop.next) (items_at each n b) c.loop-test.false
    c.loop.invariant.under_way in
    let again = frames_again c.args.pad test n b (remaining c.loop.next) all.0 all.1 in
    let count : word_at (remaining c.args.cursor.now) ≡ Ok (n, b) =
    rw (c.at-at.ensures.place, c.rest-rest.ensures, ← c.fork-next.ensures) c.in_ok-count.ensures.exact.0 in
    (rw (count, again.1) all.1, sym c.loop.invariant.same_pad ∙ c.requires)
