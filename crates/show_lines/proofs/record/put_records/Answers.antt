use Rattle.std.proofs.Common.{◌∙◌}
use Rattle.show_lines.proofs.Places.{record_line}
use Rattle.show_lines.proofs.Series.{one_more, one_fails}
use Rattle.show_lines.proofs.record.put_records.Goals as goal

pub loop-record-preserved : goal.loop-record-preserved
loop-record-preserved g c =
    let before = c.loop-record.invariant in
    let some = c.in-Some.ensures.some in
    let has = c.in-Some.ensures.of_kind in
    let put = c.in_ok-put_record.ensures in
    let line = record_line _ _ some.0 _ before.kind some.2 in
    record {
      far = one_more _ _ _ _ _ _ _ _ before.far some.0 _ _ _ _ some.1 line (put _ has);
      kind = c.in-Some.ensures.kind ∙ before.kind;
    }

pub returns-in_err-put_record : goal.returns-in_err-put_record
returns-in_err-put_record g c =
    let before = c.loop-record.invariant in
    let some = c.in-Some.ensures.some in
    let line = record_line _ _ some.0 _ before.kind some.2 in
    one_fails _ _ _ _ _ _ _ _ before.far some.0 _ _ _ _ some.1 line _ _ c.from_residual.ensures.1
    (c.in_err-put_record.ensures _ c.in-Some.ensures.of_kind)
