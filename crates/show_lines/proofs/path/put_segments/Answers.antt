use Rattle.std.proofs.Common.{refl}
use Rattle.show_lines.proofs.Series.{one_more, one_fails}
use Rattle.show_lines.proofs.path.put_segments.Goals as goal

pub loop-segment-preserved : goal.loop-segment-preserved
loop-segment-preserved g c =
    let before = c.loop-segment.invariant in
    let put = c.in_ok-put_segment.ensures in
    record {
      far = one_more _ _ _ _ _ _ _ _ before.far _ _ _ _ _ c.in-Some.ensures.some refl put;
    }

pub returns-in_err-put_segment : goal.returns-in_err-put_segment
returns-in_err-put_segment g c =
    let before = c.loop-segment.invariant in
    one_fails _ _ _ _ _ _ _ _ before.far _ _ _ _ _ c.in-Some.ensures.some refl _ _ c.from_residual.ensures.1
    c.in_err-put_segment.ensures
