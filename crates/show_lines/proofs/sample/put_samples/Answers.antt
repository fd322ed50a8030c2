use Rattle.std.proofs.Common.{ap}
use Rattle.show_lines.specs.Shown.{sample_text}
use Rattle.show_lines.proofs.Series.{one_more, one_fails}
use Rattle.show_lines.proofs.sample.put_samples.Goals as goal

pub loop-sample-preserved : goal.loop-sample-preserved
loop-sample-preserved g c =
    let before = c.loop-sample.invariant in
    let some = c.in-Some.ensures.some in
    let put = c.in_ok-put_sample.ensures in
    record {
      far = one_more _ _ _ _ _ _ _ _ before.far some.0 _ _ _ _ some.1 (ap sample_text some.2.value) (put some.0 some.2);
    }

pub returns-in_err-put_sample : goal.returns-in_err-put_sample
returns-in_err-put_sample g c =
    let before = c.loop-sample.invariant in
    let some = c.in-Some.ensures.some in
    one_fails _ _ _ _ _ _ _ _ before.far some.0 _ _ _ _ some.1 (ap sample_text some.2.value) _ _ c.from_residual.ensures.1
    (c.in_err-put_sample.ensures some.0 some.2)
