use Rattle.std.proofs.Common.{refl, arith}
use Rattle.show_lines.proofs.Lists.{left_at}
use Rattle.show_lines.proofs.Series.{one_more, one_fails}
use Rattle.show_lines.proofs.parts.put_further.Goals as goal
use Rattle.show_lines.proofs.parts.put_further.Goals.{in-Some+in_ok-put_number, in_default}

pub loop-place-preserved : goal.loop-place-preserved
loop-place-preserved g c =
    let before = c.loop-place.invariant in
    elim c.match-get.branch [
      | in-Some+in_ok-put_number w ↦
          let next = left_at c.args.numbers.now c.loop-place.place _ w.in-Some.ensures.some in
          let put = w.in_ok-put_number.ensures in
          record {
            far = rw (w.page-is, w.sink-is) (one_more _ _ _ _ _ _ _ _ before.far _ _ _ _ _ next refl put);
          }
      | in_default w ↦
          absurd (omega (arith, w.in_default.ensures.none, c.len-place-end.ensures, c.loop-place-test.true))
    ]

pub returns-in_err-put_number : goal.returns-in_err-put_number
returns-in_err-put_number g c =
    let before = c.loop-place.invariant in
    let next = left_at c.args.numbers.now c.loop-place.place _ c.in-Some.ensures.some in
    one_fails _ _ _ _ _ _ _ _ before.far _ _ _ _ _ next refl _ _ c.from_residual.ensures.1
    c.in_err-put_number.ensures
