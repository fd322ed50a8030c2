use Rattle.std.proofs.Common.{◌∙◌, arith}
use Rattle.script_meter.specs.Tallies.{with_restart}
use Rattle.script_meter.proofs.Each.{all_done, step}
use Rattle.script_meter.proofs.meter.restart_each.Goals as goal

pub loop-place-preserved : goal.loop-place-preserved
loop-place-preserved c =
    step (with_restart c.args.owner) c.args.rows.now c.loop-place.rows c.loop-place.place _ c.restart.new.self
    c.loop-place-test.true c.loop-place.invariant c.restart.ensures

pub returns : goal.returns
returns c =
    c.loop-place.invariant
    ∙ all_done (with_restart c.args.owner) c.args.rows.now c.loop-place.place
    (omega (arith, c.loop-place-test.false, c.loop-place.auto.place-end))
