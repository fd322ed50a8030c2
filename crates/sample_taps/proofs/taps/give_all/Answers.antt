use Rattle.std.proofs.Common.{rules}
use Rattle.sample_taps.proofs.Partway.{at_first, further, at_last}
use Rattle.sample_taps.proofs.taps.give_all.Goals as goal

pub loop-tap-init : goal.loop-tap-init
loop-tap-init g c = at_first _ _

pub loop-tap-preserved : goal.loop-tap-preserved
loop-tap-preserved g c =
    further _ c.loop-tap.tap-index _ _ c.tap-item.result c.take_all_in.new.tap c.loop-tap.invariant (search rules) c.take_all_in.ensures

pub returns : goal.returns
returns g c = at_last _ c.loop-tap.tap-index _ _ c.loop-tap.invariant (search rules)
