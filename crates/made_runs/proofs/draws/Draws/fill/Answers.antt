use Rattle.std.proofs.Common.{◌<◌, length, arith}
use Rattle.made_runs.proofs.ManyDraws.{state-on, write-on}
use Rattle.made_runs.proofs.draws.Draws.fill.Goals as goal

pub loop-place-preserved : goal.loop-place-preserved
loop-place-preserved c =
    let within : c.loop-place.place < length c.loop-place.bytes =
    omega (arith, c.loop-place.auto.bytes, c.loop-place-test.true) in
    record {
      state = state-on c.loop-place.place _ c.loop-place.self.state c.below.new.self.state c.loop-place.invariant.state
          c.below.ensures.state;
      bytes = write-on 256 c.loop-place.place _ c.loop-place.self.state c.below.result c.loop-place.bytes within
          c.loop-place.invariant.state c.loop-place.invariant.bytes c.below.ensures.number;
    }
