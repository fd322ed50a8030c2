use Rattle.std.proofs.Common.{◌≡◌, ◌∙◌, refl, ap, arith}
use Rattle.trial_spec.specs.Made.{state_after}
use Rattle.made_runs.proofs.ManyDraws.{state-on}
use Rattle.made_runs.proofs.run.MadeRun.begin.Goals as goal

pub loop-place-preserved : goal.loop-place-preserved
loop-place-preserved c =
    state-on c.loop-place.place c.args.seed c.loop-place.draws.state c.below.new.self.state c.loop-place.invariant
    c.below.ensures.state

pub returns : goal.returns
returns c = λ names.
    let all : c.loop-place.place ≡ 64 = omega (arith, c.loop-place-test.false, c.loop-place.auto.place-end) in
    record {
      state_is = c.loop-place.invariant ∙ ap (λ k. state_after k c.args.seed) all;
      base_is = refl;
      packets_are = refl;
      boot_is = refl;
      held_is = tt;
    }
