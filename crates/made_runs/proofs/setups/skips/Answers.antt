use Rattle.std.proofs.Common.{◌≡◌, ◌∙◌, ◌+◌, ap, arith, map}
use Rattle.trial_spec.specs.Made.{all_drawn}
use Rattle.made_runs.proofs.ManyDraws.{state-on, push-on}
use Rattle.made_runs.proofs.setups.skips.Goals as goal

pub loop-place-preserved : goal.loop-place-preserved
loop-place-preserved c = record {
  state = state-on c.loop-place.place c.args.seed c.loop-place.draws.state c.below.new.self.state c.loop-place.invariant.state
      c.below.ensures.state;
  numbers = c.in_ok-push.ensures.items
      ∙ push-on (λ k. 1 + k) 19 c.loop-place.place c.args.seed c.loop-place.draws.state c.below.result c.loop-place.numbers.items
      c.loop-place.invariant.state c.loop-place.invariant.numbers c.below.ensures.number;
}

pub returns : goal.returns
returns c =
    let all : c.loop-place.place ≡ 64 = omega (arith, c.loop-place-test.false, c.loop-place.auto.place-end) in
    c.loop-place.invariant.numbers ∙ ap (λ k. map (λ n. 1 + n) (all_drawn k 19 c.args.seed)) all
