use Rattle.std.proofs.Common.{ap, sym, arith}
use Rattle.agent_sampler.specs.Sampling.{verdict_on}
use Rattle.agent_sampler.proofs.Between.{not-between, at-sum}
use Rattle.agent_sampler.proofs.sampler.Sampler.observe.Goals as goal

pub returns-then-self-gt0-clause-verdict : goal.returns-then-self-gt0-clause-verdict
returns-then-self-gt0-clause-verdict c =
    rw (← c.self.view_is) (λ packets issued dropped st.
    ap verdict_on (sym (not-between c.self.inside.skips packets st.count c.self.invariant.skips_are st.reached
    (omega (arith, st.left_is, c.if-self-gt0.true)))))

pub returns-clause-verdict : goal.returns-clause-verdict
returns-clause-verdict c =
    rw (← c.self.view_is) (λ packets issued dropped st.
    ap verdict_on (sym (at-sum c.self.inside.skips packets st.count c.self.invariant.skips_are
    (omega (arith, st.left_is, c.if-self-gt0.false, c.self.invariant.left_from)))))
