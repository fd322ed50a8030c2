use Rattle.std.proofs.Common.{◌≡◌, ap, arith}
use Rattle.trial_premises.specs.Samples.{SourceState}
use Rattle.trial_premises.proofs.SourceSteps.{source-begins, source-goes-on}
use Rattle.trial_premises.proofs.sources.SourceWatch.enter.Goals as goal

pub returns-then-boot-self : goal.returns-then-boot-self
returns-then-boot-self c = λ a current closed h some st.
    let same : c.self.inside.boot ≡ c.args.self.now.boot = ap (λ (s : SourceState). s.boot) c.self.view_is in
    source-begins c.args.width c.args.boot c.args.at c.args.sample.now a c.args.self.now c.begin.new.self current closed h
    h.counted (omega (arith, same)) c.begin.ensures.begins st

pub returns-else-boot-self : goal.returns-else-boot-self
returns-else-boot-self c = λ a current closed h some st.
    let same : c.self.inside.boot ≡ c.args.self.now.boot = ap (λ (s : SourceState). s.boot) c.self.view_is in
    source-goes-on c.args.width c.args.boot c.args.at c.args.sample.now a c.args.self.now c.go_on.new.self current closed h
    h.counted some (omega (arith, same, st.boot_to)) c.go_on.ensures.goes_on st
