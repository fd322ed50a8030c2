use Rattle.std.proofs.Common.{[], ◌∷◌, sym, subst}
use Rattle.true_samples.specs.States.{TrueState}
use Rattle.true_samples.specs.Standing.{StandsFor}
use Rattle.true_samples.proofs.Answers.{on-ok}
use Rattle.true_samples.proofs.Resets.{restarted-stands}
use Rattle.true_samples.proofs.sub_agent.TrueSubAgent.restart.Goals as goal

pub returns : goal.returns
returns c = on-ok c.begin_boot.result c.begin_boot.ensures (λ is sender s events earlier st.
    subst (λ (t : TrueState). StandsFor sender s t [] (events ∷ earlier)) (sym is)
    (restarted-stands sender s c.args.self.now events earlier st))
