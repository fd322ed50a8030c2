use Rattle.std.proofs.Common.{◌∙◌, length, ap}
use Rattle.std.proofs.lemmas.List.{length-reverse}
use Rattle.agent_spec.specs.Boots.{happened}
use Rattle.true_samples.specs.Samples.{IsSent}
use Rattle.true_samples.specs.States.{TrueState}
use Rattle.true_samples.proofs.Lists.{each-length}
use Rattle.true_samples.proofs.sub_agent.TrueSubAgent.sent_count.Goals as goal

pub returns : goal.returns
returns c = λ sender s events earlier st.
    c.sent_count.ensures
    ∙ ap (λ (t : TrueState). length t.current.datagrams) c.self.view_is
    ∙ each-length (IsSent sender s) _ _ st.follows.sent_are
    ∙ length-reverse (happened s events).sent
