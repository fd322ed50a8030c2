use Rattle.std.proofs.Common.{◌++◌, List, [], ◌∷◌, subst}
use Rattle.std.specs.Prelude.{Option, option_and_then}
use Rattle.script_spec.specs.Agents.{numbered}
use Rattle.true_samples.specs.States.{SentState, BootState, TrueState}
use Rattle.true_samples.specs.Standing.{sent_at, AreSame}
use Rattle.true_samples.proofs.Finds.{found, when-some, when-none}
use Rattle.true_samples.proofs.sub_agent.TrueSubAgent.find.Goals as goal

abbrev boots_of : TrueState → List BootState
boots_of t = t.earlier ++ t.current ∷ []

pub returns-in_default-clause-none : goal.returns-in_default-clause-none
returns-in_default-clause-none c = λ sender s events earlier st.
    subst (λ (b : Option BootState). AreSame sender s (option_and_then (λ (x : BootState). numbered x.datagrams c.args.number) b)
    (sent_at s (events ∷ earlier) c.args.boot c.args.number)) c.in_default.ensures.none
    (found sender s c.args.self.now events earlier c.args.boot c.args.number st)

pub returns-clause-some : goal.returns-clause-some
returns-clause-some c = λ sender s events earlier st.
    when-some c.find.result (λ d. d.now) (numbered c.in-Some.boot.now.datagrams c.args.number)
    (λ (r : Option SentState). AreSame sender s r (sent_at s (events ∷ earlier) c.args.boot c.args.number)) c.find.ensures.some
    (subst (λ (b : Option BootState). AreSame sender s (option_and_then (λ (x : BootState). numbered x.datagrams c.args.number) b)
    (sent_at s (events ∷ earlier) c.args.boot c.args.number)) c.in-Some.ensures.some
    (found sender s c.args.self.now events earlier c.args.boot c.args.number st))

pub returns-clause-none : goal.returns-clause-none
returns-clause-none c = λ sender s events earlier st.
    when-none c.find.result (numbered c.in-Some.boot.now.datagrams c.args.number)
    (λ (r : Option SentState). AreSame sender s r (sent_at s (events ∷ earlier) c.args.boot c.args.number)) c.find.ensures.none
    (subst (λ (b : Option BootState). AreSame sender s (option_and_then (λ (x : BootState). numbered x.datagrams c.args.number) b)
    (sent_at s (events ∷ earlier) c.args.boot c.args.number)) c.in-Some.ensures.some
    (found sender s c.args.self.now events earlier c.args.boot c.args.number st))
