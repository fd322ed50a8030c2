use Rattle.std.proofs.Common.{ℕ, List, [], ◌∷◌, ◌≡◌, refl}
use Rattle.agent_spec.specs.Sources.{CounterSetup}
use Rattle.agent_spec.specs.Events.{Event}
use Rattle.agent_spec.specs.Boots.{Boot, after_poll}
use Rattle.agent_poller.proofs.Follows.{own-poll, other-poll}
use Rattle.agent_poller.proofs.laws.polls_go_one_by_one.Goals as goal

none-read : (now : ℕ) (events : List Event) (due : List CounterSetup) (b : Boot) → after_poll now events due [] b ≡ b
none-read now events [] b = refl
none-read now events (c ∷ due) b = refl

pub returns-clause-none : goal.returns-clause-none
returns-clause-none c = none-read

pub returns-clause-next : goal.returns-clause-next
returns-clause-next c = λ now events setup due reading more b. refl

pub returns-clause-own : goal.returns-clause-own
returns-clause-own c = own-poll

pub returns-clause-others : goal.returns-clause-others
returns-clause-others c = other-poll
