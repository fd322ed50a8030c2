use Rattle.accepted_calls.proofs.Taken.{observed, polled}
use Rattle.accepted_calls.proofs.laws.what_calls_take_is_accepted.Goals as goal

pub returns-clause-observed : goal.returns-clause-observed
returns-clause-observed c = λ s id p f words source allowed. observed s id p f words source allowed

pub returns-clause-polled : goal.returns-clause-polled
returns-clause-polled c = λ s now read some fit lawful. polled s some fit read lawful

pub returns-clause-sent : goal.returns-clause-sent
returns-clause-sent c = λ s now count h. h

pub returns-clause-reset : goal.returns-clause-reset
returns-clause-reset c = λ s source. tt
