use Rattle.agent_spec.proofs.Begins.{empty-before}
use Rattle.agent_spec.proofs.laws.generations_begin_empty.Goals as goal

pub returns-clause-seen : goal.returns-clause-seen
returns-clause-seen c = λ s events turn less. (empty-before turn s events less).seen

pub returns-clause-issued : goal.returns-clause-issued
returns-clause-issued c = λ s events turn less. (empty-before turn s events less).issued

pub returns-clause-dropped : goal.returns-clause-dropped
returns-clause-dropped c = λ s events turn less. (empty-before turn s events less).dropped

pub returns-clause-polled : goal.returns-clause-polled
returns-clause-polled c = λ s events turn less. (empty-before turn s events less).polled
