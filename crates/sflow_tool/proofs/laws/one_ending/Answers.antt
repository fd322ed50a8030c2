use Rattle.sflow_tool.proofs.Performed.{one_ending, some_ending}
use Rattle.sflow_tool.proofs.laws.one_ending.Goals as goal

pub returns-clause-some : goal.returns-clause-some
returns-clause-some c command input are = some_ending command input are

pub returns-clause-one : goal.returns-clause-one
returns-clause-one c = λ command input one other are first second. one_ending command input one other are first second
