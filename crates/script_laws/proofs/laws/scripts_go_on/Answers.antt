use Rattle.script_laws.proofs.SoFar.{all_read, before_all, fault_next, line_broken, line_kept}
use Rattle.script_laws.proofs.laws.scripts_go_on.Goals as goal

pub returns-clause-first : goal.returns-clause-first
returns-clause-first c = before_all

pub returns-clause-line : goal.returns-clause-line
returns-clause-line c = λ input b texts line number more s. line_kept input b texts s line number more

pub returns-clause-broken : goal.returns-clause-broken
returns-clause-broken c = λ input b texts line number more s. line_broken input b texts s line number more

pub returns-clause-fault : goal.returns-clause-fault
returns-clause-fault c = λ input b texts number s. fault_next input b texts s number

pub returns-clause-end : goal.returns-clause-end
returns-clause-end c = λ input b texts s. all_read input b texts s
