use Rattle.script_spec.proofs.Walks.{script_said, script_read, fault_said, fault_read}
use Rattle.script_spec.proofs.laws.script_reading_is_the_script.Goals as goal

pub returns-clause-lines : goal.returns-clause-lines
returns-clause-lines c = λ bytes lines. (script_said bytes lines, script_read bytes lines)

pub returns-clause-fault : goal.returns-clause-fault
returns-clause-fault c = λ bytes number. (fault_said bytes number, fault_read bytes number)
