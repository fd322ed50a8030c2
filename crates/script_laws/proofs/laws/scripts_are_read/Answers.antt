use Rattle.script_laws.proofs.SoFar.{reads_fault, reads_script}
use Rattle.script_laws.proofs.laws.scripts_are_read.Goals as goal

pub returns-clause-script : goal.returns-clause-script
returns-clause-script c = reads_script

pub returns-clause-fault : goal.returns-clause-fault
returns-clause-fault c = reads_fault
