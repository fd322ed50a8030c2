-- The exit codes and the texts of the statuses.
use Rattle.std.specs.Prelude.{ℕ, List, [], ◌++◌, codes, decimal}
use Rattle.wire_spec.specs.FaultNames.{input_kind_name}
use Rattle.command_runs.specs.declared.status.Status.{Status}
use Rattle.command_runs.specs.declared.status.Status.TheVariants.{
  Done,
  Found,
  Usage,
  ReadFault,
  WriteFault,
  BadInput,
  Memory,
  LinkFault,
  Spent,
}

abbrev pub code_of : Status → ℕ
code_of Done = 0
code_of Found = 1
code_of Usage = 2
code_of ReadFault = 3
code_of WriteFault = 4
code_of (BadInput at kind) = 5
code_of Memory = 6
code_of LinkFault = 7
code_of Spent = 8

abbrev pub status_text : Status → List ℕ
status_text Done = []
status_text Found = []
status_text Usage = codes "usage"
status_text ReadFault = codes "read fault"
status_text WriteFault = codes "write fault"
status_text (BadInput at kind) = codes "bad input at " ++ decimal at ++ codes " kind " ++ input_kind_name kind
status_text Memory = codes "out of memory"
status_text LinkFault = codes "link fault"
status_text Spent = codes "too many entries"
