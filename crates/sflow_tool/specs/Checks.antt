-- What `check` writes: a line for each entry that is no datagram under a reading of padding, and then how many
-- entries there are and how many of them are faulty.
use Rattle.std.specs.Prelude.{ℕ, Bool, true, false, List, [], ◌∷◌, ◌++◌, length, codes, decimal, nat_lt, Result, Ok, Err}
use Rattle.std.specs.List.{concat, count_by}
use Rattle.wire_spec.specs.declared.fault.Fault.{Fault}
use Rattle.wire_spec.specs.declared.pad.Pad.{Pad}
use Rattle.capture_spec.specs.Items.{Received}
use Rattle.wire_spec.specs.Shapes.{Tree}
use Rattle.wire_spec.specs.Whole.{whole_reading}
use Rattle.datagram_core.specs.Tables.{datagram_read}
use Rattle.command_runs.specs.Acts.{Act}
use Rattle.command_runs.specs.Grammars.{Capture}
use Rattle.sflow_tool.specs.Faults.{fault_line}
use Rattle.command_runs.specs.Lines.{lines_of}
use Rattle.command_runs.specs.Tasks.{Task}

-- the line of an entry whose bytes were read so: its fault, if it is no datagram
abbrev pub reading_line : ℕ → Result Tree Fault → List ℕ
reading_line number (Ok t) = []
reading_line number (Err f) = fault_line number f

abbrev pub is_fault : Result Tree Fault → Bool
is_fault (Ok t) = false
is_fault (Err f) = true

unfoldable pub check_line : Pad → ℕ → Received → List ℕ
check_line p number e = reading_line number (whole_reading p datagram_read e.bytes)

unfoldable pub is_faulty : Pad → Received → Bool
is_faulty p e = is_fault (whole_reading p datagram_read e.bytes)

-- how many of the entries are faulty
abbrev pub faulty_count : Pad → List Received → ℕ
faulty_count p entries = count_by (is_faulty p) entries

-- the last line
unfoldable pub checked_line : ℕ → ℕ → List ℕ
checked_line entries faulty = concat (
    codes "checked " ∷ decimal entries ∷ codes " faulty " ∷ decimal faulty ∷ codes "\n" ∷ [])

abbrev pub check_lines : Pad → List Received → List ℕ
check_lines p entries = lines_of (check_line p) 1 entries

abbrev pub check_text : Pad → List Received → List ℕ
check_text p entries = check_lines p entries ++ checked_line (length entries) (faulty_count p entries)

abbrev pub check_act : Pad → Act Capture
check_act p = record {
  whole = λ c. check_text p c.entries;
  part = λ c. check_lines p c.entries;
  finds = λ c. nat_lt 0 (faulty_count p c.entries);
  may_find = true;
  at_end = false;
  memory_first = true;
}

abbrev pub check_task : Pad → Task
check_task p = record {
  line = check_line p;
  marks = is_faulty p;
  last = λ c. checked_line (length c.entries) (faulty_count p c.entries);
  waits = false;
}
