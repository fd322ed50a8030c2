-- What `show` writes: the lines of each entry.
use Rattle.std.specs.Prelude.{ℕ, false, true, List, []}
use Rattle.capture_spec.specs.Items.{Received}
use Rattle.show_lines.specs.Shown.{received_text}
use Rattle.command_runs.specs.Acts.{Act}
use Rattle.command_runs.specs.Grammars.{Capture}
use Rattle.command_runs.specs.Lines.{lines_of}
use Rattle.command_runs.specs.Tasks.{Task}

-- the lines of these entries, one after the other
abbrev pub shown_lines : List Received → List ℕ
shown_lines entries = lines_of received_text 1 entries

abbrev pub show_act : Act Capture
show_act = record {
  whole = λ c. shown_lines c.entries;
  part = λ c. shown_lines c.entries;
  finds = λ c. false;
  may_find = false;
  at_end = false;
  memory_first = true;
}

abbrev pub show_task : Task
show_task = record { line = received_text; marks = λ e. false; last = λ c. []; waits = false }
