-- What `agent` writes: a capture of version 1 with the datagrams that the sub-agents of a script send, as they are sent.
-- Every list of lines has the LATEST FIRST; entries stand in their order.
use Rattle.std.specs.Prelude.{ℕ, Bool, true, false, List, [], ◌∷◌, ◌++◌, flat_map}
use Rattle.wire_spec.specs.Captures.{Entry, capture_bytes, capture_header, entry_bytes}
use Rattle.script_spec.specs.Lines.{Line}
use Rattle.script_spec.specs.Sent.{all_sent}
use Rattle.command_runs.specs.Acts.{Act}

-- the capture of all that the lines send
abbrev pub agent_text : List Line → List ℕ
agent_text lines = capture_bytes (all_sent lines)

-- the capture up to the last of these entries, or nothing where there are none
abbrev pub begun_entries : List Entry → List ℕ
begun_entries [] = []
begun_entries (e ∷ entries) = capture_bytes (e ∷ entries)

-- what is written of the lines that were read before reading ended early
abbrev pub agent_part : List Line → List ℕ
agent_part lines = begun_entries (all_sent lines)

abbrev pub agent_act : Act (List Line)
agent_act = record {
  whole = agent_text;
  part = agent_part;
  finds = λ lines. false;
  may_find = false;
  at_end = false;
  memory_first = false;
}

-- ---- line by line

-- whether there are some, and so the header stands before them
abbrev pub are_some : List Entry → Bool
are_some [] = false
are_some (e ∷ entries) = true

-- the header, unless it stands there
abbrev pub opening : Bool → List ℕ
opening true = []
opening false = capture_header 1

-- what is put of further entries
abbrev pub entries_put : Bool → List Entry → List ℕ
entries_put opened [] = []
entries_put opened (e ∷ entries) = opening opened ++ flat_map entry_bytes (e ∷ entries)
