-- The device of a script: each of its sub-agents is in its boot. Every list of lines has the LATEST FIRST; sub-agents stand
-- in the order of their lines.
use Rattle.std.specs.Prelude.{ℕ, List, length, map, reverse}
use Rattle.wire_spec.specs.Captures.{Entry}
use Rattle.agent_outlets.specs.Outlets.{PutView}
use Rattle.script_spec.specs.Lines.{Line, SubAgent}
use Rattle.script_spec.specs.Agents.{boots_of, sender_of, setup_of, subs_in}
use Rattle.script_tables.specs.Tables.{newest}
use Rattle.sub_agents.specs.SubAgents.{BootSoFar}
use Rattle.sub_agents.specs.Devices.{DeviceState, StandForEach}

-- the boot in which a sub-agent is behind these lines
abbrev pub boot_now : List Line → SubAgent → BootSoFar
boot_now lines s = record {
  sender = sender_of lines s;
  setup = setup_of lines s;
  number = length (boots_of lines s);
  events = (newest (boots_of lines s)).events;
}

abbrev pub boots_now : List Line → List BootSoFar
boots_now lines = map (boot_now lines) (reverse (subs_in lines))

abbrev pub DeviceOf : DeviceState → List Line → Type 0
DeviceOf d lines = StandForEach d.subs (boots_now lines)

-- a datagram that was put arrives at this time
abbrev pub put_entry : ℕ → PutView → Entry
put_entry at p = record { arrival = at; bytes = p.bytes }
