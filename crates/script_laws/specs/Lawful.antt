-- Lines that a script may have, and what each boot of its sub-agents is. Every list of lines has the LATEST FIRST.
use Rattle.std.specs.Prelude.{◌≡◌, ℕ, true, List, [], ◌∷◌, reverse}
use Rattle.std.specs.List.{AllByRecursion}
use Rattle.agent_spec.specs.Boots.{MayHappen}
use Rattle.script_spec.specs.Lines.{Line, SubAgent}
use Rattle.script_spec.specs.Agents.{AgentBoot, setup_of, boots_of}
use Rattle.script_spec.specs.Rules.{may_follow}
use Rattle.script_spec.specs.Scripts.{Script}
use Rattle.script_laws.specs.Written.{may_be_written}

-- each line can be written, and may follow those before it
abbrev pub AreLawful : List Line → Type 0
AreLawful [] = Unit {0}
AreLawful (line ∷ before) = (may_be_written line ≡ true) × (may_follow before line ≡ true) × AreLawful before

-- the lines of a script are lawful
abbrev pub ScriptsAreLawful : Type 0
ScriptsAreLawful = (bytes : List ℕ) (lines : List Line) → Script bytes lines → AreLawful (reverse lines)

-- in each boot of the sub-agent what happens may happen
abbrev pub BootsMayHappen : List Line → SubAgent → Type 0
BootsMayHappen lines s = AllByRecursion (λ (b : AgentBoot). MayHappen (setup_of lines s) b.events) (boots_of lines s)
