-- A script line by line, as a reader of it gives the lines that say something: the shape of each line is tested here, and
-- what it asks of those before it by whoever takes it.
use Rattle.std.specs.Prelude.{ℕ, ◌+◌, Bool, true, List, [], ◌∷◌, reverse, Result, Ok, Err, if◌then◌else◌}
use Rattle.script_spec.specs.Words.{Text}
use Rattle.script_spec.specs.Lines.{Line}
use Rattle.script_spec.specs.Texts.{Shape, Skipped, Heading, Says, Shapeless, shape_of}
use Rattle.script_spec.specs.Rules.{may_follow}
use Rattle.script_spec.specs.Scripts.{Behind, reading_behind}

-- what comes next: a line, its number and the lines behind it; the end; or the number of a line without a shape, or of
-- the line behind the last where the heading isn't there
pub data Next : Type 0 where
  Gives : Line → ℕ → List Text → Next
  Ends : Next
  Fails : ℕ → Next

-- what comes next where the line of this number has this shape; `rest` is what comes behind it
abbrev pub by_shape : Bool → ℕ → List Text → (Bool → Next) → Shape → Next
by_shape begun number more rest Skipped = rest begun
by_shape begun number more rest Heading = rest true
by_shape begun number more rest (Says line) = Gives line number more
by_shape begun number more rest Shapeless = Fails number

-- what comes next behind so many lines, by whether the heading is among them
abbrev pub next_in : Bool → ℕ → List Text → Next
next_in begun count [] = if begun then Ends else Fails (count + 1)
next_in begun count (text ∷ more) =
    by_shape begun (count + 1) more (λ now. next_in now (count + 1) more) (shape_of begun (count + 1) text)

-- behind a line that was given
abbrev pub behind_line : Behind → Line → ℕ → Behind
behind_line b line number = record { count = number; begun = true; lines = line ∷ b.lines }

-- what a script reads as where this comes next
abbrev pub reading_after : Behind → Next → Result (List Line) ℕ
reading_after b (Gives line number more) =
    if may_follow b.lines line then reading_behind (behind_line b line number) more else Err number
reading_after b Ends = Ok (reverse b.lines)
reading_after b (Fails number) = Err number
