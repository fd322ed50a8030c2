-- A script up to one of its lines: what the lines of text say that were read, how it goes on behind them, and how it ends.
-- Every list of lines has the LATEST FIRST.
use Rattle.std.specs.Prelude.{◌≡◌, ℕ, List, ◌++◌, reverse, Some}
use Rattle.script_spec.specs.Words.{Text}
use Rattle.script_spec.specs.Lines.{Line}
use Rattle.script_spec.specs.Texts.{texts_in}
use Rattle.script_spec.specs.Scripts.{Behind, BreaksRule, LacksHeading, Script, behind_texts, nothing_yet}

-- these texts of the input stand behind others, each of which keeps the rules; what those say is kept in `b`
pub record SoFar (input : List ℕ) (b : Behind) (more : List Text) : Type 0 where
  pub before : List Text
  pub whole : texts_in input ≡ before ++ more
  pub kept : behind_texts nothing_yet before ≡ Some b

-- the input begins with lines that say these
pub record BeginsWithLines (lines : List Line) (input : List ℕ) : Type 0 where
  pub behind : Behind
  pub more : List Text
  pub so_far : SoFar input behind more
  pub says : behind.lines ≡ lines

-- the input is a script of these
abbrev pub IsScriptOf : List Line → List ℕ → Type 0
IsScriptOf lines input = Script input (reverse lines)

-- the first line that breaks a rule has this number, or the heading isn't there by then; those before it say these
pub data BreaksBehind (lines : List Line) (input : List ℕ) (number : ℕ) : Type 0 where
  broken : (h : BreaksRule input number) → h.last.lines ≡ lines → BreaksBehind lines input number
  headless : (h : LacksHeading input number) → h.last.lines ≡ lines → BreaksBehind lines input number

-- ---- what comes next

-- all of these texts say nothing
pub record SaysNothing (b : Behind) (texts : List Text) : Type 0 where
  pub last : Behind
  pub kept : behind_texts b texts ≡ Some last
  pub lines : last.lines ≡ b.lines
