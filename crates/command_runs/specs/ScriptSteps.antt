-- How the reading of a script may end before its end or its fault. Every list of lines has the LATEST FIRST.
use Rattle.std.specs.Prelude.{◌≡◌, ◌==◌, ℕ, false, List, ◌++◌, Option, Some}
use Rattle.std.specs.List.{list_any}
use Rattle.wire_spec.specs.declared.input_kind.InputKind.{InputKind}
use Rattle.wire_spec.specs.declared.input_kind.InputKind.TheVariants.{Script}
use Rattle.script_spec.specs.Words.{Text}
use Rattle.script_spec.specs.Lines.{Line}
use Rattle.script_spec.specs.Scripts.{Behind}
use Rattle.script_spec.specs.Steps.{next_in}
use Rattle.script_spec.specs.Texts.{texts_in}
use Rattle.script_laws.specs.SoFar.{BreaksBehind, SoFar}

-- behind these stands the fault of the input, at the line of this number
abbrev pub ScriptFaultBehind : List Line → List ℕ → ℕ → InputKind → Type 0
ScriptFaultBehind lines input number kind = BreaksBehind lines input number × (kind ≡ Script)

-- a line of a script has a number of 32 bits, so no script goes on behind as many as are read at most
abbrev pub NeverGoesOn : List Line → List ℕ → Type 0
NeverGoesOn lines input = ⊥

-- A read has failed behind these. A part of one line is gone from what the source has left, and what that part and the
-- rest say next is what the input says next: no whole line is lost that says something.
pub record StopsInScript (lines : List Line) (input : List ℕ) (left : Option (List ℕ)) : Type 0 where
  pub behind : Behind
  pub more : List Text
  pub so_far : SoFar input behind more
  pub says : behind.lines ≡ lines
  pub now : Behind
  pub part : List ℕ
  pub rest : List ℕ
  pub inside : list_any (λ b. b == 10) part ≡ false
  pub left_is : left ≡ Some rest
  pub same : next_in behind.begun behind.count more ≡ next_in now.begun now.count (texts_in (part ++ rest))
