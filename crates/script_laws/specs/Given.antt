-- What comes next in a script, as the lines of text that it takes.
use Rattle.std.specs.Prelude.{◌≡◌, ℕ, ◌+◌, true, List, ◌∷◌, ◌++◌, Some}
use Rattle.script_spec.specs.Words.{Text}
use Rattle.script_spec.specs.Lines.{Line}
use Rattle.script_spec.specs.Texts.{Says, shape_of}
use Rattle.script_spec.specs.Scripts.{Behind, behind_texts}

-- behind lines that say nothing stands one of this number that says this, and these come behind it
pub record IsGiven (b : Behind) (texts : List Text) (line : Line) (number : ℕ) (more : List Text) : Type 0 where
  pub skipped : List Text
  pub text : Text
  pub last : Behind
  pub whole : texts ≡ skipped ++ text ∷ more
  pub kept : behind_texts b skipped ≡ Some last
  pub lines : last.lines ≡ b.lines
  pub begun : last.begun ≡ true
  pub number_is : number ≡ last.count + 1
  pub says : shape_of true number text ≡ Says line
