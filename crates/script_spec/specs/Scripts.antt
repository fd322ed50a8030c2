-- Which bytes are a script, of which lines; and where bytes that are none first break a rule.
use Rattle.std.specs.Prelude.{◌≡◌, ℕ, ◌+◌, Bool, true, false, List, [], ◌∷◌, ◌++◌, length, reverse, Option, Some, None, Result, Ok, Err, ◌⊎◌, if◌then◌else◌, option_and_then}
use Rattle.wire_spec.specs.Exactly.{OneOfEither}
use Rattle.script_spec.specs.Words.{Text}
use Rattle.script_spec.specs.Lines.{Line}
use Rattle.script_spec.specs.Texts.{Shape, Skipped, Heading, Says, Shapeless, shape_of, texts_in}
use Rattle.script_spec.specs.Rules.{may_follow}

-- behind so many lines of a script: whether the heading is among them, and what they say, the latest first
pub record Behind : Type 0 where
  pub count : ℕ
  pub begun : Bool
  pub lines : List Line

abbrev pub nothing_yet : Behind
nothing_yet = record { count = 0; begun = false; lines = [] }

-- ---- line by line

-- behind a further line of this shape, where it keeps the rules
abbrev pub behind_shape : Behind → Shape → Option Behind
behind_shape b Skipped = Some (record { count = b.count + 1; begun = b.begun; lines = b.lines })
behind_shape b Heading = Some (record { count = b.count + 1; begun = true; lines = b.lines })
behind_shape b (Says line) =
    if may_follow b.lines line
    then Some (record { count = b.count + 1; begun = b.begun; lines = line ∷ b.lines })
    else None
behind_shape b Shapeless = None

-- behind a further line
unfoldable pub behind_text : Behind → Text → Option Behind
behind_text b text = behind_shape b (shape_of b.begun (b.count + 1) text)

-- behind further lines, where each of them keeps the rules
abbrev pub behind_texts : Behind → List Text → Option Behind
behind_texts b [] = Some b
behind_texts b (text ∷ more) = option_and_then (λ next. behind_texts next more) (behind_text b text)

-- ---- scripts and faults

-- each line of the bytes keeps the rules, the heading is among them, and this is what they say
pub record Script (bytes : List ℕ) (lines : List Line) : Type 0 where
  pub last : Behind
  pub kept : behind_texts nothing_yet (texts_in bytes) ≡ Some last
  pub begun : last.begun ≡ true
  pub said : lines ≡ reverse last.lines

-- the lines before this one keep the rules, and it doesn't
pub record BreaksRule (bytes : List ℕ) (number : ℕ) : Type 0 where
  pub before : List Text
  pub text : Text
  pub more : List Text
  pub last : Behind
  pub whole : texts_in bytes ≡ before ++ text ∷ more
  pub kept : behind_texts nothing_yet before ≡ Some last
  pub broken : behind_text last text ≡ None
  pub number_is : number ≡ length before + 1

-- each line keeps the rules, but the heading isn't there: the fault stands behind the last line
pub record LacksHeading (bytes : List ℕ) (number : ℕ) : Type 0 where
  pub last : Behind
  pub kept : behind_texts nothing_yet (texts_in bytes) ≡ Some last
  pub unbegun : last.begun ≡ false
  pub number_is : number ≡ length (texts_in bytes) + 1

-- the first line that breaks a rule
abbrev pub ScriptFault : List ℕ → ℕ → Type 0
ScriptFault bytes number = BreaksRule bytes number ⊎ LacksHeading bytes number

-- one list of lines and no fault, or one fault and no list of lines
abbrev pub HasOneScript : List ℕ → Type 0
HasOneScript bytes = OneOfEither (Script bytes) (ScriptFault bytes)

-- ---- the reading, as one total function

abbrev pub ended : Behind → Result (List Line) ℕ
ended b = if b.begun then Ok (reverse b.lines) else Err (b.count + 1)

abbrev pub read_on : Behind → Option Behind → (Behind → Result (List Line) ℕ) → Result (List Line) ℕ
read_on b None more = Err (b.count + 1)
read_on b (Some next) more = more next

abbrev pub reading_behind : Behind → List Text → Result (List Line) ℕ
reading_behind b [] = ended b
reading_behind b (text ∷ more) = read_on b (behind_text b text) (λ next. reading_behind next more)

-- the lines of a script, or the number of its first line that breaks a rule
unfoldable pub script_reading : List ℕ → Result (List Line) ℕ
script_reading bytes = reading_behind nothing_yet (texts_in bytes)
