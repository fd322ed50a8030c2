-- What one line of the input is, and what it leaves of the input.
use Rattle.std.specs.Prelude.{◌≡◌, ◌<◌, ◌≤◌, ◌==◌, ⊤, ℕ, Bool, false, List, [], ◌∷◌, ◌++◌, length, take, Option, Some, None, Result, Ok, Err}
use Rattle.std.specs.List.{list_any}
use Rattle.std.specs.Io.KnownBytes.{Consumes, IsAtEnd}
use Rattle.byte_ends.specs.Seen.{Seen, next_count}
use Rattle.byte_ends.specs.Unread.{StopsWithin}
use Rattle.script_spec.specs.Words.{Text}
use Rattle.script_spec.specs.Lines.{Line}
use Rattle.script_spec.specs.Forms.{line_in}
use Rattle.script_spec.specs.Texts.{Shape, Skipped, Heading, Says, Shapeless, shape_of, texts_in}
use Rattle.script_lines.specs.Shown.{shown}
use Rattle.script_lines.specs.declared.text.Front.{Front}
use Rattle.script_lines.specs.declared.text.Front.TheVariants as front
use Rattle.script_lines.specs.declared.step.Step.{Step}
use Rattle.script_lines.specs.declared.step.Step.TheVariants as step

-- no line feed, 10, is among these bytes
abbrev pub IsInLine : List ℕ → Type 0
IsInLine part = list_any (λ b. b == 10) part ≡ false

-- at a fault one call of the source failed, and else none
abbrev pub HasFaults : {T E : Type 0} → Seen → Seen → Result T E → Type 0
HasFaults old new (Ok x) = new.faults ≡ old.faults
HasFaults old new (Err e) = new.faults ≡ next_count old.faults

-- ---- a byte: what was left to read before it and after it, and what the source has left

abbrev pub GivesByte : {E : Type 0} → Option (List ℕ) → Option (List ℕ) → Option (List ℕ) → Result (Option ℕ) E → Type 0
GivesByte old new left (Ok (Some b)) = Consumes old new (b ∷ [])
GivesByte old new left (Ok None) = Consumes old new [] × IsAtEnd new × IsAtEnd left
GivesByte old new left (Err e) = StopsWithin old left 1

-- ---- a line

-- the bytes of a line were read: its line feed too, or up to the end
pub data Ends (old new : Option (List ℕ)) (text : Text) : Type 0 where
  by_feed : IsInLine text → Consumes old new (text ++ 10 ∷ []) → Ends old new text
  by_end : IsInLine text → 0 < length text → Consumes old new text → IsAtEnd new → Ends old new text

-- more bytes than a line may have were read, and the line goes on
pub record IsLong (old new : Option (List ℕ)) : Type 0 where
  pub part : List ℕ
  pub read : Consumes old new part
  pub inside : IsInLine part
  pub long : 16384 < length part

-- bytes of one line left the source
pub record StopsInLine (old left : Option (List ℕ)) : Type 0 where
  pub part : List ℕ
  pub moved : Consumes old left part
  pub inside : IsInLine part

abbrev pub GivesFront : {E : Type 0} → Option (List ℕ) → Option (List ℕ) → Option (List ℕ) → List ℕ → Result Front E → Type 0
GivesFront old new left room (Ok (front.Line len)) = Ends old new (take len room) × (len ≤ 16384)
GivesFront old new left room (Ok front.Long) = IsLong old new
GivesFront old new left room (Ok front.End) = Consumes old new [] × IsAtEnd new × IsAtEnd left
GivesFront old new left room (Err e) = StopsInLine old left

-- ---- what a line is, where the bytes that are left to read are told

-- a first line of this shape, and the bytes behind it
pub record HasLine (begun : Bool) (number : ℕ) (shape : Shape) (bytes : List ℕ) (new : Option (List ℕ)) : Type 0 where
  pub text : Text
  pub rest : List ℕ
  pub first : texts_in bytes ≡ text ∷ texts_in rest
  pub is : shape_of begun number text ≡ shape
  pub left_is : new ≡ Some rest

-- a first line without a shape
pub record HasShapeless (begun : Bool) (number : ℕ) (bytes : List ℕ) : Type 0 where
  pub text : Text
  pub more : List Text
  pub first : texts_in bytes ≡ text ∷ more
  pub is : shape_of begun number text ≡ Shapeless

-- a part of a line is gone, and these bytes follow it
pub record LeavesPart (bytes : List ℕ) (left : Option (List ℕ)) : Type 0 where
  pub part : List ℕ
  pub rest : List ℕ
  pub whole : bytes ≡ part ++ rest
  pub inside : IsInLine part
  pub left_is : left ≡ Some rest

abbrev pub TellsStep : {E : Type 0} → Bool → ℕ → List ℕ → Option (List ℕ) → Option (List ℕ) → Result Step E → Type 0
TellsStep begun number bytes new left (Ok step.Skipped) = HasLine begun number Skipped bytes new
TellsStep begun number bytes new left (Ok step.Heading) = HasLine begun number Heading bytes new
TellsStep begun number bytes new left (Ok (step.Says line)) = HasLine begun number (Says (shown line)) bytes new
TellsStep begun number bytes new left (Ok step.Shapeless) = HasShapeless begun number bytes
TellsStep begun number bytes new left (Ok step.End) = bytes ≡ []
TellsStep begun number bytes new left (Err e) = LeavesPart bytes left

-- what a line's shape is; the end has none
abbrev pub shape_in : Step → Shape
shape_in step.Skipped = Skipped
shape_in step.Heading = Heading
shape_in (step.Says line) = Says (shown line)
shape_in step.Shapeless = Shapeless
shape_in step.End = Shapeless

-- behind the end the source has nothing left
abbrev pub EndsSource : {E : Type 0} → Option (List ℕ) → Result Step E → Type 0
EndsSource left (Ok step.Skipped) = ⊤
EndsSource left (Ok step.Heading) = ⊤
EndsSource left (Ok (step.Says line)) = ⊤
EndsSource left (Ok step.Shapeless) = ⊤
EndsSource left (Ok step.End) = IsAtEnd left
EndsSource left (Err e) = ⊤

-- a line that leads on has a number of 32 bits, and it isn't the end
abbrev pub IsNumbered : ℕ → Step → Type 0
IsNumbered number step.Skipped = number ≤ 4294967295
IsNumbered number step.Heading = number ≤ 4294967295
IsNumbered number (step.Says line) = number ≤ 4294967295
IsNumbered number step.Shapeless = ⊤
IsNumbered number step.End = ⊥

abbrev pub LeadsOn : {E : Type 0} → ℕ → Result Step E → Type 0
LeadsOn number (Ok step.Skipped) = number ≤ 4294967295
LeadsOn number (Ok step.Heading) = number ≤ 4294967295
LeadsOn number (Ok (step.Says line)) = number ≤ 4294967295
LeadsOn number (Ok step.Shapeless) = ⊤
LeadsOn number (Ok step.End) = ⊤
LeadsOn number (Err e) = ⊤

-- ---- what a line says, whether the source tells its bytes or not

-- some text says the line
abbrev pub IsSaid : Line → Type 0
IsSaid line = (text : Text) × (line_in text ≡ Some line)

abbrev pub SaysLine : Step → Type 0
SaysLine step.Skipped = ⊤
SaysLine step.Heading = ⊤
SaysLine (step.Says line) = IsSaid (shown line)
SaysLine step.Shapeless = ⊤
SaysLine step.End = ⊤

abbrev pub StepSays : {E : Type 0} → Result Step E → Type 0
StepSays (Ok s) = SaysLine s
StepSays (Err e) = ⊤
