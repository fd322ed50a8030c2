-- What a reader of a script answers, by what is left to read.
use Rattle.std.specs.Prelude.{◌≡◌, ◌<◌, ◌≤◌, ⊤, ℕ, true, false, List, [], ◌++◌, Option, Some, None, Result, Ok, Err}
use Rattle.std.specs.Io.KnownBytes.{IsAtEnd}
use Rattle.wire_spec.specs.declared.input_kind.InputKind.TheVariants.{Script}
use Rattle.byte_ends.specs.Seen.{Seen, next_count}
use Rattle.sflow_io.specs.declared.capture.ReadRefusal.{ReadRefusal}
use Rattle.sflow_io.specs.declared.capture.ReadRefusal.TheVariants as refusal
use Rattle.script_spec.specs.Texts.{texts_in}
use Rattle.script_spec.specs.Steps.{Gives, Ends, Fails, next_in}
use Rattle.script_lines.specs.Shown.{shown}
use Rattle.script_lines.specs.Fronts.{IsInLine, IsSaid}
use Rattle.script_lines.specs.declared.line.ScriptLine.{ScriptLine}
use Rattle.script_lines.specs.declared.place.Place.{Place}

abbrev pub Answer : Type 0
Answer = Result (Option ScriptLine) ReadRefusal

-- a reader: the bytes that it has read ahead of what it gave, where it stands, the number of the line that it gave last,
-- and how it ended
pub record ReaderState : Type 0 where
  pub held : List ℕ
  pub place : Place
  pub given : ℕ
  pub ended : Option (Result (Unit {0}) ReadRefusal)

-- it stands before the first line, and has read nothing
abbrev pub IsFresh : ReaderState → Type 0
IsFresh r = r ≡ record { held = []; place = record { begun = false; count = 0 }; given = 0; ended = None }

-- ---- the answer

-- of these bytes nothing was said up to this place: what comes next there is what comes next here
pub record Goes (old new : Place) (bytes : List ℕ) (left : Option (List ℕ)) : Type 0 where
  pub rest : List ℕ
  pub left_is : left ≡ Some rest
  pub same : next_in old.begun old.count (texts_in bytes) ≡ next_in new.begun new.count (texts_in rest)

-- the next line, whose number is that of the place behind it; the bytes behind it are left
pub record GivesLine (old new : Place) (line : ScriptLine) (bytes : List ℕ) (left : Option (List ℕ)) : Type 0 where
  pub rest : List ℕ
  pub left_is : left ≡ Some rest
  pub begun : new.begun ≡ true
  pub next : next_in old.begun old.count (texts_in bytes) ≡ Gives (shown line) new.count (texts_in rest)

-- what left the source says nothing but for a part of a line, so that no line is lost
pub record LosesNone (old new : Place) (bytes : List ℕ) (left : Option (List ℕ)) : Type 0 where
  pub part : List ℕ
  pub rest : List ℕ
  pub inside : IsInLine part
  pub left_is : left ≡ Some rest
  pub same : next_in old.begun old.count (texts_in bytes) ≡ next_in new.begun new.count (texts_in (part ++ rest))

-- the answer where these bytes are left to read: what is left to read behind it, and what the source has left
abbrev pub Tells : Place → Place → List ℕ → Option (List ℕ) → Option (List ℕ) → Answer → Type 0
Tells old new bytes more left (Ok (Some line)) = GivesLine old new line bytes more
Tells old new bytes more left (Ok None) = next_in old.begun old.count (texts_in bytes) ≡ Ends
Tells old new bytes more left (Err (refusal.BadInput at kind)) =
    (next_in old.begun old.count (texts_in bytes) ≡ Fails at) × (kind ≡ Script)
Tells old new bytes more left (Err refusal.ReadFault) = LosesNone old new bytes left
Tells old new bytes more left (Err refusal.Spent) = ⊥

-- at a read fault one call of the source failed, and at any other answer none; it is never spent
abbrev pub HasCause : Seen → Seen → Answer → Type 0
HasCause old new (Ok line) = new.faults ≡ old.faults
HasCause old new (Err (refusal.BadInput at kind)) = new.faults ≡ old.faults
HasCause old new (Err refusal.ReadFault) = new.faults ≡ next_count old.faults
HasCause old new (Err refusal.Spent) = ⊥

-- a line that is given is what some text says, and has a number of 32 bits above those of the lines before it
abbrev pub GivesNext : Place → Place → Answer → Type 0
GivesNext old new (Ok (Some line)) = IsSaid (shown line) × (old.count < new.count) × (new.count ≤ 4294967295)
GivesNext old new (Ok None) = ⊤
GivesNext old new (Err e) = ⊤

-- behind the end the source has nothing left
abbrev pub EndsAll : Option (List ℕ) → Answer → Type 0
EndsAll left (Ok (Some line)) = ⊤
EndsAll left (Ok None) = IsAtEnd left
EndsAll left (Err e) = ⊤

-- ---- the end

-- a line leads on, and any other answer is the last
abbrev pub ended_by : Answer → Option (Result (Unit {0}) ReadRefusal)
ended_by (Ok (Some line)) = None
ended_by (Ok None) = Some (Ok tt)
ended_by (Err e) = Some (Err e)

-- the last answer
abbrev pub last_answer : Result (Unit {0}) ReadRefusal → Answer
last_answer (Ok done) = Ok None
last_answer (Err e) = Err e

-- the number of the line given last
abbrev pub given_by : ℕ → Place → Answer → ℕ
given_by before place (Ok (Some line)) = place.count
given_by before place (Ok None) = before
given_by before place (Err e) = before
