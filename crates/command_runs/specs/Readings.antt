-- How the reading of a run may end, and what is written then.
use Rattle.std.specs.Prelude.{◌≡◌, ℕ, Bool, true, false, List, Option}
use Rattle.wire_spec.specs.Bytes.{AreBytes}
use Rattle.command_runs.specs.declared.status.Status.{Status}
use Rattle.command_runs.specs.declared.status.Status.TheVariants.{Done, Found, ReadFault, BadInput, Spent}
use Rattle.command_runs.specs.Acts.{Act}
use Rattle.command_runs.specs.Grammars.{Grammar}

-- this is all of the input, and the command finds something or doesn't
pub record IsRead {X : Type 0} (g : Grammar X) (a : Act X) (x : X) (input : List ℕ) (found : Bool) : Type 0 where
  pub all : g.all x input
  pub found_is : a.finds x ≡ found

-- This is what a run of the command reads of the input, and its reading ends so: at the end, at what isn't of its form, or
-- behind 2^48 entries or packets.
abbrev pub Reads : {X : Type 0} → Grammar X → Act X → List ℕ → X → Status → Type 0
Reads g a input x Done = IsRead g a x input false
Reads g a input x Found = IsRead g a x input true
Reads g a input x (BadInput at kind) = g.fault x input at kind
Reads g a input x Spent = g.goes_on x input
Reads g a input x _ = ⊥

-- The same where a read may fail as well: then nothing whole is lost that has left the source, which has so much left.
abbrev pub ReadsTo : {X : Type 0} → Grammar X → Act X → List ℕ → Option (List ℕ) → X → Status → Type 0
ReadsTo g a input left x ReadFault = g.stops x input left
ReadsTo g a input left x ending = Reads g a input x ending

-- what is written of what was read, by how reading ended
abbrev pub text_at : {X : Type 0} → Act X → X → Status → List ℕ
text_at a x Done = a.whole x
text_at a x Found = a.whole x
text_at a x _ = a.part x

-- the input alone makes a run of the command end so, if no call fails and memory is there
abbrev pub Decides : {X : Type 0} → Grammar X → Act X → List ℕ → Status → Type 0
Decides {X} g a input ending = (x : X) × Reads g a input x ending

-- every input makes a run of any command that reads this form end in one way
pub record HasOneEnding {X : Type 0} (g : Grammar X) : Type 0 where
  pub some : (a : Act X) (input : List ℕ) → AreBytes input → (ending : Status) × Decides g a input ending
  pub one : (a : Act X) (input : List ℕ) (one other : Status) → AreBytes input → Decides g a input one
      → Decides g a input other → one ≡ other
