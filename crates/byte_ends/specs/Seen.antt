-- What the outside shows of a source or of a sink, and what a call makes of it.
use Rattle.std.specs.Prelude.{◌≡◌, ℕ, ◌+◌, ◌-◌, ◌^◌, ◌<◌, ◌≤◌, List, ◌++◌, length, take, min, MatchResult}
use Rattle.std.specs.declared.option.Option.{Option}
use Rattle.std.specs.declared.result.Result.{Result}
use Rattle.std.specs.Io.KnownBytes.{Appends, Consumes, IsAtEnd, prepend_known}

-- the bytes that a source has left or that a sink took, None where it doesn't tell them; and how many of its
-- calls have failed, up to 2^64 - 1
pub record Seen : Type 0 where
  pub told : Option (List ℕ)
  pub faults : ℕ

-- one more than a count of 64 bits, which stays at its last value
abbrev pub next_count : ℕ → ℕ
next_count count = min (count + 1) (2 ^ 64 - 1)

-- the count rose; one at its last value is taken to have risen
abbrev pub Rose : ℕ → ℕ → Type 0
Rose before now = next_count before ≤ now

-- a call failed, and did nothing else
abbrev pub failed : Seen → Seen
failed seen = record seen { faults = next_count seen.faults }

-- ---- a source

-- the source gave these bytes, the first that it had left, and no call failed
pub record Gives (old new : Seen) (bytes : List ℕ) : Type 0 where
  pub consumed : Consumes old.told new.told bytes
  pub kept : new.faults ≡ old.faults

-- one read: the first bytes that were left went to the start of the room, none only at their end or where there is
-- no room; or it failed
abbrev pub ReadsOnce : {E : Type 0} → Seen → Seen → Result ℕ E → List ℕ → Type 0
ReadsOnce old new result room = MatchResult result
    (λ count. Gives old new (take count room) × (count ≡ 0 → 0 < length room → IsAtEnd new.told))
    (λ _. new ≡ failed old)

-- the first `count` bytes of the room are the first that were left, and there are no more unless it is full
pub record Fills (old new : Seen) (count : ℕ) (room : List ℕ) : Type 0 where
  pub within : count ≤ length room
  pub given : Gives old new (take count room)
  pub all : count < length room → IsAtEnd new.told

-- the first `count` bytes of the room are the first that were left, and the read for those behind them failed
pub record FillsPart (old new : Seen) (room : List ℕ) : Type 0 where
  pub count : ℕ
  pub short : count < length room
  pub consumed : Consumes old.told new.told (take count room)
  pub failed : new.faults ≡ next_count old.faults

-- reads one after the other: at Ok the room was filled as far as the bytes go, and else the last of them failed
abbrev pub ReadsMost : {E : Type 0} → Seen → Seen → Result ℕ E → List ℕ → Type 0
ReadsMost old new result room =
    MatchResult result (λ count. Fills old new count room) (λ _. FillsPart old new room)

-- what a source shows where these bytes of it are held and not yet given
abbrev pub with_held : List ℕ → Seen → Seen
with_held held seen = record seen { told = prepend_known held seen.told }

-- ---- a sink

-- the sink took these bytes, and no call failed
pub record Takes (old new : Seen) (bytes : List ℕ) : Type 0 where
  pub appended : Appends old.told new.told bytes
  pub kept : new.faults ≡ old.faults

-- one write: the first bytes were taken, or it failed
abbrev pub WritesOnce : {E : Type 0} → Seen → Seen → Result ℕ E → List ℕ → Type 0
WritesOnce old new result bytes =
    MatchResult result (λ count. Takes old new (take count bytes)) (λ _. new ≡ failed old)

-- the sink took a prefix of the text, and then one call failed
pub record TakesPart (old new : Seen) (text : List ℕ) : Type 0 where
  pub taken : List ℕ
  pub rest : List ℕ
  pub whole : text ≡ taken ++ rest
  pub appended : Appends old.told new.told taken
  pub failed : new.faults ≡ next_count old.faults

-- writes one after the other: at Ok the whole text was taken, and else a prefix, and the last of them failed
abbrev pub WritesAll : {T E : Type 0} → Seen → Seen → Result T E → List ℕ → Type 0
WritesAll old new result text =
    MatchResult result (λ _. Takes old new text) (λ _. TakesPart old new text)
