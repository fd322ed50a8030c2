-- A reader of bytes, and what its calls do.
use Rattle.std.specs.Prelude.{◌≡◌, ℕ, zero, suc, ◌+◌, List, ◌++◌, length, Result, Ok, Err}
use Rattle.wire_spec.specs.declared.pad.Pad.{Pad}
use Rattle.wire_spec.specs.declared.pad.Pad.TheVariants as pads
use Rattle.wire_spec.specs.declared.fault.Fault.{Fault}
use Rattle.wire_spec.specs.Fails.{Remaining}

-- how padding is read, by a number: zeros are asked for where it isn't 0
abbrev pub pad_by : ℕ → Pad
pad_by zero = pads.Any
pad_by (suc n) = pads.Zero

-- how padding is read, the place of the next byte, and the bytes that are left
pub record Reader : Type 0 where
  pub pad : Pad
  pub at : ℕ
  pub bytes : List ℕ

abbrev pub remaining : Reader → Remaining
remaining r = record { at = r.at; bytes = r.bytes }

-- What a call answered, by value or by fault, is what reading gives. The reader is past the value; a fault leaves it
-- as it was.
abbrev pub Reads : {X E Y : Type 0} → (X → Y) → (E → Fault) → Reader → Reader → Result X E
    → Result (Y × Remaining) Fault → Type 0
Reads value fault old new (Ok x) read = (read ≡ Ok (value x, remaining new)) × (new.pad ≡ old.pad)
Reads value fault old new (Err e) read = (read ≡ Err (fault e)) × (new ≡ old)

-- what a test answered is what reading gives
abbrev pub Tests : {E : Type 0} → (E → Fault) → Result Unit E → Result (Unit {0}) Fault → Type 0
Tests fault (Ok u) read = read ≡ Ok tt
Tests fault (Err e) read = read ≡ Err (fault e)

-- what a call answered, by value or by fault, is what reading gives
abbrev pub Gives : {X E Y : Type 0} → (X → Y) → (E → Fault) → Result X E → Result Y Fault → Type 0
Gives value fault (Ok x) read = read ≡ Ok (value x)
Gives value fault (Err e) read = read ≡ Err (fault e)

-- the reader has passed a front of which this holds
pub record Passes (Front : List ℕ → Type 0) (old new : Reader) : Type 0 where
  pub front : List ℕ
  pub holds : Front front
  pub bytes : old.bytes ≡ front ++ new.bytes
  pub at : new.at ≡ old.at + length front
  pub pad : new.pad ≡ old.pad
