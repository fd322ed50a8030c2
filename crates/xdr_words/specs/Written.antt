-- What a writer has written, and what its calls do.
use Rattle.std.specs.Prelude.{◌≡◌, ℕ, ◌+◌, ◌-◌, ◌<◌, ◌≤◌, List, ◌++◌, length, take, drop, Result, Ok, Err}
use Rattle.std.specs.Borrow.{MutBor}
use Rattle.xdr_words.specs.declared.writer.Out.{Out}
use Rattle.xdr_words.specs.declared.writer.OutFull.{OutFull}

-- the bytes so far, which stand at the start of the room
abbrev pub written : Out → List ℕ
written o = take o.len o.room.now

-- the bytes of the room behind them
abbrev pub behind : Out → List ℕ
behind o = drop o.len o.room.now

-- how many bytes still fit behind them
abbrev pub room_left : Out → ℕ
room_left o = length o.room.now - o.len

-- it writes into this room
abbrev pub WritesInto : MutBor (List ℕ) → Out → Type 0
WritesInto room o = o.room.ghost_name ≡ room.ghost_name

-- both write into the same room, which has the same size
pub record SameRoom (old new : Out) : Type 0 where
  pub same : new.room.ghost_name ≡ old.room.ghost_name
  pub size : length new.room.now ≡ length old.room.now

-- a writer into this room, as it is, with its first n bytes written
pub record Resumes (room : MutBor (List ℕ)) (n : ℕ) (o : Out) : Type 0 where
  pub same : WritesInto room o
  pub bytes : o.room.now ≡ room.now
  pub len : o.len ≡ n

-- with nothing written
abbrev pub Begins : MutBor (List ℕ) → Out → Type 0
Begins room o = Resumes room 0 o

-- a piece stands at the end of what was written, and the bytes behind it stay as they were
pub record Appends (old new : Out) (piece : List ℕ) : Type 0 where
  pub room : SameRoom old new
  pub fits : length piece ≤ room_left old
  pub len : new.len ≡ old.len + length piece
  pub whole : written new ≡ written old ++ piece
  pub behind : drop new.len new.room.now ≡ drop new.len old.room.now

-- the piece doesn't fit, and nothing changed
pub record Refuses (old new : Out) (e : OutFull) (piece : List ℕ) : Type 0 where
  pub same : new.room.ghost_name ≡ old.room.ghost_name
  pub bytes : new.room.now ≡ old.room.now
  pub len : new.len ≡ old.len
  pub need : e.need ≡ length piece
  pub left : e.room ≡ room_left old
  pub short : room_left old < length piece

-- the piece is written as a whole, or it doesn't fit and nothing is
abbrev pub Puts : Out → Out → Result Unit OutFull → List ℕ → Type 0
Puts old new (Ok u) piece = Appends old new piece
Puts old new (Err e) piece = Refuses old new e piece

-- a piece stands in place of as many bytes of what was written
pub record Patches (old new : Out) (place : ℕ) (piece : List ℕ) : Type 0 where
  pub room : SameRoom old new
  pub len : new.len ≡ old.len
  pub whole : written new ≡ take place (written old) ++ piece ++ drop (place + length piece) (written old)
