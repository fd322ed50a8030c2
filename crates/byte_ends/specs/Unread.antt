-- What is left to read of a source whose bytes are read ahead, and what left it before a read of it failed.
use Rattle.std.specs.Prelude.{ℕ, ◌<◌, List, length, Option}
use Rattle.std.specs.Io.KnownBytes.{Consumes}
use Rattle.byte_ends.specs.Seen.{Seen, with_held}

-- what is left to read, where the source tells it: the bytes that are held of it, and then what it has left
abbrev pub unread : List ℕ → Seen → Option (List ℕ)
unread held source = (with_held held source).told

-- fewer than so many bytes left the source
pub record StopsWithin (old new : Option (List ℕ)) (most : ℕ) : Type 0 where
  pub part : List ℕ
  pub moved : Consumes old new part
  pub few : length part < most
