-- What a poller keeps, and the polls of a generation for which it stands.
use Rattle.std.specs.Prelude.{◌≡◌, ℕ, ◌+◌, ◌%◌}
use Rattle.data_format.specs.declared.source.SourceId.{SourceId}

-- what is to be seen of it: its source, the ms from poll to poll, the numbers of its first and of its next sample,
-- and the uptime of its last poll
pub record PollerState : Type 0 where
  pub source : SourceId
  pub every : ℕ
  pub first : ℕ
  pub next : ℕ
  pub last : ℕ

-- the word of the number so far behind the first; words go on from 2^32 - 1 to 0
abbrev pub number_behind : ℕ → ℕ → ℕ
number_behind first count = (first + count) % 4294967296

-- the poller stands for a generation in which so many samples were issued, the last one at this uptime, or 0
pub record StandsFor (p : PollerState) (issued last : ℕ) : Type 0 where
  pub next_is : p.next ≡ number_behind p.first issued
  pub last_is : p.last ≡ last
