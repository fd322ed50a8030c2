-- What the sources and sinks over memory hold, and what each call makes of it.
use Rattle.std.specs.Prelude.{ℕ, ◌-◌, ◌≤◌, ◌<◌, ◌⊎◌, List, ◌++◌, length, take, drop, min, Contains, Some}
use Rattle.byte_ends.specs.Seen.{Seen, next_count}

-- a source: the bytes that are left, the most that a read moves, the numbers of the calls that fail, and the
-- counts of its calls and of its faults
pub record SourceState : Type 0 where
  pub left : List ℕ
  pub piece : ℕ
  pub fails : List ℕ
  pub calls : ℕ
  pub faults : ℕ

-- it tells the bytes that are left
abbrev pub source_seen : SourceState → Seen
source_seen s = record { told = Some s.left; faults = s.faults }

-- how many bytes a read into this room moves
abbrev pub moved_count : SourceState → List ℕ → ℕ
moved_count s room = min (min (length s.left) (length room)) s.piece

-- the source after a read that moved so many bytes
abbrev pub source_read : SourceState → ℕ → SourceState
source_read s count = record s { left = drop count s.left; calls = next_count s.calls }

-- the source after a read that failed
abbrev pub source_failed : SourceState → SourceState
source_failed s = record s { calls = next_count s.calls; faults = next_count s.faults }

-- a sink: the bytes that it took, the most that it takes in all, the numbers of the calls that fail, and the
-- counts of its calls, of its faults and of those among them for want of memory
pub record SinkState : Type 0 where
  pub taken : List ℕ
  pub most : ℕ
  pub fails : List ℕ
  pub calls : ℕ
  pub faults : ℕ
  pub lacked : ℕ

-- it tells the bytes that it took
abbrev pub sink_seen : SinkState → Seen
sink_seen s = record { told = Some s.taken; faults = s.faults }

-- how many bytes of this piece still fit
abbrev pub fitting_count : SinkState → List ℕ → ℕ
fitting_count s piece = min (s.most - length s.taken) (length piece)

-- the call's number is one of those that fail, or nothing fits of a piece that isn't empty
abbrev pub IsRefused : SinkState → List ℕ → Type 0
IsRefused s piece = Contains s.fails (next_count s.calls) ⊎ ((0 < length piece) × (s.most ≤ length s.taken))

-- the sink after a write that took what fits
abbrev pub sink_written : SinkState → List ℕ → SinkState
sink_written s piece =
    record s { taken = s.taken ++ take (fitting_count s piece) piece; calls = next_count s.calls }

-- the sink after a write that was refused
abbrev pub sink_failed : SinkState → SinkState
sink_failed s = record s { calls = next_count s.calls; faults = next_count s.faults }

-- the sink after a write for which memory was lacking
abbrev pub sink_lacked : SinkState → SinkState
sink_lacked s =
    record s { calls = next_count s.calls; faults = next_count s.faults; lacked = next_count s.lacked }
