-- What a meter shows of its reads, and the meter over a list.
use Rattle.std.specs.Prelude.{◌≡◌, ℕ, List, [], ◌∷◌, map, drop}
use Rattle.agent_spec.specs.Counting.{next_count}
use Rattle.data_format.specs.Records.{Content}
use Rattle.data_format.specs.declared.source.SourceId.{SourceId}
use Rattle.rec_counters.specs.Contents.{interface_content}
use Rattle.rec_counters.specs.declared.interface.IfCounters.{IfCounters}

abbrev pub HasNoTail : IfCounters → Type 0
HasNoTail counters = counters.tail.now ≡ []

-- a meter over a list: the readings that are left, the numbers of the reads that fail, and the counts of its reads
-- and of those that failed
pub record MeterState : Type 0 where
  pub left : List IfCounters
  pub fails : List ℕ
  pub calls : ℕ
  pub faults : ℕ

-- a read gives the first reading that is left, of whatever source
abbrev pub gives_first : MeterState → SourceId → Content → MeterState → Type 0
gives_first before source content after =
    map interface_content before.left ≡ content ∷ map interface_content after.left

abbrev pub meter_faults : MeterState → ℕ
meter_faults m = m.faults

-- the meter after a read that gave a reading
abbrev pub meter_read : MeterState → MeterState
meter_read m = record m { left = drop 1 m.left; calls = next_count m.calls }

-- the meter after a read that failed
abbrev pub meter_failed : MeterState → MeterState
meter_failed m = record m { calls = next_count m.calls; faults = next_count m.faults }
