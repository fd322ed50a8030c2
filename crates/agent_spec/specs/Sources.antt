-- The sources of an agent, and how each is sampled or polled (sFlow Version 5, its MIB: sFlowFsTable, sFlowCpTable).
use Rattle.std.specs.Prelude.{ℕ, ◌==◌, ◌&&◌, not, Bool, true, false, List}

-- what samples are taken of: flow samples or counters samples, of one class and index
pub record Source : Type 0 where
  pub flow : Bool
  pub class : ℕ
  pub index : ℕ

abbrev pub same_kind : Bool → Bool → Bool
same_kind true b = b
same_kind false b = not b

abbrev pub same_source : Source → Source → Bool
same_source s t = same_kind s.flow t.flow && (s.class == t.class) && (s.index == t.index)

-- a source in one of its generations, the stretches between its resets, which are counted from 1
pub record Turn : Type 0 where
  pub source : Source
  pub generation : ℕ

abbrev pub same_turn : Turn → Turn → Bool
same_turn t u = same_source t.source u.source && (t.generation == u.generation)

-- a source of flow samples: its sampling rate, its skip numbers, and where its sequence numbers, its sample pool and
-- its drops begin
pub record FlowSetup : Type 0 where
  pub source : Source
  pub rate : ℕ
  pub skips : List ℕ
  pub first : ℕ
  pub pool : ℕ
  pub drops : ℕ

-- a source of counters samples: the ms from poll to poll, and where its sequence numbers begin
pub record CounterSetup : Type 0 where
  pub source : Source
  pub every : ℕ
  pub first : ℕ
