-- The formats 1004 to 1007 of flow records and 1001 of counter records: the tables without them, and bytes in which no
-- record has one of them.
use Rattle.std.specs.Prelude.{◌≡◌, ◌≢◌, ◌⊎◌, ℕ, zero, suc, List, IfOk, Result}
use Rattle.wire_spec.specs.declared.pad.Pad.{Pad}
use Rattle.wire_spec.specs.declared.fault.Fault.{Fault}
use Rattle.wire_spec.specs.Shapes.{
  version,
  Shape,
  word,
  array,
  structure,
  union,
  frame,
  Shapes,
  end,
  ◌then◌,
  Table,
  empty,
  row,
  Tree,
}
use Rattle.wire_spec.specs.Fails.{Remaining}
use Rattle.wire_spec.specs.Reading.{word_at, body_at, reading}
use Rattle.wire_spec.specs.Tables.{
  agent_address,
  raw_header,
  ethernet_frame,
  ipv4_header,
  ipv6_header,
  extended_switch,
  extended_router,
  extended_gateway,
  flow_table,
  interface_counters,
  ethernet_counters,
  vlan_counters,
  counter_table,
  datagram,
}
use Rattle.wire_spec.specs.Whole.{from_start}

-- ---- the tables without these formats

abbrev pub fewer_flow_records : Table
fewer_flow_records =
    row 1 raw_header (
    row 2 ethernet_frame (
    row 3 ipv4_header (
    row 4 ipv6_header (
    row 1001 extended_switch (
    row 1002 extended_router (
    row 1003 extended_gateway empty))))))

abbrev pub fewer_counter_records : Table
fewer_counter_records =
    row 1 interface_counters (
    row 2 ethernet_counters (
    row 5 vlan_counters empty))

-- the samples over a table of flow records and one of counter records
abbrev pub samples_with : Table → Table → Table
samples_with flows counters =
    row 1 (structure (
    word then word then word then word then word then word then word then array (frame flows) then end)) (
    row 2 (structure (word then word then array (frame counters) then end)) (
    row 3 (structure (
    word then word then word then word then word then word then word then word then word then word then
    array (frame flows) then end)) (
    row 4 (structure (word then word then word then array (frame counters) then end)) empty)))

-- a datagram over them
abbrev pub datagram_with : Table → Table → Shape
datagram_with flows counters = union version (row 5 (structure (
    agent_address then word then word then word then array (frame (samples_with flows counters)) then end)) empty)

-- a datagram in which the records of these formats are bytes
abbrev pub datagram_without : Shape
datagram_without = datagram_with fewer_flow_records fewer_counter_records

-- ---- bytes in which no frame has some formats

-- the formats, for each table of frames
abbrev pub Formats : Type 1
Formats = Table → ℕ → Type 0

-- of n items, as far as they are read, each one lacks something
abbrev pub EachLacks : (Remaining → Type 0) → (Remaining → Result (Tree × Remaining) Fault) → ℕ → Remaining → Type 0
EachLacks P read zero b = Unit {0}
EachLacks P read (suc n) b = P b × IfOk (read b) (λ x. EachLacks P read n x.1)

abbrev mutual
  -- as far as the bytes are read as this shape, no frame whose body is there has such a format
  pub Lacks : Formats → Pad → Shape → Remaining → Type 0
  Lacks F p (array s) b = IfOk (word_at b) (λ n. EachLacks (Lacks F p s) (reading p s) n.0 n.1)
  Lacks F p (structure ss) b = AllLack F p ss b
  Lacks F p (union u T) b = IfOk (word_at b) (λ k. RowLacks F p T k.0 k.1)
  Lacks F p (frame T) b = IfOk (word_at b) (λ k. IfOk (word_at k.1) (λ n. IfOk (body_at n.0 n.1) (λ x.
      (F T k.0 → ⊥) × RowLacks F p T k.0 x.0)))
  Lacks F p _ b = Unit {0}

  pub AllLack : Formats → Pad → Shapes → Remaining → Type 0
  AllLack F p end b = Unit {0}
  AllLack F p (s then ss) b = Lacks F p s b × IfOk (reading p s b) (λ x. AllLack F p ss x.1)

  -- what the table has for k
  pub RowLacks : Formats → Pad → Table → ℕ → Remaining → Type 0
  RowLacks F p empty k b = Unit {0}
  RowLacks F p (row j s T) k b = ((k ≡ j) → Lacks F p s b) × ((k ≢ j) → RowLacks F p T k b)

-- ---- bytes in which no record has one of the five formats

abbrev pub IsFurther : Formats
IsFurther T k = ((T ≡ flow_table) × ((k ≡ 1004) ⊎ (k ≡ 1005) ⊎ (k ≡ 1006) ⊎ (k ≡ 1007)))
    ⊎ ((T ≡ counter_table) × (k ≡ 1001))

abbrev pub LacksFurther : Pad → List ℕ → Type 0
LacksFurther p bytes = Lacks IsFurther p datagram (from_start bytes)
