-- The tables of what lines have set up and sent, and what they test. Every list of lines has the LATEST FIRST; rows stand
-- in the order of their lines.
use Rattle.std.specs.Prelude.{◌≡◌, ℕ, ◌==◌, ◌&&◌, ◌++◌, Bool, true, false, not, cond, List, [], ◌∷◌, length, map, reverse, set, slice_get, count_by, nat_le, Some}
use Rattle.std.specs.List.{AllByRecursion, list_any, list_all}
use Rattle.script_spec.specs.Sent.{sent_count}
use Rattle.std.specs.Option.{option_map_or}
use Rattle.data_format.specs.declared.source.SourceId.{SourceId}
use Rattle.agent_spec.specs.Sources.{same_source, same_kind}
use Rattle.script_spec.specs.Lines.{Line, PacketLine, PollLine, SendLine, RestartLine, ResetLine, DeliverLine, SubAgent}
use Rattle.script_spec.specs.Agents.{Owned, AgentBoot, begun_at, subs_in, sources_in, boots_of, datagrams_of, numbered}
use Rattle.script_spec.specs.Rules.{sets_up, is_max, is_in_the_way}
use Rattle.script_tables.specs.Said.{source_said}
use Rattle.script_tables.specs.declared.rows.SourceRow.{SourceRow}
use Rattle.script_tables.specs.declared.rows.BootRow.{BootRow}
use Rattle.script_tables.specs.declared.rows.SubRow.{SubRow}

-- whether a line was said that sets nothing up, and one of the most bytes; the sub-agents, and their sources
pub record TablesState : Type 0 where
  pub running : Bool
  pub has_max : Bool
  pub subs : List SubRow
  pub sources : List SourceRow

-- ---- what the rows say

-- when a boot arrives, in ms, and how many datagrams it has sent
pub record BootCount : Type 0 where
  pub at : ℕ
  pub sent : ℕ

-- a sub-agent, and its boots in their order
pub record SubCount : Type 0 where
  pub id : ℕ
  pub boots : List BootCount

abbrev pub row_said : SourceRow → Owned
row_said o = record { owner = o.owner; source = source_said o.flow o.source }

abbrev pub boot_said : BootRow → BootCount
boot_said b = record { at = b.at; sent = b.sent }

abbrev pub sub_said : SubRow → SubCount
sub_said s = record { id = s.id; boots = map boot_said s.boots.items }

abbrev pub boot_count : List Line → SubAgent → AgentBoot → BootCount
boot_count lines s b = record { at = b.at; sent = length (datagrams_of lines s b) }

abbrev pub sub_count : List Line → SubAgent → SubCount
sub_count lines s = record { id = s.id; boots = map (boot_count lines s) (reverse (boots_of lines s)) }

-- the tables are those of these lines
pub record Tells (t : TablesState) (lines : List Line) : Type 0 where
  pub running : t.running ≡ not (list_all sets_up lines)
  pub has_max : t.has_max ≡ list_any is_max lines
  pub subs : map sub_said t.subs ≡ map (sub_count lines) (reverse (subs_in lines))
  pub sources : map row_said t.sources ≡ reverse (sources_in lines)

-- ---- what they test

abbrev pub knows : ℕ → List SubRow → Bool
knows id subs = list_any (λ (s : SubRow). s.id == id) subs

-- a source of this kind is there
abbrev pub has_row : Bool → SourceId → List SourceRow → Bool
has_row flow id rows = list_any (λ (o : SourceRow). same_source (source_said flow id) (row_said o).source) rows

-- none stands in the way of a source of this sub-agent
abbrev pub is_free_in : ℕ → Bool → SourceId → List SourceRow → Bool
is_free_in owner flow id rows =
    not (list_any (λ (o : SourceRow). is_in_the_way owner (source_said flow id) (row_said o)) rows)

-- how many sources of this kind the sub-agent has
abbrev pub is_row_of : ℕ → Bool → SourceRow → Bool
is_row_of owner flow o = (o.owner == owner) && same_kind flow o.flow

abbrev pub rows_of : ℕ → Bool → List SourceRow → ℕ
rows_of owner flow rows = count_by (is_row_of owner flow) rows

-- the boot of this number has sent the datagram of this number, each counted from 1
abbrev pub has_sent : ℕ → BootCount → Bool
has_sent number b = nat_le 1 number && nat_le number b.sent

abbrev pub boots_sent : List BootCount → ℕ → ℕ → Bool
boots_sent boots boot number = option_map_or (has_sent number) (numbered boots boot) false

abbrev pub sub_sent : ℕ → ℕ → ℕ → List SubRow → Bool
sub_sent id boot number [] = false
sub_sent id boot number (s ∷ more) =
    cond (s.id == id) (boots_sent (map boot_said s.boots.items) boot number) (sub_sent id boot number more)

-- ---- the newest boots

-- the newest boot of a sub-agent, whose boots have the latest first
abbrev pub newest : List AgentBoot → AgentBoot
newest [] = begun_at 0
newest (b ∷ earlier) = b

-- a sub-agent of this ID stands at this place of those of the lines, and its newest boot arrives at this time, in ms
pub record StandsAt (lines : List Line) (id place at : ℕ) : Type 0 where
  pub sub : SubAgent
  pub there : slice_get (reverse (subs_in lines)) place ≡ Some sub
  pub own : sub.id ≡ id
  pub at_is : (newest (boots_of lines sub)).at ≡ at

-- the line is one in which the sub-agent of this ID polls, sends or restarts
abbrev pub is_act_of : ℕ → Line → Bool
is_act_of id (PollLine owner now) = owner == id
is_act_of id (SendLine owner now) = owner == id
is_act_of id (RestartLine owner at) = owner == id
is_act_of id other = false

-- when the last of these boots arrives
abbrev pub last_time : List BootCount → ℕ
last_time [] = 0
last_time (b ∷ []) = b.at
last_time (b ∷ next ∷ more) = last_time (next ∷ more)

-- ---- how they go on

-- one boot more, which has sent nothing
abbrev pub with_boot : ℕ → SubCount → SubCount
with_boot at s = record { id = s.id; boots = s.boots ++ record { at = at; sent = 0 } ∷ [] }

-- the newest boot has sent so many datagrams
abbrev pub last_sent : ℕ → List BootCount → List BootCount
last_sent sent [] = []
last_sent sent (b ∷ []) = record { at = b.at; sent = sent } ∷ []
last_sent sent (b ∷ next ∷ more) = b ∷ last_sent sent (next ∷ more)

abbrev pub with_sent : ℕ → SubCount → SubCount
with_sent sent s = record { id = s.id; boots = last_sent sent s.boots }

-- of each sub-agent of this ID the newest boot has sent so many datagrams behind the line
abbrev pub HasSent : ℕ → ℕ → List Line → Line → Type 0
HasSent id sent lines line =
    AllByRecursion (λ (s : SubAgent). s.id ≡ id → sent ≡ sent_count (line ∷ lines) s (boots_of (line ∷ lines) s)) (subs_in lines)

-- a line that makes happen what sends nothing and begins no boot
abbrev pub is_quiet : Line → Bool
is_quiet (PacketLine p packet) = true
is_quiet (PollLine id now) = true
is_quiet (ResetLine source) = true
is_quiet (DeliverLine d) = true
is_quiet other = false

-- the counts at a place are set anew
pub record IsSetAt (with : SubCount → SubCount) (place : ℕ) (old new : List SubRow) : Type 0 where
  pub count : SubCount
  pub there : slice_get (map sub_said old) place ≡ Some count
  pub made : map sub_said new ≡ set (map sub_said old) place (with count)
