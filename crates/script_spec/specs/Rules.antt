-- Which line may follow which lines. Every list of lines has the LATEST FIRST.
use Rattle.std.specs.Prelude.{ℕ, ◌==◌, ◌&&◌, ◌||◌, Bool, true, false, not, List, length, nat_lt, is_some}
use Rattle.std.specs.List.{list_any, list_all}
use Rattle.agent_spec.specs.Sources.{Source, same_source, same_kind}
use Rattle.script_spec.specs.Lines.{Line, MaxLine, SubLine, FlowLine, CounterLine, PacketLine, PollLine, SendLine, RestartLine, ResetLine, DeliverLine, flow_at, place_of}
use Rattle.script_spec.specs.Agents.{Owned, subs_in, sub_of, sources_in, flows_of, counters_of, same_place, delivered}

-- it sets up, or says how long a datagram is
abbrev pub sets_up : Line → Bool
sets_up (MaxLine bytes) = true
sets_up (SubLine s) = true
sets_up (FlowLine id f) = true
sets_up (CounterLine id c) = true
sets_up other = false

-- such lines stand before all others
abbrev pub stands_in_order : List Line → Line → Bool
stands_in_order before line = not (sets_up line) || list_all sets_up before

abbrev pub is_max : Line → Bool
is_max (MaxLine bytes) = true
is_max other = false

abbrev pub is_known : ℕ → List Line → Bool
is_known id before = is_some (sub_of id before)

-- no other source of its kind has this place, nor has one of another sub-agent
abbrev pub is_in_the_way : ℕ → Source → Owned → Bool
is_in_the_way id source o =
    same_place (place_of source) o.source && (same_kind source.flow o.source.flow || not (o.owner == id))

abbrev pub is_free : ℕ → Source → List Line → Bool
is_free id source before = not (list_any (is_in_the_way id source) (sources_in before))

abbrev pub is_source : Source → List Line → Bool
is_source source before = list_any (λ (o : Owned). same_source source o.source) (sources_in before)

-- what a line asks of those before it: the most bytes are said once, and before the first sub-agent; a sub-agent is new,
-- and one of at most 64; a sub-agent that is named is known; a source is free, and one of at most 1,024 of its kind and
-- sub-agent; a packet is of a flow source; a source that is reset is there; and a datagram that is delivered was sent
abbrev pub meets_rules : List Line → Line → Bool
meets_rules before (MaxLine bytes) = not (list_any is_max before) && length (subs_in before) == 0
meets_rules before (SubLine s) = not (is_known s.id before) && nat_lt (length (subs_in before)) 64
meets_rules before (FlowLine id f) =
    is_known id before && (is_free id f.source before && nat_lt (length (flows_of id before)) 1024)
meets_rules before (CounterLine id c) =
    is_known id before && (is_free id c.source before && nat_lt (length (counters_of id before)) 1024)
meets_rules before (PacketLine p packet) = is_source (flow_at p) before
meets_rules before (PollLine id now) = is_known id before
meets_rules before (SendLine id now) = is_known id before
meets_rules before (RestartLine id at) = is_known id before
meets_rules before (ResetLine source) = is_source source before
meets_rules before (DeliverLine d) = is_some (delivered before d)

unfoldable pub may_follow : List Line → Line → Bool
may_follow before line = stands_in_order before line && meets_rules before line
