-- What the sub-agents of a script send, and which of it is delivered. Every list of lines has the LATEST FIRST; entries
-- and deliveries stand in their order.
use Rattle.std.specs.Prelude.{ℕ, ◌+◌, List, [], ◌∷◌, ◌++◌, length, map, reverse, drop, flat_map, filter_map, sum_by, Option, Some, None, option_map, option_and_then}
use Rattle.std.specs.Option.{option_map_or}
use Rattle.wire_spec.specs.Captures.{Entry}
use Rattle.agent_spec.specs.Samples.{Datagram}
use Rattle.agent_spec.specs.Boots.{Boot, happened}
use Rattle.agent_spec.specs.Spelled.{sent_bytes}
use Rattle.script_spec.specs.Lines.{Line, SendLine, DeliverLine, SubAgent, Delivery}
use Rattle.script_spec.specs.Agents.{AgentBoot, subs_in, sub_of, sender_of, setup_of, boots_of, datagrams_of, delivered}

-- ---- sends

-- a datagram arrives at the time of its boot and its uptime
abbrev pub entry_of : List Line → SubAgent → ℕ → Datagram → Entry
entry_of lines s at d = record { arrival = at + d.uptime; bytes = sent_bytes (sender_of lines s) d }

-- the datagrams of the newest boot from the one of this place on
abbrev pub entries_from : List Line → SubAgent → ℕ → List AgentBoot → List Entry
entries_from lines s from [] = []
entries_from lines s from (b ∷ earlier) = map (entry_of lines s b.at) (drop from (datagrams_of lines s b))

-- how many datagrams the newest boot has sent
abbrev pub sent_count : List Line → SubAgent → List AgentBoot → ℕ
sent_count lines s [] = 0
sent_count lines s (b ∷ earlier) = length (datagrams_of lines s b)

-- what a line makes the sub-agents send
abbrev pub sent_by : List Line → Line → List Entry
sent_by before (SendLine id now) =
    option_map_or (λ s. entries_from (SendLine id now ∷ before) s (sent_count before s (boots_of before s))
    (boots_of (SendLine id now ∷ before) s)) (sub_of id before) []
sent_by before other = []

-- all datagrams that were sent, in the order of the lines
unfoldable pub all_sent : List Line → List Entry
all_sent [] = []
all_sent (line ∷ before) = all_sent before ++ sent_by before line

-- ---- deliveries

abbrev pub delivery_in : Line → Option Delivery
delivery_in (DeliverLine d) = Some d
delivery_in other = None

abbrev pub deliveries_in : List Line → List Delivery
deliveries_in lines = reverse (filter_map delivery_in lines)

-- a delivered datagram, as it arrives
abbrev pub delivered_entry : List Line → Delivery → Option Entry
delivered_entry lines d =
    option_and_then (λ s. option_map (λ x. record { arrival = d.at; bytes = sent_bytes (sender_of lines s) x })
    (delivered lines d)) (sub_of d.id lines)

unfoldable pub all_delivered : List Line → List Entry
all_delivered lines = filter_map (delivered_entry lines) (deliveries_in lines)

-- ---- the whole history

-- every boot of every sub-agent, by its counts
abbrev pub boots_in : List Line → List Boot
boots_in lines =
    flat_map (λ (s : SubAgent). map (λ (b : AgentBoot). happened (setup_of lines s) b.events) (boots_of lines s)) (subs_in lines)

-- how many datagrams were sent, samples issued and packets dropped
abbrev pub datagrams_sent : List Line → ℕ
datagrams_sent lines = sum_by (λ (b : Boot). length b.sent) (boots_in lines)

abbrev pub samples_issued : List Line → ℕ
samples_issued lines = sum_by (λ (b : Boot). length b.issued) (boots_in lines)

abbrev pub packets_dropped : List Line → ℕ
packets_dropped lines = sum_by (λ (b : Boot). length b.dropped) (boots_in lines)
