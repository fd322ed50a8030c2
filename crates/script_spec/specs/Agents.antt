-- The sub-agents that lines set up, and what happens to each in each of its boots. Every list of lines, boots and events
-- has the LATEST FIRST; set-ups and datagrams stand in their order.
use Rattle.std.specs.Prelude.{ℕ, ◌-◌, ◌^◌, ◌%◌, ◌==◌, ◌&&◌, ◌||◌, Bool, List, [], ◌∷◌, length, map, reverse, take, find, filter_map, sum_by, nat_le, slice_get, Option, Some, None, if◌then◌else◌, option_map, option_and_then}
use Rattle.std.specs.List.{list_any}
use Rattle.wire_spec.specs.Shapes.{Tree, none, ◌&◌}
use Rattle.agent_spec.specs.Sources.{Source, same_source, FlowSetup, CounterSetup}
use Rattle.agent_spec.specs.Samples.{Datagram, Setup}
use Rattle.agent_spec.specs.Events.{Event, Observe, Poll, Send, Reset}
use Rattle.agent_spec.specs.Boots.{happened, due_sources, packed}
use Rattle.agent_spec.specs.Spelled.{Form, Compact, Expanded, Sender, fits_in}
use Rattle.script_spec.specs.Values.{Place}
use Rattle.script_spec.specs.Lines.{Line, MaxLine, SubLine, FlowLine, CounterLine, PacketLine, PollLine, SendLine, RestartLine, ResetLine, SubAgent, Delivery, flow_at, place_of}

-- ---- what is set up

abbrev pub sub_in : Line → Option SubAgent
sub_in (SubLine s) = Some s
sub_in other = None

abbrev pub subs_in : List Line → List SubAgent
subs_in lines = filter_map sub_in lines

abbrev pub is_of : ℕ → SubAgent → Bool
is_of id s = s.id == id

-- the sub-agent of this ID
abbrev pub sub_of : ℕ → List Line → Option SubAgent
sub_of id lines = find (is_of id) (subs_in lines)

abbrev pub flow_in : ℕ → Line → Option FlowSetup
flow_in id (FlowLine owner f) = if owner == id then Some f else None
flow_in id other = None

abbrev pub counter_in : ℕ → Line → Option CounterSetup
counter_in id (CounterLine owner c) = if owner == id then Some c else None
counter_in id other = None

-- the sources of the sub-agent of this ID, in the order of their lines
abbrev pub flows_of : ℕ → List Line → List FlowSetup
flows_of id lines = reverse (filter_map (flow_in id) lines)

abbrev pub counters_of : ℕ → List Line → List CounterSetup
counters_of id lines = reverse (filter_map (counter_in id) lines)

-- a source, and the ID of its sub-agent
pub record Owned : Type 0 where
  pub owner : ℕ
  pub source : Source

abbrev pub owned_in : Line → Option Owned
owned_in (FlowLine id f) = Some (record { owner = id; source = f.source })
owned_in (CounterLine id c) = Some (record { owner = id; source = c.source })
owned_in other = None

abbrev pub sources_in : List Line → List Owned
sources_in lines = filter_map owned_in lines

abbrev pub max_in : Line → Option ℕ
max_in (MaxLine bytes) = Some bytes
max_in other = None

-- the most bytes of a datagram are 1,400 where no line says it
abbrev pub first_or : ℕ → List ℕ → ℕ
first_or usual [] = usual
first_or usual (n ∷ more) = n

abbrev pub max_of : List Line → ℕ
max_of lines = first_or 1400 (filter_map max_in lines)

-- an index of 2^24 or more doesn't fit the compact form
abbrev pub is_wide : Owned → Bool
is_wide o = nat_le 16777216 o.source.index

-- all samples have the expanded form where some source needs it
abbrev pub form_of : List Line → Form
form_of lines = if list_any is_wide (sources_in lines) then Expanded else Compact

abbrev pub sender_of : List Line → SubAgent → Sender
sender_of lines s =
    record { agent = s.address; sub_agent = s.id; form = form_of lines; max_datagram = max_of lines }

unfoldable pub setup_of : List Line → SubAgent → Setup
setup_of lines s = record {
  stage = s.stage;
  first = s.first;
  flows = flows_of s.id lines;
  counters = counters_of s.id lines;
  fits = fits_in (sender_of lines s);
}

-- ---- the counters of a script: those of an interface of 1 Gbit/s that is up, with the packets that came in

abbrev pub same_place : Place → Source → Bool
same_place p s = (p.class == s.class) && (p.index == s.index)

-- how long a packet of this place is, where the event is one
abbrev pub length_seen : Place → Event → Option ℕ
length_seen p (Observe f packet) = if same_place p f.source then Some packet.frame_length else None
length_seen p other = None

abbrev pub lengths_seen : Place → List Event → List ℕ
lengths_seen p events = filter_map (length_seen p) events

abbrev pub sum_of : List ℕ → ℕ
sum_of lengths = sum_by (λ n. n) lengths

-- the counters after these events of a boot; a reset leaves them as they are
abbrev pub counters_at : List Event → Source → Tree
counters_at events source =
    let lengths : List ℕ = lengths_seen (place_of source) events in
    Tree.structure (
    Tree.word source.index & Tree.word 6 & Tree.hyper 1000000000 & Tree.word 1 & Tree.word 3 &
    Tree.hyper (sum_of lengths % 2 ^ 64) & Tree.word (length lengths % 2 ^ 32) & Tree.word 0 & Tree.word 0 &
    Tree.word 0 & Tree.word 0 & Tree.word 0 & Tree.hyper 0 & Tree.word 0 & Tree.word 0 & Tree.word 0 & Tree.word 0 &
    Tree.word 0 & Tree.word 0 & none)

-- ---- what happens

-- each source that is due is read as long as the stage has places
unfoldable pub poll_at : Setup → ℕ → List Event → Event
poll_at setup now events =
    let due : List CounterSetup = due_sources setup now events (happened setup events) in
    let places : ℕ = setup.stage - length (happened setup events).staged in
    Poll now (map (λ (c : CounterSetup). counters_at events c.source) (take places due))

-- each datagram of what is staged leaves
unfoldable pub send_at : Setup → ℕ → List Event → Event
send_at setup now events = Send now (length (packed setup (happened setup events)))

-- the flow source at this place
abbrev pub flow_of : Setup → Place → Option FlowSetup
flow_of setup p = find (λ (f : FlowSetup). same_source (flow_at p) f.source) setup.flows

abbrev pub has_source : Setup → Source → Bool
has_source setup source =
    list_any (λ (f : FlowSetup). same_source source f.source) setup.flows
    || list_any (λ (c : CounterSetup). same_source source c.source) setup.counters

-- what a line makes happen to the sub-agent of this ID after these events of its boot
abbrev pub event_of : Setup → ℕ → List Event → Line → Option Event
event_of setup id events (PacketLine p packet) = option_map (λ f. Observe f packet) (flow_of setup p)
event_of setup id events (PollLine owner now) = if owner == id then Some (poll_at setup now events) else None
event_of setup id events (SendLine owner now) = if owner == id then Some (send_at setup now events) else None
event_of setup id events (ResetLine source) = if has_source setup source then Some (Reset source) else None
event_of setup id events other = None

-- a boot: when it arrives, in ms, and what happened in it
pub record AgentBoot : Type 0 where
  pub at : ℕ
  pub events : List Event

abbrev pub begun_at : ℕ → AgentBoot
begun_at at = record { at = at; events = [] }

abbrev pub with_event : Option Event → AgentBoot → AgentBoot
with_event None b = b
with_event (Some e) b = record { at = b.at; events = e ∷ b.events }

-- the newest boot goes on
abbrev pub with_line : Setup → ℕ → Line → List AgentBoot → List AgentBoot
with_line setup id line [] = []
with_line setup id line (b ∷ earlier) = with_event (event_of setup id b.events line) b ∷ earlier

-- the boots after a line; a restart begins one
abbrev pub boots_after : Setup → ℕ → Line → List AgentBoot → List AgentBoot
boots_after setup id (RestartLine owner at) boots = if owner == id then begun_at at ∷ boots else boots
boots_after setup id other boots = with_line setup id other boots

-- the boots of a sub-agent
unfoldable pub boots_of : List Line → SubAgent → List AgentBoot
boots_of [] s = begun_at s.at ∷ []
boots_of (line ∷ before) s = boots_after (setup_of before s) s.id line (boots_of before s)

-- ---- datagrams

-- the datagrams of a boot
abbrev pub datagrams_of : List Line → SubAgent → AgentBoot → List Datagram
datagrams_of lines s b = reverse (happened (setup_of lines s) b.events).sent

-- the item of this number, counted from 1
abbrev pub numbered : {X : Type 0} → List X → ℕ → Option X
numbered items number = if number == 0 then None else slice_get items (number - 1)

abbrev pub boot_of : List Line → SubAgent → ℕ → Option AgentBoot
boot_of lines s boot = numbered (reverse (boots_of lines s)) boot

-- the datagram that is delivered
abbrev pub delivered_of : List Line → SubAgent → Delivery → Option Datagram
delivered_of lines s d =
    option_and_then (λ b. numbered (datagrams_of lines s b) d.number) (boot_of lines s d.boot)

unfoldable pub delivered : List Line → Delivery → Option Datagram
delivered lines d = option_and_then (λ s. delivered_of lines s d) (sub_of d.id lines)
