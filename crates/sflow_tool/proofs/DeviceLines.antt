-- The device of a script behind one line more.
use Rattle.std.proofs.Common.{◌≡◌, ◌∙◌, ◌≤◌, ◌||◌, inl, inr, cond, not, ℕ, zero, suc, Bool, true, false, List, [], ◌∷◌, length, map, reverse, set, Some, None, refl, ap, sym, subst, arith, slice_get}
use Rattle.std.specs.Prelude.{◌+◌, nat_lt}
use Rattle.std.specs.List.{AllByRecursion, list_any}
use Rattle.std.proofs.lemmas.Bool.{and_parts, and_from, eq-eqb, eqb-true, leb-true, or_right, true≢false}
use Rattle.std.proofs.lemmas.Bool.Decides.{nat_tests}
use Rattle.std.proofs.lemmas.Option.{same_Some}
use Rattle.data_format.specs.declared.source.SourceId.{SourceId}
use Rattle.data_format.specs.declared.heads.Form.{Form}
use Rattle.data_format.specs.declared.heads.Form.TheVariants.{Compact, Expanded}
use Rattle.agent_spec.specs.Sources as spec
use Rattle.agent_spec.specs.Sources.{Source, same_source}
use Rattle.agent_spec.specs.Samples.{Setup}
use Rattle.agent_spec.specs.Events.{Observe, Reset}
use Rattle.agent_spec.specs.Boots.{HasSource, IsAmong}
use Rattle.agent_spec.proofs.Keys.{source-eq}
use Rattle.agent_setups.specs.Ids.{is_among, same_id}
use Rattle.script_spec.specs.Values.{Place, place}
use Rattle.script_spec.specs.Forms.{interface}
use Rattle.script_spec.specs.Lines.{Line, PacketLine, RestartLine, ResetLine, SubAgent, place_of}
use Rattle.script_spec.specs.Agents.{sources_in, subs_in}
use Rattle.script_spec.specs.Agents as agents
use Rattle.script_laws.specs.Written.{is_single, may_be_written}
use Rattle.script_laws.specs.Lawful.{AreLawful}
use Rattle.script_tables.specs.Said.{source_said}
use Rattle.script_tables.specs.Tables.{StandsAt}
use Rattle.script_tables.proofs.ListTests.{either}
use Rattle.script_tables.proofs.Owners.{rules_met}
use Rattle.script_meter.proofs.SourceHomes.{home_of, kind_had}
use Rattle.sub_agents.specs.declared.sources.FlowSource.{FlowSource}
use Rattle.sub_agents.specs.declared.packet.Packet.{Packet}
use Rattle.sub_agents.specs.declared.packet.Seen.{Seen}
use Rattle.sub_agents.specs.declared.packet.ObserveRefusal.{ObserveRefusal}
use Rattle.sub_agents.specs.declared.packet.ObserveRefusal.TheVariants.{NoSource, BadPort, TooLarge}
use Rattle.agent_poller.specs.Polling.{PollerState}
use Rattle.sub_agents.specs.Setups.{flow_source, counter_source}
use Rattle.sub_agents.specs.Packets.{packet_of, ports_fit}
use Rattle.sub_agents.specs.Counts.{flow_setup, counter_setup, flow_sources, polled_sources}
use Rattle.sub_agents.specs.Answers.{refusal, seen_by, source_of_kind, sources_of_kind}
use Rattle.sub_agents.specs.Polls.{counters_fit}
use Rattle.sub_agents.specs.SubAgents as subs
use Rattle.sub_agents.specs.SubAgents.{SubAgentState, BootSoFar, StandsFor, next_boot, with_event}
use Rattle.sub_agents.specs.Devices.{DeviceState, StandForEach, device_refusal, has_kind, with_sub}
use Rattle.sub_agents.specs.Devices as devices
use Rattle.sub_agents.specs.declared.packet.Seen.TheVariants as device_answers
use Rattle.sub_agents.proofs.Homes.{found-none, stand-set}
use Rattle.agent_spec.specs.Marks.{is_marked}
use Rattle.agent_sampler.specs.Following.{counts_after, has_place}
use Rattle.agent_sampler.specs.Sampling.{word_behind}
use Rattle.true_samples.specs.declared.calls.Seen.TheVariants as answers
use Rattle.true_samples.specs.Counts.{id_in, seen_of}
use Rattle.sflow_tool.specs.Steps.{Observes, ResetsAt, RestartsAt, seen_as}
use Rattle.sflow_tool.proofs.Earlier.{behind_at, behind_of, earlier_stays, restart_earlier}
use Rattle.sflow_tool.specs.ScriptBoots.{DeviceOf, boot_now, boots_now}
use Rattle.sflow_tool.proofs.Roomy.{HasAddress, IsRoomy, counters_have_room, each_has, packets_fit, roomy, roomy_at}
use Rattle.sflow_tool.proofs.ScriptBoots.{at_boot, packet_boots, reset_boots, restart_boots}

-- ---- sub-agents and their boots, by places

pub record SubAt (states : List SubAgentState) (k : ℕ) (b : BootSoFar) : Type 0 where
  pub state : SubAgentState
  pub there : slice_get states k ≡ Some state
  pub stands : StandsFor state b

pub sub_at : (states : List SubAgentState) (boots : List BootSoFar) (k : ℕ) (b : BootSoFar) → StandForEach states boots
    → slice_get boots k ≡ Some b → SubAt states k b
sub_at [] [] k b h e = absurd cc
sub_at [] (c ∷ boots) k b h e = absurd h
sub_at (s ∷ states) [] k b h e = absurd h
sub_at (s ∷ states) (c ∷ boots) zero b h e =
    record { state = s; there = refl; stands = subst (StandsFor s) (same_Some _ _ e) h.0 }
sub_at (s ∷ states) (c ∷ boots) (suc k) b h e =
    let x = sub_at states boots k b h.1 e in
    record { state = x.state; there = x.there; stands = x.stands }

pub same_long : (states : List SubAgentState) (boots : List BootSoFar) → StandForEach states boots → length states ≡ length boots
same_long [] [] h = refl
same_long [] (c ∷ boots) h = absurd h
same_long (s ∷ states) [] h = absurd h
same_long (s ∷ states) (c ∷ boots) h = ap (λ (n : ℕ). suc n) (same_long states boots h.1)

-- ---- who has a source

abbrev kind_in : Bool → SourceId → Setup → Bool
kind_in true id setup = list_any (λ (f : spec.FlowSetup). same_source (flow_source id) f.source) setup.flows
kind_in false id setup = list_any (λ (c : spec.CounterSetup). same_source (counter_source id) c.source) setup.counters

flow_among : (id : SourceId) (fs : List FlowSource)
    → list_any (λ (f : spec.FlowSetup). same_source (flow_source id) f.source) (map flow_setup fs) ≡ true
    → is_among id (flow_sources fs) ≡ true
flow_among id [] e = absurd cc
flow_among id (x ∷ more) e =
    elim (either (same_source (flow_source id) (flow_source x.source)) _ e) [
      | inl here ↦
          let same = source-eq (flow_source id) (flow_source x.source) here in
          ap (λ (b : Bool). b || is_among id (flow_sources more))
          (and_from _ _ (eq-eqb x.source.class id.class (ap (λ (s : Source). s.class) (sym same)))
          (eq-eqb x.source.index id.index (ap (λ (s : Source). s.index) (sym same))))
      | inr later ↦ or_right (same_id x.source id) _ (flow_among id more later)
    ]

counter_among : (id : SourceId) (ps : List PollerState)
    → list_any (λ (c : spec.CounterSetup). same_source (counter_source id) c.source) (map counter_setup ps) ≡ true
    → is_among id (polled_sources ps) ≡ true
counter_among id [] e = absurd cc
counter_among id (x ∷ more) e =
    elim (either (same_source (counter_source id) (counter_source x.source)) _ e) [
      | inl here ↦
          let same = source-eq (counter_source id) (counter_source x.source) here in
          ap (λ (b : Bool). b || is_among id (polled_sources more))
          (and_from _ _ (eq-eqb x.source.class id.class (ap (λ (s : Source). s.class) (sym same)))
          (eq-eqb x.source.index id.index (ap (λ (s : Source). s.index) (sym same))))
      | inr later ↦ or_right (same_id x.source id) _ (counter_among id more later)
    ]

among_kind : (flow : Bool) (id : SourceId) (s : SubAgentState) (b : BootSoFar) → StandsFor s b → kind_in flow id b.setup ≡ true
    → is_among id (sources_of_kind flow s) ≡ true
among_kind true id s b h e = flow_among id s.flows (ap (kind_in true id) h.setup ∙ e)
among_kind false id s b h e = counter_among id s.pollers (ap (kind_in false id) h.setup ∙ e)

pub kind_there : (flow : Bool) (id : SourceId) (states : List SubAgentState) (boots : List BootSoFar) (k : ℕ) (b : BootSoFar)
    → StandForEach states boots → slice_get boots k ≡ Some b → kind_in flow id b.setup ≡ true → has_kind flow id states ≡ true
kind_there flow id [] [] k b h at e = absurd cc
kind_there flow id [] (c ∷ boots) k b h at e = absurd h
kind_there flow id (s ∷ states) [] k b h at e = absurd h
kind_there flow id (s ∷ states) (c ∷ boots) zero b h at e =
    ap (λ (x : Bool). x || has_kind flow id states)
    (among_kind flow id s b (subst (StandsFor s) (same_Some _ _ at) h.0) e)
kind_there flow id (s ∷ states) (c ∷ boots) (suc k) b h at e =
    or_right (is_among id (sources_of_kind flow s)) _ (kind_there flow id states boots k b h.1 at e)

setup_kind : (flow : Bool) (id : SourceId) (lines : List Line) (s : SubAgent)
    → kind_had flow (source_said flow id) s.id lines ≡ true → kind_in flow id (boot_now lines s).setup ≡ true
unfolding agents.setup_of
setup_kind true id lines s h = h
setup_kind false id lines s h = h

pub kind_home : (flow : Bool) (id : SourceId) (states : List SubAgentState) (lines : List Line) → AreLawful lines
    → StandForEach states (boots_now lines)
    → list_any (λ (o : agents.Owned). same_source (source_said flow id) o.source) (sources_in lines) ≡ true
    → has_kind flow id states ≡ true
kind_home flow id states lines lawful h e =
    let home = home_of (source_said flow id) lines lawful e in
    kind_there flow id states (boots_now lines) home.place (boot_now lines home.sub) h (at_boot lines home.place home.sub home.there)
    (setup_kind flow id lines home.sub home.has)

-- ---- a packet

abbrev IsSingle : Packet → Type 0
IsSingle p = (p.input.form ≡ 0) × (p.input.value ≤ 1073741823) × (p.output.form ≡ 0) × (p.output.value ≤ 1073741823)

single_ports : (form : Form) (p : Packet) → IsSingle p → ports_fit form p ≡ true
single_ports Expanded p h = refl
single_ports Compact p h =
    and_from _ _
    (and_from _ _ (ap (λ (n : ℕ). nat_lt n 4) h.0) (below p.input.value h.1))
    (and_from _ _ (ap (λ (n : ℕ). nat_lt n 4) h.2) (below p.output.value h.3))
  where
    below : (n : ℕ) → n ≤ 1073741823 → nat_lt n 1073741824 ≡ true
    below n few = grind (arith, nat_tests)

single_of : (at : Place) (p : Packet) → may_be_written (PacketLine at (packet_of p)) ≡ true → IsSingle p
single_of at p written =
    let a = and_parts (is_single (packet_of p).input) _ written in
    let b = and_parts (is_single (packet_of p).output) _ a.1 in
    let c = and_parts (place.may at) _ b.1 in
    let d = and_parts (interface.may p.input.value) _ c.1 in
    let e = and_parts (interface.may p.output.value) _ d.1 in
    (eqb-true _ _ a.0, leb-true _ _ (and_parts _ _ d.0).1, eqb-true _ _ b.0, leb-true _ _ (and_parts _ _ e.0).1)

none_of : (a b c : Bool) (x y z : ObserveRefusal) → a ≡ true → b ≡ true → c ≡ true
    → cond (not a) (Some x) (cond (not b) (Some y) (cond (not c) (Some z) None)) ≡ None
none_of true true true x y z d e f = refl
none_of false b c x y z d e f = absurd cc
none_of true false c x y z d e f = absurd cc
none_of true true false x y z d e f = absurd cc

taken_by : (s : SubAgentState) (id : SourceId) (p : Packet) → IsRoomy (subs.sender_of s) → IsSingle p
    → is_among id (flow_sources s.flows) ≡ true → refusal s id p ≡ None
taken_by s id p r h among =
    none_of _ _ _ NoSource BadPort TooLarge among (single_ports s.form p h) (packets_fit s (flow_source id) (packet_of p) r)

none_refuses : (id : SourceId) (p : Packet) (states : List SubAgentState) (boots : List BootSoFar) → StandForEach states boots
    → AllByRecursion (λ (b : BootSoFar). IsRoomy b.sender) boots → IsSingle p → has_kind true id states ≡ true
    → device_refusal id p states ≡ None
none_refuses id p [] boots h r single has = absurd cc
none_refuses id p (s ∷ states) [] h r single has = absurd h
none_refuses id p (s ∷ states) (b ∷ boots) h r single has =
    go (is_among id (flow_sources s.flows)) refl has (none_refuses id p states boots h.1 r.1 single)
  where
    go : (x : Bool) → is_among id (flow_sources s.flows) ≡ x → (x || has_kind true id states) ≡ true
        → (has_kind true id states ≡ true → device_refusal id p states ≡ None)
        → cond x (refusal s id p) (device_refusal id p states) ≡ None
    go true is e others = taken_by s id p (subst IsRoomy (sym h.0.sender) r.0) single is
    go false is e others = others e

roomy_each : (lines : List Line) (lawful : AreLawful lines) (xs : List SubAgent)
    → AllByRecursion (λ (s : SubAgent). IsRoomy (agents.sender_of lines s)) xs
    → AllByRecursion (λ (b : BootSoFar). IsRoomy b.sender) (map (boot_now lines) xs)
roomy_each lines lawful [] h = tt
roomy_each lines lawful (x ∷ more) h = (h.0, roomy_each lines lawful more h.1)

roomy_all : (lines : List Line) → AreLawful lines → AllByRecursion (λ (b : BootSoFar). IsRoomy b.sender) (boots_now lines)
roomy_all lines lawful =
    roomy_each lines lawful (reverse (subs_in lines)) (imply (reverse (subs_in lines)) (each_has lines lawful))
  where
    imply : (xs : List SubAgent) → AllByRecursion HasAddress xs → AllByRecursion (λ (s : SubAgent). IsRoomy (agents.sender_of lines s)) xs
    imply [] h = tt
    imply (x ∷ more) h = (roomy lines lawful x h.0, imply more h.1)

abbrev Saw : DeviceState → ℕ → SourceId → Packet → Seen → List BootSoFar → Type 0
Saw new k id p seen boots =
    (b : BootSoFar) × (f : spec.FlowSetup) × (slice_get boots k ≡ Some b) × IsAmong f b.setup.flows
    × (f.source ≡ flow_source id) × (seen ≡ seen_by f b)
    × StandForEach new.subs (set boots k (with_event (Observe f (packet_of p)) b))

same_answer : (f : spec.FlowSetup) (b : BootSoFar) → seen_as (seen_by f b) ≡ seen_of b.setup f b.events
same_answer f b = go (is_marked f.skips (1 + (counts_after b.setup f.source b.events).packets)) (has_place b.setup b.events)
    (word_behind f.first (counts_after b.setup f.source b.events).issued)
  where
    go : (marked there : Bool) (word : ℕ)
        → seen_as (cond marked (cond there (device_answers.Issued word) device_answers.Dropped) device_answers.Passed)
        ≡ cond marked (cond there answers.Issued answers.Dropped) answers.Passed
    go true true word = refl
    go true false word = refl
    go false there word = refl

abbrev pub packet_line : SourceId → Packet → Line
packet_line id p = PacketLine (place_of (source_said true id)) (packet_of p)

-- some sub-agent has the source, and takes the packet
pub packet_home : (old : DeviceState) (id : SourceId) (p : Packet) (lines : List Line) → AreLawful (packet_line id p ∷ lines)
    → DeviceOf old lines → has_kind true id old.subs ≡ true
packet_home old id p lines lawful h = kind_home true id old.subs lines lawful.2 h (rules_met (packet_line id p) lines lawful.1)

pub observed_none : {P : Type 0} (old : DeviceState) (id : SourceId) (p : Packet) (lines : List Line)
    → AreLawful (packet_line id p ∷ lines) → DeviceOf old lines → devices.home_of true id old.subs ≡ None → P
observed_none old id p lines lawful h none =
    absurd (true≢false (sym (packet_home old id p lines lawful h) ∙ (found-none true id old.subs none).none))

pub observed_refused : {P : Type 0} (old : DeviceState) (id : SourceId) (p : Packet) (e : ObserveRefusal) (lines : List Line)
    → AreLawful (packet_line id p ∷ lines) → DeviceOf old lines → Some e ≡ device_refusal id p old.subs → P
observed_refused old id p e lines lawful h refused =
    absurd (let bad : Some e ≡ None = refused
    ∙ none_refuses id p old.subs (boots_now lines) h (roomy_all lines lawful.2) (single_of (place_of (source_said true id)) p lawful.0)
    (packet_home old id p lines lawful h) in cc)

pub observed : (new : DeviceState) (id : SourceId) (p : Packet) (k : ℕ) (seen : Seen) (lines : List Line)
    → AreLawful (packet_line id p ∷ lines) → Saw new k id p seen (boots_now lines)
    → DeviceOf new (packet_line id p ∷ lines) × Observes lines (packet_line id p) k id (seen_as seen)
observed new id p k seen lines lawful (b, f, at, among, source, what, next) =
    let boots = packet_boots lines (place_of (source_said true id)) (packet_of p) k b f lawful.2 at among source in (
      subst (StandForEach new.subs) boots next,
      record {
        boot = b;
        flow = f;
        packet = packet_of p;
        happens =
            record { there = at; boots = sym boots; earlier = earlier_stays (packet_line id p) lines refl; delivers_none = refl };
        among = among;
        source_is = ap id_in source;
        seen_is = ap seen_as what ∙ same_answer f b;
      },
    )

-- ---- a reset

pub reset_source : (flow : Bool) (id : SourceId) → source_of_kind flow id ≡ source_said flow id
reset_source true id = refl
reset_source false id = refl

abbrev Began : DeviceState → ℕ → Bool → SourceId → List BootSoFar → Type 0
Began new k flow id boots =
    (b : BootSoFar) × (slice_get boots k ≡ Some b)
    × StandForEach new.subs (set boots k (with_event (Reset (source_of_kind flow id)) b))

set_there : {X : Type 0} (xs : List X) (k : ℕ) (x y : X) → slice_get xs k ≡ Some x → slice_get (set xs k y) k ≡ Some y
set_there [] k x y e = absurd cc
set_there (z ∷ more) zero x y e = refl
set_there (z ∷ more) (suc k) x y e = set_there more k x y e

abbrev reset_line : Bool → SourceId → Line
reset_line flow id = ResetLine (source_said flow id)

pub reset_home : (old : DeviceState) (flow : Bool) (id : SourceId) (lines : List Line) → AreLawful (reset_line flow id ∷ lines)
    → DeviceOf old lines → has_kind flow id old.subs ≡ true
reset_home old flow id lines lawful h = kind_home flow id old.subs lines lawful.2 h (rules_met (reset_line flow id) lines lawful.1)

pub reset_none : {P : Type 0} (old : DeviceState) (flow : Bool) (id : SourceId) (lines : List Line)
    → AreLawful (reset_line flow id ∷ lines) → DeviceOf old lines → devices.home_of flow id old.subs ≡ None → P
reset_none old flow id lines lawful h none =
    absurd (true≢false (sym (reset_home old flow id lines lawful h) ∙ (found-none flow id old.subs none).none))

pub reset_done : (new : DeviceState) (flow : Bool) (id : SourceId) (k : ℕ) (lines : List Line)
    → AreLawful (reset_line flow id ∷ lines) → Began new k flow id (boots_now lines)
    → DeviceOf new (reset_line flow id ∷ lines) × ResetsAt lines (reset_line flow id) k flow id
reset_done new flow id k lines lawful (b, at, next) =
    let here = sub_at new.subs _ k (with_event (Reset (source_of_kind flow id)) b) next (set_there (boots_now lines) k b _ at) in
    let had : HasSource b.setup (source_said flow id) =
    subst (HasSource b.setup) (reset_source flow id) here.stands.lawful.0 in
    let boots = reset_boots lines (source_said flow id) k b lawful.2 at had in (
      subst (StandForEach new.subs)
          (ap (λ (s : Source). set (boots_now lines) k (with_event (Reset s) b)) (reset_source flow id) ∙ boots) next,
      record {
        boot = b;
        happens =
            record { there = at; boots = sym boots; earlier = earlier_stays (reset_line flow id) lines refl; delivers_none = refl };
        among = had;
      },
    )

-- ---- a restart

pub record At (old : DeviceState) (lines : List Line) (id k : ℕ) : Type 0 where
  pub sub : SubAgent
  pub there : slice_get (reverse (subs_in lines)) k ≡ Some sub
  pub own : sub.id ≡ id
  pub boot : slice_get (boots_now lines) k ≡ Some (boot_now lines sub)
  pub state : SubAgentState
  pub state_there : slice_get old.subs k ≡ Some state
  pub stands : StandsFor state (boot_now lines sub)

abbrev pub stands_at : (old : DeviceState) (lines : List Line) (id k at : ℕ) → DeviceOf old lines → StandsAt lines id k at → At old lines id k
stands_at old lines id k at h s =
    let boot = at_boot lines k s.sub s.there in
    let x = sub_at old.subs (boots_now lines) k (boot_now lines s.sub) h boot in
    record {
      sub = s.sub;
      there = s.there;
      own = s.own;
      boot = boot;
      state = x.state;
      state_there = x.there;
      stands = x.stands;
    }

-- a counters sample fits there
pub room_at : (old : DeviceState) (lines : List Line) (id k : ℕ) (x : At old lines id k) → AreLawful lines → counters_fit x.state ≡ true
room_at old lines id k x lawful =
    counters_have_room x.state (subst IsRoomy (sym x.stands.sender) (roomy_at lines k x.sub lawful x.there))

pub set_stands : (old new : DeviceState) (lines : List Line) (k : ℕ) (state : SubAgentState) (b : BootSoFar) → DeviceOf old lines
    → new ≡ with_sub k state old → StandsFor state b → StandForEach new.subs (set (boots_now lines) k b)
set_stands old new lines k state b h is stands =
    subst (λ (d : DeviceState). StandForEach d.subs (set (boots_now lines) k b)) (sym is)
    (stand-set old.subs (boots_now lines) k state b h stands)

pub restarted : (old new : DeviceState) (lines : List Line) (id at k : ℕ) (x : At old lines id k) → AreLawful (RestartLine id at ∷ lines)
    → DeviceOf old lines → (state : SubAgentState) × (new ≡ with_sub k state old) × StandsFor state (next_boot (boot_now lines x.sub))
    → DeviceOf new (RestartLine id at ∷ lines) × RestartsAt lines (RestartLine id at) k
restarted old new lines id at k x lawful h (state, is, stands) =
    let boots = restart_boots lines id at k x.sub lawful.2 x.there x.own in (
      subst (StandForEach new.subs) boots (set_stands old new lines k state (next_boot (boot_now lines x.sub)) h is stands),
      record {
        boot = boot_now lines x.sub;
        behind = behind_of lines x.sub;
        there = x.boot;
        behind_is = behind_at lines k x.sub x.there;
        boots = sym boots;
        earlier = restart_earlier lines id at k x.sub lawful.2 x.there x.own;
        delivers_none = refl;
      },
    )
