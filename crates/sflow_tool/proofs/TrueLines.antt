-- What lawful lines make happen is short, may happen, and is sent from an address.
use Rattle.std.proofs.Common.{◌≡◌, ◌+◌, ◌*◌, ◌≤◌, ◌<◌, ◌==◌, ◌^◌, ℕ, zero, suc, Bool, true, false, List, [], ◌∷◌, length, reverse, Option, Some, None, refl, sym, subst, arith, slice_get, if◌then◌else◌}
use Rattle.std.specs.List.{AllByRecursion, cons_option}
use Rattle.std.proofs.lemmas.Bool.{and_parts, eqb-true}
use Rattle.std.proofs.lemmas.Option.{same_Some}
use Rattle.wire_spec.specs.Heads.{AgentAddress, unknown, ipv4, ipv6}
use Rattle.agent_spec.specs.Sources.{CounterSetup}
use Rattle.agent_spec.specs.Samples.{Setup}
use Rattle.agent_spec.specs.Events.{Event}
use Rattle.agent_spec.specs.Boots.{MayHappen}
use Rattle.script_spec.specs.Words.{number32}
use Rattle.script_spec.specs.Values.{dotted, grouped, in_eight, in_four, may_be_address}
use Rattle.script_spec.specs.Lines.{Line, MaxLine, SubLine, FlowLine, CounterLine, PacketLine, PollLine, SendLine, RestartLine, ResetLine, DeliverLine, SubAgent}
use Rattle.script_spec.specs.Agents.{AgentBoot, begun_at, boots_after, boots_of, counter_in, event_of, setup_of, sub_in, subs_in, with_event, with_line}
use Rattle.script_laws.specs.Written.{may_be_written}
use Rattle.script_laws.specs.Lawful.{AreLawful}
use Rattle.script_laws.proofs.Happens.{boots_may}
use Rattle.script_tables.specs.Tables.{newest}
use Rattle.script_tables.proofs.ListTests.{all_turned}
use Rattle.script_tables.proofs.OfKind.{few}
use Rattle.script_tables.proofs.OfLines.{counter_told}
use Rattle.sub_agents.specs.SubAgents.{BootSoFar}
use Rattle.true_samples.specs.Counts.{IsShort}
use Rattle.true_samples.specs.Words.{HasAddress}
use Rattle.sflow_tool.specs.ScriptBoots.{boot_now, boots_now}
use Rattle.sflow_tool.proofs.Roomy.{all_at, stage_few}
use Rattle.sflow_tool.proofs.ScriptBoots.{boot_at}

-- ---- how much happens

-- so many lines make no more events of a boot, and not many more boots
pub record AreFew (boots : List AgentBoot) (lines : ℕ) : Type 0 where
  pub events : length (newest boots).events ≤ lines
  pub all : length boots ≤ 1 + lines

event_few : (o : Option Event) (b : AgentBoot) (n : ℕ) → length b.events ≤ n → length (with_event o b).events ≤ suc n
event_few None b n h = omega (arith, h)
event_few (Some e) b n h = omega (arith, h)

line_few : (setup : Setup) (id : ℕ) (line : Line) (boots : List AgentBoot) (n : ℕ) → AreFew boots n
    → AreFew (with_line setup id line boots) (suc n)
line_few setup id line [] n h = record { events = omega arith; all = omega arith }
line_few setup id line (b ∷ earlier) n h = record {
  events = event_few (event_of setup id b.events line) b n h.events;
  all = omega (arith, h.all);
}

restart_few : (own : Bool) (at : ℕ) (boots : List AgentBoot) (n : ℕ) → AreFew boots n
    → AreFew (if own then begun_at at ∷ boots else boots) (suc n)
restart_few true at boots n h = record { events = omega arith; all = omega (arith, h.all) }
restart_few false at boots n h = record { events = omega (arith, h.events); all = omega (arith, h.all) }

after_few : (setup : Setup) (id : ℕ) (line : Line) (boots : List AgentBoot) (n : ℕ) → AreFew boots n
    → AreFew (boots_after setup id line boots) (suc n)
after_few setup id (RestartLine owner at) boots n h = restart_few (owner == id) at boots n h
after_few setup id (MaxLine m) boots n h = line_few setup id (MaxLine m) boots n h
after_few setup id (SubLine s) boots n h = line_few setup id (SubLine s) boots n h
after_few setup id (FlowLine o f) boots n h = line_few setup id (FlowLine o f) boots n h
after_few setup id (CounterLine o c) boots n h = line_few setup id (CounterLine o c) boots n h
after_few setup id (PacketLine p k) boots n h = line_few setup id (PacketLine p k) boots n h
after_few setup id (PollLine o now) boots n h = line_few setup id (PollLine o now) boots n h
after_few setup id (SendLine o now) boots n h = line_few setup id (SendLine o now) boots n h
after_few setup id (ResetLine s) boots n h = line_few setup id (ResetLine s) boots n h
after_few setup id (DeliverLine d) boots n h = line_few setup id (DeliverLine d) boots n h

pub boots_few : (lines : List Line) (s : SubAgent) → AreFew (boots_of lines s) (length lines)
unfolding boots_of
boots_few [] s = record { events = omega arith; all = omega arith }
boots_few (line ∷ before) s =
    after_few (setup_of before s) s.id line (boots_of before s) (length before) (boots_few before s)

pub subs_few : (lines : List Line) → length (subs_in lines) ≤ length lines
subs_few [] = omega arith
subs_few (line ∷ before) = go (sub_in line) (subs_few before)
  where
    go : (o : Option SubAgent) → length (subs_in before) ≤ length before
        → length (cons_option o (subs_in before)) ≤ suc (length before)
    go None h = omega (arith, h)
    go (Some s) h = omega (arith, h)

times_few : (n c : ℕ) → c ≤ 1024 → n * (1 + c) ≤ n * 1025
times_few zero c h = omega arith
times_few (suc n) c h = omega (arith, h, times_few n c h)

counters_few : (lines : List Line) (s : SubAgent) → AreLawful lines → length (setup_of lines s).counters ≤ 1024
unfolding setup_of
counters_few lines s lawful = few (λ (c : CounterSetup). c.source) false counter_in counter_told s.id lines lawful

short_so : (setup : Setup) (events : List Event) (e : Event) → length events ≤ 4294967295 → length setup.counters ≤ 1024
    → IsShort setup (e ∷ events)
short_so setup events e long many =
    omega (arith, long, many, times_few (suc (length events)) (length setup.counters) many)

-- ---- addresses

has_address : (a : AgentAddress) → may_be_address a ≡ true → HasAddress a
has_address unknown e = absurd cc
has_address (ipv4 bytes) e = eqb-true (length bytes) 4 (and_parts (length bytes == 4) (dotted.may (in_four bytes)) e).0
has_address (ipv6 bytes) e = eqb-true (length bytes) 16 (and_parts (length bytes == 16) (grouped.may (in_eight bytes)) e).0

abbrev IsSome : SubAgent → Type 0
IsSome s = HasAddress s.address

sub_told : (line : Line) (s : SubAgent) → sub_in line ≡ Some s → may_be_written line ≡ true → IsSome s
sub_told (SubLine t) s e written =
    let a = and_parts (number32.may t.id) _ written in
    let b = and_parts (may_be_address t.address) _ a.1 in
    subst IsSome (same_Some _ _ e) (has_address t.address b.0)
sub_told (MaxLine n) s e written = absurd cc
sub_told (FlowLine id f) s e written = absurd cc
sub_told (CounterLine id c) s e written = absurd cc
sub_told (PacketLine p k) s e written = absurd cc
sub_told (PollLine owner now) s e written = absurd cc
sub_told (SendLine owner now) s e written = absurd cc
sub_told (RestartLine owner at) s e written = absurd cc
sub_told (ResetLine t) s e written = absurd cc
sub_told (DeliverLine d) s e written = absurd cc

have_addresses : (lines : List Line) → AreLawful lines → AllByRecursion IsSome (subs_in lines)
have_addresses [] l = tt
have_addresses (line ∷ before) l = go (sub_in line) refl (have_addresses before l.2)
  where
    go : (o : Option SubAgent) → sub_in line ≡ o → AllByRecursion IsSome (subs_in before)
        → AllByRecursion IsSome (cons_option o (subs_in before))
    go None is h = h
    go (Some s) is h = (sub_told line s is l.0, h)

-- ---- at a place

stage_is : (lines : List Line) (s : SubAgent) → (setup_of lines s).stage ≡ s.stage
unfolding setup_of
stage_is lines s = refl

may_now : (setup : Setup) (boots : List AgentBoot) → AllByRecursion (λ (b : AgentBoot). MayHappen setup b.events) boots
    → MayHappen setup (newest boots).events
may_now setup [] h = tt
may_now setup (b ∷ earlier) h = h.0

-- what holds of the boot of a sub-agent
pub record IsFit (b : BootSoFar) : Type 0 where
  pub short : (e : Event) → IsShort b.setup (e ∷ b.events)
  pub address : HasAddress b.sender.agent
  pub stage : b.setup.stage < 4294967296
  pub may : MayHappen b.setup b.events

fit_now : (lines : List Line) (k : ℕ) (s : SubAgent) → AreLawful lines → length lines < 2 ^ 32
    → slice_get (reverse (subs_in lines)) k ≡ Some s → IsFit (boot_now lines s)
fit_now lines k s lawful many there = record {
  short = λ e. short_so (setup_of lines s) (newest (boots_of lines s)).events e
      (omega (arith, many, (boots_few lines s).events)) (counters_few lines s lawful);
  address = all_at IsSome (reverse (subs_in lines)) k s (all_turned IsSome (subs_in lines) (have_addresses lines lawful)) there;
  stage = omega (arith, stage_is lines s, stage_few lines k s lawful there);
  may = may_now (setup_of lines s) (boots_of lines s) (boots_may lines s lawful);
}

pub fit_at : (lines : List Line) (k : ℕ) (b : BootSoFar) → AreLawful lines → length lines < 2 ^ 32
    → slice_get (boots_now lines) k ≡ Some b → IsFit b
fit_at lines k b lawful many at =
    let here = boot_at lines k b at in
    subst IsFit (sym here.is) (fit_now lines k here.sub lawful many here.there)
