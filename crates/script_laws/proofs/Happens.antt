-- What happens in the boots of lawful lines may happen.
use Rattle.std.proofs.Common.{◌≡◌, ◌∙◌, ◌-◌, ◌&&◌, ◌||◌, ◌==◌, ◌++◌, ◌⊎◌, inl, inr, cond, ℕ, Bool, true, false, not, List, [], ◌∷◌, length, map, take, Option, Some, None, refl, ap, sym, subst, arith, if◌then◌else◌}
use Rattle.std.specs.Prelude.{find, option_map}
use Rattle.std.specs.List.{AllByRecursion, list_all, list_any}
use Rattle.std.proofs.lemmas.Option.{same_Some}
use Rattle.std.proofs.lemmas.List.{length-map, length-take}
use Rattle.agent_spec.specs.Sources.{Source, same_source, FlowSetup, CounterSetup}
use Rattle.agent_spec.specs.Samples.{Packet, Setup}
use Rattle.agent_spec.specs.Events.{Event, Observe, Reset}
use Rattle.agent_spec.specs.Boots.{happened, due_sources, IsAmong, HasSource, MayHappen}
use Rattle.agent_spec.proofs.Keys.{both, source-eq}
use Rattle.agent_spec.proofs.Stages.{never-full}
use Rattle.script_spec.specs.Lines.{Line, MaxLine, SubLine, FlowLine, CounterLine, PacketLine, PollLine, SendLine, RestartLine, ResetLine, DeliverLine, SubAgent, flow_at}
use Rattle.script_spec.specs.Agents.{AgentBoot, setup_of, boots_of, boots_after, begun_at, with_event, with_line, event_of, poll_at, send_at, flow_of, has_source, counters_at}
use Rattle.script_spec.specs.Rules.{sets_up, stands_in_order, meets_rules, may_follow}
use Rattle.script_laws.specs.Lawful.{AreLawful, BootsMayHappen}

-- ---- lines that set up come first

pub in_order : (line : Line) (before : List Line) → may_follow before line ≡ true → sets_up line ≡ true
    → list_all sets_up before ≡ true
unfolding may_follow
in_order line before may sets = go (sets_up line) sets (both (stands_in_order before line) (meets_rules before line) may).0
  where
    go : (b : Bool) → b ≡ true → (not b || list_all sets_up before) ≡ true → list_all sets_up before ≡ true
    go true e h = h
    go false e h = absurd cc

-- other lines leave the set-up as it is
pub same_setup : (line : Line) (before : List Line) (s : SubAgent) → sets_up line ≡ false
    → setup_of (line ∷ before) s ≡ setup_of before s
unfolding setup_of
same_setup (MaxLine n) before s e = absurd cc
same_setup (SubLine t) before s e = absurd cc
same_setup (FlowLine id f) before s e = absurd cc
same_setup (CounterLine id c) before s e = absurd cc
same_setup (PacketLine p k) before s e = refl
same_setup (PollLine id now) before s e = refl
same_setup (SendLine id now) before s e = refl
same_setup (RestartLine id at) before s e = refl
same_setup (ResetLine t) before s e = refl
same_setup (DeliverLine d) before s e = refl

-- lines that set up make nothing happen
set_up_step : (setup : Setup) (id : ℕ) (line : Line) (boots : List AgentBoot) → sets_up line ≡ true
    → boots_after setup id line boots ≡ with_line setup id line boots
set_up_step setup id (MaxLine n) boots e = refl
set_up_step setup id (SubLine t) boots e = refl
set_up_step setup id (FlowLine owner f) boots e = refl
set_up_step setup id (CounterLine owner c) boots e = refl
set_up_step setup id (PacketLine p k) boots e = absurd cc
set_up_step setup id (PollLine owner now) boots e = absurd cc
set_up_step setup id (SendLine owner now) boots e = absurd cc
set_up_step setup id (RestartLine owner at) boots e = absurd cc
set_up_step setup id (ResetLine t) boots e = absurd cc
set_up_step setup id (DeliverLine d) boots e = absurd cc

no_event : (setup : Setup) (id : ℕ) (events : List Event) (line : Line) → sets_up line ≡ true
    → event_of setup id events line ≡ None
no_event setup id events (MaxLine n) e = refl
no_event setup id events (SubLine t) e = refl
no_event setup id events (FlowLine owner f) e = refl
no_event setup id events (CounterLine owner c) e = refl
no_event setup id events (PacketLine p k) e = absurd cc
no_event setup id events (PollLine owner now) e = absurd cc
no_event setup id events (SendLine owner now) e = absurd cc
no_event setup id events (RestartLine owner at) e = absurd cc
no_event setup id events (ResetLine t) e = absurd cc
no_event setup id events (DeliverLine d) e = absurd cc

pub none_yet : (lines : List Line) (s : SubAgent) → list_all sets_up lines ≡ true → boots_of lines s ≡ begun_at s.at ∷ []
unfolding boots_of
none_yet [] s e = refl
none_yet (line ∷ before) s e =
    let b = both (sets_up line) (list_all sets_up before) e in
    ap (boots_after (setup_of before s) s.id line) (none_yet before s b.1)
    ∙ set_up_step (setup_of before s) s.id line (begun_at s.at ∷ []) b.0
    ∙ ap (λ (o : Option Event). with_event o (begun_at s.at) ∷ []) (no_event (setup_of before s) s.id [] line b.0)

-- ---- what one line makes happen

pub found_among : (q : FlowSetup → Bool) (flows : List FlowSetup) (f : FlowSetup) → find q flows ≡ Some f → IsAmong f flows
found_among q [] f e = absurd cc
found_among q (g ∷ more) f e = go (q g) (found_among q more f) e
  where
    go : (b : Bool) → (find q more ≡ Some f → IsAmong f more) → cond b (Some g) (find q more) ≡ Some f
        → IsAmong f (g ∷ more)
    go true others is = inl (sym (same_Some _ _ is))
    go false others is = inr (others is)

may_observe : (setup : Setup) (k : Packet) (o : Option FlowSetup) (events : List Event) (e : Event)
    → ((f : FlowSetup) → o ≡ Some f → IsAmong f setup.flows)
    → option_map (λ f. Observe f k) o ≡ Some e → MayHappen setup events → MayHappen setup (e ∷ events)
may_observe setup k None events e is made may = absurd cc
may_observe setup k (Some f) events e is made may =
    subst (λ (x : Event). MayHappen setup (x ∷ events)) (same_Some _ _ made) (is f refl, may)

-- what is read of the sources that are due
may_poll : (setup : Setup) (now : ℕ) (events : List Event) → MayHappen setup events
    → MayHappen setup (poll_at setup now events ∷ events)
unfolding poll_at
may_poll setup now events may =
    let due : List CounterSetup = due_sources setup now events (happened setup events) in
    let places : ℕ = setup.stage - length (happened setup events).staged in
    let read = length-map (take places due) (λ (c : CounterSetup). counters_at events c.source) in
    let taken = length-take places due in
    let room = never-full setup events may in
    (omega (arith, read, taken), omega (arith, read, taken, room), may)

may_send : (setup : Setup) (now : ℕ) (events : List Event) → MayHappen setup events
    → MayHappen setup (send_at setup now events ∷ events)
unfolding send_at
may_send setup now events may = (omega arith, may)

among_left : (source : Source) (xs ys : List Source) → IsAmong source xs → IsAmong source (xs ++ ys)
among_left source [] ys h = absurd h
among_left source (x ∷ xs) ys (inl e) = inl e
among_left source (x ∷ xs) ys (inr h) = inr (among_left source xs ys h)

among_right : (source : Source) (xs ys : List Source) → IsAmong source ys → IsAmong source (xs ++ ys)
among_right source [] ys h = h
among_right source (x ∷ xs) ys h = inr (among_right source xs ys h)

any_among : {X : Type 0} (of : X → Source) (source : Source) (xs : List X)
    → list_any (λ (x : X). same_source source (of x)) xs ≡ true → IsAmong source (map of xs)
any_among of source [] e = absurd cc
any_among {X} of source (x ∷ more) e = go (same_source source (of x)) refl (any_among of source more) e
  where
    go : (b : Bool) → same_source source (of x) ≡ b
        → (list_any (λ (y : X). same_source source (of y)) more ≡ true → IsAmong source (map of more))
        → (b || list_any (λ (y : X). same_source source (of y)) more) ≡ true → IsAmong source (of x ∷ map of more)
    go true is others h = inl (source-eq source (of x) is)
    go false is others h = inr (others h)

either : (a b : Bool) → (a || b) ≡ true → (a ≡ true) ⊎ (b ≡ true)
either true b e = inl refl
either false b e = inr e

pub source_had : (setup : Setup) (source : Source) → has_source setup source ≡ true → HasSource setup source
source_had setup source e =
    let flows = map (λ (f : FlowSetup). f.source) setup.flows in
    let counters = map (λ (c : CounterSetup). c.source) setup.counters in
    elim (either (list_any (λ (f : FlowSetup). same_source source f.source) setup.flows) _ e) [
      | inl h ↦ among_left source flows counters (any_among (λ (f : FlowSetup). f.source) source setup.flows h)
      | inr h ↦ among_right source flows counters (any_among (λ (c : CounterSetup). c.source) source setup.counters h)
    ]

may_reset : (setup : Setup) (source : Source) (b : Bool) (events : List Event) (e : Event) → has_source setup source ≡ b
    → (if b then Some (Reset source) else None) ≡ Some e → MayHappen setup events → MayHappen setup (e ∷ events)
may_reset setup source true events e is made may =
    subst (λ (x : Event). MayHappen setup (x ∷ events)) (same_Some _ _ made) (source_had setup source is, may)
may_reset setup source false events e is made may = absurd cc

may_own : (setup : Setup) (b : Bool) (own : Event) (events : List Event) (e : Event)
    → (if b then Some own else None) ≡ Some e → MayHappen setup (own ∷ events) → MayHappen setup (e ∷ events)
may_own setup true own events e made may = subst (λ (x : Event). MayHappen setup (x ∷ events)) (same_Some _ _ made) may
may_own setup false own events e made may = absurd cc

pub may_next : (setup : Setup) (id : ℕ) (events : List Event) (line : Line) (e : Event)
    → event_of setup id events line ≡ Some e → MayHappen setup events → MayHappen setup (e ∷ events)
may_next setup id events (MaxLine n) e made may = absurd cc
may_next setup id events (SubLine t) e made may = absurd cc
may_next setup id events (FlowLine owner f) e made may = absurd cc
may_next setup id events (CounterLine owner c) e made may = absurd cc
may_next setup id events (PacketLine p k) e made may =
    may_observe setup k (flow_of setup p) events e
    (λ f is. found_among (λ (f : FlowSetup). same_source (flow_at p) f.source) setup.flows f is) made may
may_next setup id events (PollLine owner now) e made may =
    may_own setup (owner == id) (poll_at setup now events) events e made (may_poll setup now events may)
may_next setup id events (SendLine owner now) e made may =
    may_own setup (owner == id) (send_at setup now events) events e made (may_send setup now events may)
may_next setup id events (RestartLine owner at) e made may = absurd cc
may_next setup id events (ResetLine t) e made may = may_reset setup t (has_source setup t) events e refl made may
may_next setup id events (DeliverLine d) e made may = absurd cc

-- ---- all lines

abbrev MayEach : Setup → List AgentBoot → Type 0
MayEach setup boots = AllByRecursion (λ (b : AgentBoot). MayHappen setup b.events) boots

with_option : (setup : Setup) (o : Option Event) (b : AgentBoot)
    → ((e : Event) → o ≡ Some e → MayHappen setup (e ∷ b.events)) → MayHappen setup b.events
    → MayHappen setup (with_event o b).events
with_option setup None b next may = may
with_option setup (Some e) b next may = next e refl

goes_on : (setup : Setup) (id : ℕ) (line : Line) (boots : List AgentBoot) → MayEach setup boots
    → MayEach setup (with_line setup id line boots)
goes_on setup id line [] h = h
goes_on setup id line (b ∷ earlier) h = (
  with_option setup (event_of setup id b.events line) b (λ e made. may_next setup id b.events line e made h.0) h.0,
  h.1,
)

begins : (setup : Setup) (at : ℕ) (own : Bool) (boots : List AgentBoot) → MayEach setup boots
    → MayEach setup (if own then begun_at at ∷ boots else boots)
begins setup at true boots h = (tt, h)
begins setup at false boots h = h

after_line : (setup : Setup) (id : ℕ) (line : Line) (boots : List AgentBoot) → MayEach setup boots
    → MayEach setup (boots_after setup id line boots)
after_line setup id (MaxLine n) boots h = goes_on setup id (MaxLine n) boots h
after_line setup id (SubLine t) boots h = goes_on setup id (SubLine t) boots h
after_line setup id (FlowLine owner f) boots h = goes_on setup id (FlowLine owner f) boots h
after_line setup id (CounterLine owner c) boots h = goes_on setup id (CounterLine owner c) boots h
after_line setup id (PacketLine p k) boots h = goes_on setup id (PacketLine p k) boots h
after_line setup id (PollLine owner now) boots h = goes_on setup id (PollLine owner now) boots h
after_line setup id (SendLine owner now) boots h = goes_on setup id (SendLine owner now) boots h
after_line setup id (RestartLine owner at) boots h = begins setup at (owner == id) boots h
after_line setup id (ResetLine t) boots h = goes_on setup id (ResetLine t) boots h
after_line setup id (DeliverLine d) boots h = goes_on setup id (DeliverLine d) boots h

pub boots_may : (lines : List Line) (s : SubAgent) → AreLawful lines → BootsMayHappen lines s
unfolding boots_of
boots_may [] s lawful = (tt, tt)
boots_may (line ∷ before) s lawful = go (sets_up line) refl (boots_may before s lawful.2)
  where
    go : (b : Bool) → sets_up line ≡ b → BootsMayHappen before s → BootsMayHappen (line ∷ before) s
    go true sets h =
        let first : list_all sets_up before ≡ true = in_order line before lawful.1 sets in
        let all : list_all sets_up (line ∷ before) ≡ true = ap (λ (x : Bool). x && list_all sets_up before) sets ∙ first in
        subst (MayEach (setup_of (line ∷ before) s)) (sym (none_yet (line ∷ before) s all)) (tt, tt)
    go false sets h =
        subst (λ (setup : Setup). MayEach setup (boots_after (setup_of before s) s.id line (boots_of before s)))
        (sym (same_setup line before s sets)) (after_line (setup_of before s) s.id line (boots_of before s) h)
