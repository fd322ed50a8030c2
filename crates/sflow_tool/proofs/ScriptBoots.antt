-- The boots of a script's sub-agents behind one line more.
use Rattle.std.proofs.Common.{◌≡◌, ◌∙◌, ◌+◌, ◌==◌, ◌||◌, ℕ, suc, Bool, true, false, List, [], ◌∷◌, length, map, reverse, set, Option, Some, None, refl, ap, sym, subst, arith, if◌then◌else◌, slice_get, option_map}
use Rattle.std.specs.List.{AllByRecursion, list_any}
use Rattle.std.proofs.lemmas.Bool.{eq-eqb}
use Rattle.std.proofs.lemmas.Option.{same_Some, slice_get-map}
use Rattle.agent_spec.specs.Sources.{Source, same_source, FlowSetup, CounterSetup}
use Rattle.agent_spec.specs.Samples.{Packet, Setup}
use Rattle.agent_spec.specs.Spelled.{Sender}
use Rattle.agent_spec.specs.Events.{Event, Observe, Reset}
use Rattle.agent_spec.specs.Boots.{HasSource, IsAmong}
use Rattle.script_spec.specs.Values.{Place}
use Rattle.script_spec.specs.Lines.{Line, MaxLine, SubLine, FlowLine, CounterLine, PacketLine, PollLine, SendLine, RestartLine, ResetLine, DeliverLine, SubAgent, Delivery, flow_at}
use Rattle.script_spec.specs.Agents.{AgentBoot, begun_at, boots_after, boots_of, event_of, flow_of, has_source, poll_at, send_at, sender_of, setup_of, sources_in, subs_in, with_line}
use Rattle.script_spec.specs.Agents as agents
use Rattle.script_laws.specs.Lawful.{AreLawful}
use Rattle.script_laws.proofs.Happens.{same_setup}
use Rattle.script_tables.specs.Tables.{newest}
use Rattle.script_tables.proofs.OfLines.{subs_are}
use Rattle.script_tables.proofs.OneHome.{among_owned, flow_elsewhere, flow_here, has_elsewhere, has_owned, source_here}
use Rattle.script_tables.proofs.Steps.{set_at}
use Rattle.script_meter.proofs.MeterReads.{HasNewest, has_newest}
use Rattle.sub_agents.specs.SubAgents.{BootSoFar, with_event, next_boot}
use Rattle.sflow_tool.specs.ScriptBoots.{boot_now, boots_now}

-- ---- a line that makes an event happen, or none

-- it sets nothing up, and begins no boot
abbrev pub goes_on : Line → Bool
goes_on (PacketLine p k) = true
goes_on (PollLine id now) = true
goes_on (SendLine id now) = true
goes_on (ResetLine s) = true
goes_on (DeliverLine d) = true
goes_on other = false

abbrev pub acted : Option Event → BootSoFar → BootSoFar
acted None b = b
acted (Some e) b = with_event e b

same_sender : (line : Line) (lines : List Line) (s : SubAgent) → goes_on line ≡ true → sender_of (line ∷ lines) s ≡ sender_of lines s
same_sender (PacketLine p k) lines s e = refl
same_sender (PollLine id now) lines s e = refl
same_sender (SendLine id now) lines s e = refl
same_sender (ResetLine t) lines s e = refl
same_sender (DeliverLine d) lines s e = refl
same_sender (MaxLine n) lines s e = absurd cc
same_sender (SubLine t) lines s e = absurd cc
same_sender (FlowLine id f) lines s e = absurd cc
same_sender (CounterLine id c) lines s e = absurd cc
same_sender (RestartLine id at) lines s e = absurd cc

same_set_up : (line : Line) (lines : List Line) (s : SubAgent) → goes_on line ≡ true → setup_of (line ∷ lines) s ≡ setup_of lines s
same_set_up (PacketLine p k) lines s e = same_setup (PacketLine p k) lines s refl
same_set_up (PollLine id now) lines s e = same_setup (PollLine id now) lines s refl
same_set_up (SendLine id now) lines s e = same_setup (SendLine id now) lines s refl
same_set_up (ResetLine t) lines s e = same_setup (ResetLine t) lines s refl
same_set_up (DeliverLine d) lines s e = same_setup (DeliverLine d) lines s refl
same_set_up (MaxLine n) lines s e = absurd cc
same_set_up (SubLine t) lines s e = absurd cc
same_set_up (FlowLine id f) lines s e = absurd cc
same_set_up (CounterLine id c) lines s e = absurd cc
same_set_up (RestartLine id at) lines s e = absurd cc

pub line_boots : (line : Line) (lines : List Line) (s : SubAgent) → goes_on line ≡ true
    → boots_of (line ∷ lines) s ≡ with_line (setup_of lines s) s.id line (boots_of lines s)
unfolding boots_of
line_boots (PacketLine p k) lines s e = refl
line_boots (PollLine id now) lines s e = refl
line_boots (SendLine id now) lines s e = refl
line_boots (ResetLine t) lines s e = refl
line_boots (DeliverLine d) lines s e = refl
line_boots (MaxLine n) lines s e = absurd cc
line_boots (SubLine t) lines s e = absurd cc
line_boots (FlowLine id f) lines s e = absurd cc
line_boots (CounterLine id c) lines s e = absurd cc
line_boots (RestartLine id at) lines s e = absurd cc

abbrev of_boots : Sender → Setup → List AgentBoot → BootSoFar
of_boots sender setup boots = record { sender = sender; setup = setup; number = length boots; events = (newest boots).events }

event_boots : (sender : Sender) (setup : Setup) (id : ℕ) (line : Line) (b : AgentBoot) (earlier : List AgentBoot) (o : Option Event)
    → event_of setup id b.events line ≡ o
    → of_boots sender setup (with_line setup id line (b ∷ earlier)) ≡ acted o (of_boots sender setup (b ∷ earlier))
event_boots sender setup id line b earlier o is =
    ap (λ (x : Option Event). of_boots sender setup (agents.with_event x b ∷ earlier)) is ∙ go o
  where
    go : (x : Option Event) → of_boots sender setup (agents.with_event x b ∷ earlier) ≡ acted x (of_boots sender setup (b ∷ earlier))
    go None = refl
    go (Some e) = refl

line_boots_now : (sender : Sender) (setup : Setup) (id : ℕ) (line : Line) (boots : List AgentBoot) → HasNewest boots → (o : Option Event)
    → event_of setup id (newest boots).events line ≡ o
    → of_boots sender setup (with_line setup id line boots) ≡ acted o (of_boots sender setup boots)
line_boots_now sender setup id line [] h o is = absurd (let bad : [] ≡ h.boot ∷ h.earlier = h.is in cc)
line_boots_now sender setup id line (b ∷ earlier) h o is = event_boots sender setup id line b earlier o is

pub now_acted : (line : Line) (lines : List Line) (s : SubAgent) (o : Option Event) → goes_on line ≡ true
    → event_of (setup_of lines s) s.id (boot_now lines s).events line ≡ o → boot_now (line ∷ lines) s ≡ acted o (boot_now lines s)
now_acted line lines s o on is =
    ap (λ (x : Sender). of_boots x (setup_of (line ∷ lines) s) (boots_of (line ∷ lines) s)) (same_sender line lines s on)
    ∙ ap (λ (x : Setup). of_boots (sender_of lines s) x (boots_of (line ∷ lines) s)) (same_set_up line lines s on)
    ∙ ap (of_boots (sender_of lines s) (setup_of lines s)) (line_boots line lines s on)
    ∙ line_boots_now (sender_of lines s) (setup_of lines s) s.id line (boots_of lines s) (has_newest lines s) o is

-- ---- what is at a place

pub record IsBootAt (lines : List Line) (k : ℕ) (b : BootSoFar) : Type 0 where
  pub sub : SubAgent
  pub there : slice_get (reverse (subs_in lines)) k ≡ Some sub
  pub is : b ≡ boot_now lines sub

at_option : (lines : List Line) (k : ℕ) (b : BootSoFar) (o : Option SubAgent) → slice_get (reverse (subs_in lines)) k ≡ o
    → option_map (boot_now lines) o ≡ Some b → IsBootAt lines k b
at_option lines k b None is e = absurd cc
at_option lines k b (Some s) is e = record { sub = s; there = is; is = sym (same_Some _ _ e) }

pub boot_at : (lines : List Line) (k : ℕ) (b : BootSoFar) → slice_get (boots_now lines) k ≡ Some b → IsBootAt lines k b
boot_at lines k b at =
    at_option lines k b (slice_get (reverse (subs_in lines)) k) refl
    (sym (slice_get-map (boot_now lines) (reverse (subs_in lines)) k) ∙ at)

pub at_boot : (lines : List Line) (k : ℕ) (s : SubAgent) → slice_get (reverse (subs_in lines)) k ≡ Some s
    → slice_get (boots_now lines) k ≡ Some (boot_now lines s)
at_boot lines k s at = slice_get-map (boot_now lines) (reverse (subs_in lines)) k ∙ ap (option_map (boot_now lines)) at

each_own : (P : SubAgent → Type 0) → ((s : SubAgent) → P s) → (xs : List SubAgent) → AllByRecursion P xs
each_own P h [] = tt
each_own P h (x ∷ more) = (h x, each_own P h more)

-- one sub-agent goes on, and the others stay
pub one_goes_on : (line : Line) (lines : List Line) (k : ℕ) (s : SubAgent) (with : BootSoFar → BootSoFar) → AreLawful lines
    → subs_in (line ∷ lines) ≡ subs_in lines → slice_get (reverse (subs_in lines)) k ≡ Some s
    → ((t : SubAgent) → t.id ≡ s.id → with (boot_now lines t) ≡ boot_now (line ∷ lines) t)
    → ((t : SubAgent) → (s.id == t.id) ≡ false → boot_now (line ∷ lines) t ≡ boot_now lines t)
    → set (boots_now lines) k (with (boot_now lines s)) ≡ boots_now (line ∷ lines)
one_goes_on line lines k s with lawful same there own others =
    set_at (λ (b : BootSoFar). b.sender.sub_agent) (boot_now lines) (boot_now (line ∷ lines)) s.id with (λ t. refl) others
    (reverse (subs_in lines)) k (boot_now lines s) (subs_are lines lawful).apart
    (each_own (λ (t : SubAgent). t.id ≡ s.id → with (boot_now lines t) ≡ boot_now (line ∷ lines) t) own (reverse (subs_in lines)))
    (at_boot lines k s there) refl
    ∙ ap (λ (xs : List SubAgent). map (boot_now (line ∷ lines)) (reverse xs)) (sym same)

-- ---- line by line

same_flows : (lines : List Line) (s t : SubAgent) (f : FlowSetup) → s.id ≡ t.id → IsAmong f (setup_of lines s).flows
    → IsAmong f (setup_of lines t).flows
unfolding setup_of
same_flows lines s t f own h = subst (λ (n : ℕ). IsAmong f (agents.flows_of n lines)) own h

same_has : (lines : List Line) (s t : SubAgent) (source : Source) → s.id ≡ t.id → has_source (setup_of lines s) source ≡ true
    → has_source (setup_of lines t) source ≡ true
unfolding setup_of
same_has lines s t source own h =
    subst (λ (n : ℕ). (list_any (λ (f : FlowSetup). same_source source f.source) (agents.flows_of n lines)
    || list_any (λ (c : CounterSetup). same_source source c.source) (agents.counters_of n lines)) ≡ true) own h

pub packet_boots : (lines : List Line) (p : Place) (packet : Packet) (k : ℕ) (b : BootSoFar) (f : FlowSetup)
    → AreLawful lines → slice_get (boots_now lines) k ≡ Some b → IsAmong f b.setup.flows → f.source ≡ flow_at p
    → set (boots_now lines) k (with_event (Observe f packet) b) ≡ boots_now (PacketLine p packet ∷ lines)
packet_boots lines p packet k b f lawful at among is =
    let here = boot_at lines k b at in
    let s : SubAgent = here.sub in
    let mine : IsAmong f (setup_of lines s).flows = subst (λ (x : BootSoFar). IsAmong f x.setup.flows) here.is among in
    let owned = among_owned lines s f p lawful mine is in
    ap (λ (x : BootSoFar). set (boots_now lines) k (with_event (Observe f packet) x)) here.is
    ∙ one_goes_on (PacketLine p packet) lines k s (with_event (Observe f packet)) lawful refl here.there
    (λ t own. sym (now_acted (PacketLine p packet) lines t (Some (Observe f packet)) refl
    (ap (option_map (λ g. Observe g packet)) (flow_here lines t f p lawful (same_flows lines s t f (sym own) mine) is))))
    (λ t other. now_acted (PacketLine p packet) lines t None refl
    (ap (option_map (λ g. Observe g packet)) (flow_elsewhere lines t s.id p lawful owned other)))

own_event : (b : Bool) (e : Event) → b ≡ true → (if b then Some e else None) ≡ Some e
own_event b e is = ap (λ (x : Bool). if x then Some e else None) is

no_event : (b : Bool) (e : Event) → b ≡ false → (if b then Some e else None) ≡ None
no_event b e is = ap (λ (x : Bool). if x then Some e else None) is

pub poll_boots : (lines : List Line) (id now k : ℕ) (s : SubAgent) → AreLawful lines
    → slice_get (reverse (subs_in lines)) k ≡ Some s → s.id ≡ id
    → set (boots_now lines) k (with_event (poll_at (setup_of lines s) now (boot_now lines s).events) (boot_now lines s))
    ≡ boots_now (PollLine id now ∷ lines)
poll_boots lines id now k s lawful there is =
    one_goes_on (PollLine id now) lines k s (λ (b : BootSoFar). with_event (poll_at b.setup now b.events) b) lawful refl there
    (λ t own. sym (now_acted (PollLine id now) lines t (Some (poll_at (setup_of lines t) now (boot_now lines t).events)) refl
    (own_event (id == t.id) _ (eq-eqb id t.id (sym is ∙ sym own)))))
    (λ t other. now_acted (PollLine id now) lines t None refl
    (no_event (id == t.id) _ (ap (λ (n : ℕ). n == t.id) (sym is) ∙ other)))

pub send_boots : (lines : List Line) (id now k : ℕ) (s : SubAgent) → AreLawful lines
    → slice_get (reverse (subs_in lines)) k ≡ Some s → s.id ≡ id
    → set (boots_now lines) k (with_event (send_at (setup_of lines s) now (boot_now lines s).events) (boot_now lines s))
    ≡ boots_now (SendLine id now ∷ lines)
send_boots lines id now k s lawful there is =
    one_goes_on (SendLine id now) lines k s (λ (b : BootSoFar). with_event (send_at b.setup now b.events) b) lawful refl there
    (λ t own. sym (now_acted (SendLine id now) lines t (Some (send_at (setup_of lines t) now (boot_now lines t).events)) refl
    (own_event (id == t.id) _ (eq-eqb id t.id (sym is ∙ sym own)))))
    (λ t other. now_acted (SendLine id now) lines t None refl
    (no_event (id == t.id) _ (ap (λ (n : ℕ). n == t.id) (sym is) ∙ other)))

pub reset_boots : (lines : List Line) (source : Source) (k : ℕ) (b : BootSoFar) → AreLawful lines
    → slice_get (boots_now lines) k ≡ Some b → HasSource b.setup source
    → set (boots_now lines) k (with_event (Reset source) b) ≡ boots_now (ResetLine source ∷ lines)
reset_boots lines source k b lawful at has =
    let here = boot_at lines k b at in
    let s : SubAgent = here.sub in
    let mine : has_source (setup_of lines s) source ≡ true =
    source_here (setup_of lines s) source (subst (λ (x : BootSoFar). HasSource x.setup source) here.is has) in
    let owned = has_owned lines s source lawful mine in
    ap (λ (x : BootSoFar). set (boots_now lines) k (with_event (Reset source) x)) here.is
    ∙ one_goes_on (ResetLine source) lines k s (with_event (Reset source)) lawful refl here.there
    (λ t own. sym (now_acted (ResetLine source) lines t (Some (Reset source)) refl
    (own_event (has_source (setup_of lines t) source) _ (same_has lines s t source (sym own) mine))))
    (λ t other. now_acted (ResetLine source) lines t None refl
    (no_event (has_source (setup_of lines t) source) _ (has_elsewhere lines t s.id source lawful owned other)))

each_stays : (line : Line) (lines : List Line) → ((t : SubAgent) → boot_now (line ∷ lines) t ≡ boot_now lines t) → (xs : List SubAgent)
    → map (boot_now lines) xs ≡ map (boot_now (line ∷ lines)) xs
each_stays line lines h [] = refl
each_stays line lines h (x ∷ more) =
    ap (λ (b : BootSoFar). b ∷ map (boot_now lines) more) (sym (h x)) ∙ ap (λ bs. boot_now (line ∷ lines) x ∷ bs) (each_stays line lines h more)

-- a delivery makes nothing happen
pub deliver_boots : (lines : List Line) (d : Delivery) → boots_now lines ≡ boots_now (DeliverLine d ∷ lines)
deliver_boots lines d =
    each_stays (DeliverLine d) lines (λ t. now_acted (DeliverLine d) lines t None refl refl) (reverse (subs_in lines))

-- ---- a restart

abbrev restarted : Sender → Setup → Bool → ℕ → List AgentBoot → BootSoFar
restarted sender setup own at boots = of_boots sender setup (if own then begun_at at ∷ boots else boots)

restart_now : (lines : List Line) (id at : ℕ) (t : SubAgent) (own : Bool) → (id == t.id) ≡ own
    → boot_now (RestartLine id at ∷ lines) t ≡ restarted (sender_of lines t) (setup_of lines t) own at (boots_of lines t)
unfolding boots_of
restart_now lines id at t own is =
    ap (λ (x : Setup). of_boots (sender_of lines t) x (if id == t.id then begun_at at ∷ boots_of lines t else boots_of lines t))
    (same_setup (RestartLine id at) lines t refl)
    ∙ ap (λ (x : Bool). restarted (sender_of lines t) (setup_of lines t) x at (boots_of lines t)) is

next_is : (sender : Sender) (setup : Setup) (at : ℕ) (boots : List AgentBoot)
    → next_boot (of_boots sender setup boots) ≡ restarted sender setup true at boots
next_is sender setup at boots =
    ap (λ (n : ℕ). record { sender = sender; setup = setup; number = n; events = [] }) (one (length boots))
  where
    one : (n : ℕ) → 1 + n ≡ suc n
    one n = omega arith

pub restart_boots : (lines : List Line) (id at k : ℕ) (s : SubAgent) → AreLawful lines
    → slice_get (reverse (subs_in lines)) k ≡ Some s → s.id ≡ id
    → set (boots_now lines) k (next_boot (boot_now lines s)) ≡ boots_now (RestartLine id at ∷ lines)
restart_boots lines id at k s lawful there is =
    one_goes_on (RestartLine id at) lines k s next_boot lawful refl there
    (λ t own. next_is (sender_of lines t) (setup_of lines t) at (boots_of lines t)
    ∙ sym (restart_now lines id at t true (eq-eqb id t.id (sym is ∙ sym own))))
    (λ t other. restart_now lines id at t false (ap (λ (n : ℕ). n == t.id) (sym is) ∙ other))
