-- The newest boots of lawful lines: when they arrive, how many there are, and how many datagrams each has sent.
use Rattle.std.proofs.Common.{◌≡◌, ◌∙◌, ◌+◌, ◌*◌, ◌≤◌, ◌==◌, ◌&&◌, ℕ, zero, suc, Bool, true, false, List, [], ◌∷◌, length, reverse, take, drop, Option, Some, None, refl, ap, sym, subst, arith, if◌then◌else◌, nat_le}
use Rattle.std.specs.List.{AllByRecursion, cons_option, list_all}
use Rattle.std.proofs.lemmas.Bool.{and_parts, leb-true}
use Rattle.std.proofs.lemmas.Option.{same_Some}
use Rattle.std.proofs.lemmas.List.{length-take, length-reverse}
use Rattle.agent_spec.specs.Samples.{Sample, Datagram, Setup}
use Rattle.agent_spec.specs.Events.{Event}
use Rattle.agent_spec.specs.Packing.{prefixes, longest}
use Rattle.agent_spec.specs.Boots.{MayHappen, happened, packed, with_sent}
use Rattle.agent_spec.proofs.Stages.{never-full}
use Rattle.script_spec.specs.Words.{number32}
use Rattle.script_spec.specs.Values.{address}
use Rattle.script_spec.specs.Lines.{Line, MaxLine, SubLine, FlowLine, CounterLine, PacketLine, PollLine, SendLine, RestartLine, ResetLine, DeliverLine, SubAgent}
use Rattle.script_spec.specs.Agents.{AgentBoot, begun_at, boots_after, boots_of, event_of, send_at, setup_of, sub_in, subs_in, with_event, with_line}
use Rattle.script_spec.specs.Rules.{sets_up}
use Rattle.script_laws.specs.Written.{may_be_written}
use Rattle.script_laws.specs.Lawful.{AreLawful}
use Rattle.script_laws.proofs.Happens.{boots_may, in_order, none_yet, same_setup}
use Rattle.script_tables.specs.Tables.{newest}
use Rattle.script_tables.proofs.Steps.{quiet_event}

-- ---- how many boots

restarted : (own : Bool) (at n : ℕ) (boots : List AgentBoot) → length boots ≤ 1 + n
    → length (if own then begun_at at ∷ boots else boots) ≤ 1 + (1 + n)
restarted true at n boots h = omega (arith, h)
restarted false at n boots h = omega (arith, h)

same_length : (setup : Setup) (id : ℕ) (line : Line) (boots : List AgentBoot) → length (with_line setup id line boots) ≡ length boots
same_length setup id line [] = refl
same_length setup id line (b ∷ earlier) = refl

one_more : (setup : Setup) (id n : ℕ) (line : Line) (boots : List AgentBoot) → length boots ≤ 1 + n
    → length (boots_after setup id line boots) ≤ 1 + (1 + n)
one_more setup id n (RestartLine owner at) boots h = restarted (owner == id) at n boots h
one_more setup id n (MaxLine m) boots h = omega (arith, h, same_length setup id (MaxLine m) boots)
one_more setup id n (SubLine s) boots h = omega (arith, h, same_length setup id (SubLine s) boots)
one_more setup id n (FlowLine o f) boots h = omega (arith, h, same_length setup id (FlowLine o f) boots)
one_more setup id n (CounterLine o c) boots h = omega (arith, h, same_length setup id (CounterLine o c) boots)
one_more setup id n (PacketLine p k) boots h = omega (arith, h, same_length setup id (PacketLine p k) boots)
one_more setup id n (PollLine o now) boots h = omega (arith, h, same_length setup id (PollLine o now) boots)
one_more setup id n (SendLine o now) boots h = omega (arith, h, same_length setup id (SendLine o now) boots)
one_more setup id n (ResetLine s) boots h = omega (arith, h, same_length setup id (ResetLine s) boots)
one_more setup id n (DeliverLine d) boots h = omega (arith, h, same_length setup id (DeliverLine d) boots)

pub boots_few : (lines : List Line) (s : SubAgent) → length (boots_of lines s) ≤ 1 + length lines
unfolding boots_of
boots_few [] s = omega arith
boots_few (line ∷ before) s =
    let h = one_more (setup_of before s) s.id (length before) line (boots_of before s) (boots_few before s) in
    omega (arith, h)

-- ---- when a boot arrives

abbrev IsTime : ℕ → Type 0
IsTime at = at ≤ 9223372036854775807

fourth : (a b c d e : Bool) → (a && (b && (c && (d && e)))) ≡ true → d ≡ true
fourth a b c d e h =
    (and_parts d e (and_parts c (d && e) (and_parts b (c && (d && e)) (and_parts a (b && (c && (d && e))) h).1).1).1).0

sub_time : (line : Line) (s : SubAgent) → sub_in line ≡ Some s → may_be_written line ≡ true → IsTime s.at
sub_time (SubLine t) s e written =
    let range = and_parts (nat_le 0 t.at) (nat_le t.at 9223372036854775807)
    (fourth (number32.may t.id) (address.may t.address) (number32.may t.first) _ _ written) in
    subst (λ (x : SubAgent). IsTime x.at) (same_Some _ _ e) (leb-true _ _ range.1)
sub_time (MaxLine n) s e written = absurd cc
sub_time (FlowLine id f) s e written = absurd cc
sub_time (CounterLine id c) s e written = absurd cc
sub_time (PacketLine p k) s e written = absurd cc
sub_time (PollLine owner now) s e written = absurd cc
sub_time (SendLine owner now) s e written = absurd cc
sub_time (RestartLine owner at) s e written = absurd cc
sub_time (ResetLine t) s e written = absurd cc
sub_time (DeliverLine d) s e written = absurd cc

pub subs_in_time : (lines : List Line) → AreLawful lines → AllByRecursion (λ (s : SubAgent). IsTime s.at) (subs_in lines)
subs_in_time [] l = tt
subs_in_time (line ∷ before) l = go (sub_in line) refl (subs_in_time before l.2)
  where
    go : (o : Option SubAgent) → sub_in line ≡ o → AllByRecursion (λ (s : SubAgent). IsTime s.at) (subs_in before)
        → AllByRecursion (λ (s : SubAgent). IsTime s.at) (cons_option o (subs_in before))
    go None is h = h
    go (Some s) is h = (sub_time line s is l.0, h)

restart_time : (own : Bool) (at : ℕ) (boots : List AgentBoot) → IsTime at → IsTime (newest boots).at
    → IsTime (newest (if own then begun_at at ∷ boots else boots)).at
restart_time true at boots t h = t
restart_time false at boots t h = h

event_time : (o : Option Event) (b : AgentBoot) → IsTime b.at → IsTime (with_event o b).at
event_time None b h = h
event_time (Some e) b h = h

line_time : (setup : Setup) (id : ℕ) (line : Line) (boots : List AgentBoot) → IsTime (newest boots).at
    → IsTime (newest (with_line setup id line boots)).at
line_time setup id line [] h = h
line_time setup id line (b ∷ earlier) h = event_time (event_of setup id b.events line) b h

after_time : (setup : Setup) (id : ℕ) (line : Line) (boots : List AgentBoot) → may_be_written line ≡ true
    → IsTime (newest boots).at → IsTime (newest (boots_after setup id line boots)).at
after_time setup id (RestartLine owner at) boots written h =
    let range = and_parts (nat_le 0 at) (nat_le at 9223372036854775807) (and_parts (number32.may owner) _ written).1 in
    restart_time (owner == id) at boots (leb-true _ _ range.1) h
after_time setup id (MaxLine m) boots written h = line_time setup id (MaxLine m) boots h
after_time setup id (SubLine s) boots written h = line_time setup id (SubLine s) boots h
after_time setup id (FlowLine o f) boots written h = line_time setup id (FlowLine o f) boots h
after_time setup id (CounterLine o c) boots written h = line_time setup id (CounterLine o c) boots h
after_time setup id (PacketLine p k) boots written h = line_time setup id (PacketLine p k) boots h
after_time setup id (PollLine o now) boots written h = line_time setup id (PollLine o now) boots h
after_time setup id (SendLine o now) boots written h = line_time setup id (SendLine o now) boots h
after_time setup id (ResetLine s) boots written h = line_time setup id (ResetLine s) boots h
after_time setup id (DeliverLine d) boots written h = line_time setup id (DeliverLine d) boots h

pub boot_in_time : (lines : List Line) (s : SubAgent) → AreLawful lines → s.at ≤ 9223372036854775807
    → (newest (boots_of lines s)).at ≤ 9223372036854775807
unfolding boots_of
boot_in_time [] s l first = first
boot_in_time (line ∷ before) s l first =
    after_time (setup_of before s) s.id line (boots_of before s) l.0 (boot_in_time before s l.2 first)

-- ---- how many datagrams a boot has sent

prefixes_few : (fits : List Sample → Bool) (most : ℕ) (items : List Sample) → length (prefixes fits most items) ≤ most
prefixes_few fits zero items = omega arith
prefixes_few fits (suc most) [] = omega arith
prefixes_few fits (suc most) (x ∷ more) =
    let size : ℕ = longest fits (x ∷ more) (length (x ∷ more)) in
    let h = prefixes_few fits most (drop size (x ∷ more)) in
    omega (arith, h)

with_sent_long : (first now : ℕ) (ds : List (List Sample)) (sent : List Datagram)
    → length (with_sent first now ds sent) ≡ length ds + length sent
with_sent_long first now [] sent = omega arith
with_sent_long first now (d ∷ more) sent =
    let h = with_sent_long first now more (record { number = first + length sent; uptime = now; samples = d } ∷ sent) in
    omega (arith, h)

-- the datagrams of a boot after these events
abbrev sent_by : Setup → List Event → ℕ
sent_by setup events = length (happened setup events).sent

send_few : (setup : Setup) (now : ℕ) (events : List Event) → MayHappen setup events → setup.stage ≤ 1024
    → sent_by setup (send_at setup now events ∷ events) ≤ 1024 + sent_by setup events
unfolding send_at
send_few setup now events may small =
    let ds : List (List Sample) = packed setup (happened setup events) in
    let n : ℕ = length ds in
    let room = never-full setup events may in
    let long = with_sent_long setup.first now (take n ds) (happened setup events).sent in
    let some = length-take n ds in
    let few = prefixes_few setup.fits (length (reverse (happened setup events).staged)) (reverse (happened setup events).staged) in
    let turned = length-reverse (happened setup events).staged in
    omega (arith, room, long, some, few, turned, small)

own_few : (setup : Setup) (own : Bool) (now : ℕ) (events : List Event) (e : Event) → MayHappen setup events
    → setup.stage ≤ 1024 → (if own then Some (send_at setup now events) else None) ≡ Some e
    → sent_by setup (e ∷ events) ≤ 1024 + sent_by setup events
own_few setup true now events e may small is =
    subst (λ (x : Event). sent_by setup (x ∷ events) ≤ 1024 + sent_by setup events) (same_Some _ _ is) (send_few setup now events may small)
own_few setup false now events e may small is = absurd cc

event_few : (setup : Setup) (id : ℕ) (events : List Event) (line : Line) (e : Event) → MayHappen setup events
    → setup.stage ≤ 1024 → event_of setup id events line ≡ Some e → sent_by setup (e ∷ events) ≤ 1024 + sent_by setup events
event_few setup id events (SendLine owner now) e may small is = own_few setup (owner == id) now events e may small is
event_few setup id events (PacketLine p k) e may small is =
    omega (arith, ap length (quiet_event setup id events (PacketLine p k) e refl is))
event_few setup id events (PollLine owner now) e may small is =
    omega (arith, ap length (quiet_event setup id events (PollLine owner now) e refl is))
event_few setup id events (ResetLine t) e may small is =
    omega (arith, ap length (quiet_event setup id events (ResetLine t) e refl is))
event_few setup id events (DeliverLine d) e may small is = absurd cc
event_few setup id events (MaxLine n) e may small is = absurd cc
event_few setup id events (SubLine t) e may small is = absurd cc
event_few setup id events (FlowLine owner f) e may small is = absurd cc
event_few setup id events (CounterLine owner c) e may small is = absurd cc
event_few setup id events (RestartLine owner at) e may small is = absurd cc

option_few : (setup : Setup) (o : Option Event) (b : AgentBoot)
    → ((e : Event) → o ≡ Some e → sent_by setup (e ∷ b.events) ≤ 1024 + sent_by setup b.events)
    → sent_by setup (with_event o b).events ≤ 1024 + sent_by setup b.events
option_few setup None b h = omega arith
option_few setup (Some e) b h = h e refl

line_few : (setup : Setup) (id : ℕ) (line : Line) (boots : List AgentBoot) (n : ℕ) → setup.stage ≤ 1024
    → AllByRecursion (λ (b : AgentBoot). MayHappen setup b.events) boots → sent_by setup (newest boots).events ≤ 1024 * n
    → sent_by setup (newest (with_line setup id line boots)).events ≤ 1024 * (1 + n)
line_few setup id line [] n small may h = omega (arith, h)
line_few setup id line (b ∷ earlier) n small may h =
    let more = option_few setup (event_of setup id b.events line) b (λ e. event_few setup id b.events line e may.0 small) in
    omega (arith, h, more)

restart_few : (setup : Setup) (own : Bool) (at n : ℕ) (boots : List AgentBoot) → sent_by setup (newest boots).events ≤ 1024 * n
    → sent_by setup (newest (if own then begun_at at ∷ boots else boots)).events ≤ 1024 * (1 + n)
restart_few setup true at n boots h = omega arith
restart_few setup false at n boots h = omega (arith, h)

after_few : (setup : Setup) (id : ℕ) (line : Line) (boots : List AgentBoot) (n : ℕ) → setup.stage ≤ 1024
    → AllByRecursion (λ (b : AgentBoot). MayHappen setup b.events) boots → sent_by setup (newest boots).events ≤ 1024 * n
    → sent_by setup (newest (boots_after setup id line boots)).events ≤ 1024 * (1 + n)
after_few setup id (RestartLine owner at) boots n small may h = restart_few setup (owner == id) at n boots h
after_few setup id (MaxLine m) boots n small may h = line_few setup id (MaxLine m) boots n small may h
after_few setup id (SubLine s) boots n small may h = line_few setup id (SubLine s) boots n small may h
after_few setup id (FlowLine o f) boots n small may h = line_few setup id (FlowLine o f) boots n small may h
after_few setup id (CounterLine o c) boots n small may h = line_few setup id (CounterLine o c) boots n small may h
after_few setup id (PacketLine p k) boots n small may h = line_few setup id (PacketLine p k) boots n small may h
after_few setup id (PollLine o now) boots n small may h = line_few setup id (PollLine o now) boots n small may h
after_few setup id (SendLine o now) boots n small may h = line_few setup id (SendLine o now) boots n small may h
after_few setup id (ResetLine s) boots n small may h = line_few setup id (ResetLine s) boots n small may h
after_few setup id (DeliverLine d) boots n small may h = line_few setup id (DeliverLine d) boots n small may h

stage_of : (lines : List Line) (s : SubAgent) → (setup_of lines s).stage ≡ s.stage
unfolding setup_of
stage_of lines s = refl

one_longer : (m n : ℕ) → m ≤ 1024 * (1 + n) → m ≤ 1024 * suc n
one_longer m n h = omega (arith, h)

-- each line sends at most what the stage holds
pub sent_few : (lines : List Line) (s : SubAgent) → AreLawful lines → s.stage ≤ 1024
    → length (happened (setup_of lines s) (newest (boots_of lines s)).events).sent ≤ 1024 * length lines
unfolding boots_of
sent_few [] s l small = omega arith
sent_few (line ∷ before) s l small = one_longer _ (length before) (go (sets_up line) refl (sent_few before s l.2 small))
  where
    go : (b : Bool) → sets_up line ≡ b
        → sent_by (setup_of before s) (newest (boots_of before s)).events ≤ 1024 * length before
        → sent_by (setup_of (line ∷ before) s) (newest (boots_of (line ∷ before) s)).events ≤ 1024 * (1 + length before)
    go true sets h =
        let all : list_all sets_up (line ∷ before) ≡ true =
        ap (λ (x : Bool). x && list_all sets_up before) sets ∙ in_order line before l.1 sets in
        subst (λ (boots : List AgentBoot). sent_by (setup_of (line ∷ before) s) (newest boots).events ≤ 1024 * (1 + length before))
        (sym (none_yet (line ∷ before) s all)) (omega arith)
    go false sets h =
        subst (λ (setup : Setup). sent_by setup (newest (boots_after (setup_of before s) s.id line (boots_of before s))).events
        ≤ 1024 * (1 + length before)) (sym (same_setup line before s sets))
        (after_few (setup_of before s) s.id line (boots_of before s) (length before) (omega (arith, stage_of before s, small))
        (boots_may before s l.2) h)
