-- Each datagram that a script sends fits a capture.
use Rattle.std.proofs.Common.{◌≡◌, ◌∙◌, ◌+◌, ◌%◌, ◌≤◌, ◌==◌, inl, inr, cond, ℕ, zero, suc, Bool, true, false, List, [], ◌∷◌, length, map, reverse, take, drop, find, Option, Some, None, refl, ap, sym, subst, arith, if◌then◌else◌, length-append, length-take, option_map, ◌*◌}
use Rattle.std.specs.Prelude.{nat_lt}
use Rattle.std.specs.Int.{w32, to_be_bytes}
use Rattle.std.specs.List.{AllByRecursion, sum_by}
use Rattle.std.specs.Option.{option_map_or}
use Rattle.std.proofs.lemmas.Bool.{eqb-true, leb-true, le-leb}
use Rattle.std.proofs.lemmas.Option.{same_Some}
use Rattle.wire_spec.specs.Heads.{Head}
use Rattle.wire_spec.specs.Shapes.{Tree, known, none, ◌&◌}
use Rattle.wire_spec.specs.Spelling.{spell, spell_all}
use Rattle.data_format.specs.declared.heads.Form.TheVariants as formats
use Rattle.agent_spec.specs.Sources.{Source, Turn, FlowSetup, CounterSetup}
use Rattle.agent_spec.specs.Samples.{Content, Counted, Datagram, Packet, Sample, Sampled, Setup}
use Rattle.agent_spec.specs.Spelled.{Form, Compact, Expanded, Sender, fits_in, sample_tree, sent_bytes}
use Rattle.agent_spec.specs.Events.{Event, Observe, Poll, Send, Reset, turn_after}
use Rattle.agent_spec.specs.Marks.{is_marked}
use Rattle.agent_spec.specs.Boots.{Boot, IsAmong, after_packet, after_poll, counter_sample, due_sources, flow_sample, happened, issue, packed, seen_in, with_dropped, with_polled, with_seen}
use Rattle.agent_spec.proofs.Prefixes.{cut-fits}
use Rattle.agent_spec.proofs.Sized.{datagram-size, fits-whatever}
use Rattle.script_spec.specs.Lines.{Line, MaxLine, SubLine, FlowLine, CounterLine, PacketLine, PollLine, SendLine, RestartLine, ResetLine, DeliverLine, SubAgent}
use Rattle.script_spec.specs.Agents.{AgentBoot, begun_at, boots_after, boots_of, counters_at, event_of, flow_of, has_source, is_of, poll_at, send_at, sender_of, setup_of, sub_of, subs_in, with_event, with_line}
use Rattle.script_spec.specs.Sent.{entries_from, entry_of, sent_by, sent_count}
use Rattle.script_laws.specs.Lawful.{AreLawful}
use Rattle.script_tables.specs.Tables.{newest}
use Rattle.script_tables.proofs.ListTests.{all_turned}
use Rattle.sub_agents.specs.SubAgents.{so_far}
use Rattle.sub_agents.proofs.Sizes.{known-size, packet-size}
use Rattle.sflow_tool.specs.AgentWalks.{IsShort}
use Rattle.sflow_tool.specs.ScriptBoots.{boot_now}
use Rattle.sflow_tool.proofs.Roomy.{IsRoomy, all_among, flow_few, roomy}
use Rattle.sflow_tool.proofs.SendLines.{numbered_from, sent_by_line}

-- ---- small samples

abbrev IsSmallContent : Content → Type 0
IsSmallContent (Sampled p) = Unit {0}
IsSmallContent (Counted reading) = length (spell reading) ≡ 88

abbrev IsSmall : Sample → Type 0
IsSmall s = IsSmallContent s.content

abbrev IsSmallEvent : Event → Type 0
IsSmallEvent (Observe f packet) = Unit {0}
IsSmallEvent (Poll now readings) = AllByRecursion (λ (r : Tree). length (spell r) ≡ 88) readings
IsSmallEvent (Send now n) = Unit {0}
IsSmallEvent (Reset source) = Unit {0}

all_drop : (P : Sample → Type 0) (n : ℕ) (xs : List Sample) → AllByRecursion P xs → AllByRecursion P (drop n xs)
all_drop P zero xs h = h
all_drop P (suc n) [] h = tt
all_drop P (suc n) (x ∷ more) h = all_drop P n more h.1

observed : (s : Setup) (f : FlowSetup) (turn : Turn) (packet : Packet) (b : Boot) → AllByRecursion IsSmall b.staged
    → AllByRecursion IsSmall (after_packet s f turn packet b).staged
observed s f turn packet b h = go (is_marked f.skips (1 + seen_in turn b)) (nat_lt (length b.staged) s.stage)
  where
    go : (m r : Bool) → AllByRecursion IsSmall
        (with_seen turn (cond m (cond r (issue (flow_sample f turn packet b) b) (with_dropped turn b)) b)).staged
    go true true = (tt, h)
    go true false = h
    go false r = h

polled : (now : ℕ) (before : List Event) (due : List CounterSetup) (readings : List Tree) (b : Boot)
    → AllByRecursion (λ (r : Tree). length (spell r) ≡ 88) readings → AllByRecursion IsSmall b.staged
    → AllByRecursion IsSmall (after_poll now before due readings b).staged
polled now before [] readings b small h = h
polled now before (c ∷ due) [] b small h = h
polled now before (c ∷ due) (reading ∷ more) b small h =
    let turn : Turn = turn_after c.source before in
    polled now before due more (with_polled turn now (issue (counter_sample c turn reading b) b)) small.1 (small.0, h)

staged_small : (s : Setup) (events : List Event) → AllByRecursion IsSmallEvent events → AllByRecursion IsSmall (happened s events).staged
staged_small s [] h = tt
staged_small s (Observe f packet ∷ before) h =
    observed s f (turn_after f.source before) packet (happened s before) (staged_small s before h.1)
staged_small s (Poll now readings ∷ before) h =
    polled now before (due_sources s now before (happened s before)) readings (happened s before) h.0 (staged_small s before h.1)
staged_small s (Send now n ∷ before) h =
    all_turned IsSmall (drop (sum_by length (take n (packed s (happened s before)))) (reverse (happened s before).staged))
    (all_drop IsSmall _ (reverse (happened s before).staged) (all_turned IsSmall (happened s before).staged (staged_small s before h.1)))
staged_small s (Reset source ∷ before) h = staged_small s before h.1

-- ---- the events of a script

counters_small : (events : List Event) (cs : List CounterSetup)
    → AllByRecursion (λ (r : Tree). length (spell r) ≡ 88) (map (λ (c : CounterSetup). counters_at events c.source) cs)
counters_small events [] = tt
counters_small events (c ∷ more) = (refl, counters_small events more)

poll_small : (setup : Setup) (now : ℕ) (events : List Event) → IsSmallEvent (poll_at setup now events)
unfolding poll_at
poll_small setup now events = counters_small events _

send_small : (setup : Setup) (now : ℕ) (events : List Event) → IsSmallEvent (send_at setup now events)
unfolding send_at
send_small setup now events = tt

own_small : (own : Bool) (x e : Event) → IsSmallEvent x → (if own then Some x else None) ≡ Some e → IsSmallEvent e
own_small true x e h is = subst IsSmallEvent (same_Some _ _ is) h
own_small false x e h is = absurd cc

packet_small : (o : Option FlowSetup) (k : Packet) (e : Event) → option_map (λ f. Observe f k) o ≡ Some e → IsSmallEvent e
packet_small None k e is = absurd cc
packet_small (Some f) k e is = subst IsSmallEvent (same_Some _ _ is) tt

event_small : (setup : Setup) (id : ℕ) (events : List Event) (line : Line) (e : Event) → event_of setup id events line ≡ Some e
    → IsSmallEvent e
event_small setup id events (PacketLine p k) e is = packet_small (flow_of setup p) k e is
event_small setup id events (PollLine owner now) e is = own_small (owner == id) _ e (poll_small setup now events) is
event_small setup id events (SendLine owner now) e is = own_small (owner == id) _ e (send_small setup now events) is
event_small setup id events (ResetLine t) e is = own_small (has_source setup t) (Reset t) e tt is
event_small setup id events (MaxLine n) e is = absurd cc
event_small setup id events (SubLine t) e is = absurd cc
event_small setup id events (FlowLine owner f) e is = absurd cc
event_small setup id events (CounterLine owner c) e is = absurd cc
event_small setup id events (RestartLine owner at) e is = absurd cc
event_small setup id events (DeliverLine d) e is = absurd cc

abbrev AreSmall : List AgentBoot → Type 0
AreSmall boots = AllByRecursion IsSmallEvent (newest boots).events

option_small : (o : Option Event) (b : AgentBoot) → ((e : Event) → o ≡ Some e → IsSmallEvent e) → AllByRecursion IsSmallEvent b.events
    → AllByRecursion IsSmallEvent (with_event o b).events
option_small None b small h = h
option_small (Some e) b small h = (small e refl, h)

line_small : (setup : Setup) (id : ℕ) (line : Line) (boots : List AgentBoot) → AreSmall boots → AreSmall (with_line setup id line boots)
line_small setup id line [] h = h
line_small setup id line (b ∷ earlier) h =
    option_small (event_of setup id b.events line) b (λ e. event_small setup id b.events line e) h

restart_small : (own : Bool) (at : ℕ) (boots : List AgentBoot) → AreSmall boots → AreSmall (if own then begun_at at ∷ boots else boots)
restart_small true at boots h = tt
restart_small false at boots h = h

after_small : (setup : Setup) (id : ℕ) (line : Line) (boots : List AgentBoot) → AreSmall boots → AreSmall (boots_after setup id line boots)
after_small setup id (RestartLine owner at) boots h = restart_small (owner == id) at boots h
after_small setup id (MaxLine m) boots h = line_small setup id (MaxLine m) boots h
after_small setup id (SubLine s) boots h = line_small setup id (SubLine s) boots h
after_small setup id (FlowLine o f) boots h = line_small setup id (FlowLine o f) boots h
after_small setup id (CounterLine o c) boots h = line_small setup id (CounterLine o c) boots h
after_small setup id (PacketLine p k) boots h = line_small setup id (PacketLine p k) boots h
after_small setup id (PollLine o now) boots h = line_small setup id (PollLine o now) boots h
after_small setup id (SendLine o now) boots h = line_small setup id (SendLine o now) boots h
after_small setup id (ResetLine s) boots h = line_small setup id (ResetLine s) boots h
after_small setup id (DeliverLine d) boots h = line_small setup id (DeliverLine d) boots h

boots_small : (lines : List Line) (s : SubAgent) → AreSmall (boots_of lines s)
unfolding boots_of
boots_small [] s = tt
boots_small (line ∷ before) s = after_small (setup_of before s) s.id line (boots_of before s) (boots_small before s)

-- ---- a small sample fits alone

record_long : (reading : Tree) → length (spell reading) ≡ 88 → length (spell (known 1 reading [])) ≡ 96
record_long reading is = known-size 1 reading (ap (λ (n : ℕ). n % 4) is) ∙ ap (λ (n : ℕ). 8 + n) is

array_long : (reading : Tree) → length (spell reading) ≡ 88 → length (spell (Tree.array (known 1 reading [] & none))) ≡ 100
array_long reading is =
    omega (
      arith,
      record_long reading is,
      length-append (to_be_bytes w32 1) (spell_all (known 1 reading [] & none)),
      length-append (spell (known 1 reading [])) [],
    )

counters_long : (form : Form) (source : Source) (s : Sample) (reading : Tree) → length (spell reading) ≡ 88
    → length (spell (sample_tree form source s (Counted reading))) ≤ 120
counters_long Compact source s reading is =
    let t : Tree = Tree.structure (Tree.word (s.number % 4294967296) & Tree.word (source.class * 16777216 + source.index) &
    Tree.array (known 1 reading [] & none) & none) in
    let fields : length (spell t) ≡ 108 = omega (
      arith,
      array_long reading is,
      length-append (spell (Tree.array (known 1 reading [] & none))) [],
    ) in
    omega (arith, fields, known-size 2 t (ap (λ (n : ℕ). n % 4) fields))
counters_long Expanded source s reading is =
    let t : Tree = Tree.structure (Tree.word (s.number % 4294967296) & Tree.word source.class & Tree.word source.index &
    Tree.array (known 1 reading [] & none) & none) in
    let fields : length (spell t) ≡ 112 = omega (
      arith,
      array_long reading is,
      length-append (spell (Tree.array (known 1 reading [] & none))) [],
    ) in
    omega (arith, fields, known-size 4 t (ap (λ (n : ℕ). n % 4) fields))

packet_long : (form : Form) (source : Source) (s : Sample) (p : Packet) → length (spell (sample_tree form source s (Sampled p))) ≤ 228
packet_long Compact source s p =
    omega (arith, packet-size formats.Compact source s p, flow_few formats.Compact (length (take 128 p.header)) p.vlan (omega (arith, length-take 128 p.header)))
packet_long Expanded source s p =
    omega (arith, packet-size formats.Expanded source s p, flow_few formats.Expanded (length (take 128 p.header)) p.vlan (omega (arith, length-take 128 p.header)))

content_long : (form : Form) (source : Source) (s : Sample) (c : Content) → IsSmallContent c
    → length (spell (sample_tree form source s c)) ≤ 228
content_long form source s (Sampled p) small = packet_long form source s p
content_long form source s (Counted reading) small = omega (arith, counters_long form source s reading small)

fits_alone : (sender : Sender) (s : Sample) → IsRoomy sender → IsSmall s → fits_in sender (s ∷ []) ≡ true
fits_alone sender s room small =
    let h : Head = record { agent = sender.agent; sub_agent = sender.sub_agent; sequence = 0; uptime = 0 } in
    let t : Tree = sample_tree sender.form s.turn.source s s.content in
    let long = content_long sender.form s.turn.source s s.content small in
    let size = datagram-size h (t & none) in
    let all = length-append (spell t) [] in
    le-leb _ _ (omega (arith, size, all, long, room.front, room.least))

each_fits : (sender : Sender) (room : IsRoomy sender) (xs : List Sample) → AllByRecursion IsSmall xs
    → AllByRecursion (λ (s : Sample). fits_in sender (s ∷ []) ≡ true) xs
each_fits sender room [] h = tt
each_fits sender room (x ∷ more) h = (fits_alone sender x room h.0, each_fits sender room more h.1)

-- ---- datagrams

entries_short : (L : List Line) (s : SubAgent) (at first now count : ℕ) (ds : List (List Sample)) → IsRoomy (sender_of L s)
    → AllByRecursion (λ (d : List Sample). fits_in (sender_of L s) d ≡ true) ds
    → AllByRecursion IsShort (map (entry_of L s at) (numbered_from first now count ds))
entries_short L s at first now count [] room h = tt
entries_short L s at first now count (d ∷ more) room h =
    let x : Datagram = record { number = first + count; uptime = now; samples = d } in
    let few : length (sent_bytes (sender_of L s) x) ≤ (sender_of L s).max_datagram =
    leb-true _ _ (sym (fits-whatever (sender_of L s) x) ∙ h.0) in
    (omega (arith, few, room.most), entries_short L s at first now (1 + count) more room h.1)

setup_fits : (lines : List Line) (s : SubAgent) → (setup_of lines s).fits ≡ fits_in (sender_of lines s)
unfolding setup_of
setup_fits lines s = refl

sub_short : (lines : List Line) (s : SubAgent) (id now : ℕ) → AreLawful lines → IsAmong s (subs_in lines) → s.id ≡ id
    → AllByRecursion IsShort (sent_by lines (SendLine id now))
sub_short lines s id now lawful among own =
    let setup : Setup = setup_of lines s in
    let events : List Event = (boot_now lines s).events in
    let room : IsRoomy (sender_of lines s) = roomy lines lawful s (all_among lines s lawful among) in
    let small = staged_small setup events (boots_small lines s) in
    let each = each_fits (sender_of lines s) room (reverse (happened setup events).staged)
    (all_turned IsSmall (happened setup events).staged small) in
    let ds : List (List Sample) = packed setup (happened setup events) in
    let fit : AllByRecursion (λ (d : List Sample). fits_in (sender_of lines s) d ≡ true) ds =
    subst (λ (fits : List Sample → Bool). AllByRecursion (λ (d : List Sample). fits d ≡ true) ds) (setup_fits lines s)
    (cut-fits setup.fits (reverse (happened setup events).staged)
    (subst (λ (fits : List Sample → Bool). AllByRecursion (λ (x : Sample). fits (x ∷ []) ≡ true) (reverse (happened setup events).staged))
    (sym (setup_fits lines s)) each)) in
    subst (AllByRecursion IsShort) (sym (sent_by_line lines s id now lawful among own))
    (entries_short (SendLine id now ∷ lines) s (newest (boots_of lines s)).at setup.first now (length (so_far (boot_now lines s)).sent) ds room fit)

found_so : (id : ℕ) (xs : List SubAgent) (s : SubAgent) → find (is_of id) xs ≡ Some s → IsAmong s xs × (is_of id s ≡ true)
found_so id [] s e = absurd cc
found_so id (x ∷ more) s e = go (is_of id x) refl (found_so id more s) e
  where
    go : (b : Bool) → is_of id x ≡ b → (find (is_of id) more ≡ Some s → IsAmong s more × (is_of id s ≡ true))
        → cond b (Some x) (find (is_of id) more) ≡ Some s → IsAmong s (x ∷ more) × (is_of id s ≡ true)
    go true is others h =
        let same : x ≡ s = same_Some _ _ h in
        (inl (sym same), ap (is_of id) (sym same) ∙ is)
    go false is others h = let f = others h in (inr f.0, f.1)

send_short : (lines : List Line) (id now : ℕ) (o : Option SubAgent) → sub_of id lines ≡ o → AreLawful lines
    → AllByRecursion IsShort (sent_by lines (SendLine id now))
send_short lines id now None is lawful =
    subst (AllByRecursion IsShort)
    (sym (ap (λ (o : Option SubAgent). option_map_or (λ (t : SubAgent). entries_from (SendLine id now ∷ lines) t
    (sent_count lines t (boots_of lines t)) (boots_of (SendLine id now ∷ lines) t)) o []) is)) tt
send_short lines id now (Some s) is lawful =
    let f = found_so id (subs_in lines) s is in
    sub_short lines s id now lawful f.0 (eqb-true s.id id f.1)

-- what a line sends is short
pub sends_short : (line : Line) (lines : List Line) → AreLawful lines → AllByRecursion IsShort (sent_by lines line)
sends_short (SendLine id now) lines lawful = send_short lines id now (sub_of id lines) refl lawful
sends_short (MaxLine n) lines lawful = tt
sends_short (SubLine s) lines lawful = tt
sends_short (FlowLine id f) lines lawful = tt
sends_short (CounterLine id c) lines lawful = tt
sends_short (PacketLine p k) lines lawful = tt
sends_short (PollLine id now) lines lawful = tt
sends_short (RestartLine id at) lines lawful = tt
sends_short (ResetLine s) lines lawful = tt
sends_short (DeliverLine d) lines lawful = tt
