-- The script goes on by one line more, or without one. Every list of lines, boots, events and deliveries has the LATEST FIRST.
use Rattle.std.proofs.Common.{◌≡◌, ◌∙◌, inl, inr, ℕ, suc, ◌+◌, ◌*◌, ◌/◌, ◌%◌, ◌==◌, ◌||◌, ◌<◌, ◌≤◌, ◌^◌, Bool, true, false, not, List, [], ◌∷◌, ◌++◌, length, map, reverse, drop, Option, Some, None, refl, ap, sym, subst, arith, length-append}
use Rattle.std.specs.Prelude.{IfSome, IfNone}
use Rattle.std.specs.List.{AllByRecursion}
use Rattle.std.proofs.lemmas.Bool.{and_left, and_right, both_ways, cases_order, eq-eqb, eqb-false, not_from_true, or_parts}
use Rattle.agent_spec.specs.Samples.{Datagram, Setup}
use Rattle.agent_spec.specs.Events.{Event}
use Rattle.agent_spec.specs.Boots.{happened, MayHappen}
use Rattle.agent_spec.proofs.Stages.{never-full}
use Rattle.account_spec.specs.Deliveries.{Delivery}
use Rattle.script_spec.specs.Lines as script
use Rattle.script_spec.specs.Lines.{Line, SubLine, FlowLine, CounterLine, PacketLine, PollLine, SendLine, RestartLine, DeliverLine}
use Rattle.script_spec.specs.Agents.{AgentBoot, boots_of, send_at, setup_of}
use Rattle.script_spec.specs.Sent as sent
use Rattle.script_laws.specs.Written.{may_be_written}
use Rattle.script_laws.specs.Lawful.{BootsMayHappen}
use Rattle.script_laws.proofs.Happens.{boots_may}
use Rattle.std.proofs.lemmas.List.{map-append}
use Rattle.script_histories.proofs.Lists.{turned}
use Rattle.script_histories.specs.Histories.{agent_in}
use Rattle.trial_spec.specs.Made.{Made, Sent, all_decided, begun, boot_number, boots_made, decided, is_last_of_boot, is_sent, made_counter, made_flow, made_packet, made_sender, made_setup, made_until, observed, polled, released, released_of, restarted, restarted_if, sent_all, sent_if, sent_so_far, uptime, with_event}
use Rattle.made_runs.specs.declared.arrivals.Arrival.{Arrival}
use Rattle.made_runs.specs.declared.arrivals.Arrivals.{Arrivals}
use Rattle.made_runs.specs.declared.script.Phase.{Phase}
use Rattle.made_runs.specs.declared.script.Phase.TheVariants.{Packet, Poll, Send, Decide, Restart, Done}
use Rattle.made_runs.specs.declared.script.Stage.TheVariants.{Flow, Counter, Going}
use Rattle.made_runs.specs.Runs.{RunState, Naming, StandsFor, IsHeld, IsShort, IsDelivered, Adds, Goes, Keeps, arrived, arrived_once, with_some}
use Rattle.made_runs.specs.Scripts.{Tells, ScriptState, Told, IsNew, Gives, IsAt, IsWhole, StandsAt, all_said, events_in, flow_said, line_of, made_sub, named_by, nothing_due, polled_behind, port, seen, sent_count, sent_now, sub_said, unused}
use Rattle.made_runs.proofs.Kept.{keeps-decided, keeps-released, short-observed, short-until}
use Rattle.made_runs.proofs.Telling.{adds_still, begins, counter_follows, counter_may, deliver_follows, delivers, flow_follows, flow_may, named_at, next_named, observes, packet_follows, packet_may, poll_follows, poll_may, polls, restart_follows, restart_may, restarts, send_follows, send_may, sends, stands_still, sub_follows, sub_may}
use Rattle.made_runs.proofs.Counting.{Next, next_item, none_behind, packet_count, poll_count, send_count}

-- ---- what keeps a run short, and its names

stands_with : (names : Naming) (r : RunState) (m : Made) (e : Event) → StandsFor names r m → StandsFor names r (with_event e m)
stands_with names r m e h = record {
  state_is = h.state_is;
  base_is = h.base_is;
  packets_are = h.packets_are;
  boot_is = h.boot_is;
  held_is = h.held_is;
}

short_with : (m : Made) (e : Event) → IsShort m → IsShort (with_event e m)
short_with m e h = record { packets = h.packets; base = h.base; boots = h.boots }

short_kept : (m n : Made) → Keeps m n → IsShort m → IsShort n
short_kept m n k h = record {
  packets = omega (arith, k.packets, h.packets);
  base = omega (arith, k.base, h.base);
  boots = let e : length n.earlier ≡ length m.earlier = ap length k.earlier in omega (arith, e, h.boots);
}

count_kept : (seed : ℕ) (m n : Made) → Keeps m n → sent_count seed n ≡ sent_count seed m
count_kept seed m n k = ap (λ (es : List Event). length (reverse (happened (made_setup seed) es).sent)) k.events

small : (m : Made) → IsShort m → uptime m < 2 ^ 32
small m h = omega (arith, h.packets)

-- what waits in the stage
staged_few : (seed : ℕ) (lines : List Line) (m : Made) → Tells seed lines m → length (happened (made_setup seed) m.events).staged ≤ 16
staged_few seed lines m h =
    let all : BootsMayHappen lines made_sub = boots_may lines made_sub h.lawful in
    let first : MayHappen (setup_of lines made_sub) m.events =
    (subst (AllByRecursion (λ (b : AgentBoot). MayHappen (setup_of lines made_sub) b.events)) h.boots_are all).0 in
    never-full (made_setup seed) m.events (subst (λ (s : Setup). MayHappen s m.events) h.setup_is first)

-- ---- where nothing is due

module _ (phase : Phase) (s : ScriptState) (lines : List Line) (g : Told phase s lines) (none : s.due ≡ nothing_due) where
  pub tells_now : Tells s.seed lines g.now
  tells_now =
      let all : g.now.deliveries ≡ g.told = subst (λ d. Adds (named_by lines) (arrived d) g.told g.now.deliveries) none g.due in
      subst (λ (ds : List Delivery). Tells s.seed lines (record g.now { deliveries = ds })) (sym all) g.tells

  pub few_now : length lines + 3 * sent_count s.seed g.now + unused phase ≤ 3 + 60 * s.packets + 3 * s.decided
  few_now =
      let nothing : length (arrived s.due) ≡ 0 = ap (λ d. length (arrived d)) none in
      omega (arith, g.few, nothing)

pub count_told : (seed : ℕ) (lines : List Line) (m : Made) → Tells seed lines m → sent_now lines ≡ sent_count seed m
count_told seed lines m h =
    ap (sent.sent_count lines made_sub) h.boots_are
    ∙ ap (λ (s : Setup). length (reverse (happened s m.events).sent)) h.setup_is

pub count_now : (phase : Phase) (s : ScriptState) (lines : List Line) (g : Told phase s lines) → sent_now lines ≡ sent_count s.seed g.now
count_now phase s lines g = count_told s.seed lines (record g.now { deliveries = g.told }) g.tells

told_so : (phase : Phase) (t : ScriptState) (lines : List Line) (n : Made) → Tells t.seed lines n
    → StandsFor (named_by lines) t.run n → IsShort n → t.due ≡ nothing_due → IsAt phase t.seed t.total t.packets t.decided n
    → length lines + 3 * sent_count t.seed n + unused phase ≤ 3 + 60 * t.packets + 3 * t.decided
    → t.packets ≤ t.total → t.total ≤ 10000000 → Told phase t lines
told_so phase t lines n tells run short none at few among most = record {
  now = n;
  told = n.deliveries;
  tells = tells;
  run = run;
  short = short;
  due = subst (λ d. Adds (named_by lines) (arrived d) n.deliveries n.deliveries) (sym none) refl;
  at = at;
  few = let nothing : length (arrived t.due) ≡ 0 = ap (λ d. length (arrived d)) none in omega (arith, few, nothing);
  total = among;
  most = most;
}

-- ---- what is due arrives

record First (names : Naming) (a : Arrival) (rest : List Arrival) (old new : List Delivery) : Type 0 where
  delivery : Delivery
  is : IsDelivered names a delivery
  others : Adds names rest (delivery ∷ old) new

first_of : (names : Naming) (a : Arrival) (rest : List Arrival) (old new : List Delivery) → Adds names (rest ++ a ∷ []) old new
    → First names a rest old new
first_of names a [] old [] h = absurd h
first_of names a [] old (d ∷ more) h = record { delivery = d; is = h.0; others = ap (λ (ds : List Delivery). d ∷ ds) h.1 }
first_of names a (x ∷ rest) old [] h = absurd h
first_of names a (x ∷ rest) old (d ∷ more) h =
    let f = first_of names a rest old more h.1 in
    record { delivery = f.delivery; is = f.is; others = (h.0, f.others) }

pub one_due : (phase : Phase) (s : ScriptState) (d : Arrivals) (lines : List Line) (a : Arrival)
    → arrived s.due ≡ arrived d ++ a ∷ [] → may_be_written (DeliverLine (line_of a)) ≡ true → s.stage ≡ Going phase
    → Told phase s lines → Gives s (record s { due = d }) lines (DeliverLine (line_of a))
one_due phase s d lines a parts written stage g =
    let line : Line = DeliverLine (line_of a) in
    let t : ScriptState = record s { due = d } in
    let f : First (named_by lines) a (arrived d) g.told g.now.deliveries =
    first_of (named_by lines) a (arrived d) g.told g.now.deliveries
    (subst (λ (xs : List Arrival). Adds (named_by lines) xs g.told g.now.deliveries) parts g.due) in
    let many : length (arrived s.due) ≡ length (arrived d) + 1 = ap length parts ∙ length-append (arrived d) (a ∷ []) in
    let told : Told phase t (line ∷ lines) = record {
      now = g.now;
      told = f.delivery ∷ g.told;
      tells = delivers s.seed lines (record g.now { deliveries = g.told }) a f.delivery written f.is g.tells;
      run = stands_still line lines s.run g.now refl g.run;
      short = g.short;
      due = adds_still line lines (arrived d) (f.delivery ∷ g.told) g.now.deliveries refl f.others;
      at = g.at;
      few = omega (arith, g.few, many);
      total = g.total;
      most = g.most;
    } in
    record {
      written = written;
      follows = deliver_follows lines (line_of a) f.delivery.datagram (named_at lines a ∙ f.is.datagram_is);
      gave = subst (λ stage. StandsAt stage t (line ∷ lines)) (sym stage) told;
      seed = refl;
      total = refl;
    }

pub due_first : (d : Arrivals) (a : Arrival) → d.first ≡ Some a → arrived d ≡ arrived (record d { first = None }) ++ a ∷ []
due_first d a e = ap (λ o. with_some d.held (with_some d.second (with_some o []))) e ∙ go d.held d.second
  where
    go : (h k : Option Arrival) → with_some h (with_some k (a ∷ [])) ≡ with_some h (with_some k []) ++ a ∷ []
    go None None = refl
    go None (Some x) = refl
    go (Some x) None = refl
    go (Some x) (Some y) = refl

pub due_second : (d : Arrivals) (a : Arrival) → d.first ≡ None → d.second ≡ Some a
    → arrived d ≡ arrived (record d { second = None }) ++ a ∷ []
due_second d a none e =
    (λ i. with_some d.held (with_some (e i) (with_some (none i) []))) ∙ go d.held
    ∙ sym (ap (λ o. with_some d.held (with_some o []) ++ a ∷ []) none)
  where
    go : (h : Option Arrival) → with_some h (a ∷ []) ≡ with_some h [] ++ a ∷ []
    go None = refl
    go (Some x) = refl

pub due_held : (d : Arrivals) (a : Arrival) → d.first ≡ None → d.second ≡ None → d.held ≡ Some a
    → arrived d ≡ arrived (record d { held = None }) ++ a ∷ []
due_held d a none none2 e =
    (λ i. with_some (e i) (with_some (none2 i) (with_some (none i) [])))
    ∙ sym (λ i. with_some (none2 i) (with_some (none i) []) ++ a ∷ [])

pub none_due : (d : Arrivals) → d.first ≡ None → d.second ≡ None → d.held ≡ None → d ≡ nothing_due
none_due d a b e = λ i. record { first = a i; second = b i; held = e i }

-- ---- what is decided and held

-- lines tell of a run that keeps its events and boots what they told before
told_kept : (seed : ℕ) (lines : List Line) (m n : Made) → Keeps m n → Tells seed lines m
    → Tells seed lines (record n { deliveries = m.deliveries })
told_kept seed lines m n k h = record {
  lawful = h.lawful;
  subs_are = h.subs_are;
  sources_are = h.sources_are;
  setup_is = h.setup_is;
  sender_is = h.sender_is;
  at = h.at;
  older = h.older;
  boots_are = h.boots_are ∙ ap (λ (es : List Event). record { at = h.at; events = es } ∷ h.older) (sym k.events);
  earlier_are = h.earlier_are ∙ sym k.earlier;
  deliveries_are = h.deliveries_are;
}

some_few : (o : Option Arrival) (before : List Arrival) → length (with_some o before) ≤ 1 + length before
some_few None before = omega arith
some_few (Some a) before = omega arith

three_due : (d : Arrivals) → length (arrived d) ≤ 3
three_due d =
    omega (arith, some_few d.first [], some_few d.second (with_some d.first []), some_few d.held (with_some d.second (with_some d.first [])))

held_due : (h : Option Arrival) (d : Arrivals) → d ≡ record nothing_due { held = h } → length (arrived d) ≤ 1
held_due h d is = let same : length (arrived d) ≡ length (with_some h []) = ap (λ e. length (arrived e)) is in omega (arith, same, some_few h [])

held_none : (o : Option Sent) (m : Made) → m.held ≡ o → (released_of o m).held ≡ None
held_none None m e = e
held_none (Some x) m e = refl

run_holds_none : (names : Naming) (boot : ℕ) (r : Option ℕ) (h : Option Sent) → IsHeld names boot r h → h ≡ None → r ≡ None
run_holds_none names boot None h is e = refl
run_holds_none names boot (Some n) None is e = absurd is
run_holds_none names boot (Some n) (Some x) is e = absurd cc

below : (a b : ℕ) → a ≤ b → (a ≡ b → ⊥) → a < b
below a b h other = elim (cases_order a b) [
  | inl same ↦ absurd (other same)
  | inr unlike ↦ elim unlike [ inl less ↦ less | inr more ↦ absurd (omega (arith, h, more)) ]
]

-- ---- the lines that set up

pub counter_gives : (s : ScriptState) (lines : List Line) → IsNew s → lines ≡ flow_said s.seed
    → Gives s (record s { stage = Going Packet }) lines (CounterLine 1 made_counter)
counter_gives s lines new is =
    subst (λ (ls : List Line). Gives s (record s { stage = Going Packet }) ls (CounterLine 1 made_counter)) (sym is) (record {
      written = counter_may;
      follows = counter_follows s.seed;
      gave = told_so Packet (record s { stage = Going Packet }) (all_said s.seed) (begun s.seed) (begins s.seed)
          (new.run (named_by (all_said s.seed))) (short-until s.seed s.total 0 (omega arith)) new.none_due
          (record {
            more = omega (arith, new.packets, new.least);
            is = ap (made_until s.seed s.total) (sym new.packets);
            decided_all = new.decided;
          })
          (omega (arith, new.packets, new.decided)) (omega (arith, new.packets)) new.most;
      seed = refl;
      total = refl;
    })

pub new_still : (s : ScriptState) (stage : _) → IsNew s → IsNew (record s { stage = stage })
new_still s stage h = record {
  run = h.run;
  none_due = h.none_due;
  packets = h.packets;
  decided = h.decided;
  least = h.least;
  most = h.most;
}

pub sub_gives : (s : ScriptState) (lines : List Line) → IsNew s → lines ≡ []
    → Gives s (record s { stage = Flow }) lines (SubLine made_sub)
sub_gives s lines new is =
    subst (λ (ls : List Line). Gives s (record s { stage = Flow }) ls (SubLine made_sub)) (sym is) (record {
      written = sub_may;
      follows = sub_follows;
      gave = (new_still s Flow new, refl);
      seed = refl;
      total = refl;
    })

pub flow_gives : (s : ScriptState) (lines : List Line) → IsNew s → lines ≡ sub_said
    → Gives s (record s { stage = Counter }) lines (FlowLine 1 (made_flow s.seed))
flow_gives s lines new is =
    subst (λ (ls : List Line). Gives s (record s { stage = Counter }) ls (FlowLine 1 (made_flow s.seed))) (sym is) (record {
      written = flow_may s.seed;
      follows = flow_follows s.seed;
      gave = (new_still s Counter new, refl);
      seed = refl;
      total = refl;
    })

-- ---- the run behind a packet

-- what comes behind all that was sent behind a packet
until_is : (seed total before packets : ℕ) (last : Bool) → packets ≡ suc before → is_sent total packets ≡ true
    → is_last_of_boot total packets ≡ last
    → made_until seed total packets ≡ restarted_if last (sent_all seed (polled_behind seed total before))
until_is seed total before packets last is sends at =
    ap (made_until seed total) is
    ∙ (λ i. restarted_if (is_last_of_boot total (sym is i)) (sent_if (is_sent total (sym is i)) seed (seen seed total before)))
    ∙ (λ i. restarted_if (at i) (sent_if (sends i) seed (seen seed total before)))

-- where nothing is sent nothing ends
not_last : (total packets : ℕ) → is_sent total packets ≡ false → (is_last_of_boot total packets ≡ false) × (packets ≡ total → ⊥)
not_last total packets e =
    let a = or_parts (packets % 32 == 0) ((packets == total) || (packets == total / 2)) e in
    let b = or_parts (packets == total) (packets == total / 2) a.1 in
    (and_left (packets == total / 2) (not (packets == total)) b.1, eqb-false packets total b.0)

-- the last packet ends no boot
last_ends : (total packets : ℕ) → packets ≡ total → is_last_of_boot total packets ≡ false
last_ends total packets e =
    and_right (packets == total / 2) (not (packets == total)) (not_from_true (packets == total) (eq-eqb packets total e))

ends_before : (total packets : ℕ) → packets ≤ total → is_last_of_boot total packets ≡ true → packets < total
ends_before total packets most e =
    let other : packets ≡ total → ⊥ = λ same. both_ways (is_last_of_boot total packets) (last_ends total packets same) e in
    below packets total most other

-- the stage behind a packet
abbrev pub stage_of : Bool → Phase
stage_of true = Poll
stage_of false = Packet

module _ (s : ScriptState) (lines : List Line) (none : s.due ≡ nothing_due) where
  pub packet_gives : (r : RunState) (packets : ℕ) (g : Told Packet s lines) → packets ≡ suc s.packets
      → ((names : Naming) (m : Made) (seed : ℕ) → IsShort m → StandsFor names s.run m → StandsFor names r (observed seed m))
      → Gives s (record s { run = r; packets = packets; stage = Going (stage_of (is_sent s.total packets)) }) lines
      (PacketLine port (made_packet g.now.state))
  packet_gives r packets g is stands =
      let m : Made = g.now in
      let line : Line = PacketLine port (made_packet m.state) in
      let tells : Tells s.seed lines m = tells_now Packet s lines g none in
      let n : Made = observed s.seed m in
      let same : n ≡ seen s.seed s.total s.packets = ap (observed s.seed) g.at.is in
      let count : s.decided ≡ sent_count s.seed n = g.at.decided_all ∙ sym (packet_count s.seed m) in
      let few = few_now Packet s lines g none in
      let short : IsShort n =
      subst IsShort (sym same) (short-observed s.seed s.total s.packets (omega (arith, g.at.more, g.most))) in
      let told : (b : Bool) → is_sent s.total packets ≡ b
      → Told (stage_of b) (record s { run = r; packets = packets; stage = Going (stage_of b) }) (line ∷ lines) =
      λ b sends. go b sends line tells same count few short in
      record {
        written = packet_may m.state;
        follows = packet_follows s.seed m.state lines m tells;
        gave = told (is_sent s.total packets) refl;
        seed = refl;
        total = refl;
      }
    where
      go : (b : Bool) → is_sent s.total packets ≡ b → (line : Line) → Tells s.seed lines g.now
          → observed s.seed g.now ≡ seen s.seed s.total s.packets → s.decided ≡ sent_count s.seed (observed s.seed g.now)
          → length lines + 3 * sent_count s.seed g.now + unused Packet ≤ 3 + 60 * s.packets + 3 * s.decided
          → IsShort (observed s.seed g.now)
          → Told (stage_of b) (record s { run = r; packets = packets; stage = Going (stage_of b) })
          (PacketLine port (made_packet g.now.state) ∷ lines)
      go true sends line tells same count few short =
          told_so Poll (record s { run = r; packets = packets; stage = Going Poll })
          (PacketLine port (made_packet g.now.state) ∷ lines) (observed s.seed g.now) (observes s.seed lines g.now tells)
          (stands_still (PacketLine port (made_packet g.now.state)) lines r (observed s.seed g.now) refl
          (stands (named_by lines) g.now s.seed g.short g.run)) short none
          (record { before = s.packets; packets_are = is; sends = sends; is = same; decided_all = count })
          (omega (arith, few, is, packet_count s.seed g.now)) (omega (arith, is, g.at.more)) g.most
      go false sends line tells same count few short =
          let ends = not_last s.total packets sends in
          told_so Packet (record s { run = r; packets = packets; stage = Going Packet })
          (PacketLine port (made_packet g.now.state) ∷ lines) (observed s.seed g.now) (observes s.seed lines g.now tells)
          (stands_still (PacketLine port (made_packet g.now.state)) lines r (observed s.seed g.now) refl
          (stands (named_by lines) g.now s.seed g.short g.run)) short none
          (record {
            more = below packets s.total (omega (arith, is, g.at.more)) ends.1;
            is = same
                ∙ sym (ap (made_until s.seed s.total) is
                ∙ (λ i. restarted_if (is_last_of_boot s.total (sym is i))
                (sent_if (is_sent s.total (sym is i)) s.seed (seen s.seed s.total s.packets)))
                ∙ (λ i. restarted_if (ends.0 i) (sent_if (sends i) s.seed (seen s.seed s.total s.packets))));
            decided_all = count;
          })
          (omega (arith, few, is, packet_count s.seed g.now)) (omega (arith, is, g.at.more)) g.most

  pub poll_gives : (now : ℕ) → Told Poll s lines
      → ((names : Naming) (m : Made) → IsShort m → StandsFor names s.run m → now ≡ uptime m)
      → Gives s (record s { stage = Going Send }) lines (PollLine 1 now)
  poll_gives now g is =
      let m : Made = g.now in
      let t : ScriptState = record s { stage = Going Send } in
      let tells : Tells s.seed lines m = tells_now Poll s lines g none in
      let line : Line = PollLine 1 (uptime m) in
      let few = few_now Poll s lines g none in
      subst (λ k. Gives s t lines (PollLine 1 k)) (sym (is (named_by lines) m g.short g.run)) (record {
        written = poll_may (uptime m) (small m g.short);
        follows = poll_follows s.seed (uptime m) lines m tells;
        gave = told_so Send t (line ∷ lines) (polled s.seed m) (polls s.seed lines m (small m g.short) tells)
            (stands_still line lines s.run (polled s.seed m) refl (stands_with (named_by lines) s.run m _ g.run))
            (short_with m _ g.short) none
            (record {
              before = g.at.before;
              packets_are = g.at.packets_are;
              sends = g.at.sends;
              is = ap (polled s.seed) g.at.is;
              decided_all = g.at.decided_all ∙ sym (poll_count s.seed m);
            })
            (omega (arith, few, poll_count s.seed m)) g.total g.most;
        seed = refl;
        total = refl;
      })

  pub send_gives : (now : ℕ) → Told Send s lines
      → ((names : Naming) (m : Made) → IsShort m → StandsFor names s.run m → now ≡ uptime m)
      → Gives s (record s { stage = Going Decide }) lines (SendLine 1 now)
  send_gives now g is =
      let m : Made = g.now in
      let t : ScriptState = record s { stage = Going Decide } in
      let tells : Tells s.seed lines m = tells_now Send s lines g none in
      let line : Line = SendLine 1 (uptime m) in
      let n : Made = with_event (send_at (made_setup s.seed) (uptime m) m.events) m in
      let few = few_now Send s lines g none in
      let many = send_count s.seed m 16 (staged_few s.seed lines m tells) in
      subst (λ k. Gives s t lines (SendLine 1 k)) (sym (is (named_by lines) m g.short g.run)) (record {
        written = send_may (uptime m) (small m g.short);
        follows = send_follows s.seed (uptime m) lines m tells;
        gave = told_so Decide t (line ∷ lines) n (sends s.seed lines m (small m g.short) tells)
            (stands_still line lines s.run n refl (stands_with (named_by lines) s.run m _ g.run))
            (short_with m _ g.short) none
            (record {
              before = g.at.before;
              packets_are = g.at.packets_are;
              sends = g.at.sends;
              leads = ap (λ k. all_decided (boot_number n) (drop k (sent_so_far s.seed n)) n) g.at.decided_all
                  ∙ ap (sent_all s.seed) g.at.is;
              most = omega (arith, g.at.decided_all, many.0);
            })
            (omega (arith, few, many.1)) g.total g.most;
        seed = refl;
        total = refl;
      })

  -- one datagram more is decided
  pub one_decided : (r : RunState) (d : Arrivals) (decided_now : ℕ) (g : Told Decide s lines) → s.decided < sent_now lines
      → decided_now ≡ suc s.decided
      → ((names : Naming) (m : Made) (x : Datagram) → IsShort m → names (boot_number m) decided_now ≡ Some x
      → StandsFor names s.run m → Goes names (arrived d) r m (decided (boot_number m, x) m))
      → Told Decide (record s { run = r; decided = decided_now; due = d }) lines
  one_decided r d k g less is goes =
      let m : Made = g.now in
      let tells : Tells s.seed lines m = tells_now Decide s lines g none in
      let few = few_now Decide s lines g none in
      let next : Next (sent_so_far s.seed m) s.decided =
      next_item (sent_so_far s.seed m) s.decided (omega (arith, less, count_now Decide s lines g)) in
      let x : Datagram = next.item in
      let n : Made = decided (boot_number m, x) m in
      let keeps : Keeps m n = keeps-decided (boot_number m) (x ∷ []) m in
      let went : Goes (named_by lines) (arrived d) r m n =
      goes (named_by lines) m x g.short
      (ap (named_by lines (boot_number m)) is ∙ next_named s.seed lines m s.decided x tells next.there) g.run in
      let same : sent_count s.seed n ≡ sent_count s.seed m = count_kept s.seed m n keeps in
      record {
        now = n;
        told = m.deliveries;
        tells = told_kept s.seed lines m n keeps tells;
        run = went.stands;
        short = short_kept m n keeps g.short;
        due = went.adds;
        at = record {
          before = g.at.before;
          packets_are = g.at.packets_are;
          sends = g.at.sends;
          leads = ap (λ j. all_decided (boot_number n) (drop j (sent_so_far s.seed n)) n) is
              ∙ (λ i. all_decided (1 + length (keeps.earlier i))
              (drop (suc s.decided) (reverse (happened (made_setup s.seed) (keeps.events i)).sent)) n)
              ∙ sym (ap (λ (ds : List Datagram). all_decided (boot_number m) ds m) next.front)
              ∙ g.at.leads;
          most = omega (arith, is, same, less, count_now Decide s lines g);
        };
        few = omega (arith, few, is, same, three_due d);
        total = g.total;
        most = g.most;
      }

  -- all is decided
  decided_so : (g : Told Decide s lines) → s.decided ≡ sent_now lines
      → g.now ≡ sent_all s.seed (polled_behind s.seed s.total g.at.before)
  decided_so g all =
      sym (ap (λ (ds : List Datagram). all_decided (boot_number g.now) ds g.now)
      (none_behind (sent_so_far s.seed g.now) s.decided (all ∙ count_now Decide s lines g)))
      ∙ g.at.leads

  -- the next packet comes
  pub packet_next : (g : Told Decide s lines) → s.decided ≡ sent_now lines → is_last_of_boot s.total s.packets ≡ false
      → (s.packets ≡ s.total → ⊥) → Told Packet s lines
  packet_next g all last other =
      told_so Packet s lines g.now (tells_now Decide s lines g none) g.run g.short none
      (record {
        more = below s.packets s.total g.total other;
        is = decided_so g all ∙ sym (until_is s.seed s.total g.at.before s.packets false g.at.packets_are g.at.sends last);
        decided_all = all ∙ count_now Decide s lines g;
      })
      (omega (arith, few_now Decide s lines g none)) g.total g.most

  -- what is held arrives, and a boot ends behind it
  pub boot_ends : (r : RunState) (h : Option Arrival) (d : Arrivals) (g : Told Decide s lines) → s.decided ≡ sent_now lines
      → is_last_of_boot s.total s.packets ≡ true → d ≡ record nothing_due { held = h }
      → ((names : Naming) (m : Made) → IsShort m → StandsFor names s.run m → Goes names (arrived_once h) r m (released m))
      → Told Restart (record s { run = r; due = d; stage = Going Restart }) lines
  boot_ends r h d g all last is goes =
      let m : Made = g.now in
      let n : Made = released m in
      let keeps : Keeps m n = keeps-released m in
      let went = goes (named_by lines) m g.short g.run in
      let same : sent_count s.seed n ≡ sent_count s.seed m = count_kept s.seed m n keeps in
      let few = few_now Decide s lines g none in
      record {
        now = n;
        told = m.deliveries;
        tells = told_kept s.seed lines m n keeps (tells_now Decide s lines g none);
        run = went.stands;
        short = short_kept m n keeps g.short;
        due = subst (λ e. Adds (named_by lines) (arrived e) m.deliveries n.deliveries) (sym is) went.adds;
        at = record {
          more = ends_before s.total s.packets g.total last;
          leads = ap (λ k. restarted (released k)) (decided_so g all)
              ∙ sym (until_is s.seed s.total g.at.before s.packets true g.at.packets_are g.at.sends last);
          decided_all = all ∙ count_now Decide s lines g ∙ sym same;
          none_held = held_none m.held m refl;
        };
        few = omega (arith, few, same, held_due h d is);
        total = g.total;
        most = g.most;
      }

  -- what is held arrives, and the run ends behind it
  pub run_ends : (r : RunState) (h : Option Arrival) (d : Arrivals) (g : Told Decide s lines) → s.decided ≡ sent_now lines
      → s.packets ≡ s.total → d ≡ record nothing_due { held = h }
      → ((names : Naming) (m : Made) → IsShort m → StandsFor names s.run m → Goes names (arrived_once h) r m (released m))
      → Told Done (record s { run = r; due = d; stage = Going Done }) lines
  run_ends r h d g all last is goes =
      let m : Made = g.now in
      let n : Made = released m in
      let keeps : Keeps m n = keeps-released m in
      let went = goes (named_by lines) m g.short g.run in
      let same : sent_count s.seed n ≡ sent_count s.seed m = count_kept s.seed m n keeps in
      let few = few_now Decide s lines g none in
      record {
        now = n;
        told = m.deliveries;
        tells = told_kept s.seed lines m n keeps (tells_now Decide s lines g none);
        run = went.stands;
        short = short_kept m n keeps g.short;
        due = subst (λ e. Adds (named_by lines) (arrived e) m.deliveries n.deliveries) (sym is) went.adds;
        at = record {
          is = ap released (decided_so g all
              ∙ sym (until_is s.seed s.total g.at.before s.packets false g.at.packets_are g.at.sends
              (last_ends s.total s.packets last))
              ∙ ap (made_until s.seed s.total) last);
          decided_all = all ∙ count_now Decide s lines g ∙ sym same;
        };
        few = omega (arith, few, same, held_due h d is);
        total = g.total;
        most = g.most;
      }

  -- the next boot begins
  pub restart_gives : (r : RunState) (base : ℕ) → Told Restart s lines → base ≡ r.base
      → ((names : Naming) (m : Made) → IsShort m → StandsFor names s.run m → s.run.held ≡ None → StandsFor names r (restarted m))
      → Gives s (record s { run = r; decided = 0; stage = Going Packet }) lines (RestartLine 1 base)
  restart_gives r base g is stands =
      let m : Made = g.now in
      let t : ScriptState = record s { run = r; decided = 0; stage = Going Packet } in
      let tells : Tells s.seed lines m = tells_now Restart s lines g none in
      let line : Line = RestartLine 1 base in
      let n : Made = restarted m in
      let st : StandsFor (named_by lines) r n =
      stands (named_by lines) m g.short g.run (run_holds_none (named_by lines) (boot_number m) s.run.held m.held g.run.held_is g.at.none_held) in
      let few = few_now Restart s lines g none in
      let early : base < 2 ^ 63 = omega (arith, is, st.base_is, g.short.base, g.short.packets) in
      record {
        written = restart_may base early;
        follows = restart_follows s.seed base lines m tells;
        gave = told_so Packet t (line ∷ lines) n (restarts s.seed base lines m early tells)
            (stands_still line lines r n refl st)
            (subst IsShort (sym g.at.leads) (short-until s.seed s.total s.packets (omega (arith, g.total, g.most)))) none
            (record { more = g.at.more; is = g.at.leads; decided_all = refl })
            (omega (arith, few, g.at.decided_all)) g.total g.most;
        seed = refl;
        total = refl;
      }

-- ---- the whole

map_turned : {X Y : Type 0} (f : X → Y) (xs : List X) → map f (reverse xs) ≡ reverse (map f xs)
map_turned f [] = refl
map_turned f (x ∷ xs) =
    ap (map f) (turned x xs) ∙ map-append f (reverse xs) (x ∷ []) ∙ ap (λ ys. ys ++ f x ∷ []) (map_turned f xs)
    ∙ sym (turned (f x) (map f xs))

pub whole_so : (s : ScriptState) (lines : List Line) → s.due ≡ nothing_due → Told Done s lines → IsWhole s.seed s.total lines
whole_so s lines none g =
    let m : Made = g.now in
    let tells : Tells s.seed lines m = tells_now Done s lines g none in
    let boots : map events_in (reverse (boots_of lines made_sub)) ≡ boots_made m =
    map_turned events_in (boots_of lines made_sub)
    ∙ ap (λ (bs : List AgentBoot). reverse (map events_in bs)) tells.boots_are
    ∙ ap (λ (es : List (List Event)). reverse (m.events ∷ es)) tells.earlier_are in
    record {
      lawful = tells.lawful;
      history_is = ap (λ (ss : List script.SubAgent). map (agent_in lines) (reverse ss)) tells.subs_are
          ∙ (λ i. record { sender = tells.sender_is i; setup = tells.setup_is i; boots = boots i } ∷ [])
          ∙ ap (λ (k : Made). record { sender = made_sender; setup = made_setup s.seed; boots = boots_made k } ∷ []) g.at.is;
      deliveries_are = tells.deliveries_are ∙ ap (λ (k : Made). k.deliveries) g.at.is;
    }

-- ---- what a call gives

pub gives_from : (s s1 t : ScriptState) (lines : List Line) (line : Line) → s1.seed ≡ s.seed → s1.total ≡ s.total
    → Gives s1 t lines line → Gives s t lines line
gives_from s s1 t lines line seed total h = record {
  written = h.written;
  follows = h.follows;
  gave = h.gave;
  seed = h.seed ∙ seed;
  total = h.total ∙ total;
}

pub if_some : {X : Type 0} (o : Option X) (P Q : X → Type 0) → ((x : X) → P x → Q x) → IfSome o P → IfSome o Q
if_some None P Q f h = tt
if_some (Some x) P Q f h = f x h

pub if_none : {X : Type 0} (o : Option X) (P Q : Type 0) → (P → Q) → IfNone o P → IfNone o Q
if_none None P Q f h = f h
if_none (Some x) P Q f h = tt

-- no more is decided than was sent
pub all_decided_so : (s : ScriptState) (lines : List Line) → Told Decide s lines → sent_now lines ≤ s.decided
    → s.decided ≡ sent_now lines
all_decided_so s lines g least = omega (arith, g.at.most, least, count_now Decide s lines g)

-- the same state, in this phase
pub told_as : {s t : ScriptState} {phase phase' : Phase} (lines : List Line) → s ≡ t → phase ≡ phase' → Told phase t lines
    → Told phase' s lines
told_as {s} {t} {phase} {phase'} lines same is g =
    subst (λ (x : ScriptState). Told phase' x lines) (sym same) (subst (λ (x : Phase). Told x t lines) is g)
