-- What is delivered in a made run was sent.
use Rattle.std.proofs.Common.{◌≡◌, ℕ, zero, suc, ◌+◌, inl, inr, Bool, true, false, cond, List, [], ◌∷◌, ◌++◌, length, take, drop, Some, None, arith, refl, sym, subst, ◌∙◌}
use Rattle.std.specs.Prelude.{reverse, is_none, nat_lt, ◌==◌, ◌&&◌}
use Rattle.std.specs.declared.option.Option.{Option}
use Rattle.std.specs.List.{AllByRecursion}
use Rattle.std.proofs.lemmas.List.{length-reverse, reverse-append}
use Rattle.wire_spec.specs.Shapes.{Tree}
use Rattle.books_spec.specs.Items.{Stream}
use Rattle.agent_spec.specs.Sources.{Turn, FlowSetup, CounterSetup}
use Rattle.agent_spec.specs.Samples.{Packet, Sample, Datagram, Setup}
use Rattle.agent_spec.specs.Events.{Event, Observe, Poll, Send, Reset, turn_after}
use Rattle.agent_spec.specs.Marks.{is_marked}
use Rattle.agent_spec.specs.Boots.{Boot, seen_in, issue, flow_sample, with_seen, with_dropped, after_packet, due_sources, counter_sample, with_polled, after_poll, with_sent, packed, happened, IsAmong}
use Rattle.script_spec.specs.Agents.{poll_at, send_at}
use Rattle.account_spec.specs.Histories.{events_of, agent_of, sent_in}
use Rattle.account_spec.specs.Deliveries.{Delivery, AreSent}
use Rattle.trial_spec.specs.Made.{drawn, next_state, made_stream, made_flow, made_packet, made_setup, Sent, Made, arrives, arrives_times, released_of, released, times_of, decided_by, decided, all_decided, observed, polled, sent_if, restarted_if, is_sent, is_last_of_boot, made_until, made, boots_made, made_history, made_deliveries, boot_number, sent_so_far, with_event, uptime}
use Rattle.trial_spec.proofs.MadeRuns.{all-reverse}

-- ---- lists

all-of : {X : Type 0} (P : X → Type 0) (xs : List X) → ((x : X) → IsAmong x xs → P x) → AllByRecursion P xs
all-of P [] f = tt
all-of P (y ∷ ys) f = (f y (inl refl), all-of P ys (λ x h. f x (inr h)))

all-drop : {X : Type 0} (P : X → Type 0) (k : ℕ) (xs : List X) → AllByRecursion P xs → AllByRecursion P (drop k xs)
all-drop P zero xs h = h
all-drop P (suc k) [] h = tt
all-drop P (suc k) (x ∷ xs) h = all-drop P k xs h.1

all-imply : {X : Type 0} (P Q : X → Type 0) → ((x : X) → P x → Q x) → (xs : List X) → AllByRecursion P xs → AllByRecursion Q xs
all-imply P Q f [] h = tt
all-imply P Q f (x ∷ xs) h = (f x h.0, all-imply P Q f xs h.1)

-- ---- what was sent stays

packet-sends : (s : Setup) (f : FlowSetup) (turn : Turn) (packet : Packet) (b : Boot)
    → (after_packet s f turn packet b).sent ≡ b.sent
packet-sends s f turn packet b = go (is_marked f.skips (1 + seen_in turn b)) (nat_lt (length b.staged) s.stage)
  where
    go : (m r : Bool)
        → (with_seen turn (cond m (cond r (issue (flow_sample f turn packet b) b) (with_dropped turn b)) b)).sent ≡ b.sent
    go true true = refl
    go true false = refl
    go false r = refl

poll-sends : (now : ℕ) (before : List Event) (due : List CounterSetup) (readings : List Tree) (b : Boot)
    → (after_poll now before due readings b).sent ≡ b.sent
poll-sends now before [] readings b = refl
poll-sends now before (c ∷ due) [] b = refl
poll-sends now before (c ∷ due) (reading ∷ more) b =
    let turn : Turn = turn_after c.source before in
    poll-sends now before due more (with_polled turn now (issue (counter_sample c turn reading b) b))

send-sends : (x : Datagram) (first now : ℕ) (ds : List (List Sample)) (sent : List Datagram) → IsAmong x sent
    → IsAmong x (with_sent first now ds sent)
send-sends x first now [] sent h = h
send-sends x first now (d ∷ more) sent h =
    send-sends x first now more (record { number = first + length sent; uptime = now; samples = d } ∷ sent) (inr h)

module _ (seed : ℕ) where
  abbrev setup : Setup
  setup = made_setup seed

  abbrev sent_by : List Event → List Datagram
  sent_by events = (happened setup events).sent

  stays : (x : Datagram) (e : Event) (events : List Event) → IsAmong x (sent_by events) → IsAmong x (sent_by (e ∷ events))
  stays x (Observe f packet) events h =
      subst (IsAmong x) (sym (packet-sends setup f (turn_after f.source events) packet (happened setup events))) h
  stays x (Poll now readings) events h =
      subst (IsAmong x)
      (sym (poll-sends now events (due_sources setup now events (happened setup events)) readings (happened setup events))) h
  stays x (Send now count) events h =
      send-sends x setup.first now (take count (packed setup (happened setup events))) (sent_by events) h
  stays x (Reset source) events h = h

  -- ---- the boots

  abbrev There : List (List Event) → ℕ → Datagram → Type 0
  There boots b x = IsAmong x (sent_by (events_of boots b))

  last-grows : (xs : List (List Event)) (e f : List Event) → ((x : Datagram) → IsAmong x (sent_by e) → IsAmong x (sent_by f))
      → (b : ℕ) (x : Datagram) → There (xs ++ e ∷ []) b x → There (xs ++ f ∷ []) b x
  last-grows [] e f g zero x h = h
  last-grows [] e f g (suc zero) x h = g x h
  last-grows [] e f g (suc (suc b)) x h = h
  last-grows (y ∷ ys) e f g zero x h = h
  last-grows (y ∷ ys) e f g (suc zero) x h = h
  last-grows (y ∷ ys) e f g (suc (suc b)) x h = last-grows ys e f g (suc b) x h

  more-boots : (xs ys : List (List Event)) (b : ℕ) (x : Datagram) → There xs b x → There (xs ++ ys) b x
  more-boots [] ys b x h = absurd h
  more-boots (y ∷ more) ys zero x h = absurd h
  more-boots (y ∷ more) ys (suc zero) x h = h
  more-boots (y ∷ more) ys (suc (suc b)) x h = more-boots more ys (suc b) x h

  in-last : (xs : List (List Event)) (e : List Event) (x : Datagram) → IsAmong x (sent_by e)
      → There (xs ++ e ∷ []) (suc (length xs)) x
  in-last [] e x h = h
  in-last (y ∷ ys) e x h = in-last ys e x h

  abbrev boots : List (List Event) → List Event → List (List Event)
  boots earlier events = reverse earlier ++ events ∷ []

  boots-are : (earlier : List (List Event)) (events : List Event) → reverse (events ∷ earlier) ≡ boots earlier events
  boots-are earlier events = reverse-append (events ∷ []) earlier

  -- ---- a run

  abbrev HeldThere : List (List Event) → Option Sent → Type 0
  HeldThere bs None = Unit {0}
  HeldThere bs (Some s) = There bs s.0 s.1

  abbrev DeliveredThere : List (List Event) → Delivery → Type 0
  DeliveredThere bs d = (d.stream ≡ made_stream) × There bs d.boot d.datagram

  -- all that was delivered, and what is held, was sent in these boots
  record Has (bs : List (List Event)) (m : Made) : Type 0 where
    delivered : AllByRecursion (DeliveredThere bs) m.deliveries
    held : HeldThere bs m.held

  held-grows : (bs cs : List (List Event)) → ((b : ℕ) (x : Datagram) → There bs b x → There cs b x) → (o : Option Sent)
      → HeldThere bs o → HeldThere cs o
  held-grows bs cs f None h = tt
  held-grows bs cs f (Some s) h = f s.0 s.1 h

  grows : (bs cs : List (List Event)) (m : Made) → ((b : ℕ) (x : Datagram) → There bs b x → There cs b x) → Has bs m → Has cs m
  grows bs cs m f h = record {
    delivered = all-imply (DeliveredThere bs) (DeliveredThere cs) (λ d p. (p.0, f d.boot d.datagram p.1)) m.deliveries h.delivered;
    held = held-grows bs cs f m.held h.held;
  }

  has-arrive : (bs : List (List Event)) (times : ℕ) (s : Sent) (m : Made) → There bs s.0 s.1 → Has bs m
      → Has bs (arrives_times times s m)
  has-arrive bs zero s m t h = h
  has-arrive bs (suc times) s m t h =
      has-arrive bs times s (arrives s m) t (record { delivered = ((refl, t), h.delivered); held = h.held })

  has-release : (bs : List (List Event)) (o : Option Sent) (m : Made) → m.held ≡ o → Has bs m → Has bs (released_of o m)
  has-release bs None m e h = h
  has-release bs (Some s) m e h =
      let t : There bs s.0 s.1 = subst (HeldThere bs) e h.held in
      record { delivered = ((refl, t), h.delivered); held = tt }

  has-decide : (bs : List (List Event)) (c : ℕ) (s : Sent) (m : Made) → There bs s.0 s.1 → Has bs m → Has bs (decided_by c s m)
  has-decide bs c s m t h = go ((c == 2) && is_none m.held)
    where
      go : (b : Bool) → Has bs (cond b (record m { held = Some s }) (released (arrives_times (times_of c) s m)))
      go true = record { delivered = h.delivered; held = t }
      go false =
          has-release bs (arrives_times (times_of c) s m).held (arrives_times (times_of c) s m) refl
          (has-arrive bs (times_of c) s m t h)

  has-decide-all : (bs : List (List Event)) (boot : ℕ) (ds : List Datagram) (m : Made)
      → AllByRecursion (There bs boot) ds → Has bs m → Has bs (all_decided boot ds m)
  has-decide-all bs boot [] m t h = h
  has-decide-all bs boot (d ∷ more) m t h =
      has-decide-all bs boot more (decided (boot, d) m) t.1
      (has-decide bs (drawn 16 (next_state m.state)) (boot, d) (record m { state = next_state m.state }) t.0
      (record { delivered = h.delivered; held = h.held }))

  abbrev HasOwn : Made → Type 0
  HasOwn m = Has (boots m.earlier m.events) m

  -- one event more
  has-event : (e : Event) (m : Made) → HasOwn m → Has (boots m.earlier (e ∷ m.events)) m
  has-event e m h =
      grows (boots m.earlier m.events) (boots m.earlier (e ∷ m.events)) m
      (last-grows (reverse m.earlier) m.events (e ∷ m.events) (λ x k. stays x e m.events k)) h

  all-there : (m : Made) → AllByRecursion (There (boots m.earlier m.events) (boot_number m)) (sent_so_far seed m)
  all-there m =
      let number : suc (length (reverse m.earlier)) ≡ boot_number m = omega (arith, length-reverse m.earlier) in
      all-reverse (There (boots m.earlier m.events) (boot_number m)) (sent_by m.events)
      (all-of (There (boots m.earlier m.events) (boot_number m)) (sent_by m.events)
      (λ x k. subst (λ (b : ℕ). There (boots m.earlier m.events) b x) number (in-last (reverse m.earlier) m.events x k)))

  keeps-boots : (boot : ℕ) (ds : List Datagram) (m : Made)
      → boots (all_decided boot ds m).earlier (all_decided boot ds m).events ≡ boots m.earlier m.events
  keeps-boots boot [] m = refl
  keeps-boots boot (d ∷ more) m = keeps-boots boot more (decided (boot, d) m) ∙ decided-keeps
    where
      arrived : (times : ℕ) (s : Sent) (n : Made)
          → boots (arrives_times times s n).earlier (arrives_times times s n).events ≡ boots n.earlier n.events
      arrived zero s n = refl
      arrived (suc times) s n = arrived times s (arrives s n)

      let-go : (o : Option Sent) (n : Made)
          → boots (released_of o n).earlier (released_of o n).events ≡ boots n.earlier n.events
      let-go None n = refl
      let-go (Some s) n = refl

      by : (b : Bool) (c : ℕ) (s : Sent) (n : Made)
          → boots (cond b (record n { held = Some s }) (released (arrives_times (times_of c) s n))).earlier
          (cond b (record n { held = Some s }) (released (arrives_times (times_of c) s n))).events ≡ boots n.earlier n.events
      by true c s n = refl
      by false c s n =
          let-go (arrives_times (times_of c) s n).held (arrives_times (times_of c) s n) ∙ arrived (times_of c) s n

      decided-keeps : boots (decided (boot, d) m).earlier (decided (boot, d) m).events ≡ boots m.earlier m.events
      decided-keeps =
          by ((drawn 16 (next_state m.state) == 2) && is_none m.held) (drawn 16 (next_state m.state)) (boot, d)
          (record m { state = next_state m.state })

  has-send-if : (b : Bool) (m : Made) → HasOwn m → HasOwn (sent_if b seed m)
  has-send-if false m h = h
  has-send-if true m h =
      let poll : Event = poll_at setup (uptime m) m.events in
      let p : Made = polled seed m in
      let send : Event = send_at setup (uptime p) p.events in
      let n : Made = with_event send p in
      let ds : List Datagram = drop (length (sent_so_far seed p)) (sent_so_far seed n) in
      let after_poll_has : HasOwn p =
      (let k : Has (boots m.earlier (poll ∷ m.events)) m = has-event poll m h in record { delivered = k.delivered; held = k.held }) in
      let after_send_has : HasOwn n =
      (let k : Has (boots p.earlier (send ∷ p.events)) p = has-event send p after_poll_has in
      record { delivered = k.delivered; held = k.held }) in
      subst (λ (bs : List (List Event)). Has bs (all_decided (boot_number n) ds n)) (sym (keeps-boots (boot_number n) ds n))
      (has-decide-all (boots n.earlier n.events) (boot_number n) ds n
      (all-drop (There (boots n.earlier n.events) (boot_number n)) (length (sent_so_far seed p)) (sent_so_far seed n) (all-there n))
      after_send_has)

  kept-by : (o : Option Sent) (m : Made) → boots (released_of o m).earlier (released_of o m).events ≡ boots m.earlier m.events
  kept-by None m = refl
  kept-by (Some s) m = refl

  has-released : (m : Made) → HasOwn m → HasOwn (released m)
  has-released m h =
      subst (λ (bs : List (List Event)). Has bs (released m)) (sym (kept-by m.held m))
      (has-release (boots m.earlier m.events) m.held m refl h)

  has-restart-if : (b : Bool) (m : Made) → HasOwn m → HasOwn (restarted_if b m)
  has-restart-if false m h = h
  has-restart-if true m h =
      let r : Made = released m in
      let own : Has (boots r.earlier r.events) r = has-released m h in
      let k : Has (boots (r.events ∷ r.earlier) []) r =
      subst (λ (bs : List (List Event)). Has (bs ++ [] ∷ []) r) (sym (boots-are r.earlier r.events))
      (grows (boots r.earlier r.events) (boots r.earlier r.events ++ [] ∷ []) r
      (more-boots (boots r.earlier r.events) ([] ∷ [])) own) in
      record { delivered = k.delivered; held = k.held }

  has-until : (total k : ℕ) → HasOwn (made_until seed total k)
  has-until total zero = record { delivered = tt; held = tt }
  has-until total (suc k) =
      let before : Made = made_until seed total k in
      let so_far : HasOwn before = has-until total k in
      let seen : HasOwn (observed seed before) =
      (let g = has-event (Observe (made_flow seed) (made_packet before.state)) before so_far in
      record { delivered = g.delivered; held = g.held }) in
      has-restart-if (is_last_of_boot total (suc k)) (sent_if (is_sent total (suc k)) seed (observed seed before))
      (has-send-if (is_sent total (suc k)) (observed seed before) seen)

  pub are-sent : (packets : ℕ) → AreSent (made_history seed packets) (made_deliveries seed packets)
  are-sent packets =
      let m : Made = made seed packets in
      let h : HasOwn m = has-released (made_until seed packets packets) (has-until packets packets) in
      let k : Has (boots_made m) m = subst (λ (bs : List (List Event)). Has bs m) (sym (boots-are m.earlier m.events)) h in
      all-imply (DeliveredThere (boots_made m))
      (λ (d : Delivery). IsAmong d.datagram (sent_in (agent_of (made_history seed packets) d.stream) d.boot))
      (λ d p. subst (λ (s : Stream). IsAmong d.datagram (sent_in (agent_of (made_history seed packets) s) d.boot)) (sym p.0) p.1)
      m.deliveries k.delivered
