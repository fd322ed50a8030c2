-- What happens in a made run may happen.
use Rattle.std.proofs.Common.{ℕ, zero, suc, ◌-◌, inl, Bool, true, false, cond, List, [], ◌∷◌, ◌++◌, length, take, drop, Some, None, arith, refl, sym, subst, length-take}
use Rattle.std.specs.Prelude.{reverse, is_none, ◌==◌, ◌&&◌}
use Rattle.std.specs.declared.option.Option.{Option}
use Rattle.std.specs.List.{AllByRecursion}
use Rattle.std.proofs.lemmas.List.{length-map, reverse-append}
use Rattle.agent_spec.specs.Sources.{CounterSetup}
use Rattle.agent_spec.specs.Samples.{Datagram, Setup}
use Rattle.agent_spec.specs.Events.{Event}
use Rattle.agent_spec.specs.Boots.{due_sources, happened, MayHappen}
use Rattle.agent_spec.proofs.Stages.{never-full}
use Rattle.script_spec.specs.Agents.{counters_at, poll_at, send_at}
use Rattle.account_spec.specs.Histories.{IsHistory}
use Rattle.trial_spec.specs.Made.{drawn, next_state, made_setup, Sent, Made, arrives, arrives_times, released_of, released, times_of, decided_by, decided, all_decided, observed, polled, sent_if, restarted_if, is_sent, is_last_of_boot, made_until, made, made_history, boot_number, sent_so_far, with_event, uptime}

-- ---- what is polled and sent

may_poll : (setup : Setup) (now : ℕ) (events : List Event) → MayHappen setup events
    → MayHappen setup (poll_at setup now events ∷ events)
unfolding poll_at
may_poll setup now events may =
    let due : List CounterSetup = due_sources setup now events (happened setup events) in
    let places : ℕ = setup.stage - length (happened setup events).staged in
    let read = length-map (take places due) (λ (c : CounterSetup). counters_at events c.source) in
    let taken = length-take places due in
    let room = never-full setup events may in
    (omega (arith, read, taken), omega (arith, read, taken, room), may)

may_send : (setup : Setup) (now : ℕ) (events : List Event) → MayHappen setup events
    → MayHappen setup (send_at setup now events ∷ events)
unfolding send_at
may_send setup now events may = (omega arith, may)

-- ---- a run

all-append : {X : Type 0} (P : X → Type 0) (xs ys : List X) → AllByRecursion P xs → AllByRecursion P ys
    → AllByRecursion P (xs ++ ys)
all-append P [] ys h k = k
all-append P (x ∷ xs) ys h k = (h.0, all-append P xs ys h.1 k)

pub all-reverse : {X : Type 0} (P : X → Type 0) (xs : List X) → AllByRecursion P xs → AllByRecursion P (reverse xs)
all-reverse P [] h = tt
all-reverse P (x ∷ xs) h =
    subst (AllByRecursion P) (sym (reverse-append (x ∷ []) xs))
    (all-append P (reverse xs) (x ∷ []) (all-reverse P xs h.1) (h.0, tt))

module _ (seed : ℕ) where
  -- each boot may happen
  record May (m : Made) : Type 0 where
    now : MayHappen (made_setup seed) m.events
    before : AllByRecursion (MayHappen (made_setup seed)) m.earlier

  may-arrive : (times : ℕ) (s : Sent) (m : Made) → May m → May (arrives_times times s m)
  may-arrive zero s m h = h
  may-arrive (suc times) s m h = may-arrive times s (arrives s m) (record { now = h.now; before = h.before })

  may-release : (o : Option Sent) (m : Made) → May m → May (released_of o m)
  may-release None m h = h
  may-release (Some s) m h = record { now = h.now; before = h.before }

  may-decide : (c : ℕ) (s : Sent) (m : Made) → May m → May (decided_by c s m)
  may-decide c s m h = go ((c == 2) && is_none m.held)
    where
      go : (b : Bool) → May (cond b (record m { held = Some s }) (released (arrives_times (times_of c) s m)))
      go true = record { now = h.now; before = h.before }
      go false =
          may-release (arrives_times (times_of c) s m).held (arrives_times (times_of c) s m) (may-arrive (times_of c) s m h)

  may-decide-all : (boot : ℕ) (ds : List Datagram) (m : Made) → May m → May (all_decided boot ds m)
  may-decide-all boot [] m h = h
  may-decide-all boot (d ∷ more) m h =
      may-decide-all boot more (decided (boot, d) m)
      (may-decide (drawn 16 (next_state m.state)) (boot, d) (record m { state = next_state m.state })
      (record { now = h.now; before = h.before }))

  may-send-if : (b : Bool) (m : Made) → May m → May (sent_if b seed m)
  may-send-if false m h = h
  may-send-if true m h =
      let p : MayHappen (made_setup seed) (polled seed m).events = may_poll (made_setup seed) (uptime m) m.events h.now in
      let n : Made = with_event (send_at (made_setup seed) (uptime (polled seed m)) (polled seed m).events) (polled seed m) in
      may-decide-all (boot_number n) (drop (length (sent_so_far seed (polled seed m))) (sent_so_far seed n)) n (record {
        now = may_send (made_setup seed) (uptime (polled seed m)) (polled seed m).events p;
        before = h.before;
      })

  may-restart-if : (b : Bool) (m : Made) → May m → May (restarted_if b m)
  may-restart-if false m h = h
  may-restart-if true m h =
      let r : May (released m) = may-release m.held m h in
      record { now = tt; before = (r.now, r.before) }

  may-until : (total k : ℕ) → May (made_until seed total k)
  may-until total zero = record { now = tt; before = tt }
  may-until total (suc k) =
      let so_far : May (made_until seed total k) = may-until total k in
      may-restart-if (is_last_of_boot total (suc k)) (sent_if (is_sent total (suc k)) seed (observed seed (made_until seed total k)))
      (may-send-if (is_sent total (suc k)) (observed seed (made_until seed total k))
      (record { now = (inl refl, so_far.now); before = so_far.before }))

  pub is-history : (packets : ℕ) → IsHistory (made_history seed packets)
  is-history packets =
      let whole : May (made seed packets) =
      may-release (made_until seed packets packets).held (made_until seed packets packets) (may-until packets packets) in
      record {
        agents = (
          record {
            setup = record { flows = (refl, tt); counters = (refl, tt); flows_once = (refl, tt); counters_once = (refl, tt) };
            boots = all-reverse (MayHappen (made_setup seed)) ((made seed packets).events ∷ (made seed packets).earlier)
                (whole.now, whole.before);
          },
          tt,
        );
        once = (refl, tt);
      }
