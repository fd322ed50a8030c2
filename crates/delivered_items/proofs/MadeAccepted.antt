-- An agent's calls take what happens in a made run.
use Rattle.std.proofs.Common.{ℕ, zero, suc, ◌-◌, ◌≤◌, ◌<◌, ◌^◌, Bool, true, false, cond, List, [], ◌∷◌, length, map, take, drop, Some, None, arith, refl}
use Rattle.std.specs.Prelude.{is_none, ◌==◌, ◌&&◌}
use Rattle.std.specs.declared.option.Option.{Option}
use Rattle.std.specs.List.{AllByRecursion}
use Rattle.agent_spec.specs.Sources.{CounterSetup}
use Rattle.agent_spec.specs.Samples.{Datagram}
use Rattle.agent_spec.specs.Events.{Event, Observe}
use Rattle.agent_spec.specs.Boots.{happened, is_due}
use Rattle.script_spec.specs.Agents.{counters_at, poll_at, send_at}
use Rattle.delivered_items.specs.Accepted.{IsPolled, IsTaken, AreAccepted}
use Rattle.trial_spec.specs.Made.{drawn, next_state, made_sender, made_flow, made_counter, made_packet, made_setup, Sent, Made, arrives, arrives_times, released_of, released, times_of, decided_by, decided, all_decided, observed, polled, sent_if, restarted_if, is_sent, is_last_of_boot, made_until, made, made_history, boot_number, sent_so_far, with_event, uptime}
use Rattle.trial_spec.proofs.MadeRuns.{all-reverse}

-- ---- events

one-read : (events : List Event) → IsPolled made_sender (counters_at events made_counter.source)
one-read events = record {
  lawful = (
    omega arith,
    (
      omega arith,
      (
        omega arith,
        (
          omega arith,
          (
            omega arith,
            (
              omega arith,
              (
                omega arith,
                (
                  omega arith,
                  (
                    omega arith,
                    (
                      omega arith,
                      (
                        omega arith,
                        (
                          omega arith,
                          (
                            omega arith,
                            (
                              omega arith,
                              (
                                omega arith,
                                (
                                  omega arith,
                                  (
                                    omega arith,
                                    (omega arith, (omega arith, tt)),
                                  ),
                                ),
                              ),
                            ),
                          ),
                        ),
                      ),
                    ),
                  ),
                ),
              ),
            ),
          ),
        ),
      ),
    ),
  );
  fits = λ source. refl;
}

all-read : (events : List Event) (b : Bool) (places : ℕ)
    → AllByRecursion (IsPolled made_sender)
    (map (λ (c : CounterSetup). counters_at events c.source) (take places (cond b (made_counter ∷ []) [])))
all-read events true zero = tt
all-read events true (suc zero) = (one-read events, tt)
all-read events true (suc (suc places)) = (one-read events, tt)
all-read events false zero = tt
all-read events false (suc places) = tt

poll-taken : (seed now : ℕ) (events : List Event) → IsTaken made_sender (poll_at (made_setup seed) now events)
unfolding poll_at
poll-taken seed now events =
    all-read events (is_due now events (happened (made_setup seed) events) made_counter)
    ((made_setup seed).stage - length (happened (made_setup seed) events).staged)

send-taken : (seed now : ℕ) (events : List Event) → now < 2 ^ 32 → IsTaken made_sender (send_at (made_setup seed) now events)
unfolding send_at
send-taken seed now events h = h

packet-taken : (seed x : ℕ) → IsTaken made_sender (Observe (made_flow seed) (made_packet x))
packet-taken seed x = record {
  packet = record {
    input = (omega arith, omega arith);
    output = (omega arith, omega arith);
    frame_length = omega arith;
    vlan = tt;
  };
  fits = refl;
}

-- ---- a run

abbrev AllTaken : List Event → Type 0
AllTaken events = AllByRecursion (IsTaken made_sender) events

-- each event was taken, and at most so many packets were seen in this boot
record Taken (most : ℕ) (m : Made) : Type 0 where
  now : AllTaken m.events
  before : AllByRecursion AllTaken m.earlier
  few : m.packets ≤ most

arrive : (most times : ℕ) (s : Sent) (m : Made) → Taken most m → Taken most (arrives_times times s m)
arrive most zero s m h = h
arrive most (suc times) s m h =
    arrive most times s (arrives s m) (record { now = h.now; before = h.before; few = h.few })

release : (most : ℕ) (o : Option Sent) (m : Made) → Taken most m → Taken most (released_of o m)
release most None m h = h
release most (Some s) m h = record { now = h.now; before = h.before; few = h.few }

decide : (most c : ℕ) (s : Sent) (m : Made) → Taken most m → Taken most (decided_by c s m)
decide most c s m h = go ((c == 2) && is_none m.held)
  where
    go : (b : Bool) → Taken most (cond b (record m { held = Some s }) (released (arrives_times (times_of c) s m)))
    go true = record { now = h.now; before = h.before; few = h.few }
    go false =
        release most (arrives_times (times_of c) s m).held (arrives_times (times_of c) s m) (arrive most (times_of c) s m h)

decide-all : (most boot : ℕ) (ds : List Datagram) (m : Made) → Taken most m → Taken most (all_decided boot ds m)
decide-all most boot [] m h = h
decide-all most boot (d ∷ more) m h =
    decide-all most boot more (decided (boot, d) m)
    (decide most (drawn 16 (next_state m.state)) (boot, d) (record m { state = next_state m.state })
    (record { now = h.now; before = h.before; few = h.few }))

send-if : (seed most : ℕ) (b : Bool) (m : Made) → most ≤ 10000000 → Taken most m → Taken most (sent_if b seed m)
send-if seed most false m small h = h
send-if seed most true m small h =
    let p : Made = polled seed m in
    let n : Made = with_event (send_at (made_setup seed) (uptime p) p.events) p in
    let few : m.packets ≤ most = h.few in
    let early : uptime p < 2 ^ 32 = omega arith in
    decide-all most (boot_number n) (drop (length (sent_so_far seed p)) (sent_so_far seed n)) n (record {
      now = (send-taken seed (uptime p) p.events early, (poll-taken seed (uptime m) m.events, h.now));
      before = h.before;
      few = h.few;
    })

restart-if : (most : ℕ) (b : Bool) (m : Made) → Taken most m → Taken most (restarted_if b m)
restart-if most false m h = h
restart-if most true m h =
    let r : Taken most (released m) = release most m.held m h in
    record { now = tt; before = (r.now, r.before); few = omega arith }

until : (seed total k : ℕ) → k ≤ 10000000 → Taken k (made_until seed total k)
until seed total zero small = record { now = tt; before = tt; few = omega arith }
until seed total (suc k) small =
    let before : Made = made_until seed total k in
    let so_far : Taken k before = until seed total k (omega arith) in
    let few : before.packets ≤ k = so_far.few in
    restart-if (suc k) (is_last_of_boot total (suc k)) (sent_if (is_sent total (suc k)) seed (observed seed before))
    (send-if seed (suc k) (is_sent total (suc k)) (observed seed before) small
    (record {
      now = (packet-taken seed before.state, so_far.now);
      before = so_far.before;
      few = omega (arith, few);
    }))

pub made-accepted : (seed packets : ℕ) → packets ≤ 10000000 → AreAccepted (made_history seed packets)
made-accepted seed packets small =
    let m : Made = made seed packets in
    let whole : Taken packets m =
    release packets (made_until seed packets packets).held (made_until seed packets packets) (until seed packets packets small) in (
      record {
        sender = record { agent = refl; sub_agent = omega arith; most = omega arith };
        fits = λ samples. refl;
        flows = (record { source = (omega arith, omega arith); rate = omega arith }, tt);
        counters = ((omega arith, omega arith), tt);
        boots = all-reverse AllTaken (m.events ∷ m.earlier) (whole.now, whole.before);
      },
      tt,
    )
