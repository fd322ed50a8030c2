-- What is delivered of a made run stays, and what comes later comes on top. Deliveries have the LATEST FIRST.
use Rattle.std.proofs.Common.{◌≡◌, ◌∙◌, ◌≤◌, ◌+◌, ◌-◌, ◌==◌, ◌&&◌, ℕ, zero, suc, Bool, true, false, cond, List, [], ◌∷◌, ◌++◌, Option, Some, None, drop, length, refl, ap, sym, subst, append_assoc, arith}
use Rattle.std.specs.Prelude.{is_none}
use Rattle.agent_spec.specs.Samples.{Datagram}
use Rattle.account_spec.specs.Deliveries.{Delivery}
use Rattle.script_spec.specs.Agents.{send_at}
use Rattle.trial_spec.specs.Made.{Made, Sent, all_decided, arrives, arrives_times, boot_number, decided, decided_by, drawn, is_last_of_boot, is_sent, made, made_setup, made_until, next_state, observed, polled, released, released_of, restarted_if, sent_all, sent_if, sent_so_far, times_of, uptime, with_event, with_packet}
use Rattle.sflow_tool.specs.MadeTrials.{BeginsWith}

pub all_of : (ds : List Delivery) → BeginsWith ds ds
all_of ds = record { later = []; is = refl }

pub one_on_top : (d : Delivery) (ds : List Delivery) → BeginsWith (d ∷ ds) ds
one_on_top d ds = record { later = d ∷ []; is = refl }

pub one_then : (c b a : List Delivery) → BeginsWith b a → BeginsWith c b → BeginsWith c a
one_then c b a first second = record {
  later = second.later ++ first.later;
  is = append_assoc second.later first.later a ∙ ap (λ (ds : List Delivery). second.later ++ ds) first.is ∙ second.is;
}

-- a run goes on from one state to another
abbrev pub Grows : Made → Made → Type 0
Grows m n = BeginsWith n.deliveries m.deliveries

same : (m : Made) → Grows m m
same m = all_of m.deliveries

pub grows : (m n o : Made) → Grows m n → Grows n o → Grows m o
grows m n o first second = one_then o.deliveries n.deliveries m.deliveries first second

one_arrives : (s : Sent) (m : Made) → Grows m (arrives s m)
one_arrives s m = one_on_top _ m.deliveries

some_arrive : (times : ℕ) (s : Sent) (m : Made) → Grows m (arrives_times times s m)
some_arrive zero s m = same m
some_arrive (suc times) s m =
    grows m (arrives s m) (arrives_times times s (arrives s m)) (one_arrives s m) (some_arrive times s (arrives s m))

held_arrives : (held : Option Sent) (m : Made) → Grows m (released_of held m)
held_arrives None m = same m
held_arrives (Some s) m = one_on_top _ m.deliveries

pub releases : (m : Made) → Grows m (released m)
releases m = held_arrives m.held m

one_decided : (c : ℕ) (s : Sent) (m : Made) → Grows m (decided_by c s m)
one_decided c s m = go ((c == 2) && is_none m.held)
  where
    go : (b : Bool) → Grows m (cond b (record m { held = Some s }) (released (arrives_times (times_of c) s m)))
    go true = same m
    go false =
        grows m (arrives_times (times_of c) s m) (released (arrives_times (times_of c) s m)) (some_arrive (times_of c) s m)
        (releases (arrives_times (times_of c) s m))

decides : (s : Sent) (m : Made) → Grows m (decided s m)
decides s m = one_decided (drawn 16 (next_state m.state)) s (record m { state = next_state m.state })

pub all_decide : (boot : ℕ) (ds : List Datagram) (m : Made) → Grows m (all_decided boot ds m)
all_decide boot [] m = same m
all_decide boot (d ∷ more) m =
    grows m (decided (boot, d) m) (all_decided boot more (decided (boot, d) m)) (decides (boot, d) m)
    (all_decide boot more (decided (boot, d) m))

sends : (seed : ℕ) (m : Made) → Grows m (sent_all seed m)
sends seed m =
    let next : Made = with_event (send_at (made_setup seed) (uptime m) m.events) m in
    all_decide (boot_number next) (drop (length (sent_so_far seed m)) (sent_so_far seed next)) next

sends_if : (b : Bool) (seed : ℕ) (m : Made) → Grows m (sent_if b seed m)
sends_if true seed m = sends seed (polled seed m)
sends_if false seed m = same m

restarts_if : (b : Bool) (m : Made) → Grows m (restarted_if b m)
restarts_if true m = releases m
restarts_if false m = same m

-- ---- packet by packet

-- a run behind its send
pub behind_send : (seed total k : ℕ) (m : Made) → is_sent total k ≡ true
    → Grows (sent_all seed (polled seed (observed seed m))) (with_packet seed total k m)
behind_send seed total k m is =
    subst (λ (b : Bool). Grows (sent_all seed (polled seed (observed seed m)))
    (restarted_if (is_last_of_boot total k) (sent_if b seed (observed seed m))))
    (sym is) (restarts_if (is_last_of_boot total k) (sent_all seed (polled seed (observed seed m))))

pub one_packet : (seed total k : ℕ) (m : Made) → Grows m (with_packet seed total k m)
one_packet seed total k m =
    grows m (sent_if (is_sent total k) seed (observed seed m)) (with_packet seed total k m)
    (sends_if (is_sent total k) seed (observed seed m))
    (restarts_if (is_last_of_boot total k) (sent_if (is_sent total k) seed (observed seed m)))

more_packets : (seed total k more : ℕ) → Grows (made_until seed total k) (made_until seed total (k + more))
more_packets seed total k zero =
    let none : k ≡ k + 0 = omega arith in
    subst (λ (n : ℕ). Grows (made_until seed total k) (made_until seed total n)) none (same (made_until seed total k))
more_packets seed total k (suc more) =
    let one : suc (k + more) ≡ k + suc more = omega arith in
    subst (λ (n : ℕ). Grows (made_until seed total k) (made_until seed total n)) one
    (grows (made_until seed total k) (made_until seed total (k + more)) (made_until seed total (suc (k + more)))
    (more_packets seed total k more) (one_packet seed total (suc (k + more)) (made_until seed total (k + more))))

-- to the end
pub until_made : (seed total k : ℕ) → k ≤ total → Grows (made_until seed total k) (made seed total)
until_made seed total k among =
    let all : k + (total - k) ≡ total = omega (arith, among) in
    grows (made_until seed total k) (made_until seed total total) (made seed total)
    (subst (λ (n : ℕ). Grows (made_until seed total k) (made_until seed total n)) all (more_packets seed total k (total - k)))
    (releases (made_until seed total total))
