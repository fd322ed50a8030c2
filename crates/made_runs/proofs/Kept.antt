-- Which runs are short, and what deciding keeps.
use Rattle.std.proofs.Common.{◌≡◌, ◌∙◌, ℕ, zero, suc, ◌+◌, ◌*◌, ◌<◌, ◌≤◌, Bool, true, false, cond, List, [], ◌∷◌, length, drop, refl, ap, arith}
use Rattle.std.specs.Prelude.{is_none, ◌==◌, ◌&&◌, Some, None}
use Rattle.std.specs.declared.option.Option.{Option}
use Rattle.agent_spec.specs.Samples.{Datagram}
use Rattle.script_spec.specs.Agents.{send_at}
use Rattle.trial_spec.specs.Made.{drawn, next_state, made_setup, Sent, Made, arrives, arrives_times, released_of, released, times_of, decided_by, decided, all_decided, observed, polled, sent_if, restarted_if, is_sent, is_last_of_boot, made_until, boot_number, sent_so_far, with_event, uptime}
use Rattle.made_runs.specs.Runs.{IsShort, Keeps}

keeps-all : (m : Made) → Keeps m m
keeps-all m = record { base = refl; packets = refl; events = refl; earlier = refl }

keeps-on : (m n k : Made) → Keeps m n → Keeps n k → Keeps m k
keeps-on m n k h j = record {
  base = j.base ∙ h.base;
  packets = j.packets ∙ h.packets;
  events = j.events ∙ h.events;
  earlier = j.earlier ∙ h.earlier;
}

arrive : (times : ℕ) (s : Sent) (m : Made) → Keeps m (arrives_times times s m)
arrive zero s m = keeps-all m
arrive (suc times) s m =
    keeps-on m (arrives s m) (arrives_times times s (arrives s m))
    (record { base = refl; packets = refl; events = refl; earlier = refl }) (arrive times s (arrives s m))

release : (o : Option Sent) (m : Made) → Keeps m (released_of o m)
release None m = keeps-all m
release (Some s) m = record { base = refl; packets = refl; events = refl; earlier = refl }

pub keeps-released : (m : Made) → Keeps m (released m)
keeps-released m = release m.held m

decide : (c : ℕ) (s : Sent) (m : Made) → Keeps m (decided_by c s m)
decide c s m = go ((c == 2) && is_none m.held)
  where
    n : Made
    n = arrives_times (times_of c) s m

    go : (b : Bool) → Keeps m (cond b (record m { held = Some s }) (released (arrives_times (times_of c) s m)))
    go true = record { base = refl; packets = refl; events = refl; earlier = refl }
    go false = keeps-on m (arrives_times (times_of c) s m) (released (arrives_times (times_of c) s m)) (arrive (times_of c) s m)
        (release (arrives_times (times_of c) s m).held (arrives_times (times_of c) s m))

pub keeps-decided : (boot : ℕ) (datagrams : List Datagram) (m : Made) → Keeps m (all_decided boot datagrams m)
keeps-decided boot [] m = keeps-all m
keeps-decided boot (d ∷ more) m =
    let n : Made = record m { state = next_state m.state } in
    let h = decide (drawn 16 (next_state m.state)) (boot, d) n in
    keeps-on m (decided (boot, d) m) (all_decided boot more (decided (boot, d) m))
    (record { base = h.base; packets = h.packets; events = h.events; earlier = h.earlier })
    (keeps-decided boot more (decided (boot, d) m))

-- no more packets, ms and boots than these
record Within (p b e : ℕ) (m : Made) : Type 0 where
  packets : m.packets ≤ p
  base : m.base + 10 * m.packets ≤ b
  boots : length m.earlier ≤ e

within-on : (p b e : ℕ) (m n : Made) → Keeps m n → Within p b e m → Within p b e n
within-on p b e m n h w = record {
  packets = omega (arith, h.packets, w.packets);
  base = omega (arith, h.base, h.packets, w.base);
  boots = let l : length n.earlier ≡ length m.earlier = ap length h.earlier in omega (arith, l, w.boots);
}

module _ (seed : ℕ) where
  within-sent : (c : Bool) (p b e : ℕ) (m : Made) → Within p b e m → Within p b e (sent_if c seed m)
  within-sent false p b e m w = w
  within-sent true p b e m w =
      let q : Made = polled seed m in
      let n : Made = with_event (send_at (made_setup seed) (uptime q) q.events) q in
      within-on p b e n (sent_if true seed m)
      (keeps-decided (boot_number n) (drop (length (sent_so_far seed q)) (sent_so_far seed n)) n)
      (record { packets = w.packets; base = w.base; boots = w.boots })

  within-restarted : (c : Bool) (k : ℕ) (m : Made) → Within (k + 1) (1000010 + 60010 * k) k m
      → Within (k + 1) (1000000 + 60010 * (k + 1)) (k + 1) (restarted_if c m)
  within-restarted false k m w = record {
    packets = w.packets;
    base = omega (arith, w.base);
    boots = omega (arith, w.boots);
  }
  within-restarted true k m w =
      let v : Within (k + 1) (1000010 + 60010 * k) k (released m) =
      within-on (k + 1) (1000010 + 60010 * k) k m (released m) (keeps-released m) w in
      record { packets = omega arith; base = omega (arith, v.base); boots = omega (arith, v.boots) }

  within-observed : (k : ℕ) (m : Made) → Within k (1000000 + 60010 * k) k m
      → Within (k + 1) (1000010 + 60010 * k) k (observed seed m)
  within-observed k m w = record {
    packets = omega (arith, w.packets);
    base = omega (arith, w.base);
    boots = w.boots;
  }

  within-until : (total k : ℕ) → Within k (1000000 + 60010 * k) k (made_until seed total k)
  within-until total zero = record { packets = omega arith; base = omega arith; boots = omega arith }
  within-until total (suc k) =
      let m : Made = made_until seed total k in
      let w = within-restarted (is_last_of_boot total (suc k)) k (sent_if (is_sent total (suc k)) seed (observed seed m))
      (within-sent (is_sent total (suc k)) (k + 1) (1000010 + 60010 * k) k (observed seed m)
      (within-observed k m (within-until total k))) in
      record { packets = omega (arith, w.packets); base = omega (arith, w.base); boots = omega (arith, w.boots) }

  pub short-until : (total k : ℕ) → k ≤ 10000000 → IsShort (made_until seed total k)
  short-until total k few =
      let w = within-until total k in
      record {
        packets = omega (arith, w.packets, few);
        base = omega (arith, w.base, few);
        boots = omega (arith, w.boots, few);
      }

  pub short-observed : (total k : ℕ) → k < 10000000 → IsShort (observed seed (made_until seed total k))
  short-observed total k few =
      let w = within-observed k (made_until seed total k) (within-until total k) in
      record {
        packets = omega (arith, w.packets, few);
        base = omega (arith, w.base, few);
        boots = omega (arith, w.boots, few);
      }
