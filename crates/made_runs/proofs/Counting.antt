-- How many datagrams a boot has sent, behind one thing more that happens.
use Rattle.std.proofs.Common.{◌≡◌, ◌∙◌, ℕ, zero, suc, ◌+◌, ◌≤◌, ◌<◌, Bool, List, [], ◌∷◌, length, reverse, take, drop, Some, refl, ap, arith, slice_get, length-take}
use Rattle.std.proofs.lemmas.List.{length-reverse}
use Rattle.agent_spec.specs.Samples.{Sample, Datagram, Setup}
use Rattle.agent_spec.specs.Events.{turn_after}
use Rattle.agent_spec.specs.Packing.{longest, prefixes}
use Rattle.agent_spec.specs.Boots.{due_sources, happened, packed, with_sent}
use Rattle.script_spec.specs.Agents.{poll_at, send_at}
use Rattle.script_histories.proofs.Stays.{packet_sends, poll_sends}
use Rattle.trial_spec.specs.Made.{Made, made_flow, made_packet, made_setup, observed, polled, uptime, with_event}
use Rattle.made_runs.specs.Scripts.{sent_count}

module _ (seed : ℕ) (m : Made) where
  -- a packet and a poll send nothing
  pub packet_count : sent_count seed (observed seed m) ≡ sent_count seed m
  packet_count =
      ap (λ (ds : List Datagram). length (reverse ds))
      (packet_sends (made_setup seed) (made_flow seed) (turn_after (made_flow seed).source m.events) (made_packet m.state)
      (happened (made_setup seed) m.events))

  pub poll_count : sent_count seed (polled seed m) ≡ sent_count seed m
  unfolding poll_at
  poll_count =
      ap (λ (ds : List Datagram). length (reverse ds))
      (poll_sends (uptime m) m.events (due_sources (made_setup seed) (uptime m) m.events (happened (made_setup seed) m.events)) _
      (happened (made_setup seed) m.events))

-- ---- a send

many_sent : (first now : ℕ) (ds : List (List Sample)) (sent : List Datagram)
    → length (with_sent first now ds sent) ≡ length ds + length sent
many_sent first now [] sent = omega arith
many_sent first now (d ∷ more) sent = many_sent first now more (_ ∷ sent) ∙ omega arith

few_prefixes : (fits : List Sample → Bool) (most : ℕ) (items : List Sample) → length (prefixes fits most items) ≤ most
few_prefixes fits zero items = omega arith
few_prefixes fits (suc most) [] = omega arith
few_prefixes fits (suc most) (x ∷ more) =
    omega (arith, few_prefixes fits most (drop (longest fits (x ∷ more) (length (x ∷ more))) (x ∷ more)))

-- it sends a datagram a staged sample at most
pub send_count : (seed : ℕ) (m : Made) (k : ℕ) → length (happened (made_setup seed) m.events).staged ≤ k
    → (sent_count seed m ≤ sent_count seed (with_event (send_at (made_setup seed) (uptime m) m.events) m))
    × (sent_count seed (with_event (send_at (made_setup seed) (uptime m) m.events) m) ≤ sent_count seed m + k)
unfolding send_at
send_count seed m k staged =
    let s : Setup = made_setup seed in
    let b = happened s m.events in
    let few : length (packed s b) ≤ length (reverse b.staged) = few_prefixes s.fits (length (reverse b.staged)) (reverse b.staged) in
    let leaving : List (List Sample) = take (length (packed s b)) (packed s b) in
    let many : length (with_sent s.first (uptime m) leaving b.sent) ≡ length leaving + length b.sent =
    many_sent s.first (uptime m) leaving b.sent in
    let took = length-take (length (packed s b)) (packed s b) in (
      omega (arith, many, length-reverse b.sent, length-reverse (with_sent s.first (uptime m) leaving b.sent)),
      omega (
        arith,
        many,
        took,
        few,
        staged,
        length-reverse b.staged,
        length-reverse b.sent,
        length-reverse (with_sent s.first (uptime m) leaving b.sent),
      ),
    )

-- ---- lists

-- the item behind so many
pub record Next {X : Type 0} (xs : List X) (k : ℕ) : Type 0 where
  pub item : X
  pub there : slice_get xs k ≡ Some item
  pub front : drop k xs ≡ item ∷ drop (suc k) xs

pub next_item : {X : Type 0} (xs : List X) (k : ℕ) → k < length xs → Next xs k
next_item [] k h = absurd (omega (arith, h))
next_item (x ∷ xs) zero h = record { item = x; there = refl; front = refl }
next_item (x ∷ xs) (suc k) h =
    let n = next_item xs k (omega (arith, h)) in record { item = n.item; there = n.there; front = n.front }

pub none_behind : {X : Type 0} (xs : List X) (k : ℕ) → k ≡ length xs → drop k xs ≡ []
none_behind [] zero e = refl
none_behind [] (suc k) e = refl
none_behind (x ∷ xs) zero e = absurd (omega (arith, e))
none_behind (x ∷ xs) (suc k) e = none_behind xs k (omega (arith, e))
