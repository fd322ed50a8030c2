-- How many there can be of what is counted in a boot.
use Rattle.std.proofs.Common.{◌≡◌, ℕ, zero, suc, ◌+◌, ◌*◌, ◌<◌, ◌≤◌, inl, inr, Bool, true, false, cond, List, [], ◌∷◌, length, refl, ap, arith}
use Rattle.std.specs.Prelude.{nat_lt}
use Rattle.std.specs.List.{filter, count_by}
use Rattle.std.proofs.lemmas.Bool.{cases_Bool}
use Rattle.std.proofs.lemmas.List.Sums.{sum_by-cons}
use Rattle.wire_spec.specs.Shapes.{Tree}
use Rattle.agent_spec.specs.Sources.{Source, Turn, same_turn, FlowSetup, CounterSetup}
use Rattle.agent_spec.specs.Samples.{Packet, Setup}
use Rattle.agent_spec.specs.Events.{Event, Observe, Poll, Send, Reset, is_reset_of, turn_after}
use Rattle.agent_spec.specs.Marks.{is_marked}
use Rattle.agent_spec.specs.Boots.{Boot, is_sample_of, seen_in, issued_in, dropped_in, issue, flow_sample, with_seen, with_dropped, after_packet, is_due, due_sources, counter_sample, with_polled, after_poll, happened}
use Rattle.agent_spec.proofs.Lists.{filter-yes, filter-no}
use Rattle.true_samples.specs.Counts.{IsShort}
use Rattle.true_samples.specs.Moves.{more}

pub filter-length : {X : Type 0} (p : X → Bool) (xs : List X) → length (filter p xs) ≤ length xs
filter-length p [] = omega arith
filter-length p (x ∷ xs) = elim (cases_Bool (p x)) [
  | inl passes ↦ omega (arith, filter-length p xs, ap length (filter-yes p x xs passes))
  | inr fails ↦ omega (arith, filter-length p xs, ap length (filter-no p x xs fails))
]

-- at most so many after so many events, where a poll issues one sample of each source at most
pub record Few (b : Boot) (events counters : ℕ) : Type 0 where
  pub issued : length b.issued ≤ events * (1 + counters)
  pub seen : length b.seen ≤ events
  pub dropped : length b.dropped ≤ events

packet-few : (s : Setup) (f : FlowSetup) (t : Turn) (packet : Packet) (b : Boot) (events counters : ℕ) → Few b events counters
    → Few (after_packet s f t packet b) (suc events) counters
packet-few s f t packet b events counters h = go (is_marked f.skips (1 + seen_in t b)) (nat_lt (length b.staged) s.stage)
  where
    go : (m r : Bool) → Few (with_seen t (cond m (cond r (issue (flow_sample f t packet b) b) (with_dropped t b)) b)) (suc events) counters
    go true true = record { issued = omega (arith, h.issued); seen = omega (arith, h.seen); dropped = omega (arith, h.dropped) }
    go true false = record { issued = omega (arith, h.issued); seen = omega (arith, h.seen); dropped = omega (arith, h.dropped) }
    go false r = record { issued = omega (arith, h.issued); seen = omega (arith, h.seen); dropped = omega (arith, h.dropped) }

-- ---- polls

poll-issued : (now : ℕ) (before : List Event) (due : List CounterSetup) (readings : List Tree) (b : Boot)
    → length (after_poll now before due readings b).issued ≤ length b.issued + length due
poll-issued now before [] readings b = omega arith
poll-issued now before (c ∷ due) [] b = omega arith
poll-issued now before (c ∷ due) (reading ∷ more) b =
    let t : Turn = turn_after c.source before in
    omega (arith, poll-issued now before due more (with_polled t now (issue (counter_sample c t reading b) b)))

poll-seen : (now : ℕ) (before : List Event) (due : List CounterSetup) (readings : List Tree) (b : Boot)
    → (after_poll now before due readings b).seen ≡ b.seen
poll-seen now before [] readings b = refl
poll-seen now before (c ∷ due) [] b = refl
poll-seen now before (c ∷ due) (reading ∷ more) b =
    let t : Turn = turn_after c.source before in
    poll-seen now before due more (with_polled t now (issue (counter_sample c t reading b) b))

poll-dropped : (now : ℕ) (before : List Event) (due : List CounterSetup) (readings : List Tree) (b : Boot)
    → (after_poll now before due readings b).dropped ≡ b.dropped
poll-dropped now before [] readings b = refl
poll-dropped now before (c ∷ due) [] b = refl
poll-dropped now before (c ∷ due) (reading ∷ more) b =
    let t : Turn = turn_after c.source before in
    poll-dropped now before due more (with_polled t now (issue (counter_sample c t reading b) b))

later : (b c : Boot) (events counters : ℕ) → length c.issued ≤ length b.issued + counters → c.seen ≡ b.seen
    → c.dropped ≡ b.dropped → Few b events counters → Few c (suc events) counters
later b c events counters issued seen dropped h = record {
  issued = omega (arith, issued, h.issued);
  seen = omega (arith, ap length seen, h.seen);
  dropped = omega (arith, ap length dropped, h.dropped);
}

pub few : (s : Setup) (events : List Event) → Few (happened s events) (length events) (length s.counters)
few s [] = record { issued = omega arith; seen = omega arith; dropped = omega arith }
few s (Observe f packet ∷ before) =
    packet-few s f (turn_after f.source before) packet (happened s before) (length before) (length s.counters) (few s before)
few s (Poll now readings ∷ before) =
    let b : Boot = happened s before in
    let due : List CounterSetup = due_sources s now before b in
    later b (after_poll now before due readings b) (length before) (length s.counters)
    (omega (arith, poll-issued now before due readings b, filter-length (is_due now before b) s.counters))
    (poll-seen now before due readings b) (poll-dropped now before due readings b) (few s before)
few s (Send now count ∷ before) =
    later (happened s before) (happened s (Send now count ∷ before)) (length before) (length s.counters) (omega arith) refl refl (few s before)
few s (Reset source ∷ before) =
    later (happened s before) (happened s before) (length before) (length s.counters) (omega arith) refl refl (few s before)

-- ---- what is counted has 64 bits

resets-few : (source : Source) (events : List Event) → count_by (is_reset_of source) events ≤ length events
resets-few source [] = omega arith
resets-few source (e ∷ events) =
    let c : count_by (is_reset_of source) (e ∷ events) ≡ cond (is_reset_of source e) 1 0 + count_by (is_reset_of source) events =
    sum_by-cons (λ (x : Event). cond (is_reset_of source x) 1 0) e events in
    omega (arith, c, resets-few source events, one-at-most (is_reset_of source e))
  where
    one-at-most : (b : Bool) → cond b 1 0 ≤ 1
    one-at-most true = omega arith
    one-at-most false = omega arith

at-least : (n c : ℕ) → n ≤ n * (1 + c)
at-least zero c = omega arith
at-least (suc n) c = omega (arith, at-least n c)

abbrev pub IsLess : ℕ → Type 0
IsLess n = n < 9223372036854775808

pub one-more : (n : ℕ) → IsLess n → more n ≡ 1 + n
one-more n h = omega (arith, h)

pub one-suc : (n : ℕ) → IsLess n → more n ≡ suc n
one-suc n h = omega (arith, h)

pub shorter : (s : Setup) (e : Event) (events : List Event) → IsShort s (e ∷ events) → IsShort s events
shorter s e events h = omega (arith, h)

module _ (s : Setup) (events : List Event) (short : IsShort s events) where
  pub seen-less : (t : Turn) → IsLess (seen_in t (happened s events))
  seen-less t =
      let b : Boot = happened s events in
      omega (arith, short, filter-length (same_turn t) b.seen, at-least (length events) (length s.counters), (few s events).seen)

  pub issued-less : (t : Turn) → IsLess (issued_in t (happened s events))
  issued-less t =
      omega (arith, short, (few s events).issued, filter-length (is_sample_of t) (happened s events).issued)

  pub dropped-less : (t : Turn) → IsLess (dropped_in t (happened s events))
  dropped-less t =
      omega (arith, short, (few s events).dropped, filter-length (same_turn t) (happened s events).dropped, at-least (length events) (length s.counters))

  pub all-issued-less : IsLess (length (happened s events).issued)
  all-issued-less = omega (arith, short, (few s events).issued)

  pub all-dropped-less : IsLess (length (happened s events).dropped)
  all-dropped-less = omega (arith, short, (few s events).dropped, at-least (length events) (length s.counters))

  pub generation-less : (source : Source) → IsLess (count_by (is_reset_of source) events)
  generation-less source =
      omega (arith, short, resets-few source events, at-least (length events) (length s.counters))
