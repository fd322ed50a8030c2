-- What is kept once counter sources were polled, one by one.
use Rattle.std.proofs.Common.{◌≡◌, ◌∙◌, ℕ, zero, suc, ◌+◌, ◌<◌, ◌≤◌, Bool, true, false, Some, List, [], ◌∷◌, length, set, drop, refl, sym, ap, subst, arith}
use Rattle.std.specs.Prelude.{slice_get}
use Rattle.std.proofs.lemmas.List.{drop_all}
use Rattle.std.specs.List.{AllByRecursion, filter}
use Rattle.wire_spec.specs.Shapes.{Tree}
use Rattle.agent_spec.specs.Sources.{same_source, Turn, FlowSetup, CounterSetup}
use Rattle.agent_spec.specs.Samples.{Sample, Setup}
use Rattle.agent_spec.specs.Events.{Event, Poll, turn_after}
use Rattle.agent_spec.specs.Polls.{is_due_after}
use Rattle.agent_spec.specs.Boots.{Boot, is_sample_of, seen_in, issued_in, dropped_in, is_due, counter_sample, after_poll, happened}
use Rattle.agent_spec.specs.Spelled.{Sender}
use Rattle.agent_spec.proofs.Lists.{filter-yes, filter-no}
use Rattle.agent_spec.proofs.Keys.{other-turn}
use Rattle.agent_spec.proofs.Turns.{turn-stays}
use Rattle.agent_poller.specs.Following.{after_one, PollCounts}
use Rattle.agent_poller.proofs.Follows.{own-poll, other-poll}
use Rattle.account_spec.specs.Histories.{flow_sources, counter_sources}
use Rattle.true_samples.specs.declared.counts.CounterCounts.{CounterCounts}
use Rattle.true_samples.specs.States.{TrueState}
use Rattle.true_samples.specs.Counts.{id_in, flow_counts, counter_counts, IsShort}
use Rattle.true_samples.specs.Samples.{IsIssued, sources_of}
use Rattle.true_samples.specs.Moves.{more, counter_sample_at, with_poll_at}
use Rattle.true_samples.specs.Standing.{IsOf, Follows, StandsFor}
use Rattle.true_samples.proofs.Lists.{each-next, get-map, get-behind, map-length, map-same, all-get, all-both, all-same, drop-at}
use Rattle.true_samples.proofs.Sources.{kinds-differ, map-at, later-differ}
use Rattle.true_samples.proofs.Bounds.{IsLess, one-more, one-suc, filter-length, few}
use Rattle.true_samples.proofs.Packets.{kept}
use Rattle.true_samples.proofs.Sends.{follows-on}

-- ---- one source

module _ (sender : Sender) (s : Setup) (t : TrueState) (events : List Event) (b : Boot) (p now : ℕ) (c : CounterSetup) (r : Tree)
    (o : IsOf s t) (h : Follows sender s t events b) (at : slice_get s.counters p ≡ Some c) (below : IsLess (length b.issued)) where
  abbrev turn : Turn
  turn = turn_after c.source events

  abbrev x : Sample
  x = counter_sample c turn r b

  abbrev then : Boot
  then = after_one c turn now r b

  abbrev k : CounterCounts
  k = counter_counts events b c

  own-less : IsLess (issued_in turn b)
  own-less = omega (arith, below, filter-length (is_sample_of turn) b.issued)

  flow-same : (f : FlowSetup) → f.source.flow ≡ true → flow_counts events b f ≡ flow_counts events then f
  flow-same f kind =
      let own : Turn = turn_after f.source events in
      let apart : same_source f.source c.source ≡ false =
      kinds-differ f.source c.source kind
      (all-get (λ (z : CounterSetup). z.source.flow ≡ false) s.counters p c o.lawful.counters at) in
      let same : length (filter (is_sample_of own) (x ∷ b.issued)) ≡ issued_in own b =
      ap length (filter-no (is_sample_of own) x b.issued (other-turn own turn apart)) in
      λ i. record {
        first = f.first;
        pool = f.pool;
        drops = f.drops;
        generation = own.generation;
        packets = seen_in own b;
        issued = sym same i;
        dropped = dropped_in own b;
      }

  counter-own : record k { issued = more k.issued; last = now } ≡ counter_counts events then c
  counter-own =
      (λ i. kept c turn.generation (record { issued = one-more (issued_in turn b) own-less i; last = now }))
      ∙ (λ i. kept c turn.generation (sym (own-poll c turn now r b) i))

  counter-other : (z : CounterSetup) → same_source z.source c.source ≡ false
      → counter_counts events b z ≡ counter_counts events then z
  counter-other z apart =
      let own : Turn = turn_after z.source events in
      λ i. kept z own.generation (sym (other-poll c own turn now r b (other-turn own turn apart)) i)

  many : length t.flow_ids ≡ length (flow_sources s)
  many = ap length o.flow_ids_are ∙ map-length (λ (f : FlowSetup). id_in f.source) s.flows
      ∙ sym (map-length (λ (f : FlowSetup). f.source) s.flows)

  is-issued : IsIssued s (counter_sample_at (length t.flow_ids + p) k) x
  is-issued = record {
    source = ap (λ (n : ℕ). slice_get (sources_of s) (n + p)) many
        ∙ get-behind (flow_sources s) (counter_sources s) p c.source (get-map (λ (z : CounterSetup). z.source) s.counters p c at);
    generation = refl;
    counted = omega arith;
    number = refl;
    pool = refl;
    drops = refl;
  }

  pub follows-poll : Follows sender s (with_poll_at p k now t) events then
  follows-poll = record {
    flows_are = h.flows_are ∙ map-same (flow_counts events b) (flow_counts events then) (λ (f : FlowSetup). f.source.flow ≡ true)
        s.flows flow-same o.lawful.flows;
    counters_are = (λ i. set (h.counters_are i) p (counter-own i))
        ∙ map-at (λ (z : CounterSetup). z.source) (counter_counts events b) (counter_counts events then) s.counters p c
        o.lawful.counters_once at counter-other;
    staged_are = each-next (IsIssued s) t.staged b.staged (counter_sample_at (length t.flow_ids + p) k) x h.staged_are is-issued;
    sent_are = h.sent_are;
    issued_is = ap (λ (n : ℕ). more n) h.issued_is ∙ one-suc (length b.issued) below;
    dropped_is = h.dropped_is;
  }

  pub due-same : (z : CounterSetup) → same_source z.source c.source ≡ false → is_due now events then z ≡ is_due now events b z
  due-same z apart =
      let own : Turn = turn_after z.source events in
      ap (λ (k : PollCounts). is_due_after z.every k.last now) (other-poll c own turn now r b (other-turn own turn apart))

-- ---- one after the other

-- the sources before this place were polled, so many polls are left, and the boot ends so
pub record IsPolling (sender : Sender) (s : Setup) (now : ℕ) (events : List Event) (final : Boot) (p left : ℕ) (t : TrueState) : Type 0 where
  pub b : Boot
  pub readings : List Tree
  pub set_up : IsOf s t
  pub follows : Follows sender s t events b
  pub left_is : length readings ≡ left
  pub due : AllByRecursion (λ (c : CounterSetup). is_due now events b c ≡ is_due now events (happened s events) c) (drop p s.counters)
  pub few : length b.issued ≤ length (happened s events).issued + p
  pub ends : after_poll now events (filter (is_due now events (happened s events)) (drop p s.counters)) readings b ≡ final

pub polling-start : (sender : Sender) (s : Setup) (t : TrueState) (now : ℕ) (events : List Event) (readings : List Tree) (left : ℕ)
    → length readings ≡ left → IsOf s t → Follows sender s t events (happened s events)
    → IsPolling sender s now events (happened s (Poll now readings ∷ events)) 0 left t
polling-start sender s t now events readings left many o h = record {
  b = happened s events;
  readings = readings;
  set_up = o;
  follows = h;
  left_is = many;
  due = all-same (is_due now events (happened s events)) s.counters;
  few = omega arith;
  ends = refl;
}

none-read : (now : ℕ) (events : List Event) (due : List CounterSetup) (b : Boot) → after_poll now events due [] b ≡ b
none-read now events [] b = refl
none-read now events (c ∷ due) b = refl

skip-rest : (now : ℕ) (events : List Event) (due later : List CounterSetup) (readings : List Tree) (b final : Boot)
    → length readings ≡ 0 → after_poll now events due readings b ≡ final → after_poll now events later readings b ≡ final
skip-rest now events due later [] b final none ends = none-read now events later b ∙ sym (none-read now events due b) ∙ ends
skip-rest now events due later (r ∷ more) b final none ends = absurd (omega (arith, none))

module _ (sender : Sender) (s : Setup) (now : ℕ) (events : List Event) (final : Boot) (p left : ℕ) (t : TrueState) (c : CounterSetup)
    (at : slice_get s.counters p ≡ Some c) (h : IsPolling sender s now events final p left t) where
  abbrev D : CounterSetup → Bool
  D = is_due now events (happened s events)

  abbrev Same : Boot → CounterSetup → Type 0
  Same b z = is_due now events b z ≡ D z

  heads : AllByRecursion (Same h.b) (c ∷ drop (suc p) s.counters)
  heads = subst (AllByRecursion (Same h.b)) (drop-at s.counters p c at) h.due

  ends-here : after_poll now events (filter D (c ∷ drop (suc p) s.counters)) h.readings h.b ≡ final
  ends-here = ap (λ (l : List CounterSetup). after_poll now events (filter D l) h.readings h.b) (sym (drop-at s.counters p c at)) ∙ h.ends

  -- no poll is left
  pub polling-none : left ≡ 0 → IsPolling sender s now events final (suc p) left t
  polling-none none = record {
    b = h.b;
    readings = h.readings;
    set_up = h.set_up;
    follows = h.follows;
    left_is = h.left_is;
    due = heads.1;
    few = omega (arith, h.few);
    ends = skip-rest now events (filter D (drop p s.counters)) (filter D (drop (suc p) s.counters)) h.readings h.b final
        (omega (arith, h.left_is, none)) h.ends;
  }

  -- it isn't due
  pub polling-later : is_due now events h.b c ≡ false → IsPolling sender s now events final (suc p) left t
  polling-later later = record {
    b = h.b;
    readings = h.readings;
    set_up = h.set_up;
    follows = h.follows;
    left_is = h.left_is;
    due = heads.1;
    few = omega (arith, h.few);
    ends = ap (λ (l : List CounterSetup). after_poll now events l h.readings h.b)
        (sym (filter-no D c (drop (suc p) s.counters) (sym heads.0 ∙ later))) ∙ ends-here;
  }

  -- it is polled
  polled-with : (readings : List Tree) (n : ℕ) → length readings ≡ suc n → is_due now events h.b c ≡ true
      → IsLess (length h.b.issued)
      → after_poll now events (filter D (c ∷ drop (suc p) s.counters)) readings h.b ≡ final
      → IsPolling sender s now events final (suc p) n (with_poll_at p (counter_counts events h.b c) now t)
  polled-with [] n many due below ends = absurd (omega (arith, many))
  polled-with (r ∷ more) n many due below ends =
      let turn : Turn = turn_after c.source events in
      let then : Boot = after_one c turn now r h.b in
      let front : filter D (c ∷ drop (suc p) s.counters) ≡ c ∷ filter D (drop (suc p) s.counters) =
      filter-yes D c (drop (suc p) s.counters) (sym heads.0 ∙ due) in
      record {
        b = then;
        readings = more;
        set_up = record {
          lawful = h.set_up.lawful;
          first_is = h.set_up.first_is;
          flow_ids_are = h.set_up.flow_ids_are;
          counter_ids_are = h.set_up.counter_ids_are;
        };
        follows = follows-poll sender s t events h.b p now c r h.set_up h.follows at below;
        left_is = omega (arith, many);
        due = all-both (λ (z : CounterSetup). same_source z.source c.source ≡ false) (Same h.b) (Same then) (drop (suc p) s.counters)
            (λ z apart same. due-same sender s t events h.b p now c r h.set_up h.follows at below z apart ∙ same)
            (later-differ (λ (z : CounterSetup). z.source) s.counters p c h.set_up.lawful.counters_once at) heads.1;
        few = omega (arith, h.few);
        ends = ap (λ (l : List CounterSetup). after_poll now events l (r ∷ more) h.b) (sym front) ∙ ends;
      }

  pub polling-step : (n : ℕ) → left ≡ suc n → is_due now events h.b c ≡ true → IsLess (length h.b.issued)
      → IsPolling sender s now events final (suc p) n (with_poll_at p (counter_counts events h.b c) now t)
  polling-step n many due below = polled-with h.readings n (h.left_is ∙ many) due below ends-here

-- there are fewer samples than a count can say
pub polling-less : (sender : Sender) (s : Setup) (now : ℕ) (events : List Event) (readings : List Tree) (final : Boot) (p left : ℕ)
    (t : TrueState) → IsShort s (Poll now readings ∷ events) → p < length s.counters
    → (h : IsPolling sender s now events final p left t) → IsLess (length h.b.issued)
polling-less sender s now events readings final p left t short within h =
    omega (arith, short, within, h.few, (few s events).issued)

pub poll-stands : (sender : Sender) (s : Setup) (t new : TrueState) (now : ℕ) (events : List Event) (earlier : List (List Event))
    (readings : List Tree) (p left : ℕ) → StandsFor sender s t events earlier → new.earlier ≡ t.earlier → length s.counters ≤ p
    → IsPolling sender s now events (happened s (Poll now readings ∷ events)) p left new
    → StandsFor sender s new (Poll now readings ∷ events) earlier
poll-stands sender s t new now events earlier readings p left st same end h =
    let e : Event = Poll now readings in
    let none : drop p s.counters ≡ [] = drop_all p s.counters end in
    let is : h.b ≡ happened s (e ∷ events) =
    ap (λ (l : List CounterSetup). after_poll now events (filter (is_due now events (happened s events)) l) h.readings h.b) (sym none)
    ∙ h.ends in
    record {
      set_up = h.set_up;
      follows = follows-on sender s new e events (happened s (e ∷ events)) (λ source. turn-stays source e events refl)
          (subst (Follows sender s new events) is h.follows);
      earlier_are = rw same st.earlier_are;
    }

some-at : {X : Type 0} (xs : List X) (i : ℕ) → i < length xs → (x : X) × (slice_get xs i ≡ Some x)
some-at [] i h = absurd (omega (arith, h))
some-at (x ∷ xs) zero h = (x, refl)
some-at (x ∷ xs) (suc i) h = some-at xs i (omega (arith, h))

pub counts-at : (t : TrueState) (p : ℕ) → p < length t.counters → (k : CounterCounts) × (slice_get t.counters p ≡ Some k)
counts-at t p within = some-at t.counters p within

-- the source at a place, and its counts
pub counter-in : (sender : Sender) (s : Setup) (t : TrueState) (events : List Event) (b : Boot) (p : ℕ)
    → Follows sender s t events b → p < length t.counters
    → (c : CounterSetup) × (slice_get s.counters p ≡ Some c) × (slice_get t.counters p ≡ Some (counter_counts events b c))
counter-in sender s t events b p h within =
    let many : length t.counters ≡ length s.counters = ap length h.counters_are ∙ map-length (counter_counts events b) s.counters in
    let some = some-at s.counters p (omega (arith, within, many)) in (
      some.0,
      some.1,
      ap (λ (l : List CounterCounts). slice_get l p) h.counters_are ∙ get-map (counter_counts events b) s.counters p some.0 some.1,
    )
