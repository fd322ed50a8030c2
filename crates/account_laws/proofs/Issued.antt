-- The samples of a source are issued in order: generation by generation, and in each their numbers grow, and their pools
-- and drops don't fall.
use Rattle.std.proofs.Common.{◌≡◌, ℕ, ◌+◌, ◌≤◌, ◌⊎◌, inl, inr, Bool, true, false, cond, ◌||◌, List, [], ◌∷◌, length, map, arith, refl, sym, ap, subst, ◌∙◌}
use Rattle.std.specs.Prelude.{nat_lt}
use Rattle.std.specs.List.{AllByRecursion, list_any}
use Rattle.std.proofs.lemmas.Bool.{cases_lt}
use Rattle.wire_spec.specs.Shapes.{Tree}
use Rattle.books_spec.specs.Listing.{AreDistinct}
use Rattle.agent_spec.specs.Sources.{Source, same_source, Turn, same_turn, FlowSetup, CounterSetup}
use Rattle.agent_spec.specs.Samples.{Packet, Content, Sampled, Counted, Sample, Setup}
use Rattle.agent_spec.specs.Events.{Event, Observe, Poll, Send, Reset, is_reset_of, generation_after, turn_after}
use Rattle.agent_spec.specs.Marks.{is_marked}
use Rattle.agent_spec.specs.Boots.{Boot, is_sample_of, seen_in, issue, flow_sample, with_seen, with_dropped, after_packet, is_due, due_sources, counter_sample, with_polled, after_poll, happened, IsAmong, MayHappen}
use Rattle.agent_spec.specs.Orders.{samples_in, NumbersBegin, HasOneSetup}
use Rattle.agent_spec.proofs.Keys.{source-eq, source-self, turn-self, turn-source}
use Rattle.agent_spec.proofs.Lists.{count_by-more}
use Rattle.agent_spec.proofs.Numbers.{numbered}
use Rattle.agent_spec.proofs.Rising.{never-fall}
use Rattle.agent_spec.proofs.SetUps.{only, begins}
use Rattle.account_spec.specs.Histories.{IsSetUp}
use Rattle.account_laws.proofs.Lists.{all-imply, all-both, all-among, all-members, all-filter, all-passing, AllPairs, pairs-both}
use Rattle.account_laws.proofs.Orders.{ComesBefore}
use Rattle.account_laws.proofs.Growing.{Grows, HasNoCounts, never-falls, zeros-dont, grow, pairs-where, pairs-for-all}

-- ---- whose sample it is

pub record IsOfFlow (s : Setup) (y : Sample) : Type 0 where
  pub flow : FlowSetup
  pub there : IsAmong flow s.flows
  pub source : y.turn.source ≡ flow.source
  pub rate : y.rate ≡ flow.rate

-- whether it carries a reading
abbrev pub Carries : Content → Type 0
Carries (Sampled packet) = ⊥
Carries (Counted reading) = Unit {0}

pub record IsOfCounter (s : Setup) (y : Sample) : Type 0 where
  pub counter : CounterSetup
  pub there : IsAmong counter s.counters
  pub source : y.turn.source ≡ counter.source
  pub pool : y.pool ≡ 0
  pub drops : y.drops ≡ 0
  pub rate : y.rate ≡ 0
  pub reading : Tree
  pub content : y.content ≡ Counted reading

abbrev pub IsOwned : Setup → Sample → Type 0
IsOwned s y = IsOfFlow s y ⊎ IsOfCounter s y

-- what holds of each sample that is issued holds of all
module _ (P : Sample → Type 0) (s : Setup) where
  observed : (f : FlowSetup) (own : Turn) (packet : Packet) (b : Boot) → P (flow_sample f own packet b)
      → AllByRecursion P b.issued → AllByRecursion P (after_packet s f own packet b).issued
  observed f own packet b p h = go (is_marked f.skips (1 + seen_in own b)) (nat_lt (length b.staged) s.stage)
    where
      go : (m r : Bool) → AllByRecursion P (with_seen own (cond m
          (cond r (issue (flow_sample f own packet b) b) (with_dropped own b)) b)).issued
      go true true = (p, h)
      go true false = h
      go false r = h

owned-polled : (s : Setup) (now : ℕ) (before : List Event) (due : List CounterSetup) (readings : List Tree) (b : Boot)
    → AllByRecursion (λ (c : CounterSetup). IsAmong c s.counters) due → AllByRecursion (IsOwned s) b.issued
    → AllByRecursion (IsOwned s) (after_poll now before due readings b).issued
owned-polled s now before [] readings b a h = h
owned-polled s now before (c ∷ due) [] b a h = h
owned-polled s now before (c ∷ due) (reading ∷ more) b a h =
    let own : Turn = turn_after c.source before in
    owned-polled s now before due more (with_polled own now (issue (counter_sample c own reading b) b)) a.1 (
      inr (record {
        counter = c;
        there = a.0;
        source = refl;
        pool = refl;
        drops = refl;
        rate = refl;
        reading = reading;
        content = refl;
      }),
      h,
    )

pub issued-owned : (s : Setup) (events : List Event) → MayHappen s events → AllByRecursion (IsOwned s) (happened s events).issued
issued-owned s [] may = tt
issued-owned s (Observe f packet ∷ before) may =
    observed (IsOwned s) s f (turn_after f.source before) packet (happened s before)
    (inl (record { flow = f; there = may.0; source = refl; rate = refl })) (issued-owned s before may.1)
issued-owned s (Poll now readings ∷ before) may =
    let b : Boot = happened s before in
    owned-polled s now before (due_sources s now before b) readings b
    (all-filter (λ (c : CounterSetup). IsAmong c s.counters) (is_due now before b) s.counters
    (all-members s.counters s.counters (λ c a. a))) (issued-owned s before may.2)
issued-owned s (Send now count ∷ before) may = issued-owned s before may.1
issued-owned s (Reset source ∷ before) may = issued-owned s before may.1

-- ---- generations don't go back

module _ (source : Source) where
  abbrev pub Mine : Sample → Type 0
  Mine y = same_source source y.turn.source ≡ true

  abbrev IsUpTo : ℕ → Sample → Type 0
  IsUpTo g y = Mine y → (1 ≤ y.turn.generation) × (y.turn.generation ≤ g)

  abbrev NotAfter : Sample → Sample → Type 0
  NotAfter x y = Mine x → Mine y → y.turn.generation ≤ x.turn.generation

  pub record GoOn (g : ℕ) (xs : List Sample) : Type 0 where
    pub up_to : AllByRecursion (IsUpTo g) xs
    pub order : AllPairs NotAfter xs

  go-on : (g h : ℕ) (xs : List Sample) → g ≤ h → GoOn g xs → GoOn h xs
  go-on g h xs l k = record {
    up_to = all-imply (IsUpTo g) (IsUpTo h) (λ y u m. ((u m).0, at_most y (u m).1)) xs k.up_to;
    order = k.order;
  }
    where
      at_most : (y : Sample) → y.turn.generation ≤ g → y.turn.generation ≤ h
      at_most y a = omega arith

  -- a sample that is issued now is of the current generation of its source
  one-more : (before : List Event) (own : Source) (x : Sample) (xs : List Sample) → x.turn ≡ turn_after own before
      → GoOn (generation_after source before) xs → GoOn (generation_after source before) (x ∷ xs)
  one-more before own x xs is h = record {
    up_to = ((λ m. (first (now m), last (now m))), h.up_to);
    order = (all-imply (IsUpTo (generation_after source before)) (NotAfter x) (λ y u m n. behind y (now m) (u n).1) xs h.up_to, h.order);
  }
    where
      now : Mine x → x.turn.generation ≡ generation_after source before
      now m =
          let e : source ≡ x.turn.source = source-eq source x.turn.source m in
          let f : x.turn.source ≡ own = ap (λ (t : Turn). t.source) is in
          ap (λ (t : Turn). t.generation) is ∙ ap (λ (o : Source). generation_after o before) (sym (e ∙ f))

      first : x.turn.generation ≡ generation_after source before → 1 ≤ x.turn.generation
      first e = omega arith

      last : x.turn.generation ≡ generation_after source before → x.turn.generation ≤ generation_after source before
      last e = omega arith

      behind : (y : Sample) → x.turn.generation ≡ generation_after source before
          → y.turn.generation ≤ generation_after source before → y.turn.generation ≤ x.turn.generation
      behind y e u = omega arith

  polled : (now : ℕ) (before : List Event) (due : List CounterSetup) (readings : List Tree) (b : Boot)
      → GoOn (generation_after source before) b.issued
      → GoOn (generation_after source before) (after_poll now before due readings b).issued
  polled now before [] readings b h = h
  polled now before (c ∷ due) [] b h = h
  polled now before (c ∷ due) (reading ∷ more) b h =
      let own : Turn = turn_after c.source before in
      let x : Sample = counter_sample c own reading b in
      polled now before due more (with_polled own now (issue x b)) (one-more before c.source x b.issued refl h)

  observed-on : (s : Setup) (f : FlowSetup) (packet : Packet) (before : List Event) (b : Boot)
      → GoOn (generation_after source before) b.issued
      → GoOn (generation_after source before) (after_packet s f (turn_after f.source before) packet b).issued
  observed-on s f packet before b h =
      go (is_marked f.skips (1 + seen_in own b)) (nat_lt (length b.staged) s.stage)
    where
      own : Turn
      own = turn_after f.source before

      go : (m r : Bool) → GoOn (generation_after source before) (with_seen own (cond m
          (cond r (issue (flow_sample f own packet b) b) (with_dropped own b)) b)).issued
      go true true = one-more before f.source (flow_sample f own packet b) b.issued refl h
      go true false = h
      go false r = h

  later : (e : Event) (before : List Event) (xs : List Sample) → GoOn (generation_after source before) xs
      → GoOn (generation_after source (e ∷ before)) xs
  later e before xs h =
      let l = count_by-more (is_reset_of source) e before in
      go-on (generation_after source before) (generation_after source (e ∷ before)) xs (omega (arith, l)) h

  pub all-go-on : (s : Setup) (events : List Event) → GoOn (generation_after source events) (happened s events).issued
  all-go-on s [] = record { up_to = tt; order = tt }
  all-go-on s (Observe f packet ∷ before) =
      later (Observe f packet) before (happened s (Observe f packet ∷ before)).issued
      (observed-on s f packet before (happened s before) (all-go-on s before))
  all-go-on s (Poll now readings ∷ before) =
      later (Poll now readings) before (happened s (Poll now readings ∷ before)).issued
      (polled now before (due_sources s now before (happened s before)) readings (happened s before) (all-go-on s before))
  all-go-on s (Send now count ∷ before) = later (Send now count) before (happened s before).issued (all-go-on s before)
  all-go-on s (Reset other ∷ before) = later (Reset other) before (happened s before).issued (all-go-on s before)

-- ---- the order of issue

-- what is known of the samples of a source that are issued in a boot
pub record IsIssued (source : Source) (b : Boot) : Type 0 where
  pub first : AllByRecursion (λ (y : Sample). Mine source y → 1 ≤ y.turn.generation) b.issued
  pub order : AllPairs (λ (x y : Sample). Mine source x → Mine source y → ComesBefore y x) b.issued

abbrev in_generation : Source → ℕ → Turn
in_generation source g = record { source = source; generation = g }

issued-in : (source : Source) (s : Setup) (events : List Event)
    → ((g : ℕ) → AllPairs Grows (samples_in (in_generation source g) (happened s events))) → IsIssued source (happened s events)
issued-in source s events grows = record {
  first = all-imply (IsUpTo source (generation_after source events)) (λ (y : Sample). Mine source y → 1 ≤ y.turn.generation)
      (λ y u m. (u m).0) (happened s events).issued on.up_to;
  order = pairs-both (NotAfter source)
      (λ (x y : Sample). (g : ℕ) → is_sample_of (in_generation source g) x ≡ true → is_sample_of (in_generation source g) y ≡ true → Grows x y)
      (λ (x y : Sample). Mine source x → Mine source y → ComesBefore y x) decide (happened s events).issued on.order
      (pairs-for-all (λ (g : ℕ) (x y : Sample). is_sample_of (in_generation source g) x ≡ true → is_sample_of (in_generation source g) y ≡ true → Grows x y)
      (happened s events).issued
      (λ g. pairs-where Grows (is_sample_of (in_generation source g)) (happened s events).issued (grows g)));
}
  where
    on : GoOn source (generation_after source events) (happened s events).issued
    on = all-go-on source s events

    its-turn : (y : Sample) → Mine source y → is_sample_of (in_generation source y.turn.generation) y ≡ true
    its-turn y m =
        let e : source ≡ y.turn.source = source-eq source y.turn.source m in
        ap (λ (o : Source). same_turn (in_generation o y.turn.generation) y.turn) e ∙ turn-self y.turn

    decide : (x y : Sample) → NotAfter source x y
        → ((g : ℕ) → is_sample_of (in_generation source g) x ≡ true → is_sample_of (in_generation source g) y ≡ true → Grows x y)
        → Mine source x → Mine source y → ComesBefore y x
    decide x y n grows m k = elim (cases_lt y.turn.generation x.turn.generation) [
      | inl less ↦ inl less
      | inr not_less ↦
          let l = n m k in
          let same : y.turn.generation ≡ x.turn.generation = omega (arith, l) in
          let r : Grows x y = grows x.turn.generation (its-turn x m)
          (subst (λ (g : ℕ). is_sample_of (in_generation source g) y ≡ true) same (its-turn y k)) in
          inr (same, r.0, r.1, r.2)
    ]

-- ---- set-ups are one each

module _ {X : Type 0} (key : X → Source) where
  is-there : (x y : X) (xs : List X) → IsAmong y xs → key x ≡ key y → list_any (same_source (key x)) (map key xs) ≡ true
  is-there x y [] h e = absurd h
  is-there x y (z ∷ more) (inl same) e =
      ap (λ (o : Source). same_source (key x) o || list_any (same_source (key x)) (map key more)) (ap key (sym same) ∙ sym e)
      ∙ ap (λ (b : Bool). b || list_any (same_source (key x)) (map key more)) (source-self (key x))
  is-there x y (z ∷ more) (inr h) e = right (same_source (key x) (key z)) (list_any (same_source (key x)) (map key more)) (is-there x y more h e)
    where
      right : (a b : Bool) → b ≡ true → (a || b) ≡ true
      right true b e = refl
      right false b e = e

  pub only-one : (xs : List X) → AreDistinct same_source (map key xs) → (x y : X) → IsAmong x xs → IsAmong y xs
      → same_source (key x) (key y) ≡ true → y ≡ x
  only-one [] once x y a b same = absurd a
  only-one (z ∷ more) once x y (inl e) (inl f) same = f ∙ sym e
  only-one (z ∷ more) once x y (inl e) (inr b) same =
      let k : key z ≡ key y = ap key (sym e) ∙ source-eq (key x) (key y) same in
      let bad : true ≡ false = sym (is-there z y more b k) ∙ once.0 in absurd cc
  only-one (z ∷ more) once x y (inr a) (inl f) same =
      let k : key z ≡ key x = ap key (sym f) ∙ sym (source-eq (key x) (key y) same) in
      let bad : true ≡ false = sym (is-there z x more a k) ∙ once.0 in absurd cc
  only-one (z ∷ more) once x y (inr a) (inr b) same = only-one more once.1 x y a b same

kinds-differ : (a b : Source) → a.flow ≡ true → b.flow ≡ false → same_source a b ≡ true → ⊥
kinds-differ a b p q same =
    let bad : true ≡ false = sym p ∙ ap (λ (o : Source). o.flow) (source-eq a b same) ∙ q in absurd cc

not-same : (a b : Source) → (same_source a b ≡ true → ⊥) → same_source a b ≡ false
not-same a b never = go (same_source a b) refl
  where
    go : (c : Bool) → same_source a b ≡ c → c ≡ false
    go true e = absurd (never e)
    go false e = refl

-- ---- a source of flow samples

module _ (s : Setup) (set_up : IsSetUp s) where
  flow-kind : (f : FlowSetup) → IsAmong f s.flows → f.source.flow ≡ true
  flow-kind f there = all-among (λ (g : FlowSetup). g.source.flow ≡ true) f s.flows there set_up.flows

  counter-kind : (c : CounterSetup) → IsAmong c s.counters → c.source.flow ≡ false
  counter-kind c there = all-among (λ (g : CounterSetup). g.source.flow ≡ false) c s.counters there set_up.counters

  one-setup : (f : FlowSetup) → IsAmong f s.flows → HasOneSetup f s
  one-setup f there = record {
    flows = λ g among same. only-one (λ (h : FlowSetup). h.source) s.flows set_up.flows_once f g there among same;
    counters = all-imply (λ (c : CounterSetup). c.source.flow ≡ false) (λ (c : CounterSetup). same_source f.source c.source ≡ false)
        (λ c k. not-same f.source c.source (kinds-differ f.source c.source (flow-kind f there) k)) s.counters set_up.counters;
  }

  pub flow-issued : (f : FlowSetup) (events : List Event) → IsAmong f s.flows → MayHappen s events
      → IsIssued f.source (happened s events)
  flow-issued f events there may = issued-in f.source s events (λ g.
      grow f.first (samples_in (in_generation f.source g) (happened s events))
      (numbered (in_generation f.source g) f.first s events (begins f s events (one-setup f there) may))
      (never-falls (samples_in (in_generation f.source g) (happened s events))
      (never-fall s f events g (only f s events (one-setup f there) may))))

  -- ---- a source of counters samples

  counter-begins : (c : CounterSetup) → IsAmong c s.counters → (events : List Event) → MayHappen s events
      → AllByRecursion (NumbersBegin c.source c.first) events
  counter-begins c there [] may = tt
  counter-begins c there (Observe f packet ∷ before) may = (
    (λ same. absurd (kinds-differ f.source c.source (flow-kind f may.0) (counter-kind c there)
        (ap (λ (o : Source). same_source o c.source) (sym (source-eq c.source f.source same)) ∙ source-self c.source))),
    counter-begins c there before may.1,
  )
  counter-begins c there (Poll now readings ∷ before) may = (tt, counter-begins c there before may.2)
  counter-begins c there (Send now count ∷ before) may = (tt, counter-begins c there before may.1)
  counter-begins c there (Reset source ∷ before) may = (tt, counter-begins c there before may.1)

  no-counts : (c : CounterSetup) → IsAmong c s.counters → (y : Sample) → IsOwned s y → same_source c.source y.turn.source ≡ true → HasNoCounts y
  no-counts c there y (inl o) same = absurd (kinds-differ o.flow.source c.source (flow-kind o.flow o.there) (counter-kind c there)
      (ap (λ (a : Source). same_source a c.source) (sym (source-eq c.source y.turn.source same ∙ o.source)) ∙ source-self c.source))
  no-counts c there y (inr o) same = (o.pool, o.drops)

  pub counter-issued : (c : CounterSetup) (events : List Event) → IsAmong c s.counters → MayHappen s events
      → IsIssued c.source (happened s events)
  counter-issued c events there may = issued-in c.source s events (λ g.
      let t : Turn = in_generation c.source g in
      grow c.first (samples_in t (happened s events))
      (numbered t c.first s events (record {
        packets = counter-begins c there events may;
        counters = all-imply (λ (d : CounterSetup). IsAmong d s.counters) (λ (d : CounterSetup). same_source c.source d.source ≡ true → d.first ≡ c.first)
            (λ d a same. ap (λ (k : CounterSetup). k.first) (only-one (λ (k : CounterSetup). k.source) s.counters set_up.counters_once c d there a same))
            s.counters (all-members s.counters s.counters (λ d a. a));
      }))
      (zeros-dont (samples_in t (happened s events))
      (all-both (λ (y : Sample). is_sample_of t y ≡ true) (IsOwned s) HasNoCounts
      (λ y m o. no-counts c there y o (turn-source t y.turn m)) (samples_in t (happened s events))
      (all-passing (is_sample_of t) (happened s events).issued)
      (all-filter (IsOwned s) (is_sample_of t) (happened s events).issued (issued-owned s events may)))))

  -- ---- the rate

  pub flow-rates : (f : FlowSetup) (events : List Event) → IsAmong f s.flows → MayHappen s events
      → AllByRecursion (λ (y : Sample). Mine f.source y → y.rate ≡ f.rate) (happened s events).issued
  flow-rates f events there may = all-imply (IsOwned s) (λ (y : Sample). Mine f.source y → y.rate ≡ f.rate) rated
      (happened s events).issued (issued-owned s events may)
    where
      rated : (y : Sample) → IsOwned s y → Mine f.source y → y.rate ≡ f.rate
      rated y (inl o) m =
          let same : same_source f.source o.flow.source ≡ true =
          ap (λ (a : Source). same_source f.source a) (sym o.source) ∙ m in
          o.rate ∙ ap (λ (g : FlowSetup). g.rate) (only-one (λ (h : FlowSetup). h.source) s.flows set_up.flows_once f o.flow there o.there same)
      rated y (inr o) m = absurd (kinds-differ f.source o.counter.source (flow-kind f there) (counter-kind o.counter o.there)
          (ap (λ (a : Source). same_source f.source a) (sym o.source) ∙ m))

  pub counter-rates : (c : CounterSetup) (events : List Event) → IsAmong c s.counters → MayHappen s events
      → AllByRecursion (λ (y : Sample). Mine c.source y → y.rate ≡ 0) (happened s events).issued
  counter-rates c events there may = all-imply (IsOwned s) (λ (y : Sample). Mine c.source y → y.rate ≡ 0) rated
      (happened s events).issued (issued-owned s events may)
    where
      rated : (y : Sample) → IsOwned s y → Mine c.source y → y.rate ≡ 0
      rated y (inl o) m = absurd (kinds-differ o.flow.source c.source (flow-kind o.flow o.there) (counter-kind c there)
          (ap (λ (a : Source). same_source a c.source) (sym (source-eq c.source y.turn.source m ∙ o.source)) ∙ source-self c.source))
      rated y (inr o) m = o.rate

  pub kind-of-flow : (f : FlowSetup) → IsAmong f s.flows → f.source.flow ≡ true
  kind-of-flow f there = flow-kind f there

  pub kind-of-counter : (c : CounterSetup) → IsAmong c s.counters → c.source.flow ≡ false
  kind-of-counter c there = counter-kind c there

  pub counter-contents : (c : CounterSetup) (events : List Event) → IsAmong c s.counters → MayHappen s events
      → AllByRecursion (λ (y : Sample). Mine c.source y → Carries y.content) (happened s events).issued
  counter-contents c events there may = all-imply (IsOwned s) (λ (y : Sample). Mine c.source y → Carries y.content) carry
      (happened s events).issued (issued-owned s events may)
    where
      carry : (y : Sample) → IsOwned s y → Mine c.source y → Carries y.content
      carry y (inl o) m = absurd (kinds-differ o.flow.source c.source (flow-kind o.flow o.there) (counter-kind c there)
          (ap (λ (a : Source). same_source a c.source) (sym (source-eq c.source y.turn.source m ∙ o.source)) ∙ source-self c.source))
      carry y (inr o) m = subst Carries (sym o.content) tt
