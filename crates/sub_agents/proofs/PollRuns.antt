-- A poll, source by source.
use Rattle.std.proofs.Common.{◌≡◌, ℕ, zero, suc, ◌+◌, ◌<◌, ◌≤◌, min, inl, inr, Bool, true, false, List, [], ◌∷◌, ◌++◌, length, map, take, drop, set, reverse, filter, take-append-drop, refl, sym, ap, subst, ◌∙◌, arith, length-append, length-set, take_all}
use Rattle.std.specs.Prelude.{slice_get, Result, Ok, Err, OnOk, OnErr, is_err}
use Rattle.std.proofs.lemmas.Bool.{cases_Bool}
use Rattle.std.proofs.lemmas.List.{length-reverse}
use Rattle.std.specs.declared.option.Option.TheVariants.{Some}
use Rattle.circular_buffer.specs.Buffer.{buffer}
use Rattle.wire_spec.specs.Shapes.{Tree}
use Rattle.data_format.specs.Records.{Content}
use Rattle.data_format.specs.declared.source.SourceId.{SourceId}
use Rattle.rec_counters.specs.Contents.{interface_content}
use Rattle.agent_spec.specs.Sources as spec
use Rattle.agent_spec.specs.Samples.{Setup}
use Rattle.agent_spec.specs.Events.{Event}
use Rattle.agent_spec.specs.Boots.{Boot, is_due, due_sources, after_poll}
use Rattle.agent_poller.specs.Polling.{PollerState}
use Rattle.sub_agents.specs.declared.staged.Staged.TheVariants.{Counters}
use Rattle.sub_agents.specs.Setups.{form_of}
use Rattle.sub_agents.specs.Staged.{staged_value, sample_value}
use Rattle.sub_agents.specs.Counts.{counter_setup}
use Rattle.sub_agents.specs.Polls.{is_due_at, due_ids, places, Gave, Polled, PolledOne}
use Rattle.sub_agents.specs.SubAgents.{SubAgentState, sender_of, setup_of, BootSoFar, so_far, HasCountsOf, StandsFor}
use Rattle.sub_agents.proofs.Cuts.{map-length}
use Rattle.sub_agents.proofs.Lists.{map-set}
use Rattle.sub_agents.proofs.PollLists.{take-next, get-map, filter-at, front-length, one-more, no-more, gave-last}
use Rattle.sub_agents.proofs.PollSteps.{nothing-read, read-last, due-are, polled-step, polled-counts}

module _ {X : Type 0} where
  pub some-get : (xs : List X) (i : ℕ) → i < length xs → (x : X) × (slice_get xs i ≡ Some x)
  some-get [] i h = absurd (omega (arith, h))
  some-get (z ∷ more) zero h = (z, refl)
  some-get (z ∷ more) (suc i) h = some-get more i (omega (arith, h))

  get-other : (xs : List X) (n i : ℕ) (y : X) → n < i → slice_get (set xs n y) i ≡ slice_get xs i
  get-other [] n i y h = refl
  get-other (z ∷ more) zero zero y h = absurd (omega (arith, h))
  get-other (z ∷ more) zero (suc i) y h = refl
  get-other (z ∷ more) (suc n) zero y h = absurd (omega (arith, h))
  get-other (z ∷ more) (suc n) (suc i) y h = get-other more n i y (omega (arith, h))

pub when-err : {T E A : Type 0} (r : Result T E) (b : Bool) → b ≡ is_err r → b ≡ true → OnErr r A → A
when-err (Ok x) b e due h = let bad : true ≡ false = sym due ∙ e in absurd cc
when-err (Err x) b e due h = h

pub when-ok : {T E A : Type 0} (r : Result T E) (b : Bool) → b ≡ is_err r → b ≡ false → OnOk r A → A
when-ok (Ok x) b e other h = h
when-ok (Err x) b e other h = let bad : false ≡ true = sym other ∙ e in absurd cc

abbrev due_front : SubAgentState → ℕ → ℕ → ℕ
due_front s now place = length (filter (is_due_at now) (take place s.pollers))

module _ {M : Type 0} (gives : M → SourceId → Content → M → Type 0) (faults : M → ℕ) where
  -- the sources before a place were polled, while there were places
  pub record IsPolling (s v : SubAgentState) (now place count : ℕ) (before m : M) : Type 0 where
    pub rest : (i : ℕ) (p : PollerState) → place ≤ i → slice_get v.pollers i ≡ Some p → slice_get s.pollers i ≡ Some p
    pub many : length v.pollers ≡ length s.pollers
    pub same : v ≡ record s { pollers = v.pollers; stage = buffer v.stage.items s.stage.capacity }
    pub setups : map counter_setup v.pollers ≡ map counter_setup s.pollers
    pub staged : length v.stage.items ≡ length s.stage.items + count
    pub counted : count ≡ min (length (filter (is_due_at now) (take place s.pollers))) (places s)
    pub readings : List Tree
    pub read : length readings ≡ count
    pub gave : Gave gives faults (take count (due_ids s now)) readings before m
    pub kept : faults m ≡ faults before
    pub counts : (b : BootSoFar) → StandsFor s b
        → HasCountsOf v b.events (after_poll now b.events (due_sources b.setup now b.events (so_far b)) readings (so_far b))

  pub polling-start : (s : SubAgentState) (now : ℕ) (m : M) → IsPolling s s now 0 0 m m
  polling-start s now m =
      let none : due_front s now 0 ≡ 0 = refl in
      record {
        rest = λ i p h e. e;
        many = refl;
        same = refl;
        setups = refl;
        staged = omega arith;
        counted = omega (arith, none);
        readings = [];
        read = refl;
        gave = refl;
        kept = refl;
        counts = λ b h. subst (λ (k : Boot). HasCountsOf s b.events k)
            (nothing-read now b.events (due_sources b.setup now b.events (so_far b)) (so_far b)) h.counts;
      }

  -- a source isn't polled
  skipped : (s v : SubAgentState) (now place count : ℕ) (before m : M) → IsPolling s v now place count before m
      → count ≡ min (length (filter (is_due_at now) (take (place + 1) s.pollers))) (places s)
      → IsPolling s v now (place + 1) count before m
  skipped s v now place count before m h counted = record {
    rest = λ i p k e. h.rest i p (omega (arith, k)) e;
    many = h.many;
    same = h.same;
    setups = h.setups;
    staged = h.staged;
    counted = counted;
    readings = h.readings;
    read = h.read;
    gave = h.gave;
    kept = h.kept;
    counts = h.counts;
  }

  pub polling-full : (s v : SubAgentState) (now place count : ℕ) (before m : M) → IsPolling s v now place count before m
      → places s ≤ count → place < length s.pollers → IsPolling s v now (place + 1) count before m
  polling-full s v now place count before m h full within =
      let some = some-get s.pollers place within in
      skipped s v now place count before m h (elim (cases_Bool (is_due_at now some.0)) [
        | inl due_now ↦
            omega (arith, h.counted, full, one-more (is_due_at now) s.pollers place some.0 some.1 due_now)
        | inr later ↦
            omega (arith, h.counted, full, no-more (is_due_at now) s.pollers place some.0 some.1 later)
      ])

  pub polling-later : (s v : SubAgentState) (now place count : ℕ) (before m : M) (p : PollerState)
      → IsPolling s v now place count before m → slice_get v.pollers place ≡ Some p → is_due_at now p ≡ false
      → IsPolling s v now (place + 1) count before m
  polling-later s v now place count before m p h at later =
      skipped s v now place count before m h
      (omega (arith, h.counted, no-more (is_due_at now) s.pollers place p (h.rest place p (omega arith) at) later))

  -- a source is polled
  pub polling-step : (s v new : SubAgentState) (now place count : ℕ) (before m then : M)
      → IsPolling s v now place count before m → (one : PolledOne gives faults v new place now m then) → count < places s
      → is_due_at now one.old ≡ true → IsPolling s new now (place + 1) (count + 1) before then
  polling-step s v new now place count before m then h one free due_now =
      let p : PollerState = one.old in
      let q : PollerState = one.polled in
      let D : PollerState → Bool = is_due_at now in
      let r : Tree = (interface_content one.sample.counters).0 in
      let at : slice_get s.pollers place ≡ Some p = h.rest place p (omega arith) one.at in
      let front : length (filter D (take place s.pollers)) ≡ count = omega (arith, h.counted, free) in
      let nth : slice_get (filter D s.pollers) count ≡ Some p =
      subst (λ (n : ℕ). slice_get (filter D s.pollers) n ≡ Some p) front (filter-at D s.pollers place p at due_now) in
      let next : count + 1 ≡ suc count = omega arith in
      let ids : take (count + 1) (due_ids s now) ≡ take count (due_ids s now) ++ p.source ∷ [] =
      ap (λ (n : ℕ). take n (due_ids s now)) next
      ∙ take-next (due_ids s now) count p.source (get-map (λ (k : PollerState). k.source) (filter D s.pollers) count p nth) in
      let gave : gives m p.source (r, []) then =
      subst (λ (t : List ℕ). gives m p.source (r, t) then) one.tail one.gave in
      let pollers : new.pollers ≡ set v.pollers place q = ap (λ (k : SubAgentState). k.pollers) one.after_it in
      let items : new.stage.items ≡ v.stage.items ++ Counters one.sample ∷ [] =
      ap (λ (k : SubAgentState). k.stage.items) one.after_it in
      let room : v.stage.capacity ≡ s.stage.capacity = ap (λ (k : SubAgentState). k.stage.capacity) h.same in
      let shape : record v { pollers = set v.pollers place q; stage = buffer (v.stage.items ++ Counters one.sample ∷ []) v.stage.capacity }
      ≡ record s { pollers = set v.pollers place q; stage = buffer (v.stage.items ++ Counters one.sample ∷ []) s.stage.capacity } =
      (λ i. record (h.same i) { pollers = set v.pollers place q; stage = buffer (v.stage.items ++ Counters one.sample ∷ []) (room i) }) in
      record {
        rest = λ i k further e. h.rest i k (omega (arith, further))
            (sym (get-other v.pollers place i q (omega (arith, further)))
            ∙ subst (λ (l : List PollerState). slice_get l i ≡ Some k) pollers e);
        many = ap length pollers ∙ length-set v.pollers place q ∙ h.many;
        same = one.after_it ∙ shape ∙ (λ i. record s { pollers = sym pollers i; stage = buffer (sym items i) s.stage.capacity });
        setups = ap (map counter_setup) pollers ∙ map-set counter_setup v.pollers place p q one.at one.setup ∙ h.setups;
        staged = omega (arith, ap length items, length-append v.stage.items (Counters one.sample ∷ []), h.staged);
        counted = omega (arith, h.counted, free, one-more D s.pollers place p at due_now);
        readings = h.readings ++ r ∷ [];
        read = omega (arith, length-append h.readings (r ∷ []), h.read);
        gave = subst (λ (l : List SourceId). Gave gives faults l (h.readings ++ r ∷ []) before then) (sym ids)
            (gave-last gives faults (take count (due_ids s now)) h.readings p.source r before m then h.gave gave);
        kept = one.kept ∙ h.kept;
        counts = λ b st.
            let ev : List Event = b.events in
            let B : Boot = so_far b in
            let due : List spec.CounterSetup = due_sources b.setup now ev B in
            let are : map counter_setup (filter D s.pollers) ≡ due =
            due-are now ev B s.pollers st.counts.pollers
            ∙ ap (λ (k : Setup). filter (is_due now ev B) k.counters) st.setup in
            let nth_due : slice_get due (length h.readings) ≡ Some (counter_setup p) =
            subst (λ (l : List spec.CounterSetup). slice_get l (length h.readings) ≡ Some (counter_setup p)) are
            (subst (λ (n : ℕ). slice_get (map counter_setup (filter D s.pollers)) n ≡ Some (counter_setup p)) (sym h.read)
            (get-map counter_setup (filter D s.pollers) count p nth)) in
            let step = polled-step v ev (after_poll now ev due h.readings B) place p q one.sample now (h.counts b st)
            one.apart one.at one.setup one.stands one.number one.source in
            subst (λ (k : SubAgentState). HasCountsOf k ev (after_poll now ev due (h.readings ++ r ∷ []) B)) (sym one.after_it)
            (subst (λ (k : Boot). HasCountsOf (record v { pollers = set v.pollers place q; stage = buffer (v.stage.items ++ Counters one.sample ∷ []) v.stage.capacity }) ev k)
            (sym (read-last now ev due h.readings r B (counter_setup p) nth_due)) step);
      }

  -- what it stands for then
  pub polling-stands : (s v : SubAgentState) (now place count : ℕ) (before m : M) → IsPolling s v now place count before m
      → length s.stage.items ≤ s.stage.capacity → (b : BootSoFar) → StandsFor s b
      → (p : Polled gives faults s v b now before m) × (length p.readings ≡ count)
  polling-stands s v now place count before m h within b st =
      let D : PollerState → Bool = is_due_at now in
      let B : Boot = so_far b in
      let due : List spec.CounterSetup = due_sources b.setup now b.events B in
      let are : map counter_setup (filter D s.pollers) ≡ due =
      due-are now b.events B s.pollers st.counts.pollers
      ∙ ap (λ (k : Setup). filter (is_due now b.events B) k.counters) st.setup in
      let whole : length (filter D (take place s.pollers ++ drop place s.pollers))
      ≡ length (filter D (take place s.pollers)) + length (filter D (drop place s.pollers)) =
      front-length D (take place s.pollers) (drop place s.pollers) in
      let all : length (filter D s.pollers) ≡ length (filter D (take place s.pollers)) + length (filter D (drop place s.pollers)) =
      ap (λ (l : List PollerState). length (filter D l)) (sym (take-append-drop place s.pollers)) ∙ whole in
      let size : length due ≡ length (filter D s.pollers) =
      ap length (sym are) ∙ map-length counter_setup (filter D s.pollers) in
      let few : length h.readings ≤ length due = omega (arith, h.read, h.counted, all, size) in
      let held : length s.stage.items ≡ length B.staged = omega (
        arith,
        map-length (staged_value s.form) s.stage.items,
        ap length st.counts.staged,
        map-length (sample_value (form_of s.form)) (reverse B.staged),
        length-reverse B.staged,
      ) in
      let room : s.stage.capacity ≡ b.setup.stage = ap (λ (k : Setup). k.stage) st.setup in
      let fit : length B.staged + length h.readings ≤ b.setup.stage =
      omega (arith, held, room, h.read, h.counted, within) in (
        record {
          readings = h.readings;
          gave = subst (λ (n : ℕ). Gave gives faults (take n (due_ids s now)) h.readings before m) (sym h.read) h.gave;
          kept = h.kept;
          stands = record {
            sender = ap sender_of h.same ∙ st.sender;
            setup = ap setup_of h.same ∙ (λ i. record (setup_of s) { counters = h.setups i }) ∙ st.setup;
            number = ap (λ (k : SubAgentState). k.boot) h.same ∙ st.number;
            lawful = (few, fit, st.lawful);
            counts = polled-counts v b.events (after_poll now b.events due h.readings B) now h.readings (h.counts b st);
          };
        },
        h.read,
      )

  -- all were asked
  pub polling-all : (s v : SubAgentState) (now place count : ℕ) (before m : M) → IsPolling s v now place count before m
      → length s.pollers ≤ place → count ≡ min (length (due_ids s now)) (places s)
  polling-all s v now place count before m h end =
      let all : take place s.pollers ≡ s.pollers = take_all place s.pollers (omega (arith, end)) in
      let size : length (due_ids s now) ≡ length (filter (is_due_at now) s.pollers) =
      map-length (λ (k : PollerState). k.source) (filter (is_due_at now) s.pollers) in
      omega (arith, h.counted, size, ap (λ (l : List PollerState). length (filter (is_due_at now) l)) all)
