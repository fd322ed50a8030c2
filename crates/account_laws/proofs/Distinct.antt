-- A source's received is how many distinct samples the delivered datagrams hold, where nothing is stale or late.
use Rattle.std.proofs.Common.{◌≡◌, ℕ, suc, ◌-◌, ◌≤◌, inl, inr, Bool, true, false, cond, List, [], ◌∷◌, ◌++◌, length, map, refl, sym, ap, subst, ◌∙◌, arith}
use Rattle.std.specs.List.{AllByRecursion}
use Rattle.std.proofs.lemmas.Bool.{cases_order, ltb-false}
use Rattle.count_spec.specs.Stretches.{placed}
use Rattle.count_spec.specs.TrueStretches.{newest_index, is_past, true_stretches, past_items, true_place}
use Rattle.count_spec.specs.declared.stretch_place.StretchPlace.TheVariants.{Current}
use Rattle.count_spec.proofs.TrueStretches.{AreNumbered, true_stretches-step}
use Rattle.books_spec.specs.declared.limits.Limits.{Limits}
use Rattle.books_spec.specs.Views.{closed_sum, sum_over}
use Rattle.books_spec.specs.Items.{SourceId, Source}
use Rattle.books_spec.specs.Listing.{same_source, among}
use Rattle.agent_spec.specs.Sources.{FlowSetup, CounterSetup}
use Rattle.agent_spec.specs.Sources as agents
use Rattle.agent_spec.specs.Samples.{Sample}
use Rattle.agent_spec.specs.Boots.{happened, IsAmong}
use Rattle.account_spec.specs.Histories.{SubAgent, events_of, agent_of, flow_sources, counter_sources, IsSubAgent}
use Rattle.account_spec.specs.Deliveries.{Delivery, boot_of, number_of, numbers_of, deliveries_of, id_of}
use Rattle.account_spec.specs.TrueNumbers.{is_late, in_time, true_figures}
use Rattle.account_spec.specs.Arrivals.{Arrived, generation_of, source_boots}
use Rattle.account_spec.specs.Accounts.{generations_of, figures_over, ledger_account, rate_among, delivered_sources, line_account}
use Rattle.account_laws.specs.Found.{LesserPremises}
use Rattle.account_laws.specs.Distinct.{distinct_samples, AreAllInTime}
use Rattle.account_laws.proofs.Lists.{among-map}
use Rattle.account_laws.proofs.Parts.{all_of, each-before, HasCurrent, current, current-all, place-same}
use Rattle.account_laws.proofs.Views.{BootSamples, samples_of, AllFair, IsGood, good-over}
use Rattle.account_laws.proofs.Issued.{IsIssued, flow-issued, counter-issued, flow-rates, counter-rates, Mine}
use Rattle.account_laws.proofs.Agents.{is-sub_agent, may-happen, own-sent, own-numbered, IsKnown, OfFlow, OfCounter}
use Rattle.account_laws.proofs.Streams.{boot_samples, samples-all, fair-of, among-behind}
use Rattle.account_laws.proofs.Whole.{is-listed, IsListed}
use Rattle.account_laws.proofs.Totals.{all-delivered, in_time-most}
use Rattle.account_laws.proofs.Punctual.{AreInTime, none-later, delivered_count, among-front}
use Rattle.account_laws.proofs.Held.{delivered-once}

-- ---- no delivery is stale or late

abbrev IsWhole : ℕ → List Delivery → Type 0
IsWhole w s = length (numbers_of s) - length (in_time w (numbers_of s)) ≡ 0

whole-tail : (w : ℕ) (d : Delivery) (s : List Delivery) → IsWhole w (d ∷ s)
    → (is_late w (numbers_of s) (number_of d) ≡ false) × IsWhole w s
whole-tail w d s h = go (is_late w (numbers_of s) (number_of d)) (in_time-most w (numbers_of s)) h
  where
    go : (b : Bool) → length (in_time w (numbers_of s)) ≤ length (numbers_of s)
        → suc (length (numbers_of s)) - length (cond b (in_time w (numbers_of s)) (number_of d ∷ in_time w (numbers_of s))) ≡ 0
        → (b ≡ false) × IsWhole w s
    go true most k = absurd (never (length (numbers_of s)) (length (in_time w (numbers_of s))) most k)
      where
        never : (n m : ℕ) → m ≤ n → suc n - m ≡ 0 → ⊥
        never n m a b = omega arith
    go false most k = (refl, less (length (numbers_of s)) (length (in_time w (numbers_of s))) k)
      where
        less : (n m : ℕ) → suc n - suc m ≡ 0 → n - m ≡ 0
        less n m a = omega arith

abbrev AllWhole : ℕ → List Delivery → Type 0
AllWhole w ds = AllByRecursion (IsWhole w) (true_stretches boot_of ds)

in-time : (w : ℕ) (ds : List Delivery) → AreNumbered boot_of ds → length (past_items boot_of ds) ≡ 0 → AllWhole w ds → AreInTime w ds
in-time w [] numbered past h = tt
in-time w (d ∷ before) numbered past h =
    let p = none-past (is_past boot_of before d) refl past in
    let step = subst (AllByRecursion (IsWhole w)) (true_stretches-step boot_of d before numbered) h in (
      p.0,
      punctual before numbered p.0 h,
      in-time w before numbered.1 p.1
          (each-before (IsWhole w) (λ x s k. (whole-tail w x s k).1) (true_place boot_of before d) d (true_stretches boot_of before) step),
    )
  where
    none-past : (b : Bool) → is_past boot_of before d ≡ b → length (cond b (d ∷ past_items boot_of before) (past_items boot_of before)) ≡ 0
        → (newest_index boot_of before ≤ boot_of d) × (length (past_items boot_of before) ≡ 0)
    none-past true e k = absurd (omega arith)
    none-past false e k = (ltb-false (boot_of d) (newest_index boot_of before) e, k)

    punctual : (us : List Delivery) → AreNumbered boot_of (d ∷ us) → newest_index boot_of us ≤ boot_of d → AllWhole w (d ∷ us)
        → is_late w (numbers_of (all_of boot_of d.boot us)) (number_of d) ≡ false
    punctual [] n top k = refl
    punctual (e ∷ more) n top k = elim (cases_order (boot_of d) (newest_index boot_of (e ∷ more))) [
      | inl same ↦
          let us : List Delivery = e ∷ more in
          let c : HasCurrent boot_of us = current boot_of e more n.1 in
          let is : c.head ∷ c.tail ≡ all_of boot_of d.boot us = current-all boot_of us c ∙ ap (λ (i : ℕ). all_of boot_of i us) (sym same) in
          let first = (subst (AllByRecursion (IsWhole w)) (true_stretches-step boot_of d us n
          ∙ ap (λ p. placed p d (true_stretches boot_of us)) (place-same boot_of d us same)
          ∙ ap (λ ss. placed Current d ss) c.are) k).0 in
          sym (ap (λ (s : List Delivery). is_late w (numbers_of s) (number_of d)) is) ∙ (whole-tail w d (c.head ∷ c.tail) first).0
      | inr other ↦ elim other [
        | inl earlier ↦ absurd (omega arith)
        | inr above ↦ ap (λ (s : List Delivery). is_late w (numbers_of s) (number_of d)) (none-later d.boot (e ∷ more) above)
      ]
    ]

-- what is late of a stream is late of each of its boots
closed-whole : (w : ℕ) (ss : List (List Delivery)) → (closed_sum (map (λ boot. true_figures w (numbers_of boot)) ss)).late ≡ 0
    → AllByRecursion (IsWhole w) ss
closed-whole w [] h = tt
closed-whole w (s ∷ ss) h = (omega arith, closed-whole w ss (omega arith))

all-whole : (w : ℕ) (ss : List (List Delivery)) → (sum_over (map (λ boot. true_figures w (numbers_of boot)) ss)).late ≡ 0
    → AllByRecursion (IsWhole w) ss
all-whole w [] h = tt
all-whole w (s ∷ ss) h = (omega arith, closed-whole w ss (omega arith))

-- ---- of a source

module _ (l : Limits) (history : List SubAgent) (ds : List Delivery) (p : LesserPremises l history ds) (source : Source) where
  abbrev w : ℕ
  w = l.datagram_width

  abbrev own : List Delivery
  own = deliveries_of source.stream ds

  abbrev boots : List (List Arrived)
  boots = source_boots w source.id own

  ledger-received : (flow : Bool) (rate : ℕ) → (ledger_account flow l.sample_width rate (generations_of boots)).received ≡ (figures_over l.sample_width (generations_of boots)).received
  ledger-received true rate = refl
  ledger-received false rate = refl

  ledger-late : (flow : Bool) (rate : ℕ) → (ledger_account flow l.sample_width rate (generations_of boots)).late ≡ (figures_over l.sample_width (generations_of boots)).late
  ledger-late true rate = refl
  ledger-late false rate = refl

  received-is : (rate : ℕ) → AreAllInTime l history ds source
      → AllFair l.sample_width rate (map (boot_samples w source.id) (true_stretches boot_of own))
      → (line_account l history ds source).view.ledger.received ≡ delivered_count w source.id own
  received-is rate h fair =
      let bs : List BootSamples = map (boot_samples w source.id) (true_stretches boot_of own) in
      let same : map samples_of bs ≡ boots = samples-all w source.id (true_stretches boot_of own) in
      let good = subst (λ (b : List (List Arrived)). AllByRecursion (IsGood l.sample_width rate) (generations_of b)) same (good-over l.sample_width rate bs fair) in
      let numbered = subst (λ (b : List (List Arrived)). AllByRecursion (λ (xs : List Arrived). AreNumbered generation_of xs) b) same (all-numbered bs fair) in
      let sum = all-delivered l.sample_width rate boots numbered good in
      let r : ℕ = rate_among (agent_of history source.stream).setup.flows source in
      let a = ledger-received source.id.flow r in
      let b = ledger-late source.id.flow r in
      let c = h.stale_samples in
      let d = h.late_samples in
      omega (arith, sum, a, b, c, d)
    where
      all-numbered : (bs : List BootSamples) → AllFair l.sample_width rate bs
          → AllByRecursion (λ (xs : List Arrived). AreNumbered generation_of xs) (map samples_of bs)
      all-numbered [] k = tt
      all-numbered (b ∷ more) k = (k.0.sound.numbered, all-numbered more k.1)

  all-punctual : AreAllInTime l history ds source → AreInTime w own
  all-punctual h = in-time w own (own-numbered history ds p.sent source.stream) h.stale (all-whole w (true_stretches boot_of own) h.late)

  of-source : (s : agents.Source) (rate : ℕ) → source.id ≡ id_of s
      → IsAmong s (flow_sources (agent_of history source.stream).setup ++ counter_sources (agent_of history source.stream).setup)
      → ((boot : ℕ) → IsIssued s (happened (agent_of history source.stream).setup (events_of (agent_of history source.stream).boots boot)))
      → ((boot : ℕ) → AllByRecursion (λ (y : Sample). Mine s y → y.rate ≡ rate)
      (happened (agent_of history source.stream).setup (events_of (agent_of history source.stream).boots boot)).issued)
      → AreAllInTime l history ds source
      → (line_account l history ds source).view.ledger.received ≡ distinct_samples source.id own
  of-source s rate id there issued rates h =
      received-is rate h (subst (λ (i : SourceId). AllFair l.sample_width rate (map (boot_samples w i) (true_stretches boot_of own))) (sym id)
      (fair-of l history ds p source.stream s rate there issued rates))
      ∙ subst (λ (i : SourceId). delivered_count w i own ≡ distinct_samples i own) (sym id)
      (delivered-once (agent_of history source.stream) s issued w own (own-sent history ds p.sent source.stream)
      (own-numbered history ds p.sent source.stream) (all-punctual h))

  known-received : IsKnown (agent_of history source.stream).setup source.id → AreAllInTime l history ds source
      → (line_account l history ds source).view.ledger.received ≡ distinct_samples source.id own
  known-received (OfFlow f among id) h =
      let a : SubAgent = agent_of history source.stream in
      let k : IsSubAgent a = is-sub_agent history source.stream p.history_is in
      of-source f.source f.rate id
      (among-front f.source (flow_sources a.setup) (counter_sources a.setup) (among-map (λ (g : FlowSetup). g.source) f a.setup.flows among))
      (λ i. flow-issued a.setup k.setup f (events_of a.boots i) among (may-happen a k i))
      (λ i. flow-rates a.setup k.setup f (events_of a.boots i) among (may-happen a k i)) h
  known-received (OfCounter c among id) h =
      let a : SubAgent = agent_of history source.stream in
      let k : IsSubAgent a = is-sub_agent history source.stream p.history_is in
      of-source c.source 0 id
      (among-behind l history ds p c.source (flow_sources a.setup) (counter_sources a.setup) (among-map (λ (d : CounterSetup). d.source) c a.setup.counters among))
      (λ i. counter-issued a.setup k.setup c (events_of a.boots i) among (may-happen a k i))
      (λ i. counter-rates a.setup k.setup c (events_of a.boots i) among (may-happen a k i)) h

  pub received-distinct : among same_source (delivered_sources w ds) source ≡ true → AreAllInTime l history ds source
      → (line_account l history ds source).view.ledger.received ≡ distinct_samples source.id own
  received-distinct there h = let k : IsListed l history ds p source = is-listed l history ds p source there in known-received k.known h
