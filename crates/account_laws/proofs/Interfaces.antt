-- What is shown of interface counters is what they truly were.
use Rattle.std.proofs.Common.{◌≡◌, ℕ, ◌+◌, ◌⊎◌, inl, inr, Bool, true, false, cond, List, [], ◌∷◌, map, refl, sym, ap, subst, ◌∙◌}
use Rattle.std.specs.Prelude.{Option, Some, None}
use Rattle.std.specs.List.{AllByRecursion, filter_map, cons_option, position_or_len}
use Rattle.count_spec.specs.TrueStretches.{stretch_of, indexes, true_stretches}
use Rattle.books_spec.specs.declared.limits.Limits.{Limits}
use Rattle.books_spec.specs.InterfaceRise.{interface_shown, first_counters}
use Rattle.books_spec.specs.Items.{SourceId, Stream, Source}
use Rattle.books_spec.specs.Listing.{same_stream, same_source, among}
use Rattle.books_spec.specs.Books.{stream_number}
use Rattle.books_spec.specs.PlacedSamples.{interface_samples, interface_boots}
use Rattle.books_spec.specs.WholeBooks.{carried, interface_of, with_view, interface_line, whole_books}
use Rattle.books_spec.proofs.Keys.{source-same}
use Rattle.agent_spec.specs.Sources.{CounterSetup}
use Rattle.agent_spec.specs.Sources as agents
use Rattle.agent_spec.specs.Samples.{Sample}
use Rattle.agent_spec.specs.Boots.{IsAmong}
use Rattle.account_spec.specs.Histories.{SubAgent, stream_in, events_of, nobody, agent_of, flow_sources, counter_sources, IsSubAgent}
use Rattle.account_spec.specs.Deliveries.{Delivery, boot_of, numbers_of, deliveries_of, id_of, item}
use Rattle.account_spec.specs.TrueNumbers.{AreClose}
use Rattle.account_spec.specs.Arrivals.{Arrived, arrived_of, source_boots}
use Rattle.account_spec.specs.Accounts.{generations_of, delivered_streams, delivered_sources}
use Rattle.account_spec.specs.Truths.{Truth, AgreesWith, IsSlowOver, IsSlow}
use Rattle.account_laws.specs.Found.{LesserPremises}
use Rattle.account_laws.specs.Rises.{true_view, true_line, true_interfaces}
use Rattle.account_laws.proofs.Lists.{all-among, all-imply, all-both, among-map}
use Rattle.account_laws.proofs.BootSteps.{shown_all}
use Rattle.account_laws.proofs.Views.{BootSamples, samples_of, AllFair, IsGood, good-over, some-over, sound-all, HasSome}
use Rattle.account_laws.proofs.Opened.{mark_shown}
use Rattle.account_laws.proofs.Issued.{Carries, counter-issued, counter-rates, counter-contents, kind-of-flow, kind-of-counter}
use Rattle.account_laws.proofs.Once.{delivered-all}
use Rattle.account_laws.proofs.Agents.{found, is-sub_agent, may-happen, of-boot, IsKnown, OfFlow, OfCounter}
use Rattle.account_laws.proofs.Streams.{boot_samples, samples-all, seen as deliveries-seen, fair-of, among-behind, stream-boots, boots_in, some-in}
use Rattle.account_laws.proofs.Whole.{IsListed, is-listed, sources-listed, all-there}
use Rattle.account_laws.proofs.Seen.{carried_by, seen_of, seen-are, carried-are}
use Rattle.account_laws.proofs.Slow.{AllCarry, IsTrue, shown-is, over-all}

seen-all : (width : ℕ) (id : SourceId) (ss : List (List Delivery)) → AllByRecursion (λ (s : List Delivery). AreClose (numbers_of s)) ss
    → map (interface_samples width id) (shown_all ss) ≡ map seen_of (map (boot_samples width id) ss)
seen-all width id [] h = refl
seen-all width id (s ∷ ss) h =
    let here = seen-are width id s h.0 in let later = seen-all width id ss h.1 in λ j. here j ∷ later j

filter_map-on : {X Y : Type 0} (f g : X → Option Y) (xs : List X) → AllByRecursion (λ (x : X). f x ≡ g x) xs → filter_map f xs ≡ filter_map g xs
filter_map-on f g [] h = refl
filter_map-on f g (x ∷ xs) h = let e = h.0 in let later = filter_map-on f g xs h.1 in λ j. cons_option (e j) (later j)

module _ (l : Limits) (history : List SubAgent) (ds : List Delivery) (p : LesserPremises l history ds) where
  boots-seen : (source : Source) → interface_boots l source (map item ds) ≡ map seen_of (boots_in l history ds p source)
  boots-seen source =
      ap (map (interface_samples l.datagram_width source.id)) (stream-boots l history ds p source.stream)
      ∙ seen-all l.datagram_width source.id (true_stretches boot_of (deliveries_of source.stream ds))
      (deliveries-seen l history ds p source.stream).close

  module _ (truth : Truth) (slow : IsSlow truth l history ds) where
    -- what is so of a source that is set up
    slow-of : (stream : Stream) (c : CounterSetup) → IsAmong c (agent_of history stream).setup.counters
        → IsSlowOver truth stream l.sample_width (source_boots l.datagram_width (id_of c.source) (deliveries_of stream ds))
    slow-of stream c there = go (found history stream)
      where
        go : (agent_of history stream ≡ nobody) ⊎ ((stream_in (agent_of history stream) ≡ stream) × IsAmong (agent_of history stream) history)
            → IsSlowOver truth stream l.sample_width (source_boots l.datagram_width (id_of c.source) (deliveries_of stream ds))
        go (inl none) = absurd (subst (λ (a : SubAgent). IsAmong c a.setup.counters) none there)
        go (inr (same, among)) =
            subst (λ (k : Stream). IsSlowOver truth k l.sample_width (source_boots l.datagram_width (id_of c.source) (deliveries_of k ds))) same
            (all-among (λ (s : agents.Source). IsSlowOver truth (stream_in (agent_of history stream)) l.sample_width
            (source_boots l.datagram_width (id_of s) (deliveries_of (stream_in (agent_of history stream)) ds))) c.source
            (counter_sources (agent_of history stream).setup) (among-map (λ (d : CounterSetup). d.source) c (agent_of history stream).setup.counters there)
            (all-among (λ (a : SubAgent). AllByRecursion (λ (s : agents.Source). IsSlowOver truth (stream_in a) l.sample_width
            (source_boots l.datagram_width (id_of s) (deliveries_of (stream_in a) ds))) (counter_sources a.setup))
            (agent_of history stream) history among slow))

    counter-shown : (stream : Stream) (c : CounterSetup) → IsAmong c (agent_of history stream).setup.counters
        → HasSome (map samples_of (map (boot_samples l.datagram_width (id_of c.source)) (true_stretches boot_of (deliveries_of stream ds))))
        → interface_shown (carried l.sample_width (map seen_of (map (boot_samples l.datagram_width (id_of c.source)) (true_stretches boot_of (deliveries_of stream ds)))))
        ≡ Some (true_view truth stream l.sample_width (source_boots l.datagram_width (id_of c.source) (deliveries_of stream ds)))
    counter-shown stream c there some =
        let a : SubAgent = agent_of history stream in
        let h : IsSubAgent a = is-sub_agent history stream p.history_is in
        let w : ℕ = l.datagram_width in
        let own : List Delivery = deliveries_of stream ds in
        let bs : List BootSamples = map (boot_samples w (id_of c.source)) (true_stretches boot_of own) in
        let boots : List (List Arrived) = source_boots w (id_of c.source) own in
        let same : map samples_of bs ≡ boots = samples-all w (id_of c.source) (true_stretches boot_of own) in
        let fair : AllFair l.sample_width 0 bs = fair-of l history ds p stream c.source 0
        (among-behind l history ds p c.source (flow_sources a.setup) (counter_sources a.setup) (among-map (λ (d : CounterSetup). d.source) c a.setup.counters there))
        (λ i. counter-issued a.setup h.setup c (events_of a.boots i) there (may-happen a h i))
        (λ i. counter-rates a.setup h.setup c (events_of a.boots i) there (may-happen a h i)) in
        let s : IsSlowOver truth stream l.sample_width boots = slow-of stream c there in
        ap interface_shown (carried-are l.sample_width bs (sound-all l.sample_width 0 bs fair)
        ∙ ap (λ (b : List (List Arrived)). map (first_counters mark_shown carried_by l.sample_width) (generations_of b)) same)
        ∙ shown-is (λ (x : Arrived). truth stream x.boot x.sample) l.sample_width 0 (generations_of boots)
        (subst (λ (b : List (List Arrived)). AllByRecursion (IsGood l.sample_width 0) (generations_of b)) same (good-over l.sample_width 0 bs fair))
        (all-both AllCarry
        (AllByRecursion (λ (x : Arrived). AgreesWith (truth stream x.boot x.sample) x.sample.content))
        (IsTrue (λ (x : Arrived). truth stream x.boot x.sample)) (λ g k q. record { carry = k; agree = q }) (generations_of boots)
        (over-all (λ (x : Arrived). Carries x.sample.content) boots (carry (indexes boot_of own)))
        (over-all (λ (x : Arrived). AgreesWith (truth stream x.boot x.sample) x.sample.content) boots s.congruent))
        (subst (λ (b : List (List Arrived)). HasSome (generations_of b)) same (some-over bs (sound-all l.sample_width 0 bs fair) some))
        s.slow
      where
        sub : SubAgent
        sub = agent_of history stream

        each : (i : ℕ) → AllCarry (arrived_of l.datagram_width (id_of c.source) (stretch_of boot_of i (deliveries_of stream ds)))
        each i = delivered-all c.source sub.setup (events_of sub.boots i) i l.datagram_width (stretch_of boot_of i (deliveries_of stream ds))
            (of-boot history ds p.sent stream i) (λ (y : Sample). Carries y.content)
            (counter-contents sub.setup (is-sub_agent history stream p.history_is).setup c (events_of sub.boots i) there
            (may-happen sub (is-sub_agent history stream p.history_is) i))

        carry : (is : List ℕ) → AllByRecursion AllCarry
            (map (arrived_of l.datagram_width (id_of c.source)) (map (λ i. stretch_of boot_of i (deliveries_of stream ds)) is))
        carry [] = tt
        carry (i ∷ is) = (each i, carry is)

    line-is : (source : Source) → among same_source (delivered_sources l.datagram_width ds) source ≡ true
        → interface_line l (map item ds) source ≡ true_line truth l ds source
    line-is source there = go k.known
      where
        k : IsListed l history ds p source
        k = is-listed l history ds p source there

        by-kind : (b : Bool) → source.id.flow ≡ b
            → with_view (stream_number l (map item ds) source.stream) source.id (interface_of b l.sample_width (interface_boots l source (map item ds)))
            ≡ cond b None (Some (record {
              stream = stream_number l (map item ds) source.stream;
              id = source.id;
              view = true_view truth source.stream l.sample_width (source_boots l.datagram_width source.id (deliveries_of source.stream ds));
            }))
            → interface_line l (map item ds) source ≡ true_line truth l ds source
        by-kind b e f =
            ap (λ (c : Bool). with_view (stream_number l (map item ds) source.stream) source.id (interface_of c l.sample_width (interface_boots l source (map item ds)))) e
            ∙ f
            ∙ ap (λ (n : ℕ). cond b None (Some (record {
              stream = n;
              id = source.id;
              view = true_view truth source.stream l.sample_width (source_boots l.datagram_width source.id (deliveries_of source.stream ds));
            }))) k.number
            ∙ sym (ap (λ (c : Bool). cond c None (Some (record {
              stream = position_or_len (same_stream source.stream) (delivered_streams ds) + 1;
              id = source.id;
              view = true_view truth source.stream l.sample_width (source_boots l.datagram_width source.id (deliveries_of source.stream ds));
            }))) e)

        setup : IsSubAgent (agent_of history source.stream)
        setup = is-sub_agent history source.stream p.history_is

        go : IsKnown (agent_of history source.stream).setup source.id → interface_line l (map item ds) source ≡ true_line truth l ds source
        go (OfFlow f among id) = by-kind true (ap (λ (i : SourceId). i.flow) id ∙ kind-of-flow (agent_of history source.stream).setup setup.setup f among) refl
        go (OfCounter c among id) =
            by-kind false (ap (λ (i : SourceId). i.flow) id ∙ kind-of-counter (agent_of history source.stream).setup setup.setup c among)
            (ap (with_view (stream_number l (map item ds) source.stream) source.id)
            (ap (λ bs. interface_shown (carried l.sample_width bs)) (boots-seen source)
            ∙ subst (λ (i : SourceId). HasSome (map samples_of (map (boot_samples l.datagram_width i) (true_stretches boot_of (deliveries_of source.stream ds))))
            → interface_shown (carried l.sample_width (map seen_of (map (boot_samples l.datagram_width i) (true_stretches boot_of (deliveries_of source.stream ds)))))
            ≡ Some (true_view truth source.stream l.sample_width (source_boots l.datagram_width i (deliveries_of source.stream ds)))) (sym id)
            (counter-shown source.stream c among) (some-in l history ds p source k.stream k.sample)))

    -- The lines of interface counters are the true ones
    pub interfaces-are : (whole_books l (map item ds)).interfaces ≡ true_interfaces truth l ds
    interfaces-are =
        ap (filter_map (interface_line l (map item ds))) (sources-listed l history ds p)
        ∙ filter_map-on (interface_line l (map item ds)) (true_line truth l ds) (delivered_sources l.datagram_width ds)
        (all-imply (λ (k : Source). among same_source (delivered_sources l.datagram_width ds) k ≡ true)
        (λ (k : Source). interface_line l (map item ds) k ≡ true_line truth l ds k) line-is (delivered_sources l.datagram_width ds)
        (all-there same_source source-same (delivered_sources l.datagram_width ds) (delivered_sources l.datagram_width ds) (λ k h. h)))
