-- What a history says of the deliveries of one sub-agent.
use Rattle.std.proofs.Common.{◌≡◌, ℕ, zero, suc, ◌≤◌, ◌⊎◌, inl, inr, Bool, true, false, cond, ◌||◌, List, [], ◌∷◌, ◌++◌, map, refl, sym, ap, subst, ◌∙◌, arith}
use Rattle.std.specs.List.{AllByRecursion, list_any}
use Rattle.std.proofs.lemmas.Bool.{or_cases}
use Rattle.count_spec.specs.TrueStretches.{stretch_of}
use Rattle.count_spec.proofs.TrueStretches.{AreNumbered}
use Rattle.books_spec.specs.Items.{SourceId, Stream, Source}
use Rattle.books_spec.specs.Listing.{same_stream, same_id, same_source, among}
use Rattle.books_spec.specs.Books.{onto}
use Rattle.books_spec.proofs.Keys.{stream-same, id-same, and-split}
use Rattle.books_spec.proofs.Listings.{IsSame}
use Rattle.agent_spec.specs.Sources.{FlowSetup, CounterSetup}
use Rattle.agent_spec.specs.Sources as agents
use Rattle.agent_spec.specs.Samples.{Sample, Datagram, Setup}
use Rattle.agent_spec.specs.Events.{Event}
use Rattle.agent_spec.specs.Boots.{Boot, happened, IsAmong, MayHappen}
use Rattle.agent_spec.specs.Sending.{samples_sent}
use Rattle.agent_spec.proofs.Keys.{source-self}
use Rattle.agent_spec.proofs.Sent.{whole}
use Rattle.account_spec.specs.Histories.{SubAgent, stream_in, events_of, sent_in, nobody, agent_of, flow_sources, counter_sources, IsSetUp, IsSubAgent, IsHistory}
use Rattle.account_spec.specs.Deliveries.{Delivery, boot_of, deliveries_of, AreSent, id_of, id_in}
use Rattle.account_spec.specs.Arrivals.{Arrived, source_boots}
use Rattle.account_spec.specs.Accounts.{rate_among, is_delivered, source_in, sources_with, sample_sources}
use Rattle.account_spec.specs.Premises.{OfEachSource}
use Rattle.account_laws.proofs.Lists.{all-both, all-imply, all-among, all-filter, all-passing, all-behind, all-members, onto-is}
use Rattle.account_laws.proofs.Parts.{stretch-all, stretch-index}
use Rattle.account_laws.proofs.Issued.{IsOwned, issued-owned, only-one}
use Rattle.account_laws.proofs.Once.{AreOfBoot, same-sources}

-- ---- the sub-agent of a stream

pub found : (history : List SubAgent) (stream : Stream)
    → (agent_of history stream ≡ nobody) ⊎ ((stream_in (agent_of history stream) ≡ stream) × IsAmong (agent_of history stream) history)
found [] stream = inl refl
found (a ∷ more) stream = go (same_stream (stream_in a) stream) refl (found more stream)
  where
    Either : SubAgent → Type 0
    Either b = (b ≡ nobody) ⊎ ((stream_in b ≡ stream) × IsAmong b (a ∷ more))

    go : (b : Bool) → same_stream (stream_in a) stream ≡ b
        → (agent_of more stream ≡ nobody) ⊎ ((stream_in (agent_of more stream) ≡ stream) × IsAmong (agent_of more stream) more)
        → Either (cond b a (agent_of more stream))
    go true e later = inr (IsSame.to stream-same (stream_in a) stream e, inl refl)
    go false e (inl none) = inl none
    go false e (inr (same, there)) = inr (same, inr there)

pub is-sub_agent : (history : List SubAgent) (stream : Stream) → IsHistory history → IsSubAgent (agent_of history stream)
is-sub_agent history stream h = go (found history stream)
  where
    go : (agent_of history stream ≡ nobody) ⊎ ((stream_in (agent_of history stream) ≡ stream) × IsAmong (agent_of history stream) history)
        → IsSubAgent (agent_of history stream)
    go (inl none) = subst IsSubAgent (sym none) (record {
      setup = record { flows = tt; counters = tt; flows_once = tt; counters_once = tt };
      boots = tt;
    })
    go (inr (same, there)) = all-among IsSubAgent (agent_of history stream) history there h.agents

pub may-happen : (a : SubAgent) → IsSubAgent a → (boot : ℕ) → MayHappen a.setup (events_of a.boots boot)
may-happen a h boot = go a.boots boot h.boots
  where
    go : (boots : List (List Event)) (boot : ℕ) → AllByRecursion (MayHappen a.setup) boots → MayHappen a.setup (events_of boots boot)
    go [] boot k = tt
    go (events ∷ more) zero k = tt
    go (events ∷ more) (suc zero) k = k.0
    go (events ∷ more) (suc (suc n)) k = go more (suc n) k.1

-- ---- its deliveries

module _ (history : List SubAgent) (ds : List Delivery) (sent : AreSent history ds) where
  abbrev pub own_of : Stream → List Delivery
  own_of stream = deliveries_of stream ds

  pub own-sent : (stream : Stream)
      → AllByRecursion (λ (d : Delivery). IsAmong d.datagram (sent_in (agent_of history stream) d.boot)) (own_of stream)
  own-sent stream =
      all-both (λ (d : Delivery). same_stream stream d.stream ≡ true)
      (λ (d : Delivery). IsAmong d.datagram (sent_in (agent_of history d.stream) d.boot))
      (λ (d : Delivery). IsAmong d.datagram (sent_in (agent_of history stream) d.boot))
      (λ d e a. subst (λ (s : Stream). IsAmong d.datagram (sent_in (agent_of history s) d.boot)) (sym (IsSame.to stream-same stream d.stream e)) a)
      (own_of stream) (all-passing (λ (d : Delivery). same_stream stream d.stream) ds)
      (all-filter (λ (d : Delivery). IsAmong d.datagram (sent_in (agent_of history d.stream) d.boot)) (λ (d : Delivery). same_stream stream d.stream) ds sent)

  boots-from-one : (a : SubAgent) (boot : ℕ) (d : Datagram) → IsAmong d (sent_in a boot) → 1 ≤ boot
  boots-from-one a zero d h = absurd (none a.boots h)
    where
      none : (boots : List (List Event)) → IsAmong d (happened a.setup (events_of boots zero)).sent → ⊥
      none [] k = k
      none (events ∷ more) k = k
  boots-from-one a (suc boot) d h = omega arith

  pub own-numbered : (stream : Stream) → AreNumbered boot_of (own_of stream)
  own-numbered stream =
      all-imply (λ (d : Delivery). IsAmong d.datagram (sent_in (agent_of history stream) d.boot)) (λ (d : Delivery). 1 ≤ boot_of d)
      (λ d a. boots-from-one (agent_of history stream) d.boot d.datagram a) (own_of stream) (own-sent stream)

  -- those of one boot that aren't past were sent in it
  pub of-boot : (stream : Stream) (boot : ℕ)
      → AreOfBoot boot (sent_in (agent_of history stream) boot) (stretch_of boot_of boot (own_of stream))
  of-boot stream boot =
      all-both (λ (d : Delivery). boot_of d ≡ boot)
      (λ (d : Delivery). IsAmong d.datagram (sent_in (agent_of history stream) d.boot))
      (λ (d : Delivery). (d.boot ≡ boot) × IsAmong d.datagram (sent_in (agent_of history stream) boot))
      (λ d e a. (e, subst (λ (k : ℕ). IsAmong d.datagram (sent_in (agent_of history stream) k)) e a))
      (stretch_of boot_of boot (own_of stream)) (stretch-index boot_of boot (own_of stream))
      (stretch-all boot_of (λ (d : Delivery). IsAmong d.datagram (sent_in (agent_of history stream) d.boot)) boot (own_of stream) (own-sent stream))

  -- without a sub-agent there are none
  none-of : (stream : Stream) → agent_of history stream ≡ nobody → own_of stream ≡ []
  none-of stream none = go (own_of stream) (own-sent stream)
    where
      never : (d : Delivery) → IsAmong d.datagram (sent_in nobody d.boot) → ⊥
      never d h = h

      go : (es : List Delivery) → AllByRecursion (λ (d : Delivery). IsAmong d.datagram (sent_in (agent_of history stream) d.boot)) es → es ≡ []
      go [] h = refl
      go (d ∷ more) h = absurd (never d (subst (λ (a : SubAgent). IsAmong d.datagram (sent_in a d.boot)) none h.0))

  -- what holds of the deliveries of each sub-agent holds of those of each stream
  pub each-stream : (P : List Delivery → Type 0) → P [] → AllByRecursion (λ (a : SubAgent). P (own_of (stream_in a))) history
      → (stream : Stream) → P (own_of stream)
  each-stream P empty h stream = go (found history stream)
    where
      go : (agent_of history stream ≡ nobody) ⊎ ((stream_in (agent_of history stream) ≡ stream) × IsAmong (agent_of history stream) history)
          → P (own_of stream)
      go (inl none) = subst P (sym (none-of stream none)) empty
      go (inr (same, there)) = subst (λ (s : Stream). P (own_of s)) same
          (all-among (λ (a : SubAgent). P (own_of (stream_in a))) (agent_of history stream) history there h)

  -- what holds of each source of each sub-agent holds of each source that its setup has
  pub each-source : (P : List Arrived → Type 0) (width : ℕ) → AllByRecursion (OfEachSource P width ds) history
      → (stream : Stream) (s : agents.Source) → IsAmong s (flow_sources (agent_of history stream).setup ++ counter_sources (agent_of history stream).setup)
      → AllByRecursion P (source_boots width (id_of s) (own_of stream))
  each-source P width h stream s there = go (found history stream)
    where
      go : (agent_of history stream ≡ nobody) ⊎ ((stream_in (agent_of history stream) ≡ stream) × IsAmong (agent_of history stream) history)
          → AllByRecursion P (source_boots width (id_of s) (own_of stream))
      go (inl none) = subst (λ (es : List Delivery). AllByRecursion P (source_boots width (id_of s) es)) (sym (none-of stream none)) tt
      go (inr (same, among)) = subst (λ (k : Stream). AllByRecursion P (source_boots width (id_of s) (own_of k))) same
          (all-among (λ (s : agents.Source). AllByRecursion P (source_boots width (id_of s) (own_of (stream_in (agent_of history stream))))) s
          (flow_sources (agent_of history stream).setup ++ counter_sources (agent_of history stream).setup) there
          (all-among (OfEachSource P width ds) (agent_of history stream) history among h))

-- ---- samples that are delivered are of sources of the setup

all-onto-front : {X : Type 0} (P : X → Type 0) (xs ys : List X) → AllByRecursion P (onto xs ys) → AllByRecursion P xs × AllByRecursion P ys
all-onto-front P [] ys h = (tt, h)
all-onto-front P (x ∷ xs) ys h = let r = all-onto-front P xs (x ∷ ys) h in ((r.1.0, r.0), r.1.1)

by-datagram : (P : Sample → Type 0) (sent : List Datagram) → AllByRecursion P (samples_sent sent)
    → AllByRecursion (λ (d : Datagram). AllByRecursion P d.samples) sent
by-datagram P [] h = tt
by-datagram P (d ∷ before) h =
    let r = all-onto-front P d.samples (samples_sent before) (subst (AllByRecursion P) (sym (onto-is d.samples (samples_sent before))) h) in
    (r.0, by-datagram P before r.1)

sent-owned : (s : Setup) (events : List Event) → MayHappen s events
    → AllByRecursion (λ (d : Datagram). AllByRecursion (IsOwned s) d.samples) (happened s events).sent
sent-owned s events may =
    let b : Boot = happened s events in
    by-datagram (IsOwned s) b.sent
    (all-behind (IsOwned s) b.staged (samples_sent b.sent) (subst (AllByRecursion (IsOwned s)) (whole s events) (issued-owned s events may)))

-- a source by the setup of its sub-agent
pub data IsKnown (s : Setup) (id : SourceId) : Type 0 where
  OfFlow : (f : FlowSetup) → IsAmong f s.flows → id ≡ id_of f.source → IsKnown s id
  OfCounter : (c : CounterSetup) → IsAmong c s.counters → id ≡ id_of c.source → IsKnown s id

owned-known : (s : Setup) (y : Sample) → IsOwned s y → IsKnown s (id_in y)
owned-known s y (inl o) = OfFlow o.flow o.there (ap id_of o.source)
owned-known s y (inr o) = OfCounter o.counter o.there (ap id_of o.source)

any-onto : {X : Type 0} (p : X → Bool) (xs rest : List X) → list_any p (onto xs rest) ≡ true → (list_any p xs ≡ true) ⊎ (list_any p rest ≡ true)
any-onto p [] rest h = inr h
any-onto {X} p (x ∷ xs) rest h = elim (any-onto p xs (x ∷ rest) h) [
  | inl e ↦ inl (right (p x) (list_any p xs) e)
  | inr e ↦ elim (or_cases (p x) (list_any p rest) e) [
    | inl here ↦ inl (ap (λ (b : Bool). b || list_any p xs) here)
    | inr later ↦ inr later
  ]
]
  where
    right : (a b : Bool) → b ≡ true → (a || b) ≡ true
    right true b e = refl
    right false b e = e

-- a source among those of a datagram's samples
known-in : (s : Setup) (stream : Stream) (source : Source) (ss : List Sample) → AllByRecursion (IsOwned s) ss
    → among same_source (map (source_in stream) ss) source ≡ true → (source.stream ≡ stream) × IsKnown s source.id
known-in s stream source [] h there = let bad : false ≡ true = there in absurd cc
known-in s stream source (y ∷ more) h there =
    elim (or_cases (same_source source (source_in stream y)) (among same_source (map (source_in stream) more) source) there) [
      | inl here ↦
          let e = and-split (same_stream source.stream stream) (same_id source.id (id_in y)) here in (
            IsSame.to stream-same source.stream stream e.0,
            subst (IsKnown s) (sym (IsSame.to id-same source.id (id_in y) e.1)) (owned-known s y h.0),
          )
      | inr later ↦ known-in s stream source more h.1 later
    ]

pub record IsDelivered (history : List SubAgent) (ds : List Delivery) (source : Source) : Type 0 where
  pub stream : among same_stream (map (λ (d : Delivery). d.stream) ds) source.stream ≡ true
  pub known : IsKnown (agent_of history source.stream).setup source.id

pub delivered-known : (history : List SubAgent) (width : ℕ) (ds : List Delivery) (source : Source) → IsHistory history
    → AreSent history ds → among same_source (sample_sources width ds) source ≡ true → IsDelivered history ds source
delivered-known history width [] source h sent there = let bad : false ≡ true = there in absurd cc
delivered-known history width (d ∷ before) source h sent there =
    elim (any-onto (same_source source) (sources_with now d) (sample_sources width before) there) [
      | inl here ↦ on_new now here
      | inr later ↦ on_old (delivered-known history width before source h sent.1 later)
    ]
  where
    now : Bool
    now = is_delivered width (deliveries_of d.stream before) d

    a : SubAgent
    a = agent_of history d.stream

    right : (a b : Bool) → b ≡ true → (a || b) ≡ true
    right true b e = refl
    right false b e = e

    on_old : IsDelivered history before source → IsDelivered history (d ∷ before) source
    on_old k = record {
      stream = right (same_stream source.stream d.stream) (among same_stream (map (λ (e : Delivery). e.stream) before) source.stream) k.stream;
      known = k.known;
    }

    on_new : (b : Bool) → among same_source (sources_with b d) source ≡ true → IsDelivered history (d ∷ before) source
    on_new false here = let bad : false ≡ true = here in absurd cc
    on_new true here =
        let k = known-in a.setup d.stream source d.datagram.samples
        (all-among (λ (g : Datagram). AllByRecursion (IsOwned a.setup) g.samples) d.datagram (sent_in a d.boot) sent.0
        (sent-owned a.setup (events_of a.boots d.boot) (may-happen a (is-sub_agent history d.stream h) d.boot))) here in
        record {
          stream = ap (λ (s : Stream). same_stream s d.stream || among same_stream (map (λ (e : Delivery). e.stream) before) s) k.0
              ∙ ap (λ (b : Bool). b || among same_stream (map (λ (e : Delivery). e.stream) before) d.stream) (IsSame.self stream-same d.stream);
          known = subst (λ (s : Stream). IsKnown (agent_of history s).setup source.id) (sym k.0) k.1;
        }

-- ---- the rate of a set-up

rate-in : (f : FlowSetup) (source : Source) (fs : List FlowSetup) → IsAmong f fs → source.id ≡ id_of f.source
    → AllByRecursion (λ (g : FlowSetup). agents.same_source f.source g.source ≡ true → g ≡ f) fs → rate_among fs source ≡ f.rate
rate-in f source [] a id only = absurd a
rate-in f source (g ∷ more) a id only =
    pick (same_id (id_of g.source) source.id) refl a (λ k. rate-in f source more k id only.1)
  where
    pick : (b : Bool) → same_id (id_of g.source) source.id ≡ b → IsAmong f (g ∷ more)
        → (IsAmong f more → rate_among more source ≡ f.rate) → cond b g.rate (rate_among more source) ≡ f.rate
    pick true e k rest =
        let same : g.source ≡ f.source =
        same-sources g.source f.source (ap (λ (i : SourceId). same_id (id_of g.source) i) (sym id) ∙ e) in
        ap (λ (h : FlowSetup). h.rate) (only.0
        (ap (λ (o : agents.Source). agents.same_source f.source o) same ∙ source-self f.source))
    pick false e (inl same) rest =
        let bad : true ≡ false = sym (IsSame.self id-same source.id)
        ∙ ap (λ (i : SourceId). same_id i source.id) (id ∙ ap (λ (h : FlowSetup). id_of h.source) same) ∙ e in absurd cc
    pick false e (inr k) rest = rest k

pub rate-of : (s : Setup) → IsSetUp s → (f : FlowSetup) (source : Source) → IsAmong f s.flows → source.id ≡ id_of f.source
    → rate_among s.flows source ≡ f.rate
rate-of s set_up f source there id =
    rate-in f source s.flows there id
    (all-imply (λ (g : FlowSetup). IsAmong g s.flows) (λ (g : FlowSetup). agents.same_source f.source g.source ≡ true → g ≡ f)
    (λ g a same. only-one (λ (h : FlowSetup). h.source) s.flows set_up.flows_once f g there a same) s.flows
    (all-members s.flows s.flows (λ g a. a)))
