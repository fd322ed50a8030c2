-- Where the premises hold, the headers that count in the books are those of the account.
use Rattle.std.proofs.Common.{◌≡◌, ℕ, Bool, true, false, cond, List, [], ◌∷◌, ◌++◌, map, ◌-ℤ◌, refl, sym, ap, subst, ◌∙◌}
use Rattle.std.specs.List.{AllByRecursion}
use Rattle.count_spec.specs.Boots.{boots}
use Rattle.count_spec.specs.TrueStretches.{stretch_of, true_stretches, true_place}
use Rattle.count_spec.proofs.TrueStretches.{true_stretches-step}
use Rattle.books_spec.specs.declared.limits.Limits.{Limits}
use Rattle.books_spec.specs.Items.{SourceId, Item, Stream, Source, stamp_of}
use Rattle.books_spec.specs.Items as items
use Rattle.books_spec.specs.Listing.{same_stream, same_source, unlisted}
use Rattle.books_spec.specs.Books.{onto, streams_of, stream_boots}
use Rattle.books_spec.specs.PlacedSamples.{PlacedSample, placed_from, placed_in}
use Rattle.books_spec.specs.SampledHeaders.{FirstHeader, items_within, headers_behind, headers_now, first_headers}
use Rattle.books_spec.proofs.Keys.{stream-same}
use Rattle.books_spec.proofs.Listings.{IsSame}
use Rattle.books_spec.proofs.Rooms.{room-before, latest-listed}
use Rattle.agent_spec.specs.Sources.{FlowSetup, CounterSetup}
use Rattle.agent_spec.specs.Samples.{Sample, Datagram}
use Rattle.agent_spec.specs.Events.{Event}
use Rattle.agent_spec.specs.Boots.{Boot, happened, IsAmong, MayHappen}
use Rattle.agent_spec.specs.Sending.{samples_sent}
use Rattle.agent_spec.proofs.Sent.{whole}
use Rattle.account_spec.specs.Histories.{SubAgent, events_of, sent_in, agent_of, flow_sources, counter_sources, IsSubAgent, IsHistory}
use Rattle.account_spec.specs.Deliveries.{Delivery, boot_of, number_of, numbers_of, deliveries_of, AreSent, id_of, sample_shown, datagram_shown, item}
use Rattle.account_spec.specs.Arrivals.{arrived_from, brought, arrived, arrived_of}
use Rattle.account_spec.specs.Accounts.{is_delivered, sources_with, sample_sources}
use Rattle.account_laws.specs.Found.{LesserPremises}
use Rattle.account_laws.proofs.Lists.{all-among, all-behind, among-map, onto-is}
use Rattle.account_laws.proofs.Moved.{base}
use Rattle.account_laws.proofs.Parts.{each-before}
use Rattle.account_laws.proofs.Split.{AreSound}
use Rattle.account_laws.proofs.Views.{AllFair}
use Rattle.account_laws.proofs.BootSteps.{AreSeen, seen-before}
use Rattle.account_laws.proofs.Entering.{own-are}
use Rattle.account_laws.proofs.Issued.{IsOwned, issued-owned, flow-issued, counter-issued, flow-rates, counter-rates}
use Rattle.account_laws.proofs.Agents.{is-sub_agent, may-happen, IsKnown, OfFlow, OfCounter}
use Rattle.account_laws.proofs.Punctual.{among-front, among-behind}
use Rattle.account_laws.proofs.Streams.{boot_samples, fair-of}
use Rattle.account_laws.proofs.Whole.{AreReady, sources-are, ready as premises-ready}
use Rattle.delivered_items.specs.PacketHeaders.{sample_headers, headered}
use Rattle.delivered_items.specs.AccountHeaders.{is_of, headers_each, number_shown, headers_brought, account_headers}
use Rattle.delivered_items.proofs.DeliveredPlaces.{placing}
use Rattle.delivered_items.proofs.CountedHeaders.{with_samples, sound-behind, room-behind, of-current, headers-taken}

-- ---- the samples of a sent datagram are of sources of the set-up

all-onto : (P : Sample → Type 0) (xs ys : List Sample) → AllByRecursion P (onto xs ys) → AllByRecursion P xs × AllByRecursion P ys
all-onto P [] ys h = (tt, h)
all-onto P (x ∷ xs) ys h = let r = all-onto P xs (x ∷ ys) h in ((r.1.0, r.0), r.1.1)

pub by-datagram : (P : Sample → Type 0) (sent : List Datagram) → AllByRecursion P (samples_sent sent)
    → AllByRecursion (λ (d : Datagram). AllByRecursion P d.samples) sent
by-datagram P [] h = tt
by-datagram P (d ∷ before) h =
    let r = all-onto P d.samples (samples_sent before) (subst (AllByRecursion P) (sym (onto-is d.samples (samples_sent before))) h) in
    (r.0, by-datagram P before r.1)

owned-in : (a : SubAgent) → IsSubAgent a → (boot : ℕ) (d : Datagram) → IsAmong d (sent_in a boot) → AllByRecursion (IsOwned a.setup) d.samples
owned-in a h boot d there =
    let events : List Event = events_of a.boots boot in
    let may : MayHappen a.setup events = may-happen a h boot in
    let b : Boot = happened a.setup events in
    all-among (λ (g : Datagram). AllByRecursion (IsOwned a.setup) g.samples) d b.sent there
    (by-datagram (IsOwned a.setup) b.sent
    (all-behind (IsOwned a.setup) b.staged (samples_sent b.sent)
    (subst (AllByRecursion (IsOwned a.setup)) (whole a.setup events) (issued-owned a.setup events may))))

-- ---- the samples of a source are sound in each boot

abbrev IsSoundBoot : ℕ → SourceId → List Delivery → Type 0
IsSoundBoot width id boot = AreSound (arrived_of width id boot)

abbrev AreSoundBoots : Limits → List Delivery → Source → Type 0
AreSoundBoots l ds source =
    AllByRecursion (IsSoundBoot l.datagram_width source.id) (true_stretches boot_of (deliveries_of source.stream ds))

boots-sound : (width sample_width rate : ℕ) (id : SourceId) (ss : List (List Delivery))
    → AllFair sample_width rate (map (boot_samples width id) ss) → AllByRecursion (IsSoundBoot width id) ss
boots-sound width sample_width rate id [] h = tt
boots-sound width sample_width rate id (s ∷ ss) h = (h.0.sound, boots-sound width sample_width rate id ss h.1)

module _ (l : Limits) (history : List SubAgent) (ds : List Delivery) (p : LesserPremises l history ds) where
  known-sound : (source : Source) → IsKnown (agent_of history source.stream).setup source.id → AreSoundBoots l ds source
  known-sound source (OfFlow f there is) =
      let a : SubAgent = agent_of history source.stream in
      let h : IsSubAgent a = is-sub_agent history source.stream p.history_is in
      let ss : List (List Delivery) = true_stretches boot_of (deliveries_of source.stream ds) in
      let fair = fair-of l history ds p source.stream f.source f.rate
      (among-front f.source (flow_sources a.setup) (counter_sources a.setup) (among-map (λ (g : FlowSetup). g.source) f a.setup.flows there))
      (λ i. flow-issued a.setup h.setup f (events_of a.boots i) there (may-happen a h i))
      (λ i. flow-rates a.setup h.setup f (events_of a.boots i) there (may-happen a h i)) in
      subst (λ (id : SourceId). AllByRecursion (IsSoundBoot l.datagram_width id) ss) (sym is)
      (boots-sound l.datagram_width l.sample_width f.rate (id_of f.source) ss fair)
  known-sound source (OfCounter k there is) =
      let a : SubAgent = agent_of history source.stream in
      let h : IsSubAgent a = is-sub_agent history source.stream p.history_is in
      let ss : List (List Delivery) = true_stretches boot_of (deliveries_of source.stream ds) in
      let fair = fair-of l history ds p source.stream k.source 0
      (among-behind k.source (flow_sources a.setup) (counter_sources a.setup) (among-map (λ (g : CounterSetup). g.source) k a.setup.counters there))
      (λ i. counter-issued a.setup h.setup k (events_of a.boots i) there (may-happen a h i))
      (λ i. counter-rates a.setup h.setup k (events_of a.boots i) there (may-happen a h i)) in
      subst (λ (id : SourceId). AllByRecursion (IsSoundBoot l.datagram_width id) ss) (sym is)
      (boots-sound l.datagram_width l.sample_width 0 (id_of k.source) ss fair)

-- ---- with a delivery less

seen-less : (slack : ℕ) (stream : Stream) (d : Delivery) (before : List Delivery) → AreSeen slack (deliveries_of stream (d ∷ before))
    → AreSeen slack (deliveries_of stream before)
seen-less slack stream d before = go (same_stream stream d.stream)
  where
    go : (b : Bool) → AreSeen slack (cond b (d ∷ deliveries_of stream before) (deliveries_of stream before))
        → AreSeen slack (deliveries_of stream before)
    go true h = seen-before slack d (deliveries_of stream before) h
    go false h = h

ready-less : (l : Limits) (d : Delivery) (before : List Delivery) → AreReady l (d ∷ before) → AreReady l before
ready-less l d before h = record {
  streams = λ stream. seen-less l.boot_slack stream d before (h.streams stream);
  room = room-before same_stream stream-same l.streams d.stream (streams_of (map item before)) h.room;
}

boots-less : (l : Limits) (source : Source) (d : Delivery) (before : List Delivery)
    → AreSeen l.boot_slack (deliveries_of source.stream (d ∷ before)) → AreSoundBoots l (d ∷ before) source → AreSoundBoots l before source
boots-less l source d before = go (same_stream source.stream d.stream)
  where
    own : List Delivery
    own = deliveries_of source.stream before

    w : ℕ
    w = l.datagram_width

    go : (b : Bool) → AreSeen l.boot_slack (cond b (d ∷ own) own)
        → AllByRecursion (IsSoundBoot w source.id) (true_stretches boot_of (cond b (d ∷ own) own)) → AreSoundBoots l before source
    go true seen h =
        each-before (IsSoundBoot w source.id)
        (λ z zs k. sound-behind (is_of source.id) (brought w zs z) (arrived w zs) k)
        (true_place boot_of own d) d (true_stretches boot_of own)
        (subst (AllByRecursion (IsSoundBoot w source.id)) (true_stretches-step boot_of d own seen.numbered) h)
    go false seen h = h

-- ---- each delivery

items-are : (ds : List Delivery) → items_within (map headered ds) ≡ map item ds
items-are [] = refl
items-are (d ∷ before) = ap (λ (r : List Item). item d ∷ r) (items-are before)

module _ (l : Limits) (history : List SubAgent) (is : IsHistory history) where
  -- what is known of all sources that are set up
  abbrev AreKnown : List Delivery → Type 0
  AreKnown ds = (source : Source) → IsKnown (agent_of history source.stream).setup source.id → AreSoundBoots l ds source

  brought-are : (d : Delivery) (before : List Delivery) → AreReady l (d ∷ before)
      → IsAmong d.datagram (sent_in (agent_of history d.stream) d.boot) → AreKnown (d ∷ before)
      → unlisted same_source l.sources (sample_sources l.datagram_width (d ∷ before)) ≡ 0
      → headers_now l (map item before) (item d) (map sample_headers d.datagram.samples) ≡ headers_brought l before d
  brought-are d before ready there known room =
      ap (λ (b : Bool). cond b (Behind (placed_in l (stream_boots l d.stream its) (datagram_shown d))) [])
      (latest-listed same_stream stream-same l.streams d.stream (streams_of its) ready.room)
      ∙ ap (λ (ds : List items.Datagram). Behind (placed_in l (boots stamp_of l.boot_slack l.datagram_width ds) (datagram_shown d))) (own-are d.stream before)
      ∙ ap Behind (placing l d own seen)
      ∙ go (is_delivered l.datagram_width own d) refl
    where
      its : List Item
      its = map item before

      own : List Delivery
      own = deliveries_of d.stream before

      a : SubAgent
      a = agent_of history d.stream

      h : IsSubAgent a
      h = is-sub_agent history d.stream is

      seen : AreSeen l.boot_slack (d ∷ own)
      seen = subst (λ (b : Bool). AreSeen l.boot_slack (cond b (d ∷ own) own)) (IsSame.self stream-same d.stream) (ready.streams d.stream)

      Behind : List PlacedSample → List FirstHeader
      Behind ps = headers_behind l its (datagram_shown (with_samples d [])) ps (map sample_headers d.datagram.samples)

      sound : (id : SourceId) → IsKnown a.setup id → AllByRecursion (IsSoundBoot l.datagram_width id) (true_stretches boot_of (d ∷ own))
      sound id k = subst (λ (b : Bool). AllByRecursion (IsSoundBoot l.datagram_width id) (true_stretches boot_of (cond b (d ∷ own) own)))
          (IsSame.self stream-same d.stream) (known (record { stream = d.stream; id = id }) k)

      go : (b : Bool) → is_delivered l.datagram_width own d ≡ b
          → Behind (cond b (placed_from (number_of d -ℤ base (numbers_of (d ∷ stretch_of boot_of d.boot own))) 0 (map sample_shown d.datagram.samples)) [])
          ≡ cond b (headers_each l.sample_width (number_shown before d) (arrived l.datagram_width (stretch_of boot_of d.boot own))
          (arrived_from d.boot (number_of d) 0 d.datagram.samples)) []
      go true now = headers-taken l d before ready now a.setup h.setup
          (λ id k. of-current l d before ready now a.setup h.setup (IsSoundBoot l.datagram_width id) (sound id k)) room
          (owned-in a h d.boot d.datagram there)
      go false now = refl

  all-brought : (ds : List Delivery) → AreReady l ds → AreSent history ds → AreKnown ds
      → unlisted same_source l.sources (sample_sources l.datagram_width ds) ≡ 0
      → first_headers l (map headered ds) ≡ account_headers l ds
  all-brought [] ready sent known room = refl
  all-brought (d ∷ before) ready sent known room =
      let earlier = all-brought before (ready-less l d before ready) sent.1
      (λ source k. boots-less l source d before (ready.streams source.stream) (known source k))
      (room-behind l.sources (sources_with (is_delivered l.datagram_width (deliveries_of d.stream before) d) d)
      (sample_sources l.datagram_width before) room) in
      let now = ap (λ (its : List Item). headers_now l its (item d) (map sample_headers d.datagram.samples)) (items-are before)
      ∙ brought-are d before ready sent.0 known room in
      λ j. earlier j ++ now j

-- The headers that count in the books are those of the account
pub headers-are : (l : Limits) (history : List SubAgent) (ds : List Delivery) → LesserPremises l history ds
    → first_headers l (map headered ds) ≡ account_headers l ds
headers-are l history ds p =
    let ready : AreReady l ds = premises-ready l history ds p in
    all-brought l history p.history_is ds ready p.sent (known-sound l history ds p)
    (subst (λ (ks : List Source). unlisted same_source l.sources ks ≡ 0) (sources-are l ds ready) p.roomy.samples)
