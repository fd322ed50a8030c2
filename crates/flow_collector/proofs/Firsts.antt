-- Which samples are First, and the numbers of streams.
use Rattle.std.proofs.Common.{◌≡◌, ◌∙◌, ℕ, zero, suc, ◌+◌, ◌<◌, Bool, true, false, ◌&&◌, ◌||◌, cond, if◌then◌else◌, Option, Some, None, List, [], ◌∷◌, length, refl, sym, ap, subst, arith}
use Rattle.std.specs.Prelude.{slice_get}
use Rattle.std.specs.Option.{is_some, IfSome}
use Rattle.std.specs.List.{position_or_len}
use Rattle.std.proofs.lemmas.Option.{slice_get_within}
use Rattle.books_spec.specs.declared.limits.Limits.{Limits}
use Rattle.books_spec.specs.declared.reading.SampleReading.{SampleReading}
use Rattle.books_spec.specs.Generations.{booked}
use Rattle.books_spec.specs.declared.sample_place.SamplePlace.{SamplePlace}
use Rattle.books_spec.specs.Items.{SourceId, Of, Datagram, Item, Got, Stream, stream_of, Source}
use Rattle.books_spec.specs.Listing.{same_stream, same_source, among, listed, unlisted}
use Rattle.books_spec.specs.Books.{streams_of, listed_streams, sources_of, stream_number}
use Rattle.books_spec.specs.PlacedSamples.{placed_boots}
use Rattle.books_spec.specs.SampledHeaders.{current_readings, answer_to, is_first_booked, is_listed, and_sample}
use Rattle.books_spec.specs.SourceViews.{PlacedReading, place_in, placed_mark}
use Rattle.books_spec.proofs.Keys.{source-same}
use Rattle.books_spec.proofs.Listings.{listed-few}
use Rattle.data_format.specs.declared.heads.FlowHead.{FlowHead}
use Rattle.stream_books.specs.declared.source.SourceRecord.{SourceRecord}
use Rattle.collector_tables.specs.declared.keys.SampleKind.TheVariants as kinds
use Rattle.collector_tables.specs.declared.keys.SourceKey.{SourceKey}
use Rattle.collector_tables.specs.declared.sources.EnteredAt.{EnteredAt}
use Rattle.collector_tables.specs.declared.streams.TakenAt.{TakenAt}
use Rattle.collector_tables.specs.Keys.{id_in, source_in}
use Rattle.collector_tables.specs.Sources.{SourcesStand, after_reading}
use Rattle.flow_collector.specs.Collectors.{BooksState, StandsFor}
use Rattle.flow_collector.specs.Headers.{flow_id, flow_reading, stream_fed}
use Rattle.flow_collector.specs.Steps.{IsFound, Enters, is_first_at, is_first_of}
use Rattle.flow_collector.proofs.Entering.{sources-one_more}
use Rattle.flow_collector.proofs.Enters.{EnterStep, reading_at, of-limits, is-unlisted, Place, place-of, table-stands, table-answers}
use Rattle.flow_collector.proofs.Found.{key-at, key-placed, place-of-place, stream-found}
use Rattle.flow_collector.proofs.InterfaceSteps.{IsUnlisted}

-- ---- the numbers of streams

pub stream-numbered : (l : Limits) (items : List Item) (d : Datagram) (t : TakenAt) → IsFound l items t d
    → t.place + 1 ≡ stream_number l (Got d ∷ items) (stream_of d)
stream-numbered l items d t found =
    let streams : List Stream = listed_streams l (Got d ∷ items) in
    let k : SourceKey = record { stream = t.place; kind = kinds.Flow; source = record { class = 0; index = 0 } } in
    let place = place-of-place streams k (key-placed l (Got d ∷ items) k (stream_of d) found.at) in
    ap (λ n. n + 1) (sym place)
    ∙ ap (λ s. position_or_len (same_stream s) streams + 1) (stream-found streams t.place (stream_of d) found.at)

-- and the place is below the limit
pub stream-few : (l : Limits) (items : List Item) (d : Datagram) (t : TakenAt) → IsFound l items t d → t.place < l.streams
stream-few l items d t found =
    let less = slice_get_within (listed_streams l (Got d ∷ items)) t.place (stream_of d) found.at in
    let few = listed-few same_stream l.streams (streams_of (Got d ∷ items)) in
    omega (arith, less, few)

-- ---- First samples

-- what stands at a place is among them
among-at : (keys : List Source) (place : ℕ) (k : Source) → slice_get keys place ≡ Some k → among same_source keys k ≡ true
among-at [] place k at = absurd (cc)
among-at (x ∷ more) zero k at =
    let same : x ≡ k = cc in
    ap (λ y. same_source k y || among same_source more k) same ∙ ap (λ b. b || among same_source more k) (source-same.self k)
among-at (x ∷ more) (suc n) k at = or-true (same_source k x) (among same_source more k) (among-at more n k at)
  where
    or-true : (a b : Bool) → b ≡ true → (a || b) ≡ true
    or-true true b h = refl
    or-true false b h = h

-- a sample is First exactly where its source is listed and its ledger answers so
first-of : (l : Limits) (items : List Item) (d : Datagram) (t : TakenAt) (key : SourceKey) (reading : SampleReading)
    (now : List (SourceKey × SourceRecord)) (o : Option EnteredAt) (here : Place l items d key)
    → sources_of l (Got (and_sample d (Of (id_in key) reading)) ∷ items)
    ≡ record { stream = stream_of d; id = id_in key } ∷ sources_of l (Got d ∷ items)
    → unlisted same_source l.sources (source_in (listed_streams l (Got d ∷ items)) key ∷ sources_of l (Got d ∷ items))
    ≡ unlisted same_source l.sources (sources_of l (Got d ∷ items)) + (if is_some o then 0 else 1)
    → IfSome o (λ e. (kept : SourceRecord) × (slice_get now e.place ≡ Some (key, kept)))
    → IfSome o (λ e. e.booked ≡ booked place_in placed_mark l.sample_width here.own.current (reading_at t (length d.samples) reading))
    → SourcesStand (listed_streams l (Got d ∷ items)) l.sources l.sample_width now
    (source_in (listed_streams l (Got d ∷ items)) key ∷ sources_of l (Got d ∷ items))
    (after_reading (source_in (listed_streams l (Got d ∷ items)) key) (reading_at t (length d.samples) reading)
    (λ k. placed_boots l k (Got d ∷ items)))
    → is_first_at o ≡ is_first_of l items d (reading_at t (length d.samples) reading).place (id_in key) reading
first-of l items d t key reading now None here arrives counted there answer stands =
    let source : Source = record { stream = stream_of d; id = id_in key } in
    let U : Source → Type 0 = λ x. IsUnlisted l.sources (sources_of l (Got d ∷ items)) x in
    let none : U source = subst U here.name
    (is-unlisted l.sources (sources_of l (Got d ∷ items)) (source_in (listed_streams l (Got d ∷ items)) key) counted) in
    let not : is_listed l items (and_sample d (Of (id_in key) reading)) source ≡ false =
    ap (λ a. among same_source (listed same_source l.sources a) source) arrives
    ∙ ap (λ ks. among same_source ks source) none.listed_same ∙ none.absent in
    sym (ap (λ b. b && is_first_booked (answer_to l (Got d ∷ items) source (reading_at t (length d.samples) reading))) not)
first-of l items d t key reading now (Some e) here arrives counted there answer stands =
    let streams : List Stream = listed_streams l (Got d ∷ items) in
    let arrived : List Source = sources_of l (Got d ∷ items) in
    let source : Source = record { stream = stream_of d; id = id_in key } in
    let r : PlacedReading = reading_at t (length d.samples) reading in
    let at : slice_get (listed same_source l.sources (source ∷ arrived)) e.place ≡ Some source =
    (λ j. slice_get (listed same_source l.sources (sym here.name j ∷ arrived)) e.place)
    ∙ key-at (source_in streams) now (listed same_source l.sources (source_in streams key ∷ arrived)) e.place key there.0 there.1
    stands.table.keys_are ∙ ap Some here.name in
    let is : is_listed l items (and_sample d (Of (id_in key) reading)) source ≡ true =
    ap (λ a. among same_source (listed same_source l.sources a) source) arrives
    ∙ among-at (listed same_source l.sources (source ∷ arrived)) e.place source at in
    let own : placed_boots l source (Got d ∷ items) ≡ here.own.current ∷ here.own.closed =
    (λ j. placed_boots l (sym here.name j) (Got d ∷ items)) ∙ here.own.boots_are in
    let same : e.booked ≡ answer_to l (Got d ∷ items) source r =
    answer ∙ sym (ap (λ bs. booked place_in placed_mark l.sample_width (current_readings bs) r) own) in
    ap is_first_booked same ∙ sym (ap (λ b. b && is_first_booked (answer_to l (Got d ∷ items) source r)) is)

pub enters-first : (s : BooksState) (l : Limits) (items : List Item) (d : Datagram) (t : TakenAt) (index : ℕ)
    (key : SourceKey) (reading : SampleReading) (now : List (SourceKey × SourceRecord)) (entered : Option EnteredAt)
    → key.stream ≡ t.place → length d.samples ≡ index → Enters l items t d
    → EnterStep s.sources.entries now key (reading_at t index reading) t.boot entered s.sources.limit s.limits.sample_width
    → StandsFor s l (Got d ∷ items)
    → is_first_at entered ≡ is_first_of l items d (reading_at t index reading).place (id_in key) reading
enters-first s l items d t index key reading now entered at_place same enters step st =
    let r : PlacedReading = reading_at t (length d.samples) reading in
    let streams : List Stream = listed_streams l (Got d ∷ items) in
    let arrived : List Source = sources_of l (Got d ∷ items) in
    let one = of-limits s l items d t index key reading now entered same step st in
    let here = place-of l items d t key at_place enters in
    let boot = enters.found.boot_is in
    let P : ℕ → Type 0 = λ n. is_first_at entered ≡ is_first_of l items d (reading_at t n reading).place (id_in key) reading in
    subst P same (first-of l items d t key reading now entered here
    (sources-one_more l items d (Of (id_in key) reading) enters.first)
    (one.counted streams arrived (λ k. placed_boots l k (Got d ∷ items)) here.placed st.sources_stand) one.placed
    (table-answers l items d t key r s.sources.entries now entered boot here one st.sources_stand)
    (table-stands l items d t key r s.sources.entries now entered boot here one st.sources_stand))

-- ---- the stream whose headers go to the consumers

-- what a flow sample of this head shows is First or not
pub shown-first : (l : Limits) (items : List Item) (d : Datagram) (place : SamplePlace) (h : FlowHead) (id : SourceId)
    (reading : SampleReading) (b : Bool) → id ≡ flow_id h → reading ≡ flow_reading h → b ≡ is_first_of l items d place id reading
    → b ≡ is_first_of l items d place (flow_id h) (flow_reading h)
shown-first l items d place h id reading b ids readings first = first ∙ (λ j. is_first_of l items d place (ids j) (readings j))

pub fed-some : (l : Limits) (items : List Item) (d : Datagram) (place : SamplePlace) (h : FlowHead) (number : ℕ) (b : Bool)
    → b ≡ true → b ≡ is_first_of l items d place (flow_id h) (flow_reading h)
    → number ≡ stream_number l (Got d ∷ items) (stream_of d) → Some number ≡ stream_fed l items d place h
fed-some l items d place h number b is first numbered =
    ap Some numbered ∙ ap (λ c. cond c (Some (stream_number l (Got d ∷ items) (stream_of d))) None) (sym is ∙ first)

pub fed-none : (l : Limits) (items : List Item) (d : Datagram) (place : SamplePlace) (h : FlowHead) (b : Bool)
    → b ≡ false → b ≡ is_first_of l items d place (flow_id h) (flow_reading h) → None ≡ stream_fed l items d place h
fed-none l items d place h b not first =
    ap (λ c. cond c (Some (stream_number l (Got d ∷ items) (stream_of d))) None) (sym not ∙ first)
