-- How much can have been entered, so that no count overflows.
use Rattle.std.proofs.Common.{◌≡◌, ℕ, ◌+◌, ◌*◌, ◌≤◌, Bool, true, false, cond, ◌||◌, Some, List, [], ◌∷◌, ◌++◌, length, map, refl, sym, subst, ◌∙◌, true≢false, arith}
use Rattle.std.specs.Prelude.{slice_get}
use Rattle.std.specs.List.{count_by, sum_by}
use Rattle.std.proofs.lemmas.List.Folds.{list_any-append}
use Rattle.std.proofs.lemmas.List.Sums.{count_by-le-length}
use Rattle.count_spec.specs.Boots.{sequences, boots, stale_items}
use Rattle.count_spec.proofs.Counts.{count_by-cons}
use Rattle.books_spec.specs.Items.{Sample, Datagram, stamp_of, Item, Got, Malformed, Stream, stream_of, Source}
use Rattle.books_spec.specs.declared.limits.Limits.{Limits}
use Rattle.books_spec.specs.Listing.{same_stream, same_source, among, first_arrivals}
use Rattle.books_spec.specs.Books.{listed_streams, own, stream_boots, taken_now, samples_at, entered_in, entered, source_of, sources_of, listed_sources}
use Rattle.books_spec.specs.PlacedSamples.{placed_boots}
use Rattle.books_spec.specs.declared.taken.Taken.{Taken}
use Rattle.books_spec.specs.declared.taken.Taken.TheVariants.{First, Repeat, Late, Unlisted, Spent}
use Rattle.books_spec.specs.declared.taken.Taken.TheVariants as takes
use Rattle.books_spec.proofs.Listings.{IsSame, among-take}
use Rattle.books_spec.proofs.Keys.{source-same}
use Rattle.books_spec.proofs.Entered.{unlisted-none}
use Rattle.flow_collector.proofs.Readings.{readings-are-entered}
use Rattle.books_spec.proofs.Adding.{boots-add_up}
use Rattle.source_ledger.proofs.Trims.{trim-sum}
use Rattle.stream_books.specs.Streams.{StreamState}
use Rattle.stream_books.specs.Sources.{boot_of, entered_count}
use Rattle.stream_books.proofs.Sources.{record-entered, record-boot}
use Rattle.stream_books.specs.declared.source.SourceRecord.{SourceRecord}
use Rattle.collector_tables.specs.declared.keys.StreamKey.{StreamKey}
use Rattle.collector_tables.specs.declared.keys.SourceKey.{SourceKey}
use Rattle.collector_tables.specs.Keys.{stream_in, source_in}
use Rattle.collector_tables.specs.Listed.{StreamStands, StreamsStand}
use Rattle.collector_tables.specs.Sources.{AreEmpty, SourceStands, SourcesStand}
use Rattle.collector_tables.proofs.Tables.{among-at, each-at}
use Rattle.flow_collector.specs.Collectors.{AreFew}
use Rattle.flow_collector.proofs.Boots.{source-boots-length}
use Rattle.flow_collector.proofs.Lists.{length-onto, length-map-all, length-filter_map, absent-count, not-arrived, none-empty, map-sum}

-- ---- entered samples

samples-few : (t : Taken) (xs : List Sample) → length (samples_at t xs) ≤ length xs
samples-few First xs = omega arith
samples-few Repeat xs = omega arith
samples-few Late xs = omega arith
samples-few takes.Stale xs = omega arith
samples-few Unlisted xs = omega arith
samples-few takes.Malformed xs = omega arith
samples-few Spent xs = omega arith

pub entered-few : (l : Limits) (items : List Item) → AreFew items → length (entered l items) ≤ 8191 * length items
entered-few l [] few = omega arith
entered-few l (Malformed f ∷ before) few =
    let later = entered-few l before few in
    omega (arith, later)
entered-few l (Got d ∷ before) few =
    let later = entered-few l before few.1 in
    let t : Taken = taken_now l before (Got d) in
    let sum = length-onto (map (entered_in (stream_of d)) (samples_at t d.samples)) (entered l before) in
    let mapped = length-map-all (entered_in (stream_of d)) (samples_at t d.samples) in
    let here = samples-few t d.samples in
    let most = few.0 in
    omega (arith, later, sum, mapped, here, most)

pub sources-few : (l : Limits) (items : List Item) → AreFew items → length (sources_of l items) ≤ 8191 * length items
sources-few l items few =
    let all = entered-few l items few in
    let some = length-filter_map source_of (entered l items) in
    omega (arith, all, some)

-- ---- the stream of a listed source is listed

module _ {S : Type 0} (same : S → S → Bool) (laws : IsSame same) where
  or-parts : (a b : Bool) → (a || b) ≡ false → (a ≡ false) × (b ≡ false)
  or-parts true b h = absurd (true≢false h)
  or-parts false b h = (refl, h)

  none-among : (key : S) (arrived : List S) → count_by (same key) arrived ≡ 0 → among same arrived key ≡ false
  none-among key [] none = refl
  none-among key (x ∷ before) none =
      let sum = count_by-cons (same key) x before in
      go (same key x) sum (none-among key before)
    where
      go : (b : Bool) → count_by (same key) (x ∷ before) ≡ cond b 1 0 + count_by (same key) before
          → (count_by (same key) before ≡ 0 → among same before key ≡ false) → (b || among same before key) ≡ false
      go true sum later = absurd (omega (arith, sum, none))
      go false sum later =
          let rest : count_by (same key) before ≡ 0 = omega (arith, sum, none) in
          later rest

  first-none : (key : S) (arrived : List S) → among same arrived key ≡ false
      → among same (first_arrivals same arrived) key ≡ false
  first-none key [] none = refl
  first-none key (x ∷ before) none =
      let parts = or-parts (same key x) (among same before key) none in
      go (among same (first_arrivals same before) x) parts.0 (first-none key before parts.1)
    where
      both : (a b : Bool) → a ≡ false → b ≡ false → (a || b) ≡ false
      both a b p q = rw p q

      go : (b : Bool) → same key x ≡ false → among same (first_arrivals same before) key ≡ false
          → among same (cond b (first_arrivals same before) (first_arrivals same before ++ x ∷ [])) key ≡ false
      go true other earlier = earlier
      go false other earlier =
          list_any-append (same key) (first_arrivals same before) (x ∷ [])
          ∙ both (among same (first_arrivals same before) key) (same key x || false) earlier
          (both (same key x) false other refl)

pub source-stream : (l : Limits) (items : List Item) (k : Source)
    → among same_source (listed_sources l items) k ≡ true → among same_stream (listed_streams l items) k.stream ≡ true
source-stream l items k there = go (among same_stream (listed_streams l items) k.stream) refl
  where
    go : (b : Bool) → among same_stream (listed_streams l items) k.stream ≡ b
        → among same_stream (listed_streams l items) k.stream ≡ true
    go true e = e
    go false e =
        let none = none-among same_source source-same k (sources_of l items) (unlisted-none l k items e) in
        let first = first-none same_source source-same k (sources_of l items) none in
        absurd (true≢false (sym (among-take same_source l.sources (first_arrivals same_source (sources_of l items)) k there)
        ∙ first))

-- where nothing came of a source, none of its boots has a reading
pub fresh-empty : (l : Limits) (items : List Item) (k : Source)
    → among same_stream (listed_streams l items) k.stream ≡ true
    → among same_source (first_arrivals same_source (sources_of l items)) k ≡ false → AreEmpty (placed_boots l k items)
fresh-empty l items k there none =
    none-empty (placed_boots l k items) (readings-are-entered l k items there
    ∙ absent-count same_source source-same k (sources_of l items)
    (not-arrived same_source source-same k (sources_of l items) none))

-- ---- what is kept of a source

pub source-kept : (l : Limits) (items : List Item) (entries : List (SourceKey × SourceRecord)) (place : ℕ) (k : SourceKey)
    (was : SourceRecord) → slice_get entries place ≡ Some (k, was)
    → SourcesStand (listed_streams l items) l.sources l.sample_width entries (sources_of l items) (λ s. placed_boots l s items)
    → (boot_of was ≤ length (stream_boots l (source_in (listed_streams l items) k).stream items))
    × (entered_count was ≤ length (sources_of l items))
source-kept l items entries place k was at st =
    let name : SourceKey → Source = source_in (listed_streams l items) in
    let own_stands = each-at name (SourceStands l.sample_width (λ s. placed_boots l s items)) entries place k was at
    st.table.each in
    let P : List Source → Type 0 = λ keys. among same_source keys (name k) ≡ true in
    let there = subst P st.table.keys_are (among-at name same_source source-same entries place k was at) in
    let stream = source-stream l items (name k) there in
    let boot = record-boot was (placed_boots l (name k) items) own_stands.stands in
    let long = source-boots-length l (name k) items in
    let all = record-entered was (placed_boots l (name k) items) own_stands.stands in
    let sum = readings-are-entered l (name k) items stream in
    let some = count_by-le-length (same_source (name k)) (sources_of l items) in
    (omega (arith, boot, long), omega (arith, all, sum, some))

-- ---- what is kept of a stream

own-few : (stream : Stream) (items : List Item) → length (own stream items) ≤ length items
own-few stream [] = omega arith
own-few stream (Malformed f ∷ before) =
    let later = own-few stream before in
    omega (arith, later)
own-few stream (Got d ∷ before) = go (same_stream stream (stream_of d)) (own-few stream before)
  where
    go : (b : Bool) → length (own stream before) ≤ length before
        → length (cond b (d ∷ own stream before) (own stream before)) ≤ length (Got d ∷ before)
    go true later = omega (arith, later)
    go false later = omega (arith, later)

pub stream-kept : (l : Limits) (items : List Item) (entries : List (StreamKey × StreamState)) (place : ℕ) (k : StreamKey)
    (was : StreamState) → slice_get entries place ≡ Some (k, was) → StreamsStand l entries items
    → was.ledger.marks.entered + was.stale ≤ length items
stream-kept l items entries place k was at st =
    let own_stands = each-at stream_in (StreamStands l items) entries place k was at st.each in
    let ds : List Datagram = own (stream_in k) items in
    let bs : List (List Datagram) = boots stamp_of l.boot_slack was.ledger.marks.width ds in
    let all : was.ledger.marks.entered ≡ sum_by length bs = own_stands.stands.ledger_stands.marks_stand.all_entered
    ∙ trim-sum length (map (sequences stamp_of) bs) refl ∙ map-sum (λ (d : Datagram). d.head.sequence) bs in
    let stale : was.stale ≡ length (stale_items stamp_of l.boot_slack was.ledger.marks.width ds) = own_stands.stands.stale_are in
    let sum = boots-add_up stamp_of l.boot_slack was.ledger.marks.width ds in
    let few = own-few (stream_in k) items in
    omega (arith, all, stale, sum, few)
