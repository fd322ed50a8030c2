-- What is shown is what the books show.
use Rattle.std.proofs.Common.{◌≡◌, ◌∙◌, ℕ, ◌+◌, ◌<◌, Some, List, length, map, sym, ap, arith}
use Rattle.std.specs.Prelude.{slice_get}
use Rattle.std.specs.Option.{option_map}
use Rattle.std.proofs.lemmas.Option.{slice_get-map}
use Rattle.count_spec.specs.Boots.{sequences, boots, stale_items}
use Rattle.books_spec.specs.Views.{plain_view}
use Rattle.books_spec.specs.declared.ledger_view.LedgerView.{LedgerView}
use Rattle.books_spec.specs.Items.{Datagram, stamp_of, Item, Stream}
use Rattle.books_spec.specs.SourceViews.{PlacedReading, source_view}
use Rattle.books_spec.specs.PlacedSamples.{placed_boots}
use Rattle.books_spec.specs.WholeBooks.{source_line}
use Rattle.books_spec.specs.declared.source_view.SourceLedgerView.{SourceLedgerView}
use Rattle.books_spec.specs.declared.limits.Limits.{Limits}
use Rattle.books_spec.specs.Listing.{same_stream}
use Rattle.books_spec.specs.Books.{streams_of, listed_streams, listed_sources, own, stream_boots, stale_of, sources_of, stream_books}
use Rattle.books_spec.proofs.Listings.{listed-few, listed-distinct}
use Rattle.books_spec.proofs.Keys.{stream-same}
use Rattle.stream_books.specs.Streams.{StreamState, StandsFor as KeepsStream}
use Rattle.stream_books.specs.Sources.{StandsFor as KeepsSource, is_flow, width_of}
use Rattle.stream_books.specs.declared.source.SourceRecord.{SourceRecord}
use Rattle.collector_tables.specs.declared.keys.StreamKey.{StreamKey}
use Rattle.collector_tables.specs.declared.keys.SourceKey.{SourceKey}
use Rattle.collector_tables.specs.Kinds.{is_flow_kind}
use Rattle.collector_tables.specs.Keys.{stream_in, stream_at, id_in, source_in, IsPlaced}
use Rattle.collector_tables.specs.Tables.{keys_in}
use Rattle.collector_tables.specs.Listed.{StreamStands, StreamsStand}
use Rattle.collector_tables.specs.Sources.{SourceStands, SourcesStand}
use Rattle.collector_tables.proofs.Tables.{each-at}
use Rattle.flow_collector.proofs.Boots.{source-boots-length}
use Rattle.flow_collector.proofs.Found.{key-at, place-of-place}

-- what is made of the key at a place
place-of : {K V S T : Type 0} (key : K → S) (f : S → T) (entries : List (K × V)) (keys : List S) (place : ℕ) (k : K) (v : V)
    → slice_get entries place ≡ Some (k, v) → keys_in key entries ≡ keys → Some (f (key k)) ≡ slice_get (map f keys) place
place-of key f entries keys place k v at is =
    sym (slice_get-map f keys place ∙ ap (option_map f) (key-at key entries keys place k v at is))

pub stream-shown : (l : Limits) (items : List Item) (entries : List (StreamKey × StreamState)) (place : ℕ) (k : StreamKey)
    (v : StreamState) (count stale : ℕ) (view : LedgerView) → slice_get entries place ≡ Some (k, v)
    → ((slack : ℕ) (ds : List Datagram) → KeepsStream slack v ds → count ≡ length (boots stamp_of slack v.ledger.marks.width ds))
    → ((slack : ℕ) (ds : List Datagram) → KeepsStream slack v ds
    → stale ≡ length (stale_items stamp_of slack v.ledger.marks.width ds))
    → ((slack : ℕ) (ds : List Datagram) → KeepsStream slack v ds
    → view ≡ plain_view v.ledger.marks.width (map (sequences stamp_of) (boots stamp_of slack v.ledger.marks.width ds)))
    → StreamsStand l entries items
    → Some (record { stream = stream_in k; boots = count; view = view; stale = stale })
    ≡ slice_get (map (stream_books l items) (listed_streams l items)) place
stream-shown l items entries place k v count stale view at counts stales views st =
    let kept = each-at stream_in (StreamStands l items) entries place k v at st.each in
    let ds : List Datagram = own (stream_in k) items in
    let one : count ≡ length (stream_boots l (stream_in k) items) = counts l.boot_slack ds kept.stands
    ∙ ap (λ w. length (boots stamp_of l.boot_slack w ds)) kept.width in
    let two : stale ≡ length (stale_of l (stream_in k) items) = stales l.boot_slack ds kept.stands
    ∙ ap (λ w. length (stale_items stamp_of l.boot_slack w ds)) kept.width in
    let three : view ≡ plain_view l.datagram_width (map (sequences stamp_of) (stream_boots l (stream_in k) items)) =
    views l.boot_slack ds kept.stands
    ∙ ap (λ w. plain_view w (map (sequences stamp_of) (boots stamp_of l.boot_slack w ds))) kept.width in
    (λ j. Some (record { stream = stream_in k; boots = one j; view = three j; stale = two j }))
    ∙ place-of stream_in (stream_books l items) entries (listed_streams l items) place k v at st.keys_are

-- the stream of a listed source is listed
pub placed-at : (l : Limits) (items : List Item) (entries : List (SourceKey × SourceRecord)) (place : ℕ)
    (k : SourceKey) (v : SourceRecord) → slice_get entries place ≡ Some (k, v)
    → SourcesStand (listed_streams l items) l.sources l.sample_width entries (sources_of l items)
    (λ s. placed_boots l s items) → k.stream < length (listed_streams l items)
placed-at l items entries place k v at st =
    each-at (λ (x : SourceKey). x) (λ x r. x.stream < length (listed_streams l items)) entries place k v at st.placed

-- and its place is below the limit
pub place-few : (l : Limits) (items : List Item) (entries : List (SourceKey × SourceRecord)) (place : ℕ)
    (k : SourceKey) (v : SourceRecord) → slice_get entries place ≡ Some (k, v)
    → SourcesStand (listed_streams l items) l.sources l.sample_width entries (sources_of l items)
    (λ s. placed_boots l s items) → k.stream < l.streams
place-few l items entries place k v at st =
    let less = placed-at l items entries place k v at st in
    let few = listed-few same_stream l.streams (streams_of items) in
    omega (arith, less, few)

pub source-shown : (l : Limits) (items : List Item) (entries : List (SourceKey × SourceRecord)) (place : ℕ)
    (k : SourceKey) (v : SourceRecord) (boot : ℕ) (view : SourceLedgerView) → slice_get entries place ≡ Some (k, v)
    → boot ≡ length (stream_boots l (stream_at (listed_streams l items) k.stream) items)
    → ((bs : List (List PlacedReading)) → length bs ≡ boot → KeepsSource v bs
    → view ≡ source_view (is_flow v) (width_of v) bs)
    → SourcesStand (listed_streams l items) l.sources l.sample_width entries (sources_of l items)
    (λ s. placed_boots l s items)
    → Some (record { stream = k.stream + 1; id = id_in k; view = view })
    ≡ slice_get (map (source_line l items) (listed_sources l items)) place
source-shown l items entries place k v boot view at boots_are views st =
    let streams : List Stream = listed_streams l items in
    let kept = each-at (source_in streams) (SourceStands l.sample_width (λ s. placed_boots l s items)) entries place k v at
    st.table.each in
    let bs : List (List PlacedReading) = placed_boots l (source_in streams k) items in
    let distinct = listed-distinct same_stream stream-same l.streams (streams_of items) in
    let placed : IsPlaced streams k = record { distinct = distinct; place = placed-at l items entries place k v at st } in
    let one = sym (place-of-place streams k placed) in
    let two : view ≡ source_view (is_flow_kind k.kind) l.sample_width bs =
    views bs (source-boots-length l (source_in streams k) items ∙ sym boots_are) kept.stands
    ∙ (λ j. source_view (kept.kind j) (kept.width_is j) bs) in
    (λ j. Some (record { stream = one j + 1; id = id_in k; view = two j }))
    ∙ place-of (source_in streams) (source_line l items) entries (listed_sources l items) place k v at st.table.keys_are
