-- The samples of a source as its ledger and as its interface counters see them: the same places and marks.
use Rattle.std.proofs.Common.{◌≡◌, ◌∙◌, Bool, true, false, cond, Some, None, List, [], ◌∷◌, length, map, refl, sym, ap}
use Rattle.std.specs.List.{filter_map, cons_option, sum_by}
use Rattle.books_spec.specs.declared.limits.Limits.{Limits}
use Rattle.books_spec.specs.Items.{SourceId, Sample, Of, Carrying, Other, Datagram, Item, Source}
use Rattle.books_spec.specs.Listing.{same_stream, same_source, same_id, among, first_arrivals}
use Rattle.books_spec.specs.Books.{listed_streams, reading_of, stream_boots, sources_of}
use Rattle.books_spec.specs.SourceViews.{PlacedReading, mark_at}
use Rattle.books_spec.specs.PlacedSamples.{PlacedSample, first_placed, read_at, placed_reading_of, placed_readings, placed_boots, InterfaceSample, seen_at, interface_sample_at, interface_samples, interface_boots}
use Rattle.books_spec.proofs.Keys.{source-same}
use Rattle.books_spec.proofs.Seen.{read_mark, seen_mark}
use Rattle.collector_tables.specs.Sources.{AreEmpty}
use Rattle.flow_collector.proofs.Entering.{see_interface}
use Rattle.flow_collector.proofs.Lists.{absent-count, not-arrived, none-empty, map-sum}
use Rattle.flow_collector.proofs.Readings.{readings-are-entered}

mark-same : (id : SourceId) (p : PlacedSample) (xs : List InterfaceSample) (rs : List PlacedReading)
    → map seen_mark xs ≡ map read_mark rs
    → map seen_mark (cons_option (see_interface id p) xs) ≡ map read_mark (cons_option (placed_reading_of id p) rs)
mark-same id p xs rs later = kind p.sample
  where
    kind : (x : Sample) → map seen_mark (cons_option (interface_sample_at p.place id x) xs)
        ≡ map read_mark (cons_option (read_at p.place (reading_of id x)) rs)
    kind Other = later
    kind (Of other reading) = go (same_id id other)
      where
        go : (b : Bool) → map seen_mark (cons_option (cond b (Some (seen_at p.place reading None)) None) xs)
            ≡ map read_mark (cons_option (read_at p.place (cond b (Some reading) None)) rs)
        go true = ap (λ more. mark_at p.place reading.sequence ∷ more) later
        go false = later
    kind (Carrying other reading counters) = go (same_id id other)
      where
        go : (b : Bool) → map seen_mark (cons_option (cond b (Some (seen_at p.place reading (Some counters))) None) xs)
            ≡ map read_mark (cons_option (read_at p.place (cond b (Some reading) None)) rs)
        go true = ap (λ more. mark_at p.place reading.sequence ∷ more) later
        go false = later

samples-same : (id : SourceId) (ps : List PlacedSample)
    → map seen_mark (filter_map (see_interface id) ps) ≡ map read_mark (filter_map (placed_reading_of id) ps)
samples-same id [] = refl
samples-same id (p ∷ ps) =
    mark-same id p (filter_map (see_interface id) ps) (filter_map (placed_reading_of id) ps) (samples-same id ps)

pub marks-same : (l : Limits) (source : Source) (items : List Item)
    → map (map seen_mark) (interface_boots l source items) ≡ map (map read_mark) (placed_boots l source items)
marks-same l source items = each (stream_boots l source.stream items)
  where
    each : (bs : List (List Datagram))
        → map (map seen_mark) (map (interface_samples l.datagram_width source.id) bs)
        ≡ map (map read_mark) (map (placed_readings l.datagram_width source.id) bs)
    each [] = refl
    each (b ∷ more) =
        let here = samples-same source.id (first_placed l.datagram_width b) in
        let later = each more in
        λ j. here j ∷ later j

-- ---- how many there are

pub lengths-same : (l : Limits) (source : Source) (items : List Item)
    → sum_by length (interface_boots l source items) ≡ sum_by length (placed_boots l source items)
lengths-same l source items =
    sym (map-sum seen_mark (interface_boots l source items)) ∙ ap (sum_by length) (marks-same l source items)
    ∙ map-sum read_mark (placed_boots l source items)

-- where nothing came of a source, none of its boots has a sample
pub fresh-empty : (l : Limits) (items : List Item) (k : Source)
    → among same_stream (listed_streams l items) k.stream ≡ true
    → among same_source (first_arrivals same_source (sources_of l items)) k ≡ false → AreEmpty (interface_boots l k items)
fresh-empty l items k there none =
    none-empty (interface_boots l k items) (lengths-same l k items ∙ readings-are-entered l k items there
    ∙ absent-count same_source source-same k (sources_of l items)
    (not-arrived same_source source-same k (sources_of l items) none))
