-- The samples that interface counters see are those of the view, so both have the same generations.
use Rattle.std.proofs.Common.{◌≡◌, ℕ, Bool, true, false, cond, Some, None, List, [], ◌∷◌, map, refl, sym, ap, ◌∙◌}
use Rattle.std.specs.List.{filter_map, cons_option}
use Rattle.books_spec.specs.declared.limits.Limits.{Limits}
use Rattle.books_spec.specs.Items.{SourceId, Sample, Of, Carrying, Other, Datagram, Item, Source}
use Rattle.books_spec.specs.Listing.{same_id}
use Rattle.books_spec.specs.Books.{reading_of, stream_boots}
use Rattle.books_spec.specs.SourceViews.{source_stretches, PlacedReading, place_in, placed_mark, PlacedMark, mark_at}
use Rattle.books_spec.specs.PlacedSamples.{PlacedSample, first_placed, read_at, placed_reading_of, placed_readings, placed_boots, InterfaceSample, seen_at, interface_sample_at, interface_samples, interface_boots}
use Rattle.books_spec.specs.WholeBooks.{place_seen, mark_seen}
use Rattle.books_spec.proofs.Mapped.{stretches-mapped}

abbrev pub read_mark : PlacedReading → PlacedMark
read_mark r = mark_at (place_in r) (placed_mark r)

abbrev pub seen_mark : InterfaceSample → PlacedMark
seen_mark s = mark_at (place_seen s) (mark_seen s)

samples-same : (id : SourceId) (ps : List PlacedSample)
    → map seen_mark (filter_map (λ p. interface_sample_at p.place id p.sample) ps)
    ≡ map read_mark (filter_map (placed_reading_of id) ps)
samples-same id [] = refl
samples-same id (p ∷ ps) = kind p.sample (samples-same id ps)
  where
    seen : List InterfaceSample
    seen = filter_map (λ q. interface_sample_at q.place id q.sample) ps

    read : List PlacedReading
    read = filter_map (placed_reading_of id) ps

    kind : (x : Sample) → map seen_mark seen ≡ map read_mark read
        → map seen_mark (cons_option (interface_sample_at p.place id x) seen)
        ≡ map read_mark (cons_option (read_at p.place (reading_of id x)) read)
    kind Other later = later
    kind (Of other reading) later = go (same_id id other)
      where
        go : (b : Bool) → map seen_mark (cons_option (cond b (Some (seen_at p.place reading None)) None) seen)
            ≡ map read_mark (cons_option (read_at p.place (cond b (Some reading) None)) read)
        go true = ap (λ more. mark_at p.place reading.sequence ∷ more) later
        go false = later
    kind (Carrying other reading counters) later = go (same_id id other)
      where
        go : (b : Bool) → map seen_mark (cons_option (cond b (Some (seen_at p.place reading (Some counters))) None) seen)
            ≡ map read_mark (cons_option (read_at p.place (cond b (Some reading) None)) read)
        go true = ap (λ more. mark_at p.place reading.sequence ∷ more) later
        go false = later

boots-same : (l : Limits) (source : Source) (items : List Item)
    → map (map seen_mark) (interface_boots l source items) ≡ map (map read_mark) (placed_boots l source items)
boots-same l source items = each (stream_boots l source.stream items)
  where
    each : (bs : List (List Datagram))
        → map (map seen_mark) (map (interface_samples l.datagram_width source.id) bs)
        ≡ map (map read_mark) (map (placed_readings l.datagram_width source.id) bs)
    each [] = refl
    each (b ∷ more) =
        let here = samples-same source.id (first_placed l.datagram_width b) in
        let later = each more in
        λ j. here j ∷ later j

pub generations-same : (l : Limits) (width : ℕ) (source : Source) (items : List Item)
    → map (map seen_mark) (source_stretches place_seen mark_seen width (interface_boots l source items))
    ≡ map (map read_mark) (source_stretches place_in placed_mark width (placed_boots l source items))
generations-same l width source items =
    sym (stretches-mapped seen_mark (λ (m : PlacedMark). m.place) (λ (m : PlacedMark). m.mark) width (interface_boots l source items))
    ∙ ap (source_stretches (λ (m : PlacedMark). m.place) (λ (m : PlacedMark). m.mark) width) (boots-same l source items)
    ∙ stretches-mapped read_mark (λ (m : PlacedMark). m.place) (λ (m : PlacedMark). m.mark) width (placed_boots l source items)
