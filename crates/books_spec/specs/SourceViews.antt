-- What the books show of a source: sums over its generations in all boots of its stream.
-- The generations of all boots are one list of stretches, of which all but the first are closed. Where the source has
-- no sample in the last boot, all its generations are closed: an empty stretch stands in front of them.
-- Samples have the LATEST FIRST, and generations and boots the current one first.
use Rattle.std.specs.Prelude.{ℕ, Bool, true, false, List, [], ◌∷◌, ◌++◌, length, map}
use Rattle.std.specs.List.{sum_by}
use Rattle.books_spec.specs.declared.sample_place.SamplePlace.{SamplePlace}
use Rattle.books_spec.specs.declared.reading.SampleReading.{SampleReading}
use Rattle.books_spec.specs.declared.ledger_view.LedgerView.{LedgerView}
use Rattle.books_spec.specs.declared.source_view.SourceLedgerView.{SourceLedgerView}
use Rattle.books_spec.specs.Generations.{generations, stale_samples}
use Rattle.books_spec.specs.Views.{plain_view, flow_view, marks_in}

-- all lists of these, in order
abbrev pub joined : {X : Type 0} → List (List X) → List X
joined [] = []
joined (xs ∷ more) = xs ++ joined more

-- these stretches with a current one, which is empty where there are none
abbrev pub with_current : {X : Type 0} → List (List X) → List (List X)
with_current [] = [] ∷ []
with_current (current ∷ closed) = current ∷ closed

-- the stretches of all boots
abbrev pub over_boots : {X : Type 0} → List (List (List X)) → List (List X)
over_boots [] = []
over_boots (current ∷ closed) = with_current current ++ joined closed

module _ {X : Type 0} (place : X → SamplePlace) (mark : X → ℕ) where
  -- the generations of the samples of each boot, as stretches
  abbrev pub source_stretches : ℕ → List (List X) → List (List X)
  source_stretches width boots = over_boots (map (generations place mark width) boots)

  -- how many generations there are in all boots
  abbrev pub generation_count : ℕ → List (List X) → ℕ
  generation_count width boots = sum_by (λ boot. length (generations place mark width boot)) boots

  -- how many samples of all boots are stale
  abbrev pub stale_count : ℕ → List (List X) → ℕ
  stale_count width boots = sum_by (λ boot. length (stale_samples place mark width boot)) boots

  -- the view over generations, by the view over stretches
  abbrev pub view_over : (List (List X) → LedgerView) → ℕ → List (List X) → SourceLedgerView
  view_over view width boots = record {
    generations = generation_count width boots;
    ledger = view (source_stretches width boots);
    stale = stale_count width boots;
  }

-- ---- samples of a source as they are entered

-- what a sample shows, and where it stands
pub record PlacedReading : Type 0 where
  pub place : SamplePlace
  pub reading : SampleReading

abbrev pub place_in : PlacedReading → SamplePlace
place_in r = r.place

abbrev pub placed_mark : PlacedReading → ℕ
placed_mark r = r.reading.sequence

abbrev pub placed_pool : PlacedReading → ℕ
placed_pool r = r.reading.pool

abbrev pub placed_drops : PlacedReading → ℕ
placed_drops r = r.reading.drops

abbrev pub placed_rate : PlacedReading → ℕ
placed_rate r = r.reading.rate

-- what a generation goes by: a place and a mark
pub record PlacedMark : Type 0 where
  pub place : SamplePlace
  pub mark : ℕ

abbrev pub mark_at : SamplePlace → ℕ → PlacedMark
mark_at place mark = record { place = place; mark = mark }

-- the view of stretches of flow samples, or of counters samples
abbrev pub stretches_view : Bool → ℕ → List (List PlacedReading) → LedgerView
stretches_view true width stretches = flow_view placed_mark placed_pool placed_drops placed_rate width stretches
stretches_view false width stretches = plain_view width (marks_in placed_mark stretches)

-- the view of a source of flow samples, or of one of counters samples, over its samples of each boot
abbrev pub source_view : Bool → ℕ → List (List PlacedReading) → SourceLedgerView
source_view flow width boots = view_over place_in placed_mark (stretches_view flow width) width boots
