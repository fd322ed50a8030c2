-- A ledger of the sample numbers of a source over generations, and the boots of samples for which it stands: the
-- current boot first, and in each the LATEST FIRST. A boot may have no sample.
use Rattle.std.specs.Prelude.{◌≡◌, ℕ, ◌+◌, List, [], ◌∷◌, length, pos}
use Rattle.count_spec.specs.Windows.{answer, counted}
use Rattle.count_spec.specs.declared.entered.Entered as window
use Rattle.count_spec.specs.declared.entered.Place.TheVariants.{Only}
use Rattle.count_spec.specs.declared.entered.Entered.TheVariants.{First, Repeat, Late}
use Rattle.books_spec.specs.declared.sample_place.SamplePlace.{SamplePlace}
use Rattle.books_spec.specs.declared.booked.Booked.{Booked}
use Rattle.books_spec.specs.declared.booked.Booked.TheVariants.{Entered}
use Rattle.books_spec.specs.Views.{marks_in}
use Rattle.books_spec.specs.Generations.{later}
use Rattle.books_spec.specs.SourceViews.{PlacedReading, placed_mark}
use Rattle.source_ledger.specs.Generations.{generations, newest_place, opening_place, all_generations, stale_count}
use Rattle.source_ledger.specs.Stretches.{current_of}
use Rattle.source_ledger.specs.Boots.{entered_boots}
use Rattle.source_ledger.specs.Marks.{MarksState}
use Rattle.source_ledger.specs.Marks as marks

-- what is to be seen of it
pub record NumbersState : Type 0 where
  -- the number of the boot that was entered last, or 0
  pub boot : ℕ
  -- how many generations there were in all boots, and how many in that boot
  pub generations : ℕ
  pub in_boot : ℕ
  -- how many samples were of earlier generations
  pub stale : ℕ
  -- where the sample stands that opened the current generation, and the greatest place of its First samples
  pub opened : SamplePlace
  pub newest : SamplePlace
  -- the marks of the generations
  pub marks : MarksState

-- the ledger shows these generations of the boot that was entered last
pub record ShowsCurrent (width : ℕ) (s : NumbersState) (current : List (List PlacedReading)) : Type 0 where
  pub in_boot_are : s.in_boot ≡ length current
  pub opened_is : s.opened ≡ opening_place (current_of current)
  pub newest_is : s.newest ≡ newest_place width (current_of current)

-- under windows of this width the ledger shows these boots
pub record ShowsBoots (width : ℕ) (s : NumbersState) (boots : List (List PlacedReading)) : Type 0 where
  pub boot_is : s.boot ≡ length (entered_boots boots)
  pub marks_stand : marks.StandsFor s.marks (marks_in placed_mark (all_generations width boots))
  pub generations_are : s.generations ≡ length (all_generations width boots)
  pub stale_are : s.stale ≡ stale_count width boots
  pub current_is : ShowsCurrent width s (generations width (current_of (entered_boots boots)))

-- the ledger stands for these boots
abbrev pub StandsFor : NumbersState → List (List PlacedReading) → Type 0
StandsFor s boots = ShowsBoots s.marks.width s boots

-- ---- what a further mark changes

-- the greatest place of the First samples, after a sample at this place was answered so
abbrev pub newest_after : window.Entered → SamplePlace → SamplePlace → SamplePlace
newest_after (First place n) at newest = later at newest
newest_after Repeat at newest = newest
newest_after Late at newest = newest

-- a generation is opened, the boot's number and its count being these
pub record Opens (old new : NumbersState) (boot in_boot : ℕ) (at : SamplePlace) (mark : ℕ) (given : Booked) : Type 0 where
  pub boot_is : new.boot ≡ boot
  pub generations_are : new.generations ≡ old.generations + 1
  pub in_boot_are : new.in_boot ≡ in_boot
  pub stale_are : new.stale ≡ old.stale
  pub opened_is : new.opened ≡ at
  pub newest_is : new.newest ≡ at
  pub width_is : new.marks.width ≡ old.marks.width
  pub entered_are : new.marks.entered ≡ old.marks.entered + 1
  pub marks_stand : (stretches : List (List ℕ)) → marks.StandsFor old.marks stretches
      → marks.StandsFor new.marks ((mark ∷ []) ∷ stretches)
  pub answered : (stretches : List (List ℕ)) → marks.StandsFor old.marks stretches → given ≡ Entered (First Only (pos mark))

-- the current generation goes on
pub record GoesOn (old new : NumbersState) (at : SamplePlace) (mark : ℕ) (given : Booked) : Type 0 where
  pub boot_is : new.boot ≡ old.boot
  pub generations_are : new.generations ≡ old.generations
  pub in_boot_are : new.in_boot ≡ old.in_boot
  pub stale_are : new.stale ≡ old.stale
  pub opened_is : new.opened ≡ old.opened
  pub width_is : new.marks.width ≡ old.marks.width
  pub entered_are : new.marks.entered ≡ old.marks.entered + 1
  pub marks_stand : (current : List ℕ) (closed : List (List ℕ)) → marks.StandsFor old.marks (current ∷ closed)
      → marks.StandsFor new.marks ((mark ∷ current) ∷ closed)
  pub answered : (current : List ℕ) (closed : List (List ℕ)) → marks.StandsFor old.marks (current ∷ closed)
      → given ≡ Entered (answer old.marks.width (counted old.marks.width current) mark)
  pub newest_is : (current : List ℕ) (closed : List (List ℕ)) → marks.StandsFor old.marks (current ∷ closed)
      → new.newest ≡ newest_after (answer old.marks.width (counted old.marks.width current) mark) at old.newest

-- the mark is in no generation
abbrev pub Passes : NumbersState → NumbersState → Type 0
Passes old new = new ≡ record old { stale = old.stale + 1 }
