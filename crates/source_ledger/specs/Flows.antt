-- A ledger of flow samples, and the boots of samples for which it stands: the current boot first, and in each the
-- LATEST FIRST. A boot may have no sample.
use Rattle.std.specs.Prelude.{◌≡◌, ℕ, List}
use Rattle.books_spec.specs.Views.{last_value}
use Rattle.books_spec.specs.declared.sample_place.SamplePlace.{SamplePlace}
use Rattle.books_spec.specs.SourceViews.{PlacedReading, placed_mark, placed_pool, placed_drops, placed_rate}
use Rattle.source_ledger.specs.Generations.{all_generations}
use Rattle.source_ledger.specs.Numbers.{NumbersState}
use Rattle.source_ledger.specs.Numbers as numbers
use Rattle.source_ledger.specs.Rises.{ShowsRise}
use Rattle.source_ledger.specs.declared.rise.Rise.{Rise}

-- what is to be seen of it
pub record FlowState : Type 0 where
  -- the ledger of the sample numbers
  pub numbers : NumbersState
  pub pool : Rise
  pub drops : Rise
  pub rate : ℕ

-- a sample that stands at this place and shows this
abbrev pub placed_sample : SamplePlace → ℕ → ℕ → ℕ → ℕ → PlacedReading
placed_sample at mark pool drops rate = record {
  place = at;
  reading = record { sequence = mark; pool = pool; drops = drops; rate = rate };
}

-- the ledger stands for these boots
pub record StandsFor (s : FlowState) (boots : List (List PlacedReading)) : Type 0 where
  pub numbers_stand : numbers.StandsFor s.numbers boots
  pub pool_is : ShowsRise placed_mark placed_pool s.numbers.marks.width s.pool
      (all_generations s.numbers.marks.width boots)
  pub drops_are : ShowsRise placed_mark placed_drops s.numbers.marks.width s.drops
      (all_generations s.numbers.marks.width boots)
  pub rate_is : s.rate ≡ last_value placed_mark placed_rate s.numbers.marks.width
      (all_generations s.numbers.marks.width boots)
