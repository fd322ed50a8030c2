-- What a collector has made of items: the items and the headers for which it stands, and what consumers became.
-- Items have the LATEST FIRST.
use Rattle.std.specs.Prelude.{◌≡◌, Bool, List}
use Rattle.books_spec.specs.declared.limits.Limits.{Limits}
use Rattle.books_spec.specs.SampledHeaders.{HeaderedItem, items_within}
use Rattle.sample_taps.specs.declared.brief.Brief.{Brief}
use Rattle.sample_taps.specs.BookBriefs.{book_briefs, book_classes}
use Rattle.sample_taps.specs.Feeding.{Held}
use Rattle.flow_collector.specs.Collectors.{CollectorState, StandsFor}

module _ {X : Type 0} (step : X → Brief → X → Type 0) (done : X → Bool) where
  -- under these limits the collector stands for these items, its classes count their headers, and of the consumers that
  -- were handed in those are held that the briefs of the items leave
  pub record Gathered (s : CollectorState) (l : Limits) (items : List HeaderedItem) (xs ys : List X) : Type 0 where
    pub stands : StandsFor s.books l (items_within items)
    pub classes : s.classes ≡ book_classes l items
    pub held : Held step done (book_briefs l items) xs ys
