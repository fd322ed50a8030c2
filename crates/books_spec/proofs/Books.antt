-- The views of whole books.
use Rattle.std.proofs.Common.{◌≡◌, ℕ, ◌+◌, Bool, true, false, List, map}
use Rattle.books_spec.specs.Views.{marks_in}
use Rattle.books_spec.specs.declared.reading.SampleReading.{SampleReading}
use Rattle.books_spec.specs.Books.{readings_view, mark_in}
use Rattle.books_spec.proofs.Sums.{over-issued}

pub readings-issued : (flow : Bool) (width : ℕ) (boots : List (List SampleReading))
    → (readings_view flow width boots).issued
    ≡ (readings_view flow width boots).received + (readings_view flow width boots).pending
    + (readings_view flow width boots).lost
readings-issued true width boots = over-issued width (marks_in mark_in boots)
readings-issued false width boots = over-issued width (map (map mark_in) boots)
