-- What one more reading makes of what is kept of its source, and what is answered.
use Rattle.std.specs.Prelude.{◌≡◌, ℕ, ◌+◌, List, ◌∷◌, length}
use Rattle.books_spec.specs.declared.booked.Booked.{Booked}
use Rattle.books_spec.specs.Generations.{booked}
use Rattle.books_spec.specs.SourceViews.{PlacedReading, place_in, placed_mark}
use Rattle.stream_books.specs.Sources.{StandsFor, is_flow, width_of}
use Rattle.stream_books.specs.declared.source.SourceRecord.{SourceRecord}

pub record Enters (boot : ℕ) (r : PlacedReading) (was now : SourceRecord) (given : Booked) : Type 0 where
  pub stands : (current : List PlacedReading) (closed : List (List PlacedReading)) → length closed + 1 ≡ boot
      → StandsFor was (current ∷ closed) → StandsFor now ((r ∷ current) ∷ closed)
  pub answered : (current : List PlacedReading) (closed : List (List PlacedReading)) → length closed + 1 ≡ boot
      → StandsFor was (current ∷ closed) → given ≡ booked place_in placed_mark (width_of was) current r
  pub kind : is_flow now ≡ is_flow was
  pub width : width_of now ≡ width_of was
