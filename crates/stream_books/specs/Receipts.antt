-- What is answered to a datagram of a stream, with the number that its sequence word stands for in its boot.
use Rattle.std.specs.Prelude.{ℕ, List, [], pos}
use Rattle.count_spec.specs.Windows.{answer, counted}
use Rattle.count_spec.specs.Boots.{boot_place}
use Rattle.count_spec.specs.declared.entered.Entered as window
use Rattle.count_spec.specs.declared.entered.Entered.TheVariants as answers
use Rattle.count_spec.specs.declared.stretch_place.StretchPlace.{StretchPlace}
use Rattle.count_spec.specs.declared.stretch_place.StretchPlace.TheVariants as places
use Rattle.books_spec.specs.declared.taken.Taken.TheVariants.{First, Repeat, Late, Stale}
use Rattle.books_spec.specs.Items.{Datagram, stamp_of}
use Rattle.books_spec.specs.Books.{current_marks}
use Rattle.stream_books.specs.declared.taken.Receipt.{Receipt}

-- where the window of its boot answers so; the number of one that isn't First is 0
abbrev pub receipt_of : window.Entered → Receipt
receipt_of (answers.First place n) = record { taken = First; number = n }
receipt_of answers.Repeat = record { taken = Repeat; number = pos 0 }
receipt_of answers.Late = record { taken = Late; number = pos 0 }

-- where it stands at this place after these boots
abbrev pub receipt_at : ℕ → StretchPlace → List (List Datagram) → ℕ → Receipt
receipt_at width places.Current boots mark = receipt_of (answer width (counted width (current_marks boots)) mark)
receipt_at width places.Next boots mark = receipt_of (answer width [] mark)
receipt_at width places.Stale boots mark = record { taken = Stale; number = pos 0 }

-- a datagram after these boots of its stream
abbrev pub receipt_in : ℕ → ℕ → List (List Datagram) → Datagram → Receipt
receipt_in slack width boots d =
    receipt_at width (boot_place stamp_of slack width boots d) boots d.head.sequence
