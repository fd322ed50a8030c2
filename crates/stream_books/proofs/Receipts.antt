-- The answer in a receipt is that of the books.
use Rattle.std.proofs.Common.{◌≡◌, ℕ, List, refl}
use Rattle.count_spec.specs.Windows.{answer, counted}
use Rattle.count_spec.specs.declared.entered.Entered as window
use Rattle.count_spec.specs.declared.entered.Entered.TheVariants as answers
use Rattle.count_spec.specs.declared.stretch_place.StretchPlace.{StretchPlace}
use Rattle.count_spec.specs.declared.stretch_place.StretchPlace.TheVariants as places
use Rattle.books_spec.specs.Items.{Datagram}
use Rattle.books_spec.specs.Books.{taken_of, taken_at, current_marks}
use Rattle.stream_books.specs.Receipts.{receipt_of, receipt_at}

of-window : (a : window.Entered) → (receipt_of a).taken ≡ taken_of a
of-window (answers.First place n) = refl
of-window answers.Repeat = refl
of-window answers.Late = refl

pub receipt-taken : (width : ℕ) (p : StretchPlace) (bs : List (List Datagram)) (mark : ℕ)
    → (receipt_at width p bs mark).taken ≡ taken_at width p bs mark
receipt-taken width places.Current bs mark = of-window (answer width (counted width (current_marks bs)) mark)
receipt-taken width places.Next bs mark = refl
receipt-taken width places.Stale bs mark = refl
