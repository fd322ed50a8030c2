use Rattle.std.proofs.Common.{arith}
use Rattle.books_spec.specs.Listing.{same_source}
use Rattle.books_spec.specs.Books.{entered, sources_of}
use Rattle.books_spec.proofs.Keys.{source-same}
use Rattle.books_spec.proofs.Adding.{samples-split, arrivals-add_up}
use Rattle.books_spec.proofs.book_laws.samples_add_up.Goals as goal

pub returns : goal.returns
returns c = λ l items.
    let split = samples-split (entered l items) in
    let add = arrivals-add_up same_source source-same l.sources (sources_of l items) in
    omega (arith, split, add)
