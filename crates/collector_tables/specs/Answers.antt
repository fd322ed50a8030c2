-- What a table of streams answers, in the words of the books.
use Rattle.std.specs.Prelude.{Option, Some, None}
use Rattle.books_spec.specs.declared.taken.Taken.{Taken}
use Rattle.books_spec.specs.declared.taken.Taken.TheVariants.{Unlisted}
use Rattle.collector_tables.specs.declared.streams.TakenAt.{TakenAt}

-- none where the stream isn't listed
abbrev pub answer_in_books : Option TakenAt → Taken
answer_in_books None = Unlisted
answer_in_books (Some t) = t.receipt.taken
