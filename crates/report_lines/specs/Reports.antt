-- The report without headers and consumers: a line for each stream and then for each source, in order of first arrival,
-- the line of the first fault, and the totals.
use Rattle.std.specs.Prelude.{ℕ, ◌+◌, List, [], ◌∷◌, ◌++◌, flat_map}
use Rattle.books_spec.specs.Books.{StreamBooks}
use Rattle.books_spec.specs.WholeBooks.{WholeBooks, SourceLine}
use Rattle.books_spec.specs.declared.totals.Totals.{Totals}
use Rattle.report_lines.specs.Lines.{stream_text, source_text, first_fault_text, total_text}

-- the lines of these streams, the first of which has this number
abbrev pub stream_texts : ℕ → List StreamBooks → List ℕ
stream_texts number [] = []
stream_texts number (s ∷ more) = stream_text number s ++ stream_texts (number + 1) more

-- the lines of these sources
abbrev pub source_texts : List SourceLine → List ℕ
source_texts sources = flat_map source_text sources

-- what the report ends with, where so many consumers were dropped as done
abbrev pub end_text : Totals → ℕ → List ℕ
end_text t ended = first_fault_text t.first_fault ++ total_text t ended

-- the report of these books, where no header counts and no consumer is there
unfoldable pub report_text : WholeBooks → List ℕ
report_text b = stream_texts 1 b.streams ++ (source_texts b.sources ++ end_text b.totals 0)
