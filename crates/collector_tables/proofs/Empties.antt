-- What stands for nothing stands for boots in which nothing came.
use Rattle.std.proofs.Common.{List, [], ◌∷◌, sym, subst}
use Rattle.books_spec.specs.SourceViews.{PlacedReading}
use Rattle.stream_books.specs.Sources.{StandsFor}
use Rattle.stream_books.specs.declared.source.SourceRecord.{SourceRecord}
use Rattle.stream_books.proofs.Sources.{record-passed}
use Rattle.collector_tables.specs.Sources.{AreEmpty}

pub empty-stands : (s : SourceRecord) (bs : List (List PlacedReading)) → AreEmpty bs → StandsFor s [] → StandsFor s bs
empty-stands s [] none st = st
empty-stands s (boot ∷ closed) none st =
    let P : List PlacedReading → Type 0 = λ b. StandsFor s (b ∷ closed) in
    subst P (sym none.0) (record-passed s closed (empty-stands s closed none.1 st))
