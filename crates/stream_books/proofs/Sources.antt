-- What is kept of a source has as many samples as the boots that it stands for, and is of no later boot than theirs.
use Rattle.std.proofs.Common.{◌≡◌, ◌≤◌, List, [], ◌∷◌, length, arith}
use Rattle.std.specs.List.{sum_by}
use Rattle.books_spec.specs.SourceViews.{PlacedReading}
use Rattle.source_ledger.specs.Numbers as numbers
use Rattle.source_ledger.specs.Numbers.{NumbersState}
use Rattle.source_ledger.proofs.Trims.{trim-length}
use Rattle.source_ledger.proofs.GenerationCounts.{numbers-entered}
use Rattle.source_ledger.proofs.NumberSteps.{boot-passed}
use Rattle.stream_books.specs.Sources.{StandsFor, boot_of, entered_count}
use Rattle.stream_books.specs.declared.source.SourceRecord.{SourceRecord}
use Rattle.stream_books.specs.declared.source.SourceRecord.TheVariants.{Flow, Counters}

numbers-boot : (l : NumbersState) (boots : List (List PlacedReading)) → numbers.StandsFor l boots → l.boot ≤ length boots
numbers-boot l boots st =
    let is = st.boot_is in
    let few = trim-length boots in
    omega (arith, is, few)

pub record-entered : (s : SourceRecord) (boots : List (List PlacedReading)) → StandsFor s boots
    → entered_count s ≡ sum_by length boots
record-entered (Flow l) boots st = numbers-entered l.numbers boots st.numbers_stand
record-entered (Counters l) boots st = numbers-entered l boots st

pub record-boot : (s : SourceRecord) (boots : List (List PlacedReading)) → StandsFor s boots
    → boot_of s ≤ length boots
record-boot (Flow l) boots st = numbers-boot l.numbers boots st.numbers_stand
record-boot (Counters l) boots st = numbers-boot l boots st

-- a boot passes in which nothing came
pub record-passed : (s : SourceRecord) (boots : List (List PlacedReading)) → StandsFor s boots → StandsFor s ([] ∷ boots)
record-passed (Counters l) boots st = (boot-passed l.marks.width l boots).0 st
record-passed (Flow l) boots st = record {
  numbers_stand = (boot-passed l.numbers.marks.width l.numbers boots).0 st.numbers_stand;
  pool_is = st.pool_is;
  drops_are = st.drops_are;
  rate_is = st.rate_is;
}
