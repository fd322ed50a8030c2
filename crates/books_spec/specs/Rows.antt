-- Short forms in which the worked rows are written.
use Rattle.std.specs.Prelude.{ℕ, true, List}
use Rattle.books_spec.specs.Views.{Figures}
use Rattle.books_spec.specs.Books.{readings_view}
use Rattle.books_spec.specs.declared.ledger_view.LedgerView.{LedgerView}
use Rattle.books_spec.specs.declared.reading.SampleReading.{SampleReading}

-- these figures
abbrev pub figures : ℕ → ℕ → ℕ → ℕ → ℕ → ℕ → Figures
figures issued received pending lost repeated late = record {
  issued = issued;
  received = received;
  pending = pending;
  lost = lost;
  repeated = repeated;
  late = late;
}

-- what a flow sample shows
abbrev pub reading : ℕ → ℕ → ℕ → ℕ → SampleReading
reading sequence pool drops rate = record { sequence = sequence; pool = pool; drops = drops; rate = rate }

-- the view of these readings over boots, under a window of width 64
abbrev pub view_of : List (List SampleReading) → LedgerView
view_of boots = readings_view true 64 boots
