-- What is kept of a source, and the samples over the boots of its stream for which it stands: the current boot first,
-- and in each boot the LATEST FIRST.
use Rattle.std.specs.Prelude.{ℕ, ◌+◌, Bool, true, false, List}
use Rattle.books_spec.specs.SourceViews.{PlacedReading}
use Rattle.source_ledger.specs.Numbers as numbers
use Rattle.source_ledger.specs.Flows as flows
use Rattle.stream_books.specs.declared.source.SourceRecord.{SourceRecord}
use Rattle.stream_books.specs.declared.source.SourceRecord.TheVariants.{Flow, Counters}

-- it is kept of flow samples
abbrev pub is_flow : SourceRecord → Bool
is_flow (Flow l) = true
is_flow (Counters l) = false

-- the width of its windows
abbrev pub width_of : SourceRecord → ℕ
width_of (Flow l) = l.numbers.marks.width
width_of (Counters l) = l.marks.width

-- the number of the boot in which it was entered last, and how many samples were entered
abbrev pub boot_of : SourceRecord → ℕ
boot_of (Flow l) = l.numbers.boot
boot_of (Counters l) = l.boot

abbrev pub entered_count : SourceRecord → ℕ
entered_count (Flow l) = l.numbers.marks.entered + l.numbers.stale
entered_count (Counters l) = l.marks.entered + l.stale

-- it stands for these samples
abbrev pub StandsFor : SourceRecord → List (List PlacedReading) → Type 0
StandsFor (Flow l) boots = flows.StandsFor l boots
StandsFor (Counters l) boots = numbers.StandsFor l boots
