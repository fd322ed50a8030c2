-- The interface counters of a collector's sources, by the places of the sources.
use Rattle.std.specs.Prelude.{◌≡◌, ℕ, ◌≤◌, ◌<◌, ◌^◌, Option, Some, None, List, [], ◌∷◌, ◌++◌, length, slice_get, slice_set, ℤ}
use Rattle.books_spec.specs.declared.limits.Limits.{Limits}
use Rattle.books_spec.specs.declared.source_view.IfView.{IfView}
use Rattle.books_spec.specs.Items.{Item, Source}
use Rattle.books_spec.specs.InterfaceRise.{InterfaceCounters, NumberedCounters}
use Rattle.books_spec.specs.Books.{listed_sources}
use Rattle.books_spec.specs.PlacedSamples.{interface_boots}
use Rattle.books_spec.specs.WholeBooks.{interface_of}
use Rattle.count_spec.specs.declared.entered.Entered as window
use Rattle.count_spec.specs.declared.entered.Entered.TheVariants.{First, Repeat, Late}
use Rattle.books_spec.specs.declared.booked.Booked.{Booked}
use Rattle.books_spec.specs.declared.booked.Booked.TheVariants.{Entered, Past}
use Rattle.stream_books.specs.declared.source.SourceRecord.{SourceRecord}
use Rattle.stream_books.specs.declared.source.SourceRecord.TheVariants.{Flow, Counters}
use Rattle.collector_tables.specs.declared.keys.SourceKey.{SourceKey}
use Rattle.collector_tables.specs.declared.sources.EnteredAt.{EnteredAt}
use Rattle.if_ledger.specs.Ledgers.{IfState, StandsFor}
use Rattle.if_ledger.specs.Boots.{StandsForBoots, added, TakesAny}

-- each key has a ledger at its place, which is so
abbrev pub ArePaired : {S : Type 0} → (S → IfState → Type 0) → List S → List IfState → Type 0
ArePaired P [] [] = Unit {0}
ArePaired P [] (s ∷ ledgers) = ⊥
ArePaired P (k ∷ keys) [] = ⊥
ArePaired P (k ∷ keys) (s ∷ ledgers) = P k s × ArePaired P keys ledgers

-- the ledger of each listed source stands for what came of it
abbrev pub InterfacesStand : Limits → List Item → List IfState → Type 0
InterfacesStand l items ledgers =
    ArePaired (λ k s. StandsForBoots l.sample_width s (interface_boots l k items)) (listed_sources l items) ledgers

-- what is shown of the interface counters of a source, where there is one at a place
abbrev pub interface_shown_of : Limits → List Item → Option Source → Option IfView
interface_shown_of l items None = None
interface_shown_of l items (Some k) = interface_of k.id.flow l.sample_width (interface_boots l k items)

-- ---- one sample more

-- how many generations a source had in all boots
abbrev pub run_in : SourceRecord → ℕ
run_in (Flow l) = l.numbers.generations
run_in (Counters l) = l.generations

-- the number of a sample that was answered so, where it is First
abbrev pub number_answered : window.Entered → Option ℤ
number_answered (First place n) = Some n
number_answered Repeat = None
number_answered Late = None

abbrev pub number_booked : Booked → Option ℤ
number_booked (Entered answer) = number_answered answer
number_booked Past = None

-- a ledger may be entered at a place in this run
pub record IsReady (ledgers : List IfState) (limit place run : ℕ) : Type 0 where
  pub next : place ≤ length ledgers
  pub room : place < limit
  pub run_counts : 1 ≤ run
  pub few : (was : IfState) → slice_get ledgers place ≡ Some was → (was.run ≤ run) × (was.samples < 2 ^ 62)

abbrev pub IsReadyFor : List IfState → ℕ → List (SourceKey × SourceRecord) → Option EnteredAt → Type 0
IsReadyFor ledgers limit entries None = Unit {0}
IsReadyFor ledgers limit entries (Some e) = (k : SourceKey) × (s : SourceRecord)
    × (slice_get entries e.place ≡ Some (k, s)) × IsReady ledgers limit e.place (run_in s)

-- the ledgers, once there is one at the place
pub record AreListed (old : List IfState) (place : ℕ) (now : List IfState) : Type 0 where
  pub known : place < length old → now ≡ old
  pub new : place ≡ length old → (opened : IfState) × (opened.run ≡ 0) × StandsFor opened [] × (now ≡ old ++ opened ∷ [])

-- the ledgers after a sample of the source at this place
pub record AreEntered (old new : List IfState) (place run : ℕ) (x : Option NumberedCounters) : Type 0 where
  pub listed : List IfState
  pub are_listed : AreListed old place listed
  pub entered : (was : IfState) → slice_get listed place ≡ Some was
      → (now : IfState) × (new ≡ slice_set listed place now) × TakesAny run x was now

abbrev pub AreEnteredFor : List IfState → List IfState → List (SourceKey × SourceRecord) → Option InterfaceCounters
    → Option EnteredAt → Type 0
AreEnteredFor old new entries carried None = new ≡ old
AreEnteredFor old new entries carried (Some e) = (k : SourceKey) (s : SourceRecord) → slice_get entries e.place ≡ Some (k, s)
    → AreEntered old new e.place (run_in s) (added e.booked carried)
