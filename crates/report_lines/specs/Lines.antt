-- The lines of the report, from the books. Each ends with a line feed.
use Rattle.std.specs.Prelude.{ℕ, Bool, true, false, List, [], ◌∷◌, Option, Some, None, codes, decimal}
use Rattle.std.specs.List.{concat}
use Rattle.wire_spec.specs.Texts.{address_text}
use Rattle.wire_spec.specs.declared.fault.Fault.{Fault}
use Rattle.wire_spec.specs.FaultNames.{fault_name}
use Rattle.books_spec.specs.Books.{StreamBooks}
use Rattle.books_spec.specs.WholeBooks.{SourceLine}
use Rattle.books_spec.specs.declared.totals.FirstFault.{FirstFault}
use Rattle.books_spec.specs.declared.totals.Totals.{Totals}

-- the line of the stream with this number
unfoldable pub stream_text : ℕ → StreamBooks → List ℕ
stream_text number s = concat (
    codes "stream " ∷ decimal number ∷
    codes " agent " ∷ address_text s.stream.agent ∷
    codes " sub " ∷ decimal s.stream.sub_agent ∷
    codes " boots " ∷ decimal s.boots ∷
    codes " issued " ∷ decimal s.view.issued ∷
    codes " received " ∷ decimal s.view.received ∷
    codes " pending " ∷ decimal s.view.pending ∷
    codes " lost " ∷ decimal s.view.lost ∷
    codes " repeated " ∷ decimal s.view.repeated ∷
    codes " late " ∷ decimal s.view.late ∷
    codes " stale " ∷ decimal s.stale ∷
    codes "\n" ∷ [])

-- the line of a source of flow samples
unfoldable pub flow_text : SourceLine → List ℕ
flow_text s = concat (
    codes "source " ∷ decimal s.stream ∷
    codes " flow " ∷ decimal s.id.class ∷
    codes ":" ∷ decimal s.id.index ∷
    codes " generations " ∷ decimal s.view.generations ∷
    codes " issued " ∷ decimal s.view.ledger.issued ∷
    codes " received " ∷ decimal s.view.ledger.received ∷
    codes " pending " ∷ decimal s.view.ledger.pending ∷
    codes " lost " ∷ decimal s.view.ledger.lost ∷
    codes " repeated " ∷ decimal s.view.ledger.repeated ∷
    codes " late " ∷ decimal s.view.ledger.late ∷
    codes " stale " ∷ decimal s.view.stale ∷
    codes " pool " ∷ decimal s.view.ledger.pool ∷
    codes " drops " ∷ decimal s.view.ledger.drops ∷
    codes " rate " ∷ decimal s.view.ledger.rate ∷
    codes "\n" ∷ [])

-- the line of a source of counters samples
unfoldable pub counters_text : SourceLine → List ℕ
counters_text s = concat (
    codes "source " ∷ decimal s.stream ∷
    codes " counters " ∷ decimal s.id.class ∷
    codes ":" ∷ decimal s.id.index ∷
    codes " generations " ∷ decimal s.view.generations ∷
    codes " issued " ∷ decimal s.view.ledger.issued ∷
    codes " received " ∷ decimal s.view.ledger.received ∷
    codes " pending " ∷ decimal s.view.ledger.pending ∷
    codes " lost " ∷ decimal s.view.ledger.lost ∷
    codes " repeated " ∷ decimal s.view.ledger.repeated ∷
    codes " late " ∷ decimal s.view.ledger.late ∷
    codes " stale " ∷ decimal s.view.stale ∷
    codes "\n" ∷ [])

abbrev pub kind_text : Bool → SourceLine → List ℕ
kind_text true s = flow_text s
kind_text false s = counters_text s

-- the line of a source
abbrev pub source_text : SourceLine → List ℕ
source_text s = kind_text s.id.flow s

-- the line of a fault, which is that of the entry with this number
unfoldable pub fault_line : ℕ → Fault → List ℕ
fault_line number f = concat (
    codes "fault entry " ∷ decimal number ∷
    codes " at " ∷ decimal f.at ∷
    codes " kind " ∷ fault_name f.kind ∷
    codes "\n" ∷ [])

-- the line of the first fault, and nothing where no entry was malformed
abbrev pub first_fault_text : Option FirstFault → List ℕ
first_fault_text None = []
first_fault_text (Some f) = fault_line f.entry f.fault

-- the last line, where so many consumers were dropped as done
unfoldable pub total_text : Totals → ℕ → List ℕ
total_text t ended = concat (
    codes "total entries " ∷ decimal t.entries ∷
    codes " malformed " ∷ decimal t.malformed ∷
    codes " unlisted " ∷ decimal t.unlisted ∷
    codes " unlisted_samples " ∷ decimal t.unlisted_samples ∷
    codes " other " ∷ decimal t.other ∷
    codes " taps_ended " ∷ decimal ended ∷
    codes "\n" ∷ [])
