-- Reading entry after entry, from the header on.
use Rattle.std.proofs.Common.{◌≡◌, ℕ, ◌+◌, List, [], ◌∷◌, ◌++◌, length, flat_map, refl, sym, ap, subst, ◌∙◌, append_assoc, append-nil}
use Rattle.std.proofs.lemmas.List.Concat.{flat_map-append}
use Rattle.std.proofs.lemmas.List.Elements.{All-push, All-nil}
use Rattle.wire_spec.specs.declared.input_kind.InputKind.{InputKind}
use Rattle.wire_spec.specs.declared.input_kind.InputKind.TheVariants.{Cut, Long, Padding}
use Rattle.wire_spec.specs.Bytes.{AreBytes}
use Rattle.wire_spec.specs.Captures.{Entry, IsEntry, entry_bytes, capture_header, capture_bytes, Capture, CaptureThen, BreaksOff, CaptureFault}
use Rattle.wire_spec.specs.CaptureReading.{Stops, Holds, Breaks, front_of, IsFront}
use Rattle.wire_spec.proofs.ByteLists.{rest_bytes}
use Rattle.wire_spec.proofs.CaptureFronts.{front_shows}
use Rattle.wire_spec.proofs.CaptureOutcomes.{capture_bytes_are}

pub no_entries_are : capture_bytes [] ≡ capture_header 1
no_entries_are = capture_bytes_are [] ∙ append-nil (capture_header 1)

pub walk_begins : (rest : List ℕ) → CaptureThen [] rest (capture_header 1 ++ rest)
walk_begins rest = record {
  each = All-nil IsEntry;
  whole = sym (ap (λ l. l ++ rest) no_entries_are);
}

rest_are : (entries : List Entry) (rest bytes : List ℕ) → CaptureThen entries rest bytes → AreBytes bytes
    → AreBytes rest
rest_are entries rest bytes h are = rest_bytes (capture_bytes entries) rest (subst AreBytes h.whole are)

pub capture_bytes-push : (entries : List Entry) (e : Entry)
    → capture_bytes (entries ++ e ∷ []) ≡ capture_bytes entries ++ entry_bytes e
capture_bytes-push entries e =
    capture_bytes_are (entries ++ e ∷ [])
    ∙ ap (λ l. capture_header 1 ++ l) (flat_map-append entry_bytes entries (e ∷ []))
    ∙ ap (λ l. capture_header 1 ++ (flat_map entry_bytes entries ++ l)) (append-nil (entry_bytes e))
    ∙ sym (append_assoc (capture_header 1) (flat_map entry_bytes entries) (entry_bytes e))
    ∙ ap (λ l. l ++ entry_bytes e) (sym (capture_bytes_are entries))

pub walk_goes_on : (entries : List Entry) (e : Entry) (rest more bytes : List ℕ) → AreBytes bytes
    → CaptureThen entries rest bytes
    → front_of rest ≡ Holds e more → CaptureThen (entries ++ e ∷ []) more bytes
walk_goes_on entries e rest more bytes are h front =
    let shown = subst (IsFront rest) front (front_shows rest (rest_are entries rest bytes h are)) in record {
      each = All-push IsEntry entries e h.each shown.0;
      whole = h.whole ∙ ap (λ l. capture_bytes entries ++ l) shown.1
          ∙ sym (append_assoc (capture_bytes entries) (entry_bytes e) more)
          ∙ sym (ap (λ l. l ++ more) (capture_bytes-push entries e));
    }

pub walk_stops : (entries : List Entry) (rest bytes : List ℕ) → AreBytes bytes
    → CaptureThen entries rest bytes
    → front_of rest ≡ Stops → Capture entries bytes
walk_stops entries rest bytes are h front =
    let shown = subst (IsFront rest) front (front_shows rest (rest_are entries rest bytes h are)) in record {
      each = h.each;
      whole = h.whole ∙ ap (λ l. capture_bytes entries ++ l) shown ∙ append-nil (capture_bytes entries);
    }

kinds_of_breaks : (bytes : List ℕ) (at : ℕ) (kind : InputKind) → BreaksOff bytes at kind
    → CaptureFault bytes at kind
kinds_of_breaks bytes at Cut h = h
kinds_of_breaks bytes at Long h = h
kinds_of_breaks bytes at Padding h = h
kinds_of_breaks bytes at _ h = absurd h.broken

pub walk_breaks : (entries : List Entry) (rest bytes : List ℕ) (within : ℕ) (kind : InputKind)
    → AreBytes bytes
    → CaptureThen entries rest bytes → front_of rest ≡ Breaks within kind
    → CaptureFault bytes (length (capture_bytes entries) + within) kind
walk_breaks entries rest bytes within kind are h front =
    let shown = subst (IsFront rest) front (front_shows rest (rest_are entries rest bytes h are)) in
    kinds_of_breaks bytes (length (capture_bytes entries) + within) kind (record {
      entries = entries;
      rest = rest;
      within = within;
      before = h;
      broken = shown;
      place = refl;
    })
