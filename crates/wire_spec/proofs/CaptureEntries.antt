-- The entries of a capture, one after the other, to the end or to what is broken.
use Rattle.std.proofs.Common.{◌≡◌, ℕ, zero, suc, ◌+◌, ◌<◌, ◌≤◌, List, [], ◌∷◌, ◌++◌, length, replicate, flat_map, All, Ok, Err, refl, sym, ap, subst, ◌∙◌, append_assoc, arith, length-append}
use Rattle.std.proofs.lemmas.List.{nil_from_length}
use Rattle.std.proofs.lemmas.List.Elements.{All-cons, All-head, All-tail, All-nil}
use Rattle.wire_spec.specs.declared.input_kind.InputKind.{InputKind}
use Rattle.wire_spec.specs.Bytes.{AreBytes}
use Rattle.wire_spec.specs.Padding.{padding_of}
use Rattle.wire_spec.specs.Captures.{Entry, IsEntry, entry_head, entry_bytes, IsBroken, CaptureOutcome}
use Rattle.wire_spec.specs.CaptureReading.{Front, Stops, Holds, Breaks, front_of, IsFront, entry_length, with_entry, read_front, entries_reading}
use Rattle.wire_spec.proofs.ByteLists.{rest_bytes}
use Rattle.wire_spec.proofs.ZeroBytes.{length_zeros}
use Rattle.wire_spec.proofs.EntryHeads.{length-entry_head}
use Rattle.wire_spec.proofs.CaptureFronts.{entry_bytes_are, front_shows}
use Rattle.wire_spec.proofs.CaptureFrontsBack.{front_back}

-- whole entries, and then what is broken; the offset is that of the first entry
pub record EntriesBreak (offset : ℕ) (bytes : List ℕ) (at : ℕ) (kind : InputKind) : Type 0 where
  pub entries : List Entry
  pub rest : List ℕ
  pub within : ℕ
  pub each : All IsEntry entries
  pub whole : bytes ≡ flat_map entry_bytes entries ++ rest
  pub broken : IsBroken rest within kind
  pub place : at ≡ offset + length (flat_map entry_bytes entries) + within

-- what the entries from this offset on are read as
abbrev pub AreRead : ℕ → List ℕ → CaptureOutcome → Type 0
AreRead offset bytes (Ok entries) = All IsEntry entries × (bytes ≡ flat_map entry_bytes entries)
AreRead offset bytes (Err fault) = EntriesBreak offset bytes fault.0 fault.1

pub length-entry_bytes : (e : Entry) → length (entry_bytes e) ≡ entry_length e
length-entry_bytes e =
    let n = length e.bytes in
    let zeros : List ℕ = replicate (padding_of n) 0 in
    omega (
      arith,
      ap length (entry_bytes_are e),
      length-append (entry_head e.arrival n) (e.bytes ++ zeros),
      length-append e.bytes zeros,
      length-entry_head e.arrival n,
      length_zeros (padding_of n),
    )

-- ---- what is read is so

entry_before : (e : Entry) (offset : ℕ) (bytes more : List ℕ) (r : CaptureOutcome) → IsEntry e
    → bytes ≡ entry_bytes e ++ more → AreRead (offset + entry_length e) more r
    → AreRead offset bytes (with_entry e r)
entry_before e offset bytes more (Ok entries) fits whole h =
    (All-cons IsEntry e entries fits h.0, whole ∙ ap (λ l. entry_bytes e ++ l) h.1)
entry_before e offset bytes more (Err fault) fits whole h =
    let later = flat_map entry_bytes h.entries in record {
      entries = e ∷ h.entries;
      rest = h.rest;
      within = h.within;
      each = All-cons IsEntry e h.entries fits h.each;
      whole = whole ∙ ap (λ l. entry_bytes e ++ l) h.whole ∙ sym (append_assoc (entry_bytes e) later h.rest);
      broken = h.broken;
      place = omega (arith, h.place, length-append (entry_bytes e) later, length-entry_bytes e);
    }

front_read : (most offset : ℕ) (bytes : List ℕ) (front : Front) → AreBytes bytes → length bytes ≤ suc most
    → ((from : ℕ) (more : List ℕ) → AreBytes more → length more ≤ most
    → AreRead from more (entries_reading most from more))
    → IsFront bytes front → AreRead offset bytes (read_front offset (entries_reading most) front)
front_read most offset bytes Stops are long later h = (All-nil IsEntry, h)
front_read most offset bytes (Holds e more) are long later h =
    let fewer : length more ≤ most =
    omega (arith, ap length h.1, length-append (entry_bytes e) more, length-entry_bytes e, long) in
    let more_are : AreBytes more = rest_bytes (entry_bytes e) more (subst AreBytes h.1 are) in
    entry_before e offset bytes more _ h.0 h.1 (later (offset + entry_length e) more more_are fewer)
front_read most offset bytes (Breaks within kind) are long later h = record {
  entries = [];
  rest = bytes;
  within = within;
  each = All-nil IsEntry;
  whole = refl;
  broken = h;
  place = omega arith;
}

pub entries_show : (most offset : ℕ) (bytes : List ℕ) → AreBytes bytes → length bytes ≤ most
    → AreRead offset bytes (entries_reading most offset bytes)
unfolding entries_reading
entries_show zero offset bytes are long = (All-nil IsEntry, nil_from_length bytes (omega (arith, long)))
entries_show (suc most) offset bytes are long =
    front_read most offset bytes (front_of bytes) are long (entries_show most) (front_shows bytes are)

-- ---- what is so is read

one_read : (most offset : ℕ) (bytes : List ℕ) (front : Front) → IsFront bytes front
    → entries_reading (suc most) offset bytes ≡ read_front offset (entries_reading most) front
unfolding entries_reading
one_read most offset bytes front h = ap (read_front offset (entries_reading most)) (front_back bytes front h)

none_read : (most offset : ℕ) → entries_reading most offset [] ≡ Ok []
unfolding entries_reading
none_read zero offset = refl
none_read (suc most) offset = ap (read_front offset (entries_reading most)) (front_back [] Stops refl)

next_read : (e : Entry) (most offset : ℕ) (bytes more : List ℕ) (r : CaptureOutcome) → IsEntry e
    → bytes ≡ entry_bytes e ++ more → entries_reading most (offset + entry_length e) more ≡ r
    → entries_reading (suc most) offset bytes ≡ with_entry e r
next_read e most offset bytes more r fits whole later =
    one_read most offset bytes (Holds e more) (fits, whole) ∙ ap (with_entry e) later

all_read : (entries : List Entry) (most offset : ℕ) (bytes : List ℕ) → length bytes ≤ most
    → All IsEntry entries → bytes ≡ flat_map entry_bytes entries
    → entries_reading most offset bytes ≡ Ok entries
all_read [] most offset bytes long each whole = ap (entries_reading most offset) whole ∙ none_read most offset
all_read (e ∷ es) zero offset bytes long each whole =
    absurd (omega (
      arith,
      long,
      ap length whole,
      length-append (entry_bytes e) (flat_map entry_bytes es),
      length-entry_bytes e,
    ))
all_read (e ∷ es) (suc most) offset bytes long each whole =
    let more = flat_map entry_bytes es in
    let fewer : length more ≤ most =
    omega (arith, long, ap length whole, length-append (entry_bytes e) more, length-entry_bytes e) in
    next_read e most offset bytes more (Ok es) (All-head IsEntry e es each) whole
    (all_read es most (offset + entry_length e) more fewer (All-tail IsEntry e es each) refl)

something_broken : (rest : List ℕ) (within : ℕ) (kind : InputKind) → IsBroken rest within kind
    → 0 < length rest
something_broken [] within kind h =
    absurd (stops_or_breaks within kind (front_back [] Stops refl) (front_back [] (Breaks within kind) h))
  where
    stops_or_breaks : (within : ℕ) (kind : InputKind) → front_of [] ≡ Stops → front_of [] ≡ Breaks within kind
        → ⊥
    stops_or_breaks within kind s b = cc
something_broken (b ∷ more) within kind h = omega arith

break_read : (entries : List Entry) (most offset within at : ℕ) (bytes rest : List ℕ) (kind : InputKind)
    → length bytes ≤ most → All IsEntry entries → bytes ≡ flat_map entry_bytes entries ++ rest
    → IsBroken rest within kind
    → at ≡ offset + length (flat_map entry_bytes entries) + within
    → entries_reading most offset bytes ≡ Err (at, kind)
break_read [] zero offset within at bytes rest kind long each whole broken place =
    absurd (omega (arith, long, ap length whole, something_broken rest within kind broken))
break_read [] (suc most) offset within at bytes rest kind long each whole broken place =
    let here : offset + within ≡ at = omega (arith, place) in
    one_read most offset bytes (Breaks within kind) (subst (λ l. IsBroken l within kind) (sym whole) broken)
    ∙ ap (λ k. Err (k, kind)) here
break_read (e ∷ es) zero offset within at bytes rest kind long each whole broken place =
    absurd (omega (
      arith,
      long,
      ap length whole,
      length-append (entry_bytes e ++ flat_map entry_bytes es) rest,
      length-append (entry_bytes e) (flat_map entry_bytes es),
      length-entry_bytes e,
    ))
break_read (e ∷ es) (suc most) offset within at bytes rest kind long each whole broken place =
    let later = flat_map entry_bytes es in
    let split : bytes ≡ entry_bytes e ++ (later ++ rest) = whole ∙ append_assoc (entry_bytes e) later rest in
    let fewer : length (later ++ rest) ≤ most =
    omega (
      arith,
      long,
      ap length split,
      length-append (entry_bytes e) (later ++ rest),
      length-entry_bytes e,
    ) in
    let there : at ≡ offset + entry_length e + length later + within =
    omega (arith, place, length-append (entry_bytes e) later, length-entry_bytes e) in
    next_read e most offset bytes (later ++ rest) (Err (at, kind)) (All-head IsEntry e es each) split
    (break_read es most (offset + entry_length e) within at (later ++ rest) rest kind fewer
    (All-tail IsEntry e es each) refl broken there)

pub entries_back : (most offset : ℕ) (bytes : List ℕ) (r : CaptureOutcome) → length bytes ≤ most
    → AreRead offset bytes r → entries_reading most offset bytes ≡ r
entries_back most offset bytes (Ok entries) long h = all_read entries most offset bytes long h.0 h.1
entries_back most offset bytes (Err fault) long h =
    break_read h.entries most offset h.within fault.0 bytes h.rest fault.1 long h.each h.whole h.broken
    h.place
