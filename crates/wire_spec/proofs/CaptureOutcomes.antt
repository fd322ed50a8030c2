-- The reading of a capture is its outcome, and there is one.
use Rattle.std.proofs.Common.{◌≡◌, ℕ, ◌+◌, ◌≤◌, true, false, inl, inr, List, ◌++◌, length, take, drop, flat_map, Ok, Err, bytes_eq, refl, sym, ap, subst, ◌∙◌, append_assoc, arith, take_at, drop_at, take-append-drop, length-append, length-drop}
use Rattle.std.specs.Int.{w32, to_be_bytes}
use Rattle.std.proofs.lemmas.Bool.{cond_both, cond-true, cond-false, false_from_ne_true, both_ways}
use Rattle.std.proofs.lemmas.Slice.Eq.{bytes_eq-Decides}
use Rattle.wire_spec.specs.declared.input_kind.InputKind.{InputKind}
use Rattle.wire_spec.specs.declared.input_kind.InputKind.TheVariants.{Magic, Version, Cut, Long, Padding}
use Rattle.wire_spec.specs.Bytes.{AreBytes, BeginsWith}
use Rattle.wire_spec.specs.Captures.{Entry, entry_bytes, magic, capture_header, capture_bytes, Capture, BreaksOff, CaptureFault, CaptureOutcome, IsCaptureOutcome, HasOneReading}
use Rattle.wire_spec.specs.CaptureReading.{entries_reading, capture_reading}
use Rattle.wire_spec.proofs.ByteLists.{drop_bytes}
use Rattle.wire_spec.proofs.CaptureEntries.{EntriesBreak, AreRead, entries_show, entries_back}

pub capture_bytes_are : (entries : List Entry)
    → capture_bytes entries ≡ capture_header 1 ++ flat_map entry_bytes entries
unfolding capture_bytes
capture_bytes_are entries = refl

pub length-capture_bytes : (entries : List Entry)
    → length (capture_bytes entries) ≡ 8 + length (flat_map entry_bytes entries)
length-capture_bytes entries =
    omega (
      arith,
      ap length (capture_bytes_are entries),
      length-append (capture_header 1) (flat_map entry_bytes entries),
    )

-- ---- fronts of the bytes

tested : (n : ℕ) (bytes front : List ℕ) → bytes_eq (take n bytes) front ≡ true → bytes ≡ front ++ drop n bytes
tested n bytes front e =
    sym (take-append-drop n bytes) ∙ ap (λ l. l ++ drop n bytes) ((bytes_eq-Decides (take n bytes) front).0 e)

begins : (n : ℕ) (bytes front : List ℕ) → length front ≡ n → BeginsWith bytes front
    → bytes_eq (take n bytes) front ≡ true
begins n bytes front long h =
    (bytes_eq-Decides (take n bytes) front).1 (ap (take n) h.1 ∙ take_at front h.0 n long)

begins_not : (n : ℕ) (bytes front : List ℕ) → ¬ (BeginsWith bytes front)
    → bytes_eq (take n bytes) front ≡ false
begins_not n bytes front h = false_from_ne_true _ (λ e. h (drop n bytes, tested n bytes front e))

-- the header begins with the magic
magic_of_header : (bytes : List ℕ) → BeginsWith bytes (capture_header 1) → BeginsWith bytes magic
magic_of_header bytes h = (to_be_bytes w32 1 ++ h.0, h.1 ∙ append_assoc magic (to_be_bytes w32 1) h.0)

-- ---- what is read is so

broken_after : (bytes rest : List ℕ) (at : ℕ) (kind : InputKind) → bytes ≡ capture_header 1 ++ rest
    → EntriesBreak 8 rest at kind → BreaksOff bytes at kind
broken_after bytes rest at kind whole h = record {
  entries = h.entries;
  rest = h.rest;
  within = h.within;
  before = record {
    each = h.each;
    whole = whole ∙ ap (λ l. capture_header 1 ++ l) h.whole
        ∙ sym (append_assoc (capture_header 1) (flat_map entry_bytes h.entries) h.rest)
        ∙ sym (ap (λ l. l ++ h.rest) (capture_bytes_are h.entries));
  };
  broken = h.broken;
  place = omega (arith, h.place, length-capture_bytes h.entries);
}

fault_after : (bytes rest : List ℕ) (at : ℕ) (kind : InputKind) → bytes ≡ capture_header 1 ++ rest
    → EntriesBreak 8 rest at kind → CaptureFault bytes at kind
fault_after bytes rest at Cut whole h = broken_after bytes rest at Cut whole h
fault_after bytes rest at Long whole h = broken_after bytes rest at Long whole h
fault_after bytes rest at Padding whole h = broken_after bytes rest at Padding whole h
fault_after bytes rest at _ whole h = absurd h.broken

outcome_after : (bytes rest : List ℕ) (r : CaptureOutcome) → bytes ≡ capture_header 1 ++ rest
    → AreRead 8 rest r → IsCaptureOutcome bytes r
outcome_after bytes rest (Ok entries) whole h = record {
  each = h.0;
  whole = whole ∙ ap (λ l. capture_header 1 ++ l) h.1 ∙ sym (capture_bytes_are entries);
}
outcome_after bytes rest (Err fault) whole h = fault_after bytes rest fault.0 fault.1 whole h

-- what is read of bytes is their outcome
pub outcome_shows : (bytes : List ℕ) → AreBytes bytes → IsCaptureOutcome bytes (capture_reading bytes)
unfolding capture_reading
outcome_shows bytes are =
    cond_both (bytes_eq (take 8 bytes) (capture_header 1)) _ _ (IsCaptureOutcome bytes)
    (λ header. outcome_after bytes (drop 8 bytes) _ (tested 8 bytes (capture_header 1) header)
    (entries_show (length bytes) 8 (drop 8 bytes) (drop_bytes 8 bytes are) (omega (
      arith,
      length-drop 8 bytes,
    ))))
    (λ other. cond_both (bytes_eq (take 4 bytes) magic) _ _ (IsCaptureOutcome bytes)
    (λ same. (
      refl,
      (drop 4 bytes, tested 4 bytes magic same),
      λ h. both_ways _ other (begins 8 bytes (capture_header 1) refl h),
    ))
    (λ none. (refl, λ h. both_ways _ none (begins 4 bytes magic refl h))))

-- ---- what is so is read

read_after : (bytes rest : List ℕ) (r : CaptureOutcome) → bytes ≡ capture_header 1 ++ rest
    → AreRead 8 rest r → capture_reading bytes ≡ r
unfolding capture_reading
read_after bytes rest r whole h =
    let is_rest : drop 8 bytes ≡ rest = ap (drop 8) whole ∙ drop_at (capture_header 1) rest 8 refl in
    let fewer : length rest ≤ length bytes =
    omega (arith, ap length whole, length-append (capture_header 1) rest) in
    cond-true _ _ _ (begins 8 bytes (capture_header 1) refl (rest, whole))
    ∙ ap (entries_reading (length bytes) 8) is_rest ∙ entries_back (length bytes) 8 rest r fewer h

read_version : (bytes : List ℕ) → BeginsWith bytes magic → ¬ (BeginsWith bytes (capture_header 1))
    → capture_reading bytes ≡ Err (4, Version)
unfolding capture_reading
read_version bytes same other =
    cond-false _ _ _ (begins_not 8 bytes (capture_header 1) other)
    ∙ cond-true _ _ _ (begins 4 bytes magic refl same)

read_magic : (bytes : List ℕ) → ¬ (BeginsWith bytes magic) → capture_reading bytes ≡ Err (0, Magic)
unfolding capture_reading
read_magic bytes none =
    cond-false _ _ _ (begins_not 8 bytes (capture_header 1) (λ h. none (magic_of_header bytes h)))
    ∙ cond-false _ _ _ (begins_not 4 bytes magic none)

read_broken : (bytes : List ℕ) (at : ℕ) (kind : InputKind) → BreaksOff bytes at kind
    → capture_reading bytes ≡ Err (at, kind)
read_broken bytes at kind h =
    let entries = flat_map entry_bytes h.entries in
    read_after bytes (entries ++ h.rest) (Err (at, kind))
    (h.before.whole ∙ ap (λ l. l ++ h.rest) (capture_bytes_are h.entries)
    ∙ append_assoc (capture_header 1) entries h.rest)
    (record {
      entries = h.entries;
      rest = h.rest;
      within = h.within;
      each = h.before.each;
      whole = refl;
      broken = h.broken;
      place = omega (arith, h.place, length-capture_bytes h.entries);
    })

fault_back : (bytes : List ℕ) (at : ℕ) (kind : InputKind) → CaptureFault bytes at kind
    → capture_reading bytes ≡ Err (at, kind)
fault_back bytes at Magic (is, h) = read_magic bytes h ∙ ap (λ k. Err (k, Magic)) (sym is)
fault_back bytes at Version (is, same, other) =
    read_version bytes same other ∙ ap (λ k. Err (k, Version)) (sym is)
fault_back bytes at Cut h = read_broken bytes at Cut h
fault_back bytes at Long h = read_broken bytes at Long h
fault_back bytes at Padding h = read_broken bytes at Padding h
fault_back bytes at _ h = absurd h

-- an outcome of bytes is what is read of them
pub outcome_back : (bytes : List ℕ) (r : CaptureOutcome) → IsCaptureOutcome bytes r
    → capture_reading bytes ≡ r
outcome_back bytes (Ok entries) h =
    read_after bytes (flat_map entry_bytes entries) (Ok entries) (h.whole
    ∙ capture_bytes_are entries) (h.each, refl)
outcome_back bytes (Err fault) h = fault_back bytes fault.0 fault.1 h

-- ---- the laws

entries_first : (bytes : List ℕ) (entries : List Entry) → capture_reading bytes ≡ Ok entries
    → Capture entries bytes
    → HasOneReading bytes
entries_first bytes entries e h =
    inl (
      (entries, h, λ others p. same entries others _ e (outcome_back bytes (Ok others) p)),
      λ fault p. apart entries fault _ e (outcome_back bytes (Err fault) p),
    )
  where
    same : (xs ys : List Entry) (r : CaptureOutcome) → r ≡ Ok xs → r ≡ Ok ys → ys ≡ xs
    same xs ys r x y = cc

    apart : (xs : List Entry) (fault : ℕ × InputKind) (r : CaptureOutcome) → r ≡ Ok xs → r ≡ Err fault → ⊥
    apart xs fault r x y = cc

fault_first : (bytes : List ℕ) (fault : ℕ × InputKind) → capture_reading bytes ≡ Err fault
    → CaptureFault bytes fault.0 fault.1 → HasOneReading bytes
fault_first bytes fault e h =
    inr (
      (fault, h, λ other p. same fault other _ e (outcome_back bytes (Err other) p)),
      λ entries p. apart entries fault _ (outcome_back bytes (Ok entries) p) e,
    )
  where
    same : (x y : ℕ × InputKind) (r : CaptureOutcome) → r ≡ Err x → r ≡ Err y → y ≡ x
    same x y r p q = cc

    apart : (xs : List Entry) (fault : ℕ × InputKind) (r : CaptureOutcome) → r ≡ Ok xs → r ≡ Err fault → ⊥
    apart xs fault r x y = cc

one_outcome : (bytes : List ℕ) (r : CaptureOutcome) → capture_reading bytes ≡ r → IsCaptureOutcome bytes r
    → HasOneReading bytes
one_outcome bytes (Ok entries) e h = entries_first bytes entries e h
one_outcome bytes (Err fault) e h = fault_first bytes fault e h

pub has_one_reading : (bytes : List ℕ) → AreBytes bytes → HasOneReading bytes
has_one_reading bytes are = one_outcome bytes (capture_reading bytes) refl (outcome_shows bytes are)

-- a reading that gave this says so
pub shows_so : (bytes : List ℕ) (r : CaptureOutcome) → AreBytes bytes → capture_reading bytes ≡ r
    → IsCaptureOutcome bytes r
shows_so bytes r are e = subst (IsCaptureOutcome bytes) e (outcome_shows bytes are)
