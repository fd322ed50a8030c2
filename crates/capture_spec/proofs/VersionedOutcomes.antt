-- The reading of a capture of either version is its outcome, and there is one.
use Rattle.std.proofs.Common.{◌≡◌, ℕ, suc, ◌<◌, true, false, inl, inr, List, ◌++◌, length, take, drop, Ok, Err, bytes_eq, refl, sym, ap, subst, ◌∙◌, append_assoc, arith, take_at, drop_at, take-append-drop, length-append, length-drop}
use Rattle.std.specs.Int.{w32, to_be_bytes}
use Rattle.std.proofs.lemmas.Bool.{cond_both, cond-true, cond-false, false_from_ne_true, both_ways}
use Rattle.std.proofs.lemmas.Slice.Eq.{bytes_eq-Decides}
use Rattle.wire_spec.specs.declared.input_kind.InputKind.{InputKind}
use Rattle.wire_spec.specs.declared.input_kind.InputKind.TheVariants.{Magic, Version, Cut, Long, Padding, Item, Address, Port, Count, After, Link, Script}
use Rattle.wire_spec.specs.Bytes.{AreBytes, BeginsWith}
use Rattle.wire_spec.specs.Captures.{capture_header, magic}
use Rattle.wire_spec.proofs.ByteLists.{drop_bytes}
use Rattle.capture_spec.specs.declared.capture_version.CaptureVersion.{CaptureVersion}
use Rattle.capture_spec.specs.declared.capture_version.CaptureVersion.TheVariants.{One, Two}
use Rattle.capture_spec.specs.Items.{Received}
use Rattle.capture_spec.specs.VersionedCaptures.{version_number, IsNumber, IsBrokenAt, ending_bytes, all_received, opened_bytes, ReceivedAll, BreaksBehind, ReceivedFault, HasReceived, HasReceivedFault, HasOneCapture, ReceivedOutcome, IsReceivedOutcome}
use Rattle.capture_spec.specs.ItemReading.{all_reading, reading_of, received_reading}
use Rattle.capture_spec.proofs.ItemFrontsBack.{zero_more}
use Rattle.capture_spec.proofs.VersionedEntries.{AreRead, entries_show, entries_back}
use Rattle.capture_spec.proofs.VersionedWalks.{opened_are, opened_length, header_length, fault_of_break}

-- ---- fronts of the bytes

tested : (n : ℕ) (bytes front : List ℕ) → bytes_eq (take n bytes) front ≡ true → bytes ≡ front ++ drop n bytes
tested n bytes front e =
    sym (take-append-drop n bytes) ∙ ap (λ l. l ++ drop n bytes) ((bytes_eq-Decides (take n bytes) front).0 e)

begins : (n : ℕ) (bytes front : List ℕ) → length front ≡ n → BeginsWith bytes front
    → bytes_eq (take n bytes) front ≡ true
begins n bytes front long h =
    (bytes_eq-Decides (take n bytes) front).1 (ap (take n) h.1 ∙ take_at front h.0 n long)

begins_not : (n : ℕ) (bytes front : List ℕ) → ¬ (BeginsWith bytes front)
    → bytes_eq (take n bytes) front ≡ false
begins_not n bytes front h = false_from_ne_true _ (λ e. h (drop n bytes, tested n bytes front e))

-- a header begins with the magic
magic_of_header : (n : ℕ) (bytes : List ℕ) → BeginsWith bytes (capture_header n) → BeginsWith bytes magic
magic_of_header n bytes h = (to_be_bytes w32 n ++ h.0, h.1 ∙ append_assoc magic (to_be_bytes w32 n) h.0)

-- one header isn't the other
one_header : (bytes : List ℕ) → BeginsWith bytes (capture_header 2) → ¬ (BeginsWith bytes (capture_header 1))
one_header bytes two one =
    let both : capture_header 1 ≡ capture_header 2 =
    sym (take_at (capture_header 1) one.0 8 refl) ∙ ap (take 8) (sym one.1 ∙ two.1) ∙ take_at (capture_header 2) two.0 8 refl in
    apart both
  where
    apart : capture_header 1 ≡ capture_header 2 → ⊥
    apart e = absurd cc

-- ---- what is read is so

behind : (v : CaptureVersion) (entries : List Received) (bytes rest more : List ℕ)
    → bytes ≡ capture_header (version_number v) ++ rest → rest ≡ all_received v entries ++ more
    → bytes ≡ opened_bytes v entries ++ more
behind v entries bytes rest more whole split =
    whole ∙ ap (λ l. capture_header (version_number v) ++ l) split
    ∙ sym (append_assoc (capture_header (version_number v)) (all_received v entries) more)
    ∙ ap (λ l. l ++ more) (sym (opened_are v entries))

outcome_after : (v : CaptureVersion) (bytes rest : List ℕ) (r : ReceivedOutcome)
    → bytes ≡ capture_header (version_number v) ++ rest → AreRead v 0 8 rest r → IsReceivedOutcome bytes r
outcome_after v bytes rest (Ok (w, entries)) whole h =
    subst (λ x. ReceivedAll x entries bytes) (sym h.same)
    (record {
      each = h.each;
      number = subst (IsNumber v) (zero_more (length entries)) h.number;
      whole = behind v entries bytes rest (ending_bytes v (length entries)) whole
          (h.whole ∙ ap (λ n. all_received v entries ++ ending_bytes v n) (zero_more (length entries)));
    })
outcome_after v bytes rest (Err fault) whole h =
    fault_of_break bytes fault.0 fault.1
    (record {
      version = v;
      entries = h.entries;
      rest = h.rest;
      within = h.within;
      before = record { each = h.each; whole = behind v h.entries bytes rest h.rest whole h.whole };
      broken = subst (λ n. IsBrokenAt v n h.rest h.within fault.1) (zero_more (length h.entries)) h.broken;
      place = omega (arith, h.place, opened_length v h.entries);
    })

read_behind : (v : CaptureVersion) (bytes : List ℕ) → AreBytes bytes
    → bytes_eq (take 8 bytes) (capture_header (version_number v)) ≡ true → IsReceivedOutcome bytes (reading_of v bytes)
read_behind v bytes are header =
    outcome_after v bytes (drop 8 bytes) (reading_of v bytes)
    (tested 8 bytes (capture_header (version_number v)) header)
    (entries_show (suc (length bytes)) v 0 8 (drop 8 bytes) (drop_bytes 8 bytes are) (omega (arith, length-drop 8 bytes)))

-- what is read of bytes is their outcome
pub outcome_shows : (bytes : List ℕ) → AreBytes bytes → IsReceivedOutcome bytes (received_reading bytes)
unfolding received_reading
outcome_shows bytes are =
    cond_both (bytes_eq (take 8 bytes) (capture_header 1)) (reading_of One bytes) _ (IsReceivedOutcome bytes)
    (λ one. read_behind One bytes are one)
    (λ not_one. cond_both (bytes_eq (take 8 bytes) (capture_header 2)) (reading_of Two bytes) _ (IsReceivedOutcome bytes)
    (λ two. read_behind Two bytes are two)
    (λ not_two. cond_both (bytes_eq (take 4 bytes) magic) (Err (4, Version)) (Err (0, Magic)) (IsReceivedOutcome bytes)
    (λ same. (
      refl,
      (drop 4 bytes, tested 4 bytes magic same),
      (λ h. both_ways _ not_one (begins 8 bytes (capture_header 1) refl h)),
      λ h. both_ways _ not_two (begins 8 bytes (capture_header 2) refl h),
    ))
    (λ none. (refl, λ h. both_ways _ none (begins 4 bytes magic refl h)))))

-- ---- what is so is read

reads_version : (v : CaptureVersion) (bytes : List ℕ) → BeginsWith bytes (capture_header (version_number v))
    → received_reading bytes ≡ reading_of v bytes
unfolding received_reading
reads_version One bytes h = cond-true _ _ _ (begins 8 bytes (capture_header 1) refl h)
reads_version Two bytes h =
    cond-false _ _ _ (begins_not 8 bytes (capture_header 1) (one_header bytes h))
    ∙ cond-true _ _ _ (begins 8 bytes (capture_header 2) refl h)

read_after : (v : CaptureVersion) (bytes rest : List ℕ) (r : ReceivedOutcome)
    → bytes ≡ capture_header (version_number v) ++ rest → AreRead v 0 8 rest r → received_reading bytes ≡ r
read_after v bytes rest r whole h =
    let header = capture_header (version_number v) in
    let is_rest : drop 8 bytes ≡ rest = ap (drop 8) whole ∙ drop_at header rest 8 (header_length v) in
    let fewer : length rest < suc (length bytes) = omega (arith, ap length whole, length-append header rest) in
    reads_version v bytes (rest, whole) ∙ ap (all_reading (suc (length bytes)) v 0 8) is_rest
    ∙ entries_back (suc (length bytes)) v 0 8 rest r fewer h

-- what stands behind the header
opened_split : (v : CaptureVersion) (entries : List Received) (bytes more : List ℕ) → bytes ≡ opened_bytes v entries ++ more
    → bytes ≡ capture_header (version_number v) ++ (all_received v entries ++ more)
opened_split v entries bytes more whole =
    whole ∙ ap (λ l. l ++ more) (opened_are v entries)
    ∙ append_assoc (capture_header (version_number v)) (all_received v entries) more

read_all : (v : CaptureVersion) (entries : List Received) (bytes : List ℕ) → ReceivedAll v entries bytes
    → received_reading bytes ≡ Ok (v, entries)
read_all v entries bytes h =
    let ending = ending_bytes v (length entries) in
    read_after v bytes (all_received v entries ++ ending) (Ok (v, entries)) (opened_split v entries bytes ending h.whole)
    (record {
      same = refl;
      each = h.each;
      number = subst (IsNumber v) (sym (zero_more (length entries))) h.number;
      whole = ap (λ n. all_received v entries ++ ending_bytes v n) (sym (zero_more (length entries)));
    })

read_broken : (bytes : List ℕ) (at : ℕ) (kind : InputKind) → BreaksBehind bytes at kind
    → received_reading bytes ≡ Err (at, kind)
read_broken bytes at kind h =
    let entries = all_received h.version h.entries in
    read_after h.version bytes (entries ++ h.rest) (Err (at, kind))
    (opened_split h.version h.entries bytes h.rest h.before.whole)
    (record {
      entries = h.entries;
      rest = h.rest;
      within = h.within;
      each = h.before.each;
      whole = refl;
      broken = subst (λ n. IsBrokenAt h.version n h.rest h.within kind) (sym (zero_more (length h.entries))) h.broken;
      place = omega (arith, h.place, opened_length h.version h.entries);
    })

fault_back : (bytes : List ℕ) (at : ℕ) (kind : InputKind) → ReceivedFault bytes at kind
    → received_reading bytes ≡ Err (at, kind)
unfolding received_reading
fault_back bytes at Magic (is, h) =
    cond-false _ _ _ (begins_not 8 bytes (capture_header 1) (λ b. h (magic_of_header 1 bytes b)))
    ∙ cond-false _ _ _ (begins_not 8 bytes (capture_header 2) (λ b. h (magic_of_header 2 bytes b)))
    ∙ cond-false _ _ _ (begins_not 4 bytes magic h) ∙ ap (λ k. Err (k, Magic)) (sym is)
fault_back bytes at Version (is, same, not_one, not_two) =
    cond-false _ _ _ (begins_not 8 bytes (capture_header 1) not_one)
    ∙ cond-false _ _ _ (begins_not 8 bytes (capture_header 2) not_two)
    ∙ cond-true _ _ _ (begins 4 bytes magic refl same) ∙ ap (λ k. Err (k, Version)) (sym is)
fault_back bytes at Cut h = read_broken bytes at Cut h
fault_back bytes at Long h = read_broken bytes at Long h
fault_back bytes at Padding h = read_broken bytes at Padding h
fault_back bytes at Item h = read_broken bytes at Item h
fault_back bytes at Address h = read_broken bytes at Address h
fault_back bytes at Port h = read_broken bytes at Port h
fault_back bytes at Count h = read_broken bytes at Count h
fault_back bytes at After h = read_broken bytes at After h
fault_back bytes at Link h = read_broken bytes at Link h
fault_back bytes at Script h = read_broken bytes at Script h

-- an outcome of bytes is what is read of them
pub outcome_back : (bytes : List ℕ) (r : ReceivedOutcome) → IsReceivedOutcome bytes r → received_reading bytes ≡ r
outcome_back bytes (Ok (v, entries)) h = read_all v entries bytes h
outcome_back bytes (Err fault) h = fault_back bytes fault.0 fault.1 h

-- ---- the laws

all_first : (bytes : List ℕ) (capture : CaptureVersion × List Received) → received_reading bytes ≡ Ok capture
    → HasReceived bytes capture → HasOneCapture bytes
all_first bytes capture e h =
    inl (
      (capture, h, λ others p. same capture others _ e (outcome_back bytes (Ok others) p)),
      λ fault p. apart capture fault _ e (outcome_back bytes (Err fault) p),
    )
  where
    same : (x y : CaptureVersion × List Received) (r : ReceivedOutcome) → r ≡ Ok x → r ≡ Ok y → y ≡ x
    same x y r p q = cc

    apart : (x : CaptureVersion × List Received) (fault : ℕ × InputKind) (r : ReceivedOutcome) → r ≡ Ok x → r ≡ Err fault → ⊥
    apart x fault r p q = cc

fault_first : (bytes : List ℕ) (fault : ℕ × InputKind) → received_reading bytes ≡ Err fault
    → HasReceivedFault bytes fault → HasOneCapture bytes
fault_first bytes fault e h =
    inr (
      (fault, h, λ other p. same fault other _ e (outcome_back bytes (Err other) p)),
      λ capture p. apart capture fault _ (outcome_back bytes (Ok capture) p) e,
    )
  where
    same : (x y : ℕ × InputKind) (r : ReceivedOutcome) → r ≡ Err x → r ≡ Err y → y ≡ x
    same x y r p q = cc

    apart : (x : CaptureVersion × List Received) (fault : ℕ × InputKind) (r : ReceivedOutcome) → r ≡ Ok x → r ≡ Err fault → ⊥
    apart x fault r p q = cc

one_outcome : (bytes : List ℕ) (r : ReceivedOutcome) → received_reading bytes ≡ r → IsReceivedOutcome bytes r
    → HasOneCapture bytes
one_outcome bytes (Ok capture) e h = all_first bytes capture e h
one_outcome bytes (Err fault) e h = fault_first bytes fault e h

pub has_one_capture : (bytes : List ℕ) → AreBytes bytes → HasOneCapture bytes
has_one_capture bytes are = one_outcome bytes (received_reading bytes) refl (outcome_shows bytes are)

-- a reading that gave this says so
pub shows_so : (bytes : List ℕ) (r : ReceivedOutcome) → AreBytes bytes → received_reading bytes ≡ r
    → IsReceivedOutcome bytes r
shows_so bytes r are e = subst (IsReceivedOutcome bytes) e (outcome_shows bytes are)
