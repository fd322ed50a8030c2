-- The entries of a capture of either version, one after the other, to the end or to what is broken.
use Rattle.std.proofs.Common.{◌≡◌, ℕ, zero, suc, ◌+◌, ◌<◌, List, [], ◌∷◌, ◌++◌, length, All, Ok, Err, refl, sym, ap, subst, ◌∙◌, append_assoc, arith, length-append}
use Rattle.std.proofs.lemmas.List.Elements.{All-cons, All-head, All-tail, All-nil}
use Rattle.wire_spec.specs.declared.input_kind.InputKind.{InputKind}
use Rattle.wire_spec.specs.Bytes.{AreBytes}
use Rattle.wire_spec.proofs.ByteLists.{rest_bytes}
use Rattle.capture_spec.specs.declared.capture_version.CaptureVersion.{CaptureVersion}
use Rattle.capture_spec.specs.Items.{Received}
use Rattle.capture_spec.specs.VersionedCaptures.{IsReceived, received_bytes, ending_bytes, IsNumber, IsBrokenAt, all_received, ReceivedOutcome}
use Rattle.capture_spec.specs.ItemReading.{Front, Stops, Holds, Breaks, front_in, with_received, read_received, all_reading, IsFrontAt}
use Rattle.capture_spec.proofs.ItemFrontsBack.{shows_in, back_in}
use Rattle.capture_spec.proofs.VersionedWalks.{some_received}

-- whole entries behind so many, and then all that the capture has
pub record EntriesEnd (v : CaptureVersion) (count : ℕ) (bytes : List ℕ) (capture : CaptureVersion × List Received)
    : Type 0 where
  pub same : capture.0 ≡ v
  pub each : All (IsReceived v) capture.1
  pub number : IsNumber v (count + length capture.1)
  pub whole : bytes ≡ all_received v capture.1 ++ ending_bytes v (count + length capture.1)

-- whole entries behind so many, and then what is broken; the offset is that of the first entry
pub record EntriesBreak (v : CaptureVersion) (count offset : ℕ) (bytes : List ℕ) (at : ℕ) (kind : InputKind)
    : Type 0 where
  pub entries : List Received
  pub rest : List ℕ
  pub within : ℕ
  pub each : All (IsReceived v) entries
  pub whole : bytes ≡ all_received v entries ++ rest
  pub broken : IsBrokenAt v (count + length entries) rest within kind
  pub place : at ≡ offset + length (all_received v entries) + within

abbrev pub AreRead : CaptureVersion → ℕ → ℕ → List ℕ → ReceivedOutcome → Type 0
AreRead v count offset bytes (Ok capture) = EntriesEnd v count bytes capture
AreRead v count offset bytes (Err fault) = EntriesBreak v count offset bytes fault.0 fault.1

further : (count : ℕ) (e : Received) (entries : List Received) → (count + 1) + length entries ≡ count + length (e ∷ entries)
further count e entries = omega arith

nothing_more : (count : ℕ) → count ≡ count + length {A = Received} []
nothing_more count = omega arith

-- ---- what is read is so

module _ (v : CaptureVersion) (count offset : ℕ) where
  one_before : (e : Received) (bytes more : List ℕ) (r : ReceivedOutcome) → IsReceived v e
      → bytes ≡ received_bytes v e ++ more → AreRead v (count + 1) (offset + length (received_bytes v e)) more r
      → AreRead v count offset bytes (with_received e r)
  one_before e bytes more (Ok capture) fits whole h = record {
    same = h.same;
    each = All-cons (IsReceived v) e capture.1 fits h.each;
    number = subst (IsNumber v) (further count e capture.1) h.number;
    whole = whole ∙ ap (λ l. received_bytes v e ++ l) h.whole
        ∙ sym (append_assoc (received_bytes v e) (all_received v capture.1) (ending_bytes v ((count + 1) + length capture.1)))
        ∙ ap (λ n. (received_bytes v e ++ all_received v capture.1) ++ ending_bytes v n) (further count e capture.1);
  }
  one_before e bytes more (Err fault) fits whole h = record {
    entries = e ∷ h.entries;
    rest = h.rest;
    within = h.within;
    each = All-cons (IsReceived v) e h.entries fits h.each;
    whole = whole ∙ ap (λ l. received_bytes v e ++ l) h.whole
        ∙ sym (append_assoc (received_bytes v e) (all_received v h.entries) h.rest);
    broken = subst (λ n. IsBrokenAt v n h.rest h.within fault.1) (further count e h.entries) h.broken;
    place = omega (arith, h.place, length-append (received_bytes v e) (all_received v h.entries));
  }

  front_read : (most : ℕ) (bytes : List ℕ) (front : Front) → AreBytes bytes → length bytes < suc most
      → ((from : ℕ) (more : List ℕ) → AreBytes more → length more < most
      → AreRead v (count + 1) from more (all_reading most v (count + 1) from more))
      → IsFrontAt v count bytes front
      → AreRead v count offset bytes (read_received v offset (all_reading most v (count + 1)) front)
  front_read most bytes Stops are long later h = record {
    same = refl;
    each = All-nil (IsReceived v);
    number = subst (IsNumber v) (nothing_more count) h.1;
    whole = h.0 ∙ ap (ending_bytes v) (nothing_more count);
  }
  front_read most bytes (Holds e more) are long later h =
      let fewer : length more < most =
      omega (arith, ap length h.1, length-append (received_bytes v e) more, some_received v e h.0, long) in
      let more_are : AreBytes more = rest_bytes (received_bytes v e) more (subst AreBytes h.1 are) in
      one_before e bytes more _ h.0 h.1 (later (offset + length (received_bytes v e)) more more_are fewer)
  front_read most bytes (Breaks within kind) are long later h = record {
    entries = [];
    rest = bytes;
    within = within;
    each = All-nil (IsReceived v);
    whole = refl;
    broken = subst (λ n. IsBrokenAt v n bytes within kind) (nothing_more count) h;
    place = omega arith;
  }

pub entries_show : (most : ℕ) (v : CaptureVersion) (count offset : ℕ) (bytes : List ℕ) → AreBytes bytes
    → length bytes < most → AreRead v count offset bytes (all_reading most v count offset bytes)
unfolding all_reading
entries_show zero v count offset bytes are long = absurd (omega (arith, long))
entries_show (suc most) v count offset bytes are long =
    front_read v count offset most bytes (front_in v count bytes) are long
    (entries_show most v (count + 1)) (shows_in v count bytes are)

-- ---- what is so is read

one_read : (most : ℕ) (v : CaptureVersion) (count offset : ℕ) (bytes : List ℕ) (front : Front)
    → IsFrontAt v count bytes front
    → all_reading (suc most) v count offset bytes ≡ read_received v offset (all_reading most v (count + 1)) front
unfolding all_reading
one_read most v count offset bytes front h =
    ap (read_received v offset (all_reading most v (count + 1))) (back_in v count bytes front h)

-- entries before all of an outcome
abbrev with_all : List Received → ReceivedOutcome → ReceivedOutcome
with_all [] r = r
with_all (e ∷ entries) r = with_received e (with_all entries r)

all_before : (v : CaptureVersion) (entries : List Received) → with_all entries (Ok (v, [])) ≡ Ok (v, entries)
all_before v [] = refl
all_before v (e ∷ entries) = ap (with_received e) (all_before v entries)

fault_behind : (entries : List Received) (fault : ℕ × InputKind) → with_all entries (Err fault) ≡ Err fault
fault_behind [] fault = refl
fault_behind (e ∷ entries) fault = ap (with_received e) (fault_behind entries fault)

-- the rest is read so, behind so many entries and from this offset on
abbrev IsReadAs : CaptureVersion → ℕ → ℕ → List ℕ → ReceivedOutcome → Type 0
IsReadAs v count offset rest r = (most : ℕ) → length rest < most → all_reading most v count offset rest ≡ r

pass : (entries : List Received) (most : ℕ) (v : CaptureVersion) (count offset : ℕ) (bytes rest : List ℕ)
    (r : ReceivedOutcome) → All (IsReceived v) entries → bytes ≡ all_received v entries ++ rest → length bytes < most
    → IsReadAs v (count + length entries) (offset + length (all_received v entries)) rest r
    → all_reading most v count offset bytes ≡ with_all entries r
pass [] most v count offset bytes rest r each whole long later =
    let none : count + length {A = Received} [] ≡ count = omega arith in
    let here : offset + length (all_received v []) ≡ offset = omega arith in
    ap (all_reading most v count offset) whole
    ∙ ap (λ n. all_reading most v n offset rest) (sym none)
    ∙ ap (λ n. all_reading most v (count + length {A = Received} []) n rest) (sym here)
    ∙ later most (subst (λ l. length l < most) whole long)
pass (e ∷ es) zero v count offset bytes rest r each whole long later = absurd (omega (arith, long))
pass (e ∷ es) (suc most) v count offset bytes rest r each whole long later =
    let fits : IsReceived v e = All-head (IsReceived v) e es each in
    let more : List ℕ = all_received v es ++ rest in
    let split : bytes ≡ received_bytes v e ++ more =
    whole ∙ append_assoc (received_bytes v e) (all_received v es) rest in
    let fewer : length more < most =
    omega (arith, long, ap length split, length-append (received_bytes v e) more, some_received v e fits) in
    let there : offset + length (all_received v (e ∷ es))
    ≡ (offset + length (received_bytes v e)) + length (all_received v es) =
    omega (arith, length-append (received_bytes v e) (all_received v es)) in
    let moved : IsReadAs v ((count + 1) + length es) ((offset + length (received_bytes v e)) + length (all_received v es)) rest r =
    subst (λ n. IsReadAs v ((count + 1) + length es) n rest r) there
    (subst (λ n. IsReadAs v n (offset + length (all_received v (e ∷ es))) rest r) (sym (further count e es)) later) in
    one_read most v count offset bytes (Holds e more) (fits, split)
    ∙ ap (with_received e)
    (pass es most v (count + 1) (offset + length (received_bytes v e)) more rest r
    (All-tail (IsReceived v) e es each) refl fewer moved)

front_alone : (v : CaptureVersion) (count offset : ℕ) (rest : List ℕ) (front : Front) (r : ReceivedOutcome)
    → IsFrontAt v count rest front
    → ((next : ℕ → List ℕ → ReceivedOutcome) → read_received v offset next front ≡ r)
    → IsReadAs v count offset rest r
front_alone v count offset rest front r h is zero long = absurd (omega (arith, long))
front_alone v count offset rest front r h is (suc most) long =
    one_read most v count offset rest front h ∙ is (all_reading most v (count + 1))

pub entries_back : (most : ℕ) (v : CaptureVersion) (count offset : ℕ) (bytes : List ℕ) (r : ReceivedOutcome)
    → length bytes < most → AreRead v count offset bytes r → all_reading most v count offset bytes ≡ r
entries_back most v count offset bytes (Ok capture) long h =
    let n = count + length capture.1 in
    pass capture.1 most v count offset bytes (ending_bytes v n) (Ok (v, [])) h.each h.whole long
    (front_alone v n (offset + length (all_received v capture.1)) (ending_bytes v n) Stops (Ok (v, []))
    (refl, h.number) (λ next. refl))
    ∙ all_before v capture.1 ∙ ap (λ w. Ok (w, capture.1)) (sym h.same)
entries_back most v count offset bytes (Err fault) long h =
    let n = count + length h.entries in
    let from = offset + length (all_received v h.entries) in
    pass h.entries most v count offset bytes h.rest (Err fault) h.each h.whole long
    (front_alone v n from h.rest (Breaks h.within fault.1) (Err fault) h.broken
    (λ next. ap (λ k. Err (k, fault.1)) (sym h.place)))
    ∙ fault_behind h.entries fault
