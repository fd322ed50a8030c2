-- What holds of entries that were written anew.
use Rattle.std.proofs.Common.{Option, Some, replicate, ◌^◌, arith, ◌≡◌, ◌∙◌, ◌≤◌, ◌+◌, ℕ, true, cond, List, [], ◌∷◌, ◌++◌, length, map, All, fold, Result, Ok, Err, refl, sym, ap, ap₂, subst}
use Rattle.std.proofs.lemmas.List.Elements.{All-cons, All-head, All-nil, All-tail}
use Rattle.std.proofs.lemmas.List.{length-map}
use Rattle.std.proofs.Math.Seq.{take-append_seam}
use Rattle.wire_spec.specs.declared.fault.Fault.{Fault}
use Rattle.wire_spec.specs.declared.pad.Pad.{Pad}
use Rattle.wire_spec.specs.declared.pad.Pad.TheVariants.{Any, Zero}
use Rattle.wire_spec.specs.Bytes.{AreBytes}
use Rattle.wire_spec.specs.Captures.{Entry, IsEntry, capture_header, entry_bytes, entry_head, entry_padding}
use Rattle.wire_spec.specs.Heads.{unknown}
use Rattle.wire_spec.specs.Padding.{padding_of}
use Rattle.wire_spec.specs.Shapes.{Tree}
use Rattle.wire_spec.specs.Spelling.{spell}
use Rattle.wire_spec.specs.Whole.{FailsWhole, SpellsWhole, whole_reading}
use Rattle.wire_spec.proofs.ByteLists.{rest_bytes, take_bytes}
use Rattle.wire_spec.proofs.OneReading.{whole_good, whole_refused, whole_taken}
use Rattle.wire_spec.proofs.Spellings.{lawful_spelled, spelled_freely, spelled_lawful, spelled_length}
use Rattle.datagram_core.specs.Tables.{datagram_read}
use Rattle.capture_spec.specs.declared.capture_version.CaptureVersion.{CaptureVersion}
use Rattle.capture_spec.specs.declared.capture_version.CaptureVersion.TheVariants as versions
use Rattle.capture_spec.specs.Items.{IsSender, Received, Sender, datagram_bytes, entry_of, item_by, item_front, sent_bytes, word}
use Rattle.capture_spec.specs.VersionedCaptures.{IsNumber, IsReceived, ReceivedAll, all_received, ending_bytes, opened_bytes, received_bytes, version_number, whole_bytes}
use Rattle.capture_spec.proofs.VersionedWalks.{opened_are}
use Rattle.sflow_io.specs.CaptureSteps.{IsAllOf}
use Rattle.command_words.specs.declared.command.CanonVersion.{CanonVersion}
use Rattle.command_words.specs.declared.command.CanonVersion.TheVariants.{Same, Two}
use Rattle.command_runs.specs.Grammars.{Capture}
use Rattle.sflow_tool.specs.Canons.{canon_text, canonical, canonical_capture, canonical_entries, canonical_entry, known_sender, spelled_anew, written_sender, written_version}
use Rattle.sflow_tool.specs.Checks.{faulty_count, is_fault, is_faulty}

-- ---- the bytes of an entry

abbrev read : Pad → List ℕ → Result Tree Fault
read p bytes = whole_reading p datagram_read bytes

canonical_read : (bytes : List ℕ) (t : Tree) → read Any bytes ≡ Ok t → canonical bytes ≡ spell t
unfolding canonical
canonical_read bytes t is = ap (spelled_anew bytes) is

canonical_unread : (bytes : List ℕ) (f : Fault) → read Any bytes ≡ Err f → canonical bytes ≡ bytes
unfolding canonical
canonical_unread bytes f is = ap (spelled_anew bytes) is

pub canonical_datagram : (bytes : List ℕ) (t : Tree) → SpellsWhole Any datagram_read bytes t → canonical bytes ≡ spell t
canonical_datagram bytes t spelled = canonical_read bytes t (whole_taken Any datagram_read bytes t spelled)

pub canonical_other : (bytes : List ℕ) (f : Fault) → FailsWhole Any datagram_read bytes f → canonical bytes ≡ bytes
canonical_other bytes f fails = canonical_unread bytes f (whole_refused Any datagram_read bytes f fails)

-- the spelling of what was read has as many bytes, and is read as the same value under both readings of padding
spell_length : (bytes : List ℕ) (t : Tree) → SpellsWhole Any datagram_read bytes t → length (spell t) ≡ length bytes
spell_length bytes t spelled = sym (spelled_length Any datagram_read t bytes spelled.1)

read_again : (p : Pad) (bytes : List ℕ) (t : Tree) → SpellsWhole Any datagram_read bytes t → read p (spell t) ≡ Ok t
read_again p bytes t spelled =
    whole_taken p datagram_read (spell t) t
    (subst (λ n. n ≤ 65535) (sym (spell_length bytes t spelled)) spelled.0, lawful_spelled p datagram_read t (spelled_lawful Any datagram_read t bytes spelled.1))

-- what is read with zero padding is read where padding is free
read_freely : (bytes : List ℕ) (t : Tree) → AreBytes bytes → read Zero bytes ≡ Ok t → read Any bytes ≡ Ok t
read_freely bytes t are is =
    let spelled = whole_good Zero datagram_read bytes t are is in
    whole_taken Any datagram_read bytes t (spelled.0, spelled_freely Zero datagram_read t bytes spelled.1)

module _ (bytes : List ℕ) (are : AreBytes bytes) where
  good : (t : Tree) → read Any bytes ≡ Ok t → SpellsWhole Any datagram_read bytes t
  good t is = whole_good Any datagram_read bytes t are is

  pub canonical_length : length (canonical bytes) ≡ length bytes
  canonical_length = go (read Any bytes) refl
    where
      go : (r : Result Tree Fault) → read Any bytes ≡ r → length (canonical bytes) ≡ length bytes
      go (Ok t) is = ap (λ (l : List ℕ). length l) (canonical_read bytes t is) ∙ spell_length bytes t (good t is)
      go (Err f) is = ap (λ (l : List ℕ). length l) (canonical_unread bytes f is)

  canonical_twice : canonical (canonical bytes) ≡ canonical bytes
  canonical_twice = go (read Any bytes) refl
    where
      go : (r : Result Tree Fault) → read Any bytes ≡ r → canonical (canonical bytes) ≡ canonical bytes
      go (Ok t) is =
          ap canonical (canonical_read bytes t is) ∙ canonical_read (spell t) t (read_again Any bytes t (good t is))
          ∙ sym (canonical_read bytes t is)
      go (Err f) is = ap canonical (canonical_unread bytes f is)

  zero_read : is_fault (read Zero (canonical bytes)) ≡ is_fault (read Any bytes)
  zero_read = go (read Any bytes) refl
    where
      unread : (f : Fault) (r : Result Tree Fault) → read Any bytes ≡ Err f → read Zero bytes ≡ r
          → is_fault r ≡ true
      unread f (Ok t) bad is = let same : Ok t ≡ Err f = sym (read_freely bytes t are is) ∙ bad in cc
      unread f (Err g) bad is = refl

      go : (r : Result Tree Fault) → read Any bytes ≡ r
          → is_fault (read Zero (canonical bytes)) ≡ is_fault (read Any bytes)
      go (Ok t) is =
          ap (λ b. is_fault (read Zero b)) (canonical_read bytes t is)
          ∙ ap (λ r. is_fault r) (read_again Zero bytes t (good t is))
          ∙ sym (ap (λ r. is_fault r) is)
      go (Err f) is =
          ap (λ b. is_fault (read Zero b)) (canonical_unread bytes f is)
          ∙ unread f (read Zero bytes) is refl
          ∙ sym (ap (λ r. is_fault r) is)

pub zero_faulty : (to : CanonVersion) (e : Received) → AreBytes e.bytes
    → is_faulty Zero (canonical_entry to e) ≡ is_faulty Any e
unfolding is_faulty
zero_faulty to e are = zero_read e.bytes are

-- ---- arrivals and senders

pub same_arrivals : (to : CanonVersion) (entries : List Received)
    → map (λ (e : Received). e.arrival) (canonical_entries to entries) ≡ map (λ (e : Received). e.arrival) entries
same_arrivals to [] = refl
same_arrivals to (e ∷ entries) = ap (λ ns. e.arrival ∷ ns) (same_arrivals to entries)

pub same_senders : (entries : List Received)
    → map (λ (e : Received). e.sender) (canonical_entries Same entries) ≡ map (λ (e : Received). e.sender) entries
same_senders [] = refl
same_senders (e ∷ entries) = ap (λ s. e.sender ∷ s) (same_senders entries)

-- ---- the bytes of the entries are bytes

front_bytes : (front rest : List ℕ) → AreBytes (front ++ rest) → AreBytes front
front_bytes front rest are =
    subst AreBytes (take-append_seam front rest) (take_bytes (length front) (front ++ rest) are)

entry_has : (e : Entry) → AreBytes (entry_bytes e) → AreBytes e.bytes
unfolding entry_bytes
entry_has e are =
    front_bytes e.bytes (entry_padding e) (rest_bytes (entry_head e.arrival (length e.bytes)) (e.bytes ++ entry_padding e) are)

sent_has : (s : Sender) (e : Entry) → AreBytes (sent_bytes s e) → AreBytes e.bytes
unfolding sent_bytes datagram_bytes
sent_has s e are =
    let zeros : List ℕ = replicate (padding_of (length e.bytes)) 0 in
    front_bytes e.bytes zeros
    (rest_bytes (word (length e.bytes)) (e.bytes ++ zeros)
    (rest_bytes (item_front e.arrival s.address s.port) (word (length e.bytes) ++ (e.bytes ++ zeros)) are))

received_has : (v : CaptureVersion) (e : Received) → IsReceived v e → AreBytes (received_bytes v e) → AreBytes e.bytes
received_has versions.One e h are = entry_has (entry_of e) are
received_has versions.Two e h are =
    sent_has h.from (entry_of e) (subst (λ o. AreBytes (item_by o (entry_of e))) h.sender_is are)

-- the bytes of each of the entries are bytes
abbrev AreAllBytes : List Received → Type 0
AreAllBytes entries = All (λ (e : Received). AreBytes e.bytes) entries

all_have : (v : CaptureVersion) (entries : List Received) → All (IsReceived v) entries → AreBytes (all_received v entries)
    → AreAllBytes entries
all_have v [] each are = All-nil (λ (e : Received). AreBytes e.bytes)
all_have v (e ∷ entries) each are =
    All-cons (λ (e : Received). AreBytes e.bytes) e entries
    (received_has v e (All-head (IsReceived v) e entries each)
    (front_bytes (received_bytes v e) (all_received v entries) are))
    (all_have v entries (All-tail (IsReceived v) e entries each)
    (rest_bytes (received_bytes v e) (all_received v entries) are))

capture_has : (v : CaptureVersion) (entries : List Received) (input : List ℕ) → AreBytes input
    → ReceivedAll v entries input → AreAllBytes entries
capture_has v entries input are is =
    let opened : AreBytes (opened_bytes v entries) =
    front_bytes (opened_bytes v entries) (ending_bytes v (length entries)) (subst AreBytes is.whole are) in
    all_have v entries is.each
    (rest_bytes (capture_header (version_number v)) (all_received v entries) (subst AreBytes (opened_are v entries) opened))

-- ---- what was written, written again

written_twice : (to : CanonVersion) (v : CaptureVersion) → written_version to (written_version to v) ≡ written_version to v
written_twice Same v = refl
written_twice Two v = refl

sender_twice : (to : CanonVersion) (s : Option Sender) → written_sender to (written_sender to s) ≡ written_sender to s
sender_twice Same s = refl
sender_twice Two s = refl

entries_twice : (to : CanonVersion) (entries : List Received) → AreAllBytes entries
    → canonical_entries to (canonical_entries to entries) ≡ canonical_entries to entries
entries_twice to [] are = refl
entries_twice to (e ∷ entries) are =
    let here : AreBytes e.bytes = All-head (λ (e : Received). AreBytes e.bytes) e entries are in
    let first : ◌≡◌ {A = Received} (canonical_entry to (canonical_entry to e)) (canonical_entry to e) =
    λ i. record { arrival = e.arrival; sender = sender_twice to e.sender i; bytes = canonical_twice e.bytes here i } in
    ap₂ (λ (x : Received) es. x ∷ es) first
    (entries_twice to entries (All-tail (λ (e : Received). AreBytes e.bytes) e entries are))

pub canon_again : (to : CanonVersion) (c : Capture) (input : List ℕ) → AreBytes input
    → IsAllOf c.version c.entries input → canon_text to (canonical_capture to c) ≡ canon_text to c
canon_again to c input are is =
    ap₂ (λ (v : CaptureVersion) es. whole_bytes v es) (written_twice to c.version)
    (entries_twice to c.entries (capture_has c.version c.entries input are is.capture))

-- ---- what was written is a capture

same_entry : (e : Received) → AreBytes e.bytes → IsEntry (entry_of e)
    → IsEntry (record { arrival = e.arrival; bytes = canonical e.bytes })
same_entry e are h = record {
  arrival = h.arrival;
  bytes = subst (λ n. n ≤ 65535) (sym (canonical_length e.bytes are)) h.bytes;
}

nobody_is : IsSender (record { address = unknown; port = 0 })
nobody_is = record { address = tt; port = omega arith }

canonical_is : (to : CanonVersion) (v : CaptureVersion) (e : Received) → AreBytes e.bytes → IsReceived v e
    → IsReceived (written_version to v) (canonical_entry to e)
canonical_is Same versions.One e are h = (h.0, same_entry e are h.1)
canonical_is Same versions.Two e are h =
    record { from = h.from; sender_is = h.sender_is; sender = h.sender; entry = same_entry e are h.entry }
canonical_is Two versions.One e are h = record {
  from = record { address = unknown; port = 0 };
  sender_is = ap (λ o. Some (known_sender o)) h.0;
  sender = nobody_is;
  entry = same_entry e are h.1;
}
canonical_is Two versions.Two e are h = record {
  from = h.from;
  sender_is = ap (λ o. Some (known_sender o)) h.sender_is;
  sender = h.sender;
  entry = same_entry e are h.entry;
}

canonical_each : (to : CanonVersion) (v : CaptureVersion) (entries : List Received) → AreAllBytes entries
    → All (IsReceived v) entries → All (IsReceived (written_version to v)) (canonical_entries to entries)
canonical_each to v [] are each = All-nil (IsReceived (written_version to v))
canonical_each to v (e ∷ entries) are each =
    All-cons (IsReceived (written_version to v)) (canonical_entry to e) (canonical_entries to entries)
    (canonical_is to v e (All-head (λ (e : Received). AreBytes e.bytes) e entries are)
    (All-head (IsReceived v) e entries each))
    (canonical_each to v entries (All-tail (λ (e : Received). AreBytes e.bytes) e entries are)
    (All-tail (IsReceived v) e entries each))

-- so few can be counted
few_number : (v : CaptureVersion) (n : ℕ) → n ≤ 2 ^ 48 → IsNumber v n
few_number versions.One n few = tt
few_number versions.Two n few = omega (arith, few)

pub canon_capture : (to : CanonVersion) (c : Capture) (input : List ℕ) → AreBytes input
    → IsAllOf c.version c.entries input
    → IsAllOf (written_version to c.version) (canonical_entries to c.entries) (canon_text to c)
canon_capture to c input are is =
    let many : length (canonical_entries to c.entries) ≤ 2 ^ 48 =
    omega (arith, is.few, length-map c.entries (canonical_entry to)) in
    record {
      few = many;
      capture = record {
        each =
            canonical_each to c.version c.entries (capture_has c.version c.entries input are is.capture)
            is.capture.each;
        number = few_number (written_version to c.version) (length (canonical_entries to c.entries)) many;
        whole = refl;
      };
    }

-- ---- faulty entries

counted_from : (to : CanonVersion) (n : ℕ) (entries : List Received) → AreAllBytes entries
    → fold (λ n e. n + cond (is_faulty Zero e) 1 0) n (canonical_entries to entries)
    ≡ fold (λ n e. n + cond (is_faulty Any e) 1 0) n entries
counted_from to n [] are = refl
counted_from to n (e ∷ entries) are =
    ap (λ b. fold (λ n e. n + cond (is_faulty Zero e) 1 0) (n + cond b 1 0) (canonical_entries to entries))
    (zero_faulty to e (All-head (λ (e : Received). AreBytes e.bytes) e entries are))
    ∙ counted_from to (n + cond (is_faulty Any e) 1 0) entries
    (All-tail (λ (e : Received). AreBytes e.bytes) e entries are)

pub zero_faulty_count : (to : CanonVersion) (c : Capture) (input : List ℕ) → AreBytes input
    → IsAllOf c.version c.entries input
    → faulty_count Zero (canonical_entries to c.entries) ≡ faulty_count Any c.entries
zero_faulty_count to c input are is =
    counted_from to 0 c.entries (capture_has c.version c.entries input are is.capture)
