-- Reading entry after entry, from the header on, in either version.
use Rattle.std.proofs.Common.{◌≡◌, ℕ, ◌+◌, ◌<◌, List, [], ◌∷◌, ◌++◌, length, refl, sym, ap, subst, ◌∙◌, append_assoc, append-nil, arith, length-append}
use Rattle.std.proofs.lemmas.List.Concat.{flat_map-append}
use Rattle.std.proofs.lemmas.List.Elements.{All-push, All-nil}
use Rattle.wire_spec.specs.declared.input_kind.InputKind.{InputKind}
use Rattle.wire_spec.specs.declared.input_kind.InputKind.TheVariants.{Magic, Version}
use Rattle.wire_spec.specs.Bytes.{AreBytes}
use Rattle.wire_spec.specs.Captures.{capture_header}
use Rattle.wire_spec.proofs.ByteLists.{rest_bytes}
use Rattle.wire_spec.proofs.CaptureEntries.{length-entry_bytes}
use Rattle.capture_spec.specs.declared.capture_version.CaptureVersion.{CaptureVersion}
use Rattle.capture_spec.specs.declared.capture_version.CaptureVersion.TheVariants.{One, Two}
use Rattle.capture_spec.specs.Items.{word, hyper, Sender, Received, address_kind, address_bytes, entry_of, item_by, item_head, item_front, datagram_bytes, sent_bytes}
use Rattle.capture_spec.specs.VersionedCaptures.{version_number, IsReceived, received_bytes, IsBrokenAt, all_received, opened_bytes, ReceivedThen, ReceivedAll, BreaksBehind, ReceivedFault}
use Rattle.capture_spec.specs.ItemReading.{Front, Stops, Holds, Breaks, front_in, IsFrontAt}
use Rattle.capture_spec.proofs.Words.{length-word}
use Rattle.capture_spec.proofs.ItemFronts.{item_head_is, item_front_is, sent_bytes_are}
use Rattle.capture_spec.proofs.ItemFrontsBack.{shows_in}

pub opened_are : (v : CaptureVersion) (entries : List Received)
    → opened_bytes v entries ≡ capture_header (version_number v) ++ all_received v entries
unfolding opened_bytes
opened_are v entries = refl

pub none_opened : (v : CaptureVersion) → opened_bytes v [] ≡ capture_header (version_number v)
none_opened v = opened_are v [] ∙ append-nil (capture_header (version_number v))

pub header_length : (v : CaptureVersion) → length (capture_header (version_number v)) ≡ 8
header_length One = refl
header_length Two = refl

pub opened_length : (v : CaptureVersion) (entries : List Received)
    → length (opened_bytes v entries) ≡ 8 + length (all_received v entries)
opened_length v entries =
    omega (
      arith,
      ap length (opened_are v entries),
      length-append (capture_header (version_number v)) (all_received v entries),
      header_length v,
    )

pub opened-push : (v : CaptureVersion) (entries : List Received) (e : Received)
    → opened_bytes v (entries ++ e ∷ []) ≡ opened_bytes v entries ++ received_bytes v e
opened-push v entries e =
    let header = capture_header (version_number v) in
    opened_are v (entries ++ e ∷ [])
    ∙ ap (λ l. header ++ l) (flat_map-append (received_bytes v) entries (e ∷ []))
    ∙ ap (λ l. header ++ (all_received v entries ++ l)) (append-nil (received_bytes v e))
    ∙ sym (append_assoc header (all_received v entries) (received_bytes v e))
    ∙ ap (λ l. l ++ received_bytes v e) (sym (opened_are v entries))

-- an entry has some bytes
some_sent : (s : Sender) (e : Received) → 0 < length (sent_bytes s (entry_of e))
some_sent s e =
    omega (
      arith,
      ap length (sent_bytes_are s (entry_of e)),
      length-append (item_front e.arrival s.address s.port) (datagram_bytes e.bytes),
      ap length (item_front_is e.arrival s.address s.port),
      length-append (item_head e.arrival (address_kind s.address)) (address_bytes s.address ++ word s.port),
      ap length (item_head_is e.arrival (address_kind s.address)),
      length-append (word 1) (hyper e.arrival ++ word (address_kind s.address)),
      length-word 1,
    )

pub some_received : (v : CaptureVersion) (e : Received) → IsReceived v e → 0 < length (received_bytes v e)
some_received One e h = omega (arith, length-entry_bytes (entry_of e))
some_received Two e h =
    subst (λ o. 0 < length (item_by o (entry_of e))) (sym h.sender_is) (some_sent h.from e)

-- ---- walks

pub walk_begins : (v : CaptureVersion) (rest : List ℕ)
    → ReceivedThen v [] rest (capture_header (version_number v) ++ rest)
walk_begins v rest = record {
  each = All-nil (IsReceived v);
  whole = sym (ap (λ l. l ++ rest) (none_opened v));
}

module _ (v : CaptureVersion) (entries : List Received) (rest bytes : List ℕ) (are : AreBytes bytes)
    (h : ReceivedThen v entries rest bytes) where
  pub rest_are : AreBytes rest
  rest_are = rest_bytes (opened_bytes v entries) rest (subst AreBytes h.whole are)

  -- what is read behind the entries stands there
  pub stands : (front : Front) → front_in v (length entries) rest ≡ front → IsFrontAt v (length entries) rest front
  stands front is =
      subst (IsFrontAt v (length entries) rest) is (shows_in v (length entries) rest rest_are)

  pub walk_goes_on : (e : Received) (more : List ℕ) → front_in v (length entries) rest ≡ Holds e more
      → ReceivedThen v (entries ++ e ∷ []) more bytes
  walk_goes_on e more is =
      let shown = stands (Holds e more) is in record {
        each = All-push (IsReceived v) entries e h.each shown.0;
        whole = h.whole ∙ ap (λ l. opened_bytes v entries ++ l) shown.1
            ∙ sym (append_assoc (opened_bytes v entries) (received_bytes v e) more)
            ∙ sym (ap (λ l. l ++ more) (opened-push v entries e));
      }

  pub walk_stops : front_in v (length entries) rest ≡ Stops → ReceivedAll v entries bytes
  walk_stops is =
      let shown = stands Stops is in record {
        each = h.each;
        number = shown.1;
        whole = h.whole ∙ ap (λ l. opened_bytes v entries ++ l) shown.0;
      }

  pub breaks_behind : (within : ℕ) (kind : InputKind) → front_in v (length entries) rest ≡ Breaks within kind
      → BreaksBehind bytes (length (opened_bytes v entries) + within) kind
  breaks_behind within kind is = record {
    version = v;
    entries = entries;
    rest = rest;
    within = within;
    before = h;
    broken = stands (Breaks within kind) is;
    place = refl;
  }

no_magic : (v : CaptureVersion) (count : ℕ) (rest : List ℕ) (within : ℕ) → IsBrokenAt v count rest within Magic → ⊥
no_magic One count rest within h = h
no_magic Two count rest within h = h

no_version : (v : CaptureVersion) (count : ℕ) (rest : List ℕ) (within : ℕ) → IsBrokenAt v count rest within Version → ⊥
no_version One count rest within h = h
no_version Two count rest within h = h

-- a break behind the header is a fault of its kind
pub fault_of_break : (bytes : List ℕ) (at : ℕ) (kind : InputKind) → BreaksBehind bytes at kind
    → ReceivedFault bytes at kind
fault_of_break bytes at Magic h = absurd (no_magic h.version (length h.entries) h.rest h.within h.broken)
fault_of_break bytes at Version h = absurd (no_version h.version (length h.entries) h.rest h.within h.broken)
fault_of_break bytes at _ h = h

pub walk_breaks : (v : CaptureVersion) (entries : List Received) (rest bytes : List ℕ) (within : ℕ) (kind : InputKind)
    → AreBytes bytes → ReceivedThen v entries rest bytes → front_in v (length entries) rest ≡ Breaks within kind
    → ReceivedFault bytes (length (opened_bytes v entries) + within) kind
walk_breaks v entries rest bytes within kind are h is =
    fault_of_break bytes (length (opened_bytes v entries) + within) kind
    (breaks_behind v entries rest bytes are h within kind is)
