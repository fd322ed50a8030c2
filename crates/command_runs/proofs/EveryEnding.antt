-- Each input makes a run of a command over a capture end in some way.
use Rattle.std.proofs.Common.{◌≡◌, ℕ, ◌<◌, ◌≤◌, ◌^◌, ◌⊎◌, Bool, true, false, ◌==◌, inl, inr, List, [], ◌∷◌, ◌++◌, length, take, drop, All, Ok, Err, refl, sym, ap, subst, ◌∙◌, append_assoc, arith, length-append, length-take-le, length-drop}
use Rattle.std.specs.Int.{w32, to_be_bytes}
use Rattle.std.proofs.lemmas.Bool.{cases_lt, both_ways, eq-eqb, eqb-true}
use Rattle.std.proofs.lemmas.List.Elements.{All-drop, All-head}
use Rattle.wire_spec.specs.declared.input_kind.InputKind.{InputKind}
use Rattle.wire_spec.specs.declared.input_kind.InputKind.TheVariants.{Magic, Version}
use Rattle.wire_spec.specs.Bytes.{AreBytes, BeginsWith}
use Rattle.wire_spec.specs.Captures.{capture_header, magic}
use Rattle.capture_spec.specs.declared.capture_version.CaptureVersion.{CaptureVersion}
use Rattle.capture_spec.specs.declared.capture_version.CaptureVersion.TheVariants.{One, Two}
use Rattle.capture_spec.specs.Items.{Received, Sender, address_bytes, address_kind, datagram_bytes, entry_of, hyper, item_by, sent_bytes, word}
use Rattle.capture_spec.specs.ItemReading.{received_reading, word_in}
use Rattle.capture_spec.specs.VersionedCaptures.{IsReceived, IsReceivedOutcome, ReceivedAll, ReceivedFault, ReceivedOutcome, ReceivedThen, all_received, ending_bytes, received_bytes}
use Rattle.capture_spec.specs.VersionedCaptures as versions
use Rattle.capture_spec.proofs.ItemFronts.{item_front_is, item_head_is, sent_bytes_are}
use Rattle.capture_spec.proofs.VersionedOutcomes.{outcome_shows}
use Rattle.capture_spec.proofs.VersionedWalks.{some_received}
use Rattle.capture_spec.proofs.Words.{reads_word}
use Rattle.sflow_io.specs.CaptureAnswers.{HasNoHeader, IsFurther}
use Rattle.sflow_io.specs.CaptureSteps.{GoesOn}
use Rattle.command_runs.specs.declared.status.Status.{Status}
use Rattle.command_runs.specs.declared.status.Status.TheVariants.{Done, Found, BadInput, Spent}
use Rattle.command_runs.specs.Acts.{Act}
use Rattle.command_runs.specs.Grammars.{Capture, captures}
use Rattle.command_runs.specs.Readings.{Decides}
use Rattle.command_runs.proofs.EntryWalks.{behind_first}

abbrev Ending : Act Capture → List ℕ → Type 0
Ending a input = (status : Status) × Decides captures a input status

-- ---- what makes a further entry

word_or_not : (rest : List ℕ) → 4 ≤ length rest → (b : Bool) → (word_in rest == 1) ≡ b
    → IsFurther Two rest ⊎ ¬ (IsFurther Two rest)
word_or_not rest long true is = inl (long, eqb-true (word_in rest) 1 is)
word_or_not rest long false is = inr (λ further. both_ways (word_in rest == 1) is (eq-eqb (word_in rest) 1 further.1))

further_or_not : (v : CaptureVersion) (rest : List ℕ) → IsFurther v rest ⊎ ¬ (IsFurther v rest)
further_or_not One rest = elim (cases_lt 0 (length rest)) [
  | inl some ↦ inl some
  | inr none ↦ inr (λ some. omega (arith, some, none))
]
further_or_not Two rest = elim (cases_lt (length rest) 4) [
  | inl short ↦ inr (λ further. omega (arith, further.0, short))
  | inr long ↦ word_or_not rest long (word_in rest == 1) refl
]

-- an entry item begins with the word 1
sent_begins : (s : Sender) (e : Received) (more : List ℕ) → BeginsWith (sent_bytes s (entry_of e) ++ more) (word 1)
sent_begins s e more =
    let kind : ℕ = address_kind s.address in
    let head : List ℕ = hyper e.arrival ++ word kind in
    let front : List ℕ = address_bytes s.address ++ word s.port in (
      head ++ (front ++ (datagram_bytes e.bytes ++ more)),
      ap (λ l. l ++ more) (sent_bytes_are s (entry_of e) ∙ ap (λ l. l ++ datagram_bytes e.bytes)
          (item_front_is e.arrival s.address s.port ∙ ap (λ l. l ++ front) (item_head_is e.arrival kind)))
          ∙ append_assoc ((word 1 ++ head) ++ front) (datagram_bytes e.bytes) more
          ∙ append_assoc (word 1 ++ head) front (datagram_bytes e.bytes ++ more)
          ∙ append_assoc (word 1) head (front ++ (datagram_bytes e.bytes ++ more)),
    )

begins_further : (rest : List ℕ) → BeginsWith rest (word 1) → IsFurther Two rest
begins_further rest h =
    let one = reads_word rest h.0 1 h.1 (omega arith) in
    (omega (arith, one.long), one.is)

entry_further : (v : CaptureVersion) (e : Received) (more : List ℕ) → IsReceived v e
    → IsFurther v (received_bytes v e ++ more)
entry_further One e more h = omega (arith, some_received One e h, length-append (received_bytes One e) more)
entry_further Two e more h =
    begins_further (received_bytes Two e ++ more)
    (subst (λ o. BeginsWith (item_by o (entry_of e) ++ more) (word 1)) (sym h.sender_is) (sent_begins h.from e more))

entries_further : (v : CaptureVersion) (es : List Received) (rest : List ℕ) → All (IsReceived v) es → 0 < length es
    → IsFurther v (all_received v es ++ rest)
entries_further v [] rest each some = absurd (omega (arith, some))
entries_further v (e ∷ es) rest each some =
    subst (IsFurther v) (sym (append_assoc (received_bytes v e) (all_received v es) rest))
    (entry_further v e (all_received v es ++ rest) (All-head (IsReceived v) e es each))

-- ---- more than 2^48 entries, or a further one behind so many

goes_past : (v : CaptureVersion) (es : List Received) (rest input : List ℕ) → ReceivedThen v es rest input
    → 2 ^ 48 < length es → GoesOn (take (2 ^ 48) es) input
goes_past v es rest input h many = record {
  version = v;
  rest = all_received v (drop (2 ^ 48) es) ++ rest;
  before = behind_first v (2 ^ 48) es rest input h;
  number = length-take-le (2 ^ 48) es (omega (arith, many));
  more =
      entries_further v (drop (2 ^ 48) es) rest (All-drop (IsReceived v) (2 ^ 48) es h.each)
      (omega (arith, many, length-drop (2 ^ 48) es));
}

-- ---- a whole capture

all_read : (a : Act Capture) (input : List ℕ) (x : Capture) → ReceivedAll x.version x.entries input
    → length x.entries ≤ 2 ^ 48 → (found : Bool) → a.finds x ≡ found → Ending a input
all_read a input x is few true found =
    (Found, (x, record { all = record { few = few; capture = is }; found_is = found }))
all_read a input x is few false found =
    (Done, (x, record { all = record { few = few; capture = is }; found_is = found }))

of_capture : (a : Act Capture) (input : List ℕ) (v : CaptureVersion) (es : List Received) → ReceivedAll v es input
    → Ending a input
of_capture a input v es is = elim (cases_lt (2 ^ 48) (length es)) [
  | inl many ↦ (
    Spent,
    (
      record { version = v; entries = take (2 ^ 48) es },
      goes_past v es (ending_bytes v (length es)) input (record { each = is.each; whole = is.whole }) many,
    ),
  )
  | inr few ↦ all_read a input (record { version = v; entries = es }) is few (a.finds (record { version = v; entries = es })) refl
]

-- ---- a fault

of_full : (a : Act Capture) (input : List ℕ) (at : ℕ) (kind : InputKind) → ReceivedFault input at kind
    → (h : versions.BreaksBehind input at kind) → length h.entries ≡ 2 ^ 48
    → IsFurther h.version h.rest ⊎ ¬ (IsFurther h.version h.rest) → Ending a input
of_full a input at kind fault h number (inl more) = (
  Spent,
  (
    record { version = h.version; entries = h.entries },
    record { version = h.version; rest = h.rest; before = h.before; number = number; more = more },
  ),
)
of_full a input at kind fault h number (inr none) = (
  BadInput at kind,
  (
    record { version = h.version; entries = h.entries },
    record {
      fault = fault;
      behind = inr (record {
        version = h.version;
        rest = h.rest;
        within = h.within;
        before = h.before;
        met = inr (number, none);
        broken = h.broken;
        place = h.place;
      });
    },
  ),
)

of_few : (a : Act Capture) (input : List ℕ) (at : ℕ) (kind : InputKind) → ReceivedFault input at kind
    → (h : versions.BreaksBehind input at kind) → length h.entries < 2 ^ 48 → Ending a input
of_few a input at kind fault h few = (
  BadInput at kind,
  (
    record { version = h.version; entries = h.entries },
    record {
      fault = fault;
      behind = inr (record {
        version = h.version;
        rest = h.rest;
        within = h.within;
        before = h.before;
        met = inl few;
        broken = h.broken;
        place = h.place;
      });
    },
  ),
)

of_break : (a : Act Capture) (input : List ℕ) (at : ℕ) (kind : InputKind) → ReceivedFault input at kind
    → versions.BreaksBehind input at kind → Ending a input
of_break a input at kind fault h = elim (cases_lt (length h.entries) (2 ^ 48)) [
  | inl few ↦ of_few a input at kind fault h few
  | inr le ↦ elim (cases_lt (2 ^ 48) (length h.entries)) [
    | inl many ↦ (
      Spent,
      (
        record { version = h.version; entries = take (2 ^ 48) h.entries },
        goes_past h.version h.entries h.rest input h.before many,
      ),
    )
    | inr ge ↦ of_full a input at kind fault h (omega (arith, le, ge)) (further_or_not h.version h.rest)
  ]
]

-- a header begins with the magic
magic_of : (n : ℕ) (bytes : List ℕ) → BeginsWith bytes (capture_header n) → BeginsWith bytes magic
magic_of n bytes h = (to_be_bytes w32 n ++ h.0, h.1 ∙ append_assoc magic (to_be_bytes w32 n) h.0)

headless : (a : Act Capture) (input : List ℕ) (at : ℕ) (kind : InputKind) → ReceivedFault input at kind → HasNoHeader input
    → Ending a input
headless a input at kind fault none = (
  BadInput at kind,
  (record { version = One; entries = [] }, record { fault = fault; behind = inl (refl, none) }),
)

no_magic : (input : List ℕ) → ¬ (BeginsWith input magic) → HasNoHeader input
no_magic input none One h = none (magic_of 1 input h)
no_magic input none Two h = none (magic_of 2 input h)

no_version : (input : List ℕ) → ¬ (BeginsWith input (capture_header 1)) → ¬ (BeginsWith input (capture_header 2))
    → HasNoHeader input
no_version input one two One h = one h
no_version input one two Two h = two h

of_fault : (a : Act Capture) (input : List ℕ) (at : ℕ) (kind : InputKind) → ReceivedFault input at kind → Ending a input
of_fault a input at Magic (is, none) = headless a input at Magic (is, none) (no_magic input none)
of_fault a input at Version (is, same, one, two) =
    headless a input at Version (is, same, one, two) (no_version input one two)
of_fault a input at kind fault = of_break a input at kind fault fault

by_reading : (a : Act Capture) (input : List ℕ) (r : ReceivedOutcome) → IsReceivedOutcome input r → Ending a input
by_reading a input (Ok (v, es)) is = of_capture a input v es is
by_reading a input (Err fault) is = of_fault a input fault.0 fault.1 is

pub every_ending : (a : Act Capture) (input : List ℕ) → AreBytes input → (status : Status) × Decides captures a input status
every_ending a input are = by_reading a input (received_reading input) (outcome_shows input are)
