-- Two walks over the entries of one capture.
use Rattle.std.proofs.Common.{◌≡◌, ℕ, ◌+◌, List, [], ◌∷◌, ◌++◌, length, take, drop, All, refl, sym, ap, ◌∙◌, append_assoc, arith, take_at, take-append-drop}
use Rattle.std.proofs.lemmas.Grind.{flat_map-append}
use Rattle.std.proofs.lemmas.List.{append_cancel_left}
use Rattle.std.proofs.lemmas.List.Elements.{All-head, All-tail, All-take}
use Rattle.wire_spec.specs.Captures.{capture_header}
use Rattle.capture_spec.specs.declared.capture_version.CaptureVersion.{CaptureVersion}
use Rattle.capture_spec.specs.declared.capture_version.CaptureVersion.TheVariants.{One, Two}
use Rattle.capture_spec.specs.Items.{Received}
use Rattle.capture_spec.specs.ItemReading.{Front, Holds, front_in}
use Rattle.capture_spec.specs.VersionedCaptures.{IsReceived, ReceivedThen, all_received, opened_bytes, received_bytes, version_number}
use Rattle.capture_spec.proofs.ItemFrontsBack.{back_in}
use Rattle.capture_spec.proofs.VersionedWalks.{opened_are}
use Rattle.sflow_io.specs.CaptureAnswers.{HasHeader}

-- ---- the header

headers_apart : capture_header 1 ≡ capture_header 2 → ⊥
headers_apart e = absurd cc

not_both : (bytes : List ℕ) → HasHeader One bytes → HasHeader Two bytes → ⊥
not_both bytes one two =
    headers_apart
    (sym (take_at (capture_header 1) one.0 8 refl) ∙ ap (take 8) (sym one.1 ∙ two.1)
    ∙ take_at (capture_header 2) two.0 8 refl)

pub one_version : (v w : CaptureVersion) (bytes : List ℕ) → HasHeader v bytes → HasHeader w bytes → v ≡ w
one_version One One bytes h k = refl
one_version One Two bytes h k = absurd (not_both bytes h k)
one_version Two One bytes h k = absurd (not_both bytes k h)
one_version Two Two bytes h k = refl

-- what follows the header
follows : (v : CaptureVersion) (es : List Received) (r bytes : List ℕ) → ReceivedThen v es r bytes
    → bytes ≡ capture_header (version_number v) ++ (all_received v es ++ r)
follows v es r bytes h =
    h.whole ∙ ap (λ l. l ++ r) (opened_are v es)
    ∙ append_assoc (capture_header (version_number v)) (all_received v es) r

pub with_header : (v : CaptureVersion) (es : List Received) (r bytes : List ℕ) → ReceivedThen v es r bytes
    → HasHeader v bytes
with_header v es r bytes h = (all_received v es ++ r, follows v es r bytes h)

-- ---- how two walks stand to each other: they are the same, or one goes on behind the other

-- the entries stand at the front, and this is the rest
record Follows (v : CaptureVersion) (es : List Received) (rest bytes : List ℕ) : Type 0 where
  each : All (IsReceived v) es
  whole : bytes ≡ all_received v es ++ rest

-- behind so many entries these are compared
pub data Compared (v : CaptureVersion) (n : ℕ) (es fs : List Received) (r s : List ℕ) : Type 0 where
  same : es ≡ fs → r ≡ s → Compared v n es fs r s
  shorter : (m : ℕ) (e : Received) (more : List Received) (mid : List ℕ) → m ≡ n + length es → fs ≡ es ++ e ∷ more
      → front_in v m r ≡ Holds e mid → Compared v n es fs r s
  longer : (m : ℕ) (e : Received) (more : List Received) (mid : List ℕ) → m ≡ n + length fs → es ≡ fs ++ e ∷ more
      → front_in v m s ≡ Holds e mid → Compared v n es fs r s

next_is : (v : CaptureVersion) (n : ℕ) (e : Received) (es : List Received) (rest bytes : List ℕ)
    → Follows v (e ∷ es) rest bytes → front_in v n bytes ≡ Holds e (all_received v es ++ rest)
next_is v n e es rest bytes h =
    back_in v n bytes (Holds e (all_received v es ++ rest)) (
      All-head (IsReceived v) e es h.each,
      h.whole ∙ append_assoc (received_bytes v e) (all_received v es) rest,
    )

same_entry : (x : Front) (e f : Received) (m n : List ℕ) → x ≡ Holds e m → x ≡ Holds f n → (e ≡ f) × (m ≡ n)
same_entry x e f m n one two = let both : Holds e m ≡ Holds f n = sym one ∙ two in (cc, cc)

compare : (v : CaptureVersion) (n : ℕ) (es fs : List Received) (r s bytes : List ℕ) → Follows v es r bytes
    → Follows v fs s bytes → Compared v n es fs r s
compare v n [] [] r s bytes one two = same refl (sym one.whole ∙ two.whole)
compare v n [] (f ∷ fs) r s bytes one two =
    shorter n f fs (all_received v fs ++ s) (omega arith) refl
    (ap (front_in v n) (sym one.whole) ∙ next_is v n f fs s bytes two)
compare v n (e ∷ es) [] r s bytes one two =
    longer n e es (all_received v es ++ r) (omega arith) refl
    (ap (front_in v n) (sym two.whole) ∙ next_is v n e es r bytes one)
compare v n (e ∷ es) (f ∷ fs) r s bytes one two =
    let both = same_entry (front_in v n bytes) e f _ _ (next_is v n e es r bytes one) (next_is v n f fs s bytes two) in
    let rest : Compared v (n + 1) es fs r s =
    compare v (n + 1) es fs r s (all_received v es ++ r)
    (record { each = All-tail (IsReceived v) e es one.each; whole = refl })
    (record { each = All-tail (IsReceived v) f fs two.each; whole = both.1 }) in
    elim rest [
      | same is left ↦ same (ap (λ l. e ∷ l) is ∙ ap (λ (x : Received). x ∷ fs) both.0) left
      | shorter m g more mid at is front ↦
          shorter m g more mid (omega (arith, at))
          (ap (λ l. f ∷ l) is ∙ ap (λ (x : Received). x ∷ (es ++ g ∷ more)) (sym both.0)) front
      | longer m g more mid at is front ↦
          longer m g more mid (omega (arith, at))
          (ap (λ l. e ∷ l) is ∙ ap (λ (x : Received). x ∷ (fs ++ g ∷ more)) both.0) front
    ]

pub compared : (v : CaptureVersion) (es fs : List Received) (r s bytes : List ℕ) → ReceivedThen v es r bytes
    → ReceivedThen v fs s bytes → Compared v 0 es fs r s
compared v es fs r s bytes one two =
    let both : all_received v es ++ r ≡ all_received v fs ++ s =
    append_cancel_left (capture_header (version_number v)) _ _ (sym (follows v es r bytes one) ∙ follows v fs s bytes two) in
    compare v 0 es fs r s (all_received v es ++ r)
    (record { each = one.each; whole = refl })
    (record { each = two.each; whole = both })

-- ---- the first of the entries, and those behind them

pub behind_first : (v : CaptureVersion) (n : ℕ) (es : List Received) (rest bytes : List ℕ) → ReceivedThen v es rest bytes
    → ReceivedThen v (take n es) (all_received v (drop n es) ++ rest) bytes
behind_first v n es rest bytes h = record {
  each = All-take (IsReceived v) n es h.each;
  whole =
      let first : List ℕ = all_received v (take n es) in
      let others : List ℕ = all_received v (drop n es) in
      let header : List ℕ = capture_header (version_number v) in
      h.whole
      ∙ ap (λ l. l ++ rest) (opened_are v es
      ∙ ap (λ (l : List Received). header ++ all_received v l) (sym (take-append-drop n es))
      ∙ ap (λ l. header ++ l) (flat_map-append (received_bytes v) (take n es) (drop n es))
      ∙ sym (append_assoc header first others)
      ∙ ap (λ l. l ++ others) (sym (opened_are v (take n es))))
      ∙ append_assoc (opened_bytes v (take n es)) others rest;
}
