-- What the first bytes of an input say of its header.
use Rattle.std.proofs.Common.{◌≡◌, ℕ, true, false, List, ◌++◌, length, take, drop, bytes_eq, refl, sym, ap, ◌∙◌, arith, take_at, take-append-drop, take-take}
use Rattle.std.proofs.lemmas.Bool.{both_ways}
use Rattle.std.proofs.lemmas.Slice.Eq.{bytes_eq-Decides}
use Rattle.wire_spec.specs.Bytes.{BeginsWith}
use Rattle.wire_spec.specs.Captures.{magic, capture_header}
use Rattle.capture_spec.specs.declared.capture_version.CaptureVersion.TheVariants.{One, Two}
use Rattle.sflow_io.specs.CaptureAnswers.{HasNoHeader}

pub no_header : (bytes front header : List ℕ) → take 8 bytes ≡ front → length header ≡ 8 → bytes_eq front header ≡ false
    → ¬ (BeginsWith bytes header)
no_header bytes front header is long other h =
    let same : front ≡ header = sym is ∙ ap (take 8) h.1 ∙ take_at header h.0 8 long in
    both_ways _ other ((bytes_eq-Decides front header).1 same)

-- neither header stands there
pub no_headers : (bytes front : List ℕ) → take 8 bytes ≡ front → bytes_eq front (capture_header 1) ≡ false
    → bytes_eq front (capture_header 2) ≡ false → HasNoHeader bytes
no_headers bytes front is one two One = no_header bytes front (capture_header 1) is refl one
no_headers bytes front is one two Two = no_header bytes front (capture_header 2) is refl two

pub begins_with_magic : (bytes front : List ℕ) → take 8 bytes ≡ front → bytes_eq magic (take 4 front) ≡ true
    → BeginsWith bytes magic
begins_with_magic bytes front is found =
    let same : magic ≡ take 4 bytes =
    (bytes_eq-Decides magic (take 4 front)).0 found ∙ ap (take 4) (sym is) ∙ take-take 4 8 bytes (omega arith) in
    (drop 4 bytes, sym (take-append-drop 4 bytes) ∙ ap (λ l. l ++ drop 4 bytes) (sym same))

pub no_magic : (bytes front : List ℕ) → take 8 bytes ≡ front → bytes_eq magic (take 4 front) ≡ false
    → ¬ (BeginsWith bytes magic)
no_magic bytes front is other h =
    let same : magic ≡ take 4 front =
    sym (take_at magic h.0 4 refl) ∙ ap (take 4) (sym h.1) ∙ sym (take-take 4 8 bytes (omega arith)) ∙ ap (take 4) is in
    both_ways _ other ((bytes_eq-Decides magic (take 4 front)).1 same)
