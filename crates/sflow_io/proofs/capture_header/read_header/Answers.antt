use Rattle.std.proofs.Common.{◌≡◌, ℕ, List, false, length, take, refl, sym, ap, ◌∙◌, arith, bytes_eq}
use Rattle.wire_spec.specs.Captures.{capture_header, magic}
use Rattle.byte_ends.proofs.Filled.{front_read}
use Rattle.sflow_io.proofs.Headers.{begins_with_magic, no_header, no_headers, no_magic}
use Rattle.sflow_io.proofs.capture_header.read_header.Goals as goal

pub returns-then-starts_with-clause-told : goal.returns-then-starts_with-clause-told
returns-then-starts_with-clause-told g c = λ bytes told.
    let room : length c.read_most.new.room ≡ 8 = omega arith in
    let read : List ℕ = take c.in-Ok.count c.read_most.new.room in
    let front : take 8 bytes ≡ read =
    ap (λ n. take n bytes) (sym room) ∙ front_read _ _ _ _ _ told c.in-Ok.ensures.reads in
    let one : bytes_eq read (capture_header 1) ≡ false =
    sym (c.if-eq.ensures ∙ ap (bytes_eq read) c.as_slice.ensures) in
    let two : bytes_eq read (capture_header 2) ≡ false =
    sym (c.if-eq-2.ensures ∙ ap (bytes_eq read) c.as_slice-2.ensures) in
    let found =
    begins_with_magic bytes read front
    (sym (c.if-starts_with.ensures.value ∙ ap (λ (l : List ℕ). bytes_eq l (take (length l) read)) c.as_slice-3.ensures)) in (
      no_headers bytes read front one two,
      (
        refl,
        found,
        no_header bytes read (capture_header 1) front refl one,
        no_header bytes read (capture_header 2) front refl two,
      ),
    )

pub returns-clause-told : goal.returns-clause-told
returns-clause-told g c = λ bytes told.
    let room : length c.read_most.new.room ≡ 8 = omega arith in
    let read : List ℕ = take c.in-Ok.count c.read_most.new.room in
    let front : take 8 bytes ≡ read =
    ap (λ n. take n bytes) (sym room) ∙ front_read _ _ _ _ _ told c.in-Ok.ensures.reads in
    let one : bytes_eq read (capture_header 1) ≡ false =
    sym (c.if-eq.ensures ∙ ap (bytes_eq read) c.as_slice.ensures) in
    let two : bytes_eq read (capture_header 2) ≡ false =
    sym (c.if-eq-2.ensures ∙ ap (bytes_eq read) c.as_slice-2.ensures) in
    let other : bytes_eq magic (take 4 read) ≡ false =
    sym (c.if-starts_with.ensures.value ∙ ap (λ (l : List ℕ). bytes_eq l (take (length l) read)) c.as_slice-3.ensures) in (
      no_headers bytes read front one two,
      (refl, no_magic bytes read front other),
    )
