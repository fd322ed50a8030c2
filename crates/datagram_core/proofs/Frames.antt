-- The frame of a record that is written.
use Rattle.std.proofs.Common.{◌≡◌, ◌≤◌, ℕ, ◌+◌, List, ◌++◌, length, replicate, Result, refl, sym, ap, subst, arith}
use Rattle.std.proofs.lemmas.List.{length-append, length-replicate}
use Rattle.std.specs.Int.{w32, to_be_bytes}
use Rattle.wire_spec.specs.Padding.{padding_of}
use Rattle.wire_spec.specs.Spelling.{spell}
use Rattle.xdr_words.specs.declared.writer.Out.{Out}
use Rattle.xdr_words.specs.declared.writer.OutFull.{OutFull}
use Rattle.xdr_words.specs.Written.{room_left, Appends, Puts}
use Rattle.datagram_core.specs.declared.records.Record.{Record}
use Rattle.datagram_core.specs.declared.records.RecordKind.{RecordKind}
use Rattle.datagram_core.specs.Descriptions.{Description, Read, Kept, described, format_in, body_in}
use Rattle.datagram_core.specs.Records.{tree_in, record_tree}
use Rattle.datagram_core.specs.Kinds.{IsOfKind, HasKind}
use Rattle.datagram_core.specs.Written.{record_format, record_body, FormatFitsIn, FormatFits}
use Rattle.datagram_core.proofs.Puts.{last_of_four}

-- format, length, body and padding
abbrev pub frame_bytes : ℕ → List ℕ → List ℕ
frame_bytes k body =
    to_be_bytes w32 k ++ to_be_bytes w32 (length body) ++ body ++ replicate (padding_of (length body)) 0

spelling_in : (d : Description) → spell (tree_in d) ≡ frame_bytes (format_in d) (body_in d)
spelling_in (Read kind k x) = refl
spelling_in (Kept frame) = refl

pub record_spelling : (r : Record) → spell (record_tree r) ≡ frame_bytes (record_format r) (record_body r)
record_spelling r = spelling_in (described r)

pub frame_size : (r : Record) → length (spell (record_tree r))
    ≡ 8 + length (record_body r) + padding_of (length (record_body r))
frame_size r =
    let body = record_body r in
    let n = padding_of (length body) in
    omega (arith, ap length (record_spelling r), length-append body (replicate n 0), length-replicate {A = ℕ} n 0)

-- its parts are written one after the other
pub frame_written : (item : Record) (size : ℕ) (a b c d e : Out) (r : Result Unit OutFull)
    → size ≡ length (record_body item) → length (spell (record_tree item)) ≤ room_left a
    → Appends a b (to_be_bytes w32 (record_format item)) → Appends b c (to_be_bytes w32 size)
    → Appends c d (record_body item) → Puts d e r (replicate (padding_of size) 0)
    → Puts a e r (spell (record_tree item))
frame_written item size a b c d e r same fits one two three four =
    let body = record_body item in
    let Second : ℕ → Type 0 = λ n. Appends b c (to_be_bytes w32 n) in
    let Last : ℕ → Type 0 = λ n. Puts d e r (replicate (padding_of n) 0) in
    let Fit : List ℕ → Type 0 = λ l. length l ≤ room_left a in
    let Whole : List ℕ → Type 0 = λ l. Puts a e r l in
    let spelling = record_spelling item in
    subst Whole (sym spelling)
    (last_of_four a b c d e (to_be_bytes w32 (record_format item)) (to_be_bytes w32 (length body)) body
    (replicate (padding_of (length body)) 0) r one (subst Second same two) three (subst Last same four)
    (subst Fit spelling fits))

format_fits_in : (kind : RecordKind) (d : Description) → IsOfKind kind d → FormatFitsIn d
format_fits_in kind (Read k n x) h = tt
format_fits_in kind (Kept frame) h = h.0

pub format_fits : (kind : RecordKind) (r : Record) → HasKind kind r → FormatFits r
format_fits kind r h = format_fits_in kind (described r) h
