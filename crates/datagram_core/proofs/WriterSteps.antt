-- What the calls of a writer make of what it has written.
use Rattle.std.proofs.Common.{◌≡◌, ℕ, ◌+◌, ◌-◌, ◌*◌, ◌%◌, ◌≤◌, List, ◌∷◌, ◌++◌, length, Option, Some, None, refl, sym, ap, subst, ◌∙◌, append_assoc, arith}
use Rattle.std.specs.Prelude.{IfSome}
use Rattle.std.proofs.lemmas.List.{length-append, length-take-le}
use Rattle.wire_spec.specs.Heads.{Head, datagram_tree}
use Rattle.wire_spec.specs.Shapes.{Tree, Trees, none, count_of}
use Rattle.wire_spec.specs.Spelling.{padded, spell, spell_all}
use Rattle.datagram_core.specs.Written.{Begun, and_then, begun_bytes, with_record, closed_sample, patch}
use Rattle.datagram_core.specs.Writers.{so_far, Has, HasBegun}
use Rattle.datagram_core.specs.declared.writer.DatagramWriter.{DatagramWriter}
use Rattle.datagram_core.specs.declared.writer.OpenSample.{OpenSample}
use Rattle.datagram_core.proofs.Writing.{be, spell_last, count_last, next_sample, closing}

-- how many bytes there are
pub size_so_far : (w : DatagramWriter) → length (so_far w) ≡ w.len
size_so_far w = length-take-le w.len w.room.now w.within

-- a sample is begun
pub begun_after : (old new : DatagramWriter) (h : Head) (ts : Trees) (s : Begun) → Has old h ts → s.records ≡ none
    → so_far new ≡ so_far old ++ begun_bytes s
    → new.begun ≡ Some (record { kind = s.kind; start = old.len; count_at = new.len - 4; records = 0 })
    → new.count_at ≡ old.count_at → new.samples ≡ old.samples
    → HasBegun new h ts s
begun_after old new h ts s has none_yet bytes begun place count =
    let d = spell (datagram_tree h ts) in
    let start : old.len ≡ length d = sym (size_so_far old) ∙ ap length has.bytes in
    let at : new.len - 4 ≡ length d + (8 + length (spell_all s.head)) =
    omega (
      arith,
      size_so_far new,
      ap length bytes,
      length-append (so_far old) (begun_bytes s),
      size_so_far old,
      start,
      length-append (spell_all s.head) (0 ∷ 0 ∷ 0 ∷ 0 ∷ spell_all s.records),
      ap (λ (ts : Trees). length (spell_all ts)) none_yet,
    ) in
    record {
      bytes = bytes ∙ ap (λ (l : List ℕ). l ++ begun_bytes s) has.bytes;
      begun = begun ∙ rw (start, at, none_yet) refl;
      place = place ∙ has.place;
      count = count ∙ has.count;
    }

-- ---- while a sample is begun

-- it stands within what is written
pub nested_in : (w : DatagramWriter) (o : OpenSample) → w.begun ≡ Some o
    → (w.count_at + 4 + 8 * w.samples ≤ o.start) × (o.start + 8 ≤ o.count_at)
    × (o.count_at + 4 + 8 * o.records ≤ w.len) × (o.start % 4 ≡ 0)
nested_in w o e =
    let P : Option OpenSample → Type 0 = λ b. IfSome b (λ o. (w.count_at + 4 + 8 * w.samples ≤ o.start)
    × (o.start + 8 ≤ o.count_at) × (o.count_at + 4 + 8 * o.records ≤ w.len) × (o.start % 4 ≡ 0)) in
    subst P e w.nested

-- it is the one that is known
pub begun_is : (w : DatagramWriter) (o : OpenSample) (h : Head) (ts : Trees) (s : Begun) → HasBegun w h ts s
    → w.begun ≡ Some o → o ≡ record {
      kind = s.kind;
      start = length (spell (datagram_tree h ts));
      count_at = length (spell (datagram_tree h ts)) + (8 + length (spell_all s.head));
      records = count_of s.records;
    }
begun_is w o h ts s has e = same_some o _ (sym e ∙ has.begun)
  where
    same_some : (a b : OpenSample) → let x : Option OpenSample = Some a in x ≡ Some b → a ≡ b
    same_some a b e = cc

-- a record more
pub pushed_after : (old new : DatagramWriter) (o : OpenSample) (h : Head) (ts : Trees) (s : Begun) (t : Tree)
    → HasBegun old h ts s → old.begun ≡ Some o
    → so_far new ≡ so_far old ++ spell t
    → new.begun ≡ Some (record { kind = o.kind; start = o.start; count_at = o.count_at; records = o.records + 1 })
    → new.count_at ≡ old.count_at → new.samples ≡ old.samples
    → HasBegun new h ts (with_record s t)
pushed_after old new o h ts s t has is bytes begun place count =
    let d = spell (datagram_tree h ts) in
    let one = begun_is old o h ts s has is in
    let next : OpenSample → Option OpenSample = λ o.
    Some (record { kind = o.kind; start = o.start; count_at = o.count_at; records = o.records + 1 }) in
    let more : count_of s.records + 1 ≡ count_of (and_then s.records t) = omega (arith, count_last s.records t) in
    let with_count : ℕ → Option OpenSample = λ n. Some (record {
      kind = s.kind;
      start = length d;
      count_at = length d + (8 + length (spell_all s.head));
      records = n;
    }) in
    record {
      bytes = bytes ∙ ap (λ (l : List ℕ). l ++ spell t) has.bytes ∙ append_assoc d (begun_bytes s) (spell t)
          ∙ ap (λ (l : List ℕ). d ++ ((be s.format ++ be 0) ++ l))
          (append_assoc (spell_all s.head) (be 0 ++ spell_all s.records) (spell t)
          ∙ ap (λ (l : List ℕ). spell_all s.head ++ (be 0 ++ l)) (sym (spell_last s.records t)));
      begun = begun ∙ ap next one ∙ ap with_count more;
      place = place ∙ has.place;
      count = count ∙ has.count;
    }

-- the sample is closed
pub closed_after : (old new : DatagramWriter) (o : OpenSample) (h : Head) (ts : Trees) (s : Begun) (tail : List ℕ) (n m : ℕ)
    → HasBegun old h ts s → old.begun ≡ Some o
    → n ≡ old.len - o.start - 8 + length tail → m ≡ old.samples + 1
    → so_far new ≡ patch old.count_at (be m) (patch o.count_at (be o.records) (patch (o.start + 4) (be n)
    (so_far old ++ padded tail)))
    → new.begun ≡ None → new.count_at ≡ old.count_at → new.samples ≡ m
    → Has new h (and_then ts (closed_sample s tail))
closed_after old new o h ts s tail n m has is size more bytes closed place count =
    let d = spell (datagram_tree h ts) in
    let head = spell_all s.head in
    let records = spell_all s.records in
    let one = begun_is old o h ts s has is in
    let start : o.start ≡ length d = ap (λ (o : OpenSample). o.start) one in
    let at : o.count_at ≡ length d + (8 + length head) = ap (λ (o : OpenSample). o.count_at) one in
    let known : o.records ≡ count_of s.records = ap (λ (o : OpenSample). o.records) one in
    let all : old.len ≡ length d + (8 + (length head + (4 + length records))) =
    omega (
      arith,
      sym (size_so_far old),
      ap length has.bytes,
      length-append d (begun_bytes s),
      length-append head (0 ∷ 0 ∷ 0 ∷ 0 ∷ records),
    ) in
    let words : (length head + 4 + length records) % 4 ≡ 0 =
    omega (arith, all, old.words, (nested_in old o is).3, start) in
    let with_records : ℕ → List ℕ = λ k.
    patch old.count_at (be m) (patch o.count_at (be k) (patch (o.start + 4) (be n) (so_far old ++ padded tail))) in
    record {
      bytes = bytes ∙ ap with_records known
          ∙ closing h ts s tail n m (o.start + 4) o.count_at old.count_at (so_far old ++ padded tail)
          (omega (arith, size, all, start)) words (omega (arith, start)) at (omega (arith, has.place)) (omega (arith, more, has.count))
          (ap (λ (l : List ℕ). l ++ padded tail) has.bytes);
      closed = closed;
      place = place ∙ has.place;
      count = count ∙ omega (arith, more, has.count, count_last ts (closed_sample s tail));
    }

-- a sample that is kept as it is
pub kept_after : (old new : DatagramWriter) (h : Head) (ts : Trees) (t : Tree) (m : ℕ) → Has old h ts
    → m ≡ old.samples + 1
    → so_far new ≡ patch old.count_at (be m) (so_far old ++ spell t)
    → new.begun ≡ old.begun → new.count_at ≡ old.count_at → new.samples ≡ m
    → Has new h (and_then ts t)
kept_after old new h ts t m has more bytes closed place count = record {
  bytes = bytes ∙ next_sample h ts t (so_far old ++ spell t) old.count_at m (omega (arith, has.place)) (omega (arith, more, has.count))
      (ap (λ (l : List ℕ). l ++ spell t) has.bytes);
  closed = closed ∙ has.closed;
  place = place ∙ has.place;
  count = count ∙ omega (arith, more, has.count, count_last ts t);
}
