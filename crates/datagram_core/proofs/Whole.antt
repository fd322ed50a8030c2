-- A datagram that is read part by part is the datagram of the grammar.
use Rattle.std.proofs.Common.{◌≡◌, ℕ, Bool, true, false, cond, eqb, ltb, List, length, Result, Ok, Err, refl}
use Rattle.std.specs.Prelude.{IfOk, IfErr}
use Rattle.std.proofs.lemmas.Bool.{eqb-true}
use Rattle.wire_spec.specs.declared.pad.Pad.{Pad}
use Rattle.wire_spec.specs.declared.fault.Fault.{Fault}
use Rattle.wire_spec.specs.Bytes.{AreBytes}
use Rattle.wire_spec.specs.Shapes.{version, Table, empty, row, Tree}
use Rattle.wire_spec.specs.Fails.{Remaining, unknown_word}
use Rattle.wire_spec.specs.Reading.{◌>>=◌, word_at, reading, union_at}
use Rattle.wire_spec.specs.Whole.{from_start, trailing, too_long, at_end, SpellsWhole, FailsWhole, whole_reading}
use Rattle.wire_spec.proofs.OneReading.{whole_good, whole_bad}
use Rattle.xdr_words.specs.Readers.{Gives}
use Rattle.data_format.specs.Parts.{with_frames, Parts, parts_tree, parts_at}
use Rattle.data_format.specs.Trees.{table_test}
use Rattle.data_format.proofs.Parts.{parts_as_structure}
use Rattle.datagram_core.specs.Heads.{DatagramView, head_members}
use Rattle.datagram_core.specs.Parts.{parts_of, behind_version_at, parts_reading}
use Rattle.datagram_core.specs.Tables.{datagram_over, samples_read, datagram_read}
use Rattle.datagram_core.specs.Trees.{tree_of}

-- a datagram of some parts
abbrev pub as_datagram : Table → Parts → Tree
as_datagram T x = Tree.union 5 (parts_tree T x)

abbrev pub as_tree : Table → Parts × Remaining → Result (Tree × Remaining) Fault
as_tree T x = Ok (as_datagram T x.0, x.1)

pub parts_as_tree : (p : Pad) (T : Table) (b : Remaining)
    → reading p (datagram_over T) b ≡ (behind_version_at p T b >>= as_tree T)
parts_as_tree p T b = at_word (word_at b)
  where
    at_parts : (k : ℕ) → k ≡ 5 → (r : Result (Parts × Remaining) Fault)
        → ((r >>= λ x. let o : Result (Tree × Remaining) Fault = Ok (parts_tree T x.0, x.1) in o)
        >>= λ x. let o : Result (Tree × Remaining) Fault = Ok (Tree.union k x.0, x.1) in o)
        ≡ (r >>= as_tree T)
    at_parts k e (Ok x) = rw e refl
    at_parts k e (Err f) = refl

    at_version : (k : ℕ × Remaining) (t : Bool) → eqb k.0 5 ≡ t
        → (cond t (reading p (with_frames head_members T) k.1) (Err (unknown_word version b.at k.0))
        >>= λ x. let o : Result (Tree × Remaining) Fault = Ok (Tree.union k.0 x.0, x.1) in o)
        ≡ (cond t (parts_at p head_members (table_test p T) k.1) (Err (unknown_word version b.at k.0)) >>= as_tree T)
    at_version k true e =
        rw (parts_as_structure p head_members T k.1)
        (at_parts k.0 (eqb-true _ _ e) (parts_at p head_members (table_test p T) k.1))
    at_version k false e = refl

    at_word : (r : Result (ℕ × Remaining) Fault)
        → (r >>= λ k. union_at p version b.at (row 5 (with_frames head_members T) empty) k.0 k.1
        >>= λ x. let o : Result (Tree × Remaining) Fault = Ok (Tree.union k.0 x.0, x.1) in o)
        ≡ ((r >>= λ k. cond (eqb k.0 5) (parts_at p head_members (table_test p T) k.1)
        (Err (unknown_word version b.at k.0))) >>= as_tree T)
    at_word (Ok k) = at_version k (eqb k.0 5) refl
    at_word (Err f) = refl

abbrev only_tree : Table → Parts → Result Tree Fault
only_tree T x = Ok (as_datagram T x)

parts_whole : (p : Pad) (T : Table) (bytes : List ℕ)
    → whole_reading p (datagram_over T) bytes ≡ (parts_reading p T bytes >>= only_tree T)
parts_whole p T bytes = rw (parts_as_tree p T (from_start bytes)) (by_length (ltb 65535 (length bytes)))
  where
    by_rest : (x : Parts × Remaining) (t : Bool)
        → cond t (only_tree T x.0) (Err (trailing x.1.at (length x.1.bytes)))
        ≡ (cond t (let r : Result Parts Fault = Ok x.0 in r) (Err (trailing x.1.at (length x.1.bytes))) >>= only_tree T)
    by_rest x true = refl
    by_rest x false = refl

    by_parts : (r : Result (Parts × Remaining) Fault)
        → ((r >>= as_tree T) >>= at_end) ≡ ((r >>= at_end) >>= only_tree T)
    by_parts (Ok x) = by_rest x (eqb (length x.1.bytes) 0)
    by_parts (Err f) = refl

    by_length : (t : Bool) → cond t (Err too_long) ((behind_version_at p T (from_start bytes) >>= as_tree T) >>= at_end)
        ≡ (cond t (Err too_long) (behind_version_at p T (from_start bytes) >>= at_end) >>= only_tree T)
    by_length true = refl
    by_length false = by_parts (behind_version_at p T (from_start bytes))

-- what is read part by part is read as a whole
pub given_whole : (p : Pad) (bytes : List ℕ) (r : Result DatagramView Fault)
    → Gives parts_of (λ f. f) r (parts_reading p samples_read bytes)
    → Gives tree_of (λ f. f) r (whole_reading p datagram_read bytes)
given_whole p bytes (Ok d) e = rw (parts_whole p samples_read bytes, e) refl
given_whole p bytes (Err f) e = rw (parts_whole p samples_read bytes, e) refl

-- what is read as a whole is spelled, and where nothing is, the fault is the first one
pub given_spelled : (p : Pad) (bytes : List ℕ) (r : Result DatagramView Fault) → AreBytes bytes
    → Gives tree_of (λ f. f) r (whole_reading p datagram_read bytes)
    → IfOk r (λ d. SpellsWhole p datagram_read bytes (tree_of d))
given_spelled p bytes (Ok d) fits e = whole_good p datagram_read bytes (tree_of d) fits e
given_spelled p bytes (Err f) fits e = tt

pub given_fault : (p : Pad) (bytes : List ℕ) (r : Result DatagramView Fault) → AreBytes bytes
    → Gives tree_of (λ f. f) r (whole_reading p datagram_read bytes)
    → IfErr r (λ f. FailsWhole p datagram_read bytes f)
given_fault p bytes (Ok d) fits e = tt
given_fault p bytes (Err f) fits e = whole_bad p datagram_read bytes f fits e
