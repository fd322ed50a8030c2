-- The samples of a datagram stand in its bytes.
use Rattle.std.proofs.Common.{◌≡◌, ℕ, Bool, true, false, cond, eqb, ltb, List, [], ◌∷◌, length, Result, Ok, Err, subst}
use Rattle.std.specs.Prelude.{IfOk}
use Rattle.wire_spec.specs.declared.pad.Pad.{Pad}
use Rattle.wire_spec.specs.declared.fault.Fault.{Fault}
use Rattle.wire_spec.specs.Bytes.{AreBytes}
use Rattle.wire_spec.specs.Shapes.{version, Table}
use Rattle.wire_spec.specs.Spells.{IsWord}
use Rattle.wire_spec.specs.Fails.{Remaining, unknown_word, FailsItem}
use Rattle.wire_spec.specs.Reading.{◌>>=◌, word_at}
use Rattle.wire_spec.specs.Whole.{from_start, trailing, too_long, at_end}
use Rattle.wire_spec.proofs.ByteLists.{rest_bytes}
use Rattle.wire_spec.proofs.Items.{word_agrees}
use Rattle.wire_spec.proofs.Runs.{first_step, same_value}
use Rattle.wire_spec.proofs.Steps.{IsSo}
use Rattle.xdr_words.specs.Readers.{Gives}
use Rattle.data_format.specs.Parts.{Parts, parts_at}
use Rattle.data_format.specs.Ranges.{AreRanges}
use Rattle.data_format.specs.Trees.{table_test}
use Rattle.data_format.proofs.Parts.{parts_stand}
use Rattle.data_format.specs.Views.{FrameView}
use Rattle.data_format.proofs.Ranges.{all_of_it, end_of_word, all_ranges, nested_ranges}
use Rattle.datagram_core.specs.Heads.{DatagramView, head_members}
use Rattle.datagram_core.specs.Parts.{parts_of, behind_version_at, parts_reading}
use Rattle.datagram_core.specs.Ranges.{BodiesAreRanges}
use Rattle.datagram_core.specs.Tables.{samples_read}

-- a choice between a value and a fault that gave the value
not_first : {A : Type 0} (t : Bool) (f : Fault) (r : Result A Fault) (x : A) → cond t (Err f) r ≡ Ok x → r ≡ Ok x
not_first true f r x e = absurd cc
not_first false f r x e = e

pub not_second : {A : Type 0} (t : Bool) (f : Fault) (r : Result A Fault) (x : A) → cond t r (Err f) ≡ Ok x → r ≡ Ok x
not_second true f r x e = e
not_second false f r x e = absurd cc

-- what is left behind a word is bytes too
pub bytes_behind : (b : Remaining) (k : ℕ × Remaining) → AreBytes b.bytes → word_at b ≡ Ok k → AreBytes k.1.bytes
bytes_behind b k fits e =
    let P : Result (ℕ × Remaining) Fault → Type 0 = IsSo b IsWord (FailsItem 4) in
    let so : P (Ok k) = subst P e (word_agrees.so b fits) in
    let Q : List ℕ → Type 0 = AreBytes in
    rest_bytes so.0 k.1.bytes (subst Q so.2 fits)

datagram_stands : (p : Pad) (T : Table) (bytes : List ℕ) (x : Parts) → AreBytes bytes → parts_reading p T bytes ≡ Ok x
    → AreRanges bytes x.1
datagram_stands p T bytes x fits e =
    let b = from_start bytes in
    let all = first_step (behind_version_at p T b) at_end x
    (not_first (ltb 65535 (length bytes)) too_long (behind_version_at p T b >>= at_end) x e) in
    let y = all.0 in
    let by_version : ℕ × Remaining → Result (Parts × Remaining) Fault =
    λ k. cond (eqb k.0 5) (parts_at p head_members (table_test p T) k.1) (Err (unknown_word version b.at k.0)) in
    let word = first_step (word_at b) by_version y all.1 in
    let k = word.0 in
    let read = not_second (eqb k.0 5) (unknown_word version b.at k.0) (parts_at p head_members (table_test p T) k.1) y word.2 in
    let stand = parts_stand b p head_members (table_test p T) k.1 y (bytes_behind b k fits word.1)
    (end_of_word b b k word.1 (all_of_it b)) read in
    let P : Parts → Type 0 = λ z. AreRanges bytes z.1 in
    subst P (same_value y.0 x (not_second (eqb (length y.1.bytes) 0) (trailing y.1.at (length y.1.bytes)) (Ok y.0) x all.2))
    (all_ranges bytes y.0.1 stand.0)

-- the body of each sample that was read is the range at its place
pub given_ranges : (p : Pad) (bytes : List ℕ) (r : Result DatagramView Fault) → AreBytes bytes
    → Gives parts_of (λ f. f) r (parts_reading p samples_read bytes) → IfOk r (λ d. AreRanges bytes d.samples)
given_ranges p bytes (Ok d) fits e = datagram_stands p samples_read bytes (parts_of d) fits e
given_ranges p bytes (Err f) fits e = tt

-- and so is what stands in it
nested : (whole : List ℕ) (fs : List FrameView) → AreRanges whole fs → BodiesAreRanges whole fs
nested whole [] h = tt
nested whole (f ∷ fs) h = (λ records inner. nested_ranges whole f records h.0 inner, nested whole fs h.1)

pub given_nested : (bytes : List ℕ) (r : Result DatagramView Fault) → IfOk r (λ d. AreRanges bytes d.samples)
    → IfOk r (λ d. BodiesAreRanges bytes d.samples)
given_nested bytes (Ok d) stand = nested bytes d.samples stand
given_nested bytes (Err f) stand = tt
