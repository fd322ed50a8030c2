-- A datagram has no more samples than its bytes have room for.
use Rattle.std.proofs.Common.{◌≡◌, ℕ, zero, suc, ◌+◌, ◌*◌, ◌≤◌, Bool, true, false, cond, eqb, ltb, List, [], ◌∷◌, length, take, drop, Result, Ok, Err, refl, ap, subst, arith}
use Rattle.std.proofs.lemmas.Bool.{ltb-false}
use Rattle.std.proofs.lemmas.List.{length-append, length-drop}
use Rattle.std.specs.Int.{w32, from_be_bytes}
use Rattle.wire_spec.specs.declared.pad.Pad.{Pad}
use Rattle.wire_spec.specs.declared.fault.Fault.{Fault}
use Rattle.wire_spec.specs.Bytes.{AreBytes}
use Rattle.wire_spec.specs.Padding.{padding_of}
use Rattle.wire_spec.specs.Shapes.{version, Shapes, Table, Trees}
use Rattle.wire_spec.specs.Spells.{SpellsAll}
use Rattle.wire_spec.specs.Fails.{Remaining, FailsMember, short, unknown_word}
use Rattle.wire_spec.specs.Reading.{◌>>=◌, item_at, word_at, padding_at, body_at, body_end_at}
use Rattle.wire_spec.specs.Bodies.{counted_body_at, items_at}
use Rattle.wire_spec.proofs.Bodies.{body_is_there}
use Rattle.wire_spec.proofs.Grammar.{members_agree}
use Rattle.wire_spec.proofs.Runs.{first_step, same_value}
use Rattle.wire_spec.proofs.Steps.{IsSo}
use Rattle.data_format.specs.Views.{FrameView}
use Rattle.data_format.specs.Frames.{Test, frame_of, tested_at, checked_at}
use Rattle.data_format.specs.Parts.{Parts, parts_at}
use Rattle.data_format.specs.Trees.{table_test}
use Rattle.data_format.proofs.Parts.{parts_steps}
use Rattle.datagram_core.specs.Heads.{head_members}
use Rattle.datagram_core.specs.Parts.{behind_version_at}
use Rattle.datagram_core.proofs.Stand.{not_second, bytes_behind}

-- n bytes were passed at least
abbrev Passed : ℕ → Remaining → Remaining → Type 0
Passed n b c = n + length c.bytes ≤ length b.bytes

abbrev behind : ℕ → Remaining → Remaining
behind n b = record { at = b.at + n; bytes = drop n b.bytes }

past_item : (n : ℕ) (b : Remaining) (t : Bool) → ltb (length b.bytes) n ≡ t → (x : List ℕ × Remaining)
    → cond t (Err (short b.at n (length b.bytes))) (Ok (take n b.bytes, behind n b)) ≡ Ok x → Passed n b x.1
past_item n b true e x k = absurd cc
past_item n b false e x k =
    let there : n ≤ length b.bytes = ltb-false _ _ e in
    let here : Passed n b (behind n b) = omega (arith, there, length-drop n b.bytes) in
    let P : List ℕ × Remaining → Type 0 = λ x. Passed n b x.1 in
    subst P (same_value (take n b.bytes, behind n b) x k) here

past_word : (b : Remaining) (x : ℕ × Remaining) → word_at b ≡ Ok x → Passed 4 b x.1
past_word b x e =
    let number : List ℕ × Remaining → Result (ℕ × Remaining) Fault = λ v. Ok (from_be_bytes w32 v.0, v.1) in
    let one = first_step (item_at 4 b) number x e in
    let P : ℕ × Remaining → Type 0 = λ x. Passed 4 b x.1 in
    subst P (same_value (from_be_bytes w32 one.0.0, one.0.1) x one.2)
    (past_item 4 b (ltb (length b.bytes) 4) refl one.0 one.1)

past_body : (n : ℕ) (b : Remaining) (x : Remaining × Remaining) → body_at n b ≡ Ok x → Passed 0 b x.1
past_body n b x e =
    let P : Remaining × Remaining → Type 0 = λ x. Passed 0 b x.1 in
    let here : Passed 0 b (behind n b) = omega (arith, length-drop n b.bytes) in
    subst P (body_is_there n b x e).1 here

past_padding : (p : Pad) (n : ℕ) (b : Remaining) (x : Unit {0} × Remaining) → body_end_at p n b ≡ Ok x → Passed 0 b x.1
past_padding p n b x e =
    let leave : Unit {0} → Result (Unit {0} × Remaining) Fault = λ _. Ok (tt, behind (padding_of n) b) in
    let one = first_step (padding_at p b.at (take (padding_of n) b.bytes)) leave x e in
    let P : Unit {0} × Remaining → Type 0 = λ x. Passed 0 b x.1 in
    let here : Passed 0 b (behind (padding_of n) b) = omega (arith, length-drop (padding_of n) b.bytes) in
    subst P (same_value (tt, behind (padding_of n) b) x one.2) here

-- a frame has a format word and a length word
past_frame : (p : Pad) (test : Test) (b : Remaining) (x : FrameView × Remaining) → checked_at p test b ≡ Ok x → Passed 8 b x.1
past_frame p test b x e =
    let counted : ℕ × Remaining → Result (FrameView × Remaining) Fault =
    λ k. counted_body_at k.1 >>= tested_at p test k.0 in
    let k = first_step (word_at b) counted x e in
    let m = first_step (counted_body_at k.0.1) (tested_at p test k.0.0) x k.2 in
    let body : ℕ × Remaining → Result (Remaining × Remaining) Fault = λ n. body_at n.0 n.1 in
    let n = first_step (word_at k.0.1) body m.0 m.1 in
    let frame = frame_of k.0.0 m.0.0 in
    let passed : Unit {0} → Result (FrameView × Remaining) Fault =
    λ _. body_end_at p (length m.0.0.bytes) m.0.1 >>= λ e. Ok (frame, e.1) in
    let t = first_step (test frame) passed x m.2 in
    let leave : Unit {0} × Remaining → Result (FrameView × Remaining) Fault = λ e. Ok (frame, e.1) in
    let z = first_step (body_end_at p (length m.0.0.bytes) m.0.1) leave x t.2 in
    let P : FrameView × Remaining → Type 0 = λ x. Passed 8 b x.1 in
    let here : Passed 8 b z.0.1 = omega (
      arith,
      past_word b k.0 k.1,
      past_word k.0.1 n.0 n.1,
      past_body n.0.0 n.0.1 m.0 n.2,
      past_padding p (length m.0.0.bytes) m.0.1 z.0 z.1,
    ) in
    subst P (same_value (frame, z.0.1) x z.2) here

-- so n frames have 8 n bytes
past_frames : (p : Pad) (test : Test) (n : ℕ) (b : Remaining) (x : List FrameView × Remaining)
    → items_at (checked_at p test) n b ≡ Ok x → Passed (8 * length x.0) b x.1
past_frames p test zero b x e =
    let P : List FrameView × Remaining → Type 0 = λ x. Passed (8 * length x.0) b x.1 in
    let here : Passed (8 * length {A = FrameView} []) b b = omega arith in
    subst P (same_value ([], b) x e) here
past_frames p test (suc n) b x e =
    let others : FrameView × Remaining → Result (List FrameView × Remaining) Fault =
    λ y. items_at (checked_at p test) n y.1 >>= λ xs. Ok (y.0 ∷ xs.0, xs.1) in
    let one = first_step (checked_at p test b) others x e in
    let last : List FrameView × Remaining → Result (List FrameView × Remaining) Fault =
    λ xs. Ok (one.0.0 ∷ xs.0, xs.1) in
    let two = first_step (items_at (checked_at p test) n one.0.1) last x one.2 in
    let read : List FrameView × Remaining = (one.0.0 ∷ two.0.0, two.0.1) in
    let P : List FrameView × Remaining → Type 0 = λ x. Passed (8 * length x.0) b x.1 in
    let here : Passed (8 * length read.0) b read.1 =
    omega (arith, past_frame p test b one.0 one.1, past_frames p test n one.0.1 two.0 two.1) in
    subst P {x = read} (same_value read x two.2) here

past_parts : (p : Pad) (ss : Shapes) (test : Test) (b : Remaining) (y : Parts × Remaining) → AreBytes b.bytes
    → parts_at p ss test b ≡ Ok y → 8 * length y.0.1 + 4 ≤ length b.bytes
past_parts p ss test b y fits e =
    let (h, fs, members, frames, same) = parts_steps p ss test b y e in
    let P : Result (Trees × Remaining) Fault → Type 0 = IsSo b (SpellsAll p ss) (FailsMember p ss) in
    let so : P (Ok h) = subst P members ((members_agree p ss).so b fits) in
    let run : ℕ × Remaining → Result (List FrameView × Remaining) Fault = λ n. items_at (checked_at p test) n.0 n.1 in
    let one = first_step (word_at h.1) run fs frames in
    let here : 8 * length fs.0 + 4 ≤ length b.bytes = omega (
      arith,
      past_word h.1 one.0 one.1,
      past_frames p test one.0.0 one.0.1 fs one.2,
      ap length so.2,
      length-append so.0 h.1.bytes,
    ) in
    let Q : Parts × Remaining → Type 0 = λ y. 8 * length y.0.1 + 4 ≤ length b.bytes in
    subst Q {x = ((h.0, fs.0), fs.1)} same here

-- a datagram that was read has at most 8,191 samples
pub few_samples : (p : Pad) (T : Table) (b : Remaining) (y : Parts × Remaining) → AreBytes b.bytes → length b.bytes ≤ 65535
    → behind_version_at p T b ≡ Ok y → length y.0.1 ≤ 8191
few_samples p T b y fits most e =
    let by_version : ℕ × Remaining → Result (Parts × Remaining) Fault =
    λ k. cond (eqb k.0 5) (parts_at p head_members (table_test p T) k.1) (Err (unknown_word version b.at k.0)) in
    let word = first_step (word_at b) by_version y e in
    let k = word.0 in
    let parts = not_second (eqb k.0 5) (unknown_word version b.at k.0) (parts_at p head_members (table_test p T) k.1) y word.2 in
    omega (
      arith,
      most,
      past_word b k word.1,
      past_parts p head_members (table_test p T) k.1 y (bytes_behind b k fits word.1) parts,
    )
