-- What is read stands where its place says.
use Rattle.std.proofs.Common.{◌≡◌, ℕ, zero, suc, ◌+◌, ◌-◌, ◌≤◌, Bool, true, false, cond, ltb, List, [], ◌∷◌, ◌++◌, length, take, drop, Result, Ok, Err, refl, sym, ap, subst, ◌∙◌, append_assoc, append-nil, arith}
use Rattle.std.proofs.lemmas.Bool.{ltb-false}
use Rattle.std.proofs.lemmas.List.{length-append, length-take, length-drop, take-append-drop}
use Rattle.std.proofs.Math.Seq.{take-append_seam, drop-append_seam}
use Rattle.std.specs.Int.{w32, from_be_bytes}
use Rattle.wire_spec.specs.declared.pad.Pad.{Pad}
use Rattle.wire_spec.specs.declared.fault.Fault.{Fault}
use Rattle.wire_spec.specs.Padding.{padding_of}
use Rattle.wire_spec.specs.Fails.{Remaining, short}
use Rattle.wire_spec.specs.Reading.{◌>>=◌, item_at, word_at, padding_at, body_at, body_end_at}
use Rattle.wire_spec.specs.Bodies.{counted_body_at, items_at}
use Rattle.wire_spec.specs.Whole.{from_start}
use Rattle.wire_spec.proofs.Bodies.{body_is_there}
use Rattle.wire_spec.proofs.Runs.{first_step, same_value}
use Rattle.data_format.specs.Views.{FrameView, body_of}
use Rattle.data_format.specs.Frames.{Test, frame_of, tested_at, checked_at, frames_at}
use Rattle.data_format.specs.Ranges.{IsRange, AreRanges, StandsIn, StandIn, EndsWith}

-- what is left is the end of the whole, and its place is where
abbrev pub IsEndOf : Remaining → Remaining → Type 0
IsEndOf whole b = (front : List ℕ) × (whole.bytes ≡ front ++ b.bytes) × (b.at ≡ whole.at + length front)

-- the whole is its own end
pub all_of_it : (whole : Remaining) → IsEndOf whole whole
all_of_it whole = ([], refl, omega arith)

-- what is left behind n bytes
abbrev behind : ℕ → Remaining → Remaining
behind n b = record { at = b.at + n; bytes = drop n b.bytes }

-- the same behind a front
pub end_past : (whole b c : Remaining) (front : List ℕ) → b.bytes ≡ front ++ c.bytes → c.at ≡ b.at + length front
    → IsEndOf whole b → IsEndOf whole c
end_past whole b c front parts place (before, all, start) = (
  before ++ front,
  all ∙ ap (λ (t : List ℕ). before ++ t) parts ∙ sym (append_assoc before front c.bytes),
  omega (arith, place, start, length-append before front),
)

end_behind : (whole : Remaining) (n : ℕ) (b : Remaining) → n ≤ length b.bytes → IsEndOf whole b → IsEndOf whole (behind n b)
end_behind whole n b there h =
    let len : length (take n b.bytes) ≡ n = omega (arith, length-take n b.bytes, there) in
    let place : b.at + n ≡ b.at + length (take n b.bytes) = omega (arith, len) in
    end_past whole b (behind n b) (take n b.bytes) (sym (take-append-drop n b.bytes)) place h

end_of_item : (whole : Remaining) (n : ℕ) (b : Remaining) (t : Bool) → ltb (length b.bytes) n ≡ t → IsEndOf whole b
    → (x : List ℕ × Remaining) → cond t (Err (short b.at n (length b.bytes))) (Ok (take n b.bytes, behind n b)) ≡ Ok x
    → IsEndOf whole x.1
end_of_item whole n b true e h x k = absurd cc
end_of_item whole n b false e h x k =
    let P : List ℕ × Remaining → Type 0 = λ x. IsEndOf whole x.1 in
    subst P (same_value (take n b.bytes, behind n b) x k) (end_behind whole n b (ltb-false _ _ e) h)

pub end_of_word : (whole b : Remaining) (x : ℕ × Remaining) → word_at b ≡ Ok x → IsEndOf whole b → IsEndOf whole x.1
end_of_word whole b x e h =
    let number : List ℕ × Remaining → Result (ℕ × Remaining) Fault = λ v. Ok (from_be_bytes w32 v.0, v.1) in
    let one = first_step (item_at 4 b) number x e in
    let P : ℕ × Remaining → Type 0 = λ x. IsEndOf whole x.1 in
    subst P (same_value (from_be_bytes w32 one.0.0, one.0.1) x one.2)
    (end_of_item whole 4 b (ltb (length b.bytes) 4) refl h one.0 one.1)

-- a body stands in the whole, and what is left behind it is the end, with its padding
abbrev BodyStands : Remaining → Remaining × Remaining → Type 0
BodyStands whole x = StandsIn whole x.0 × IsEndOf whole x.1 × (padding_of (length x.0.bytes) ≤ length x.1.bytes)

body_stands : (whole : Remaining) (n : ℕ) (b : Remaining) (x : Remaining × Remaining) → body_at n b ≡ Ok x → IsEndOf whole b
    → BodyStands whole x
body_stands whole n b x e h =
    let there = body_is_there n b x e in
    let len : length (take n b.bytes) ≡ n = omega (arith, there.0, length-take n b.bytes) in
    let body : Remaining = record { at = b.at; bytes = take n b.bytes } in
    let stands : StandsIn whole body =
    (h.0, drop n b.bytes, h.1 ∙ ap (λ (t : List ℕ). h.0 ++ t) (sym (take-append-drop n b.bytes)), h.2) in
    let padding : padding_of (length (take n b.bytes)) ≤ length (drop n b.bytes) =
    rw len (omega (arith, there.0, length-drop n b.bytes)) in
    let P : Remaining × Remaining → Type 0 = BodyStands whole in
    subst P there.1 (stands, end_behind whole n b (omega (arith, there.0)) h, padding)

counted_stands : (whole b : Remaining) (x : Remaining × Remaining) → counted_body_at b ≡ Ok x → IsEndOf whole b
    → BodyStands whole x
counted_stands whole b x e h =
    let body : ℕ × Remaining → Result (Remaining × Remaining) Fault = λ n. body_at n.0 n.1 in
    let n = first_step (word_at b) body x e in
    body_stands whole n.0.0 n.0.1 x n.2 (end_of_word whole b n.0 n.1 h)

end_of_padding : (whole : Remaining) (p : Pad) (n : ℕ) (b : Remaining) (x : Unit {0} × Remaining) → body_end_at p n b ≡ Ok x
    → padding_of n ≤ length b.bytes → IsEndOf whole b → IsEndOf whole x.1
end_of_padding whole p n b x e there h =
    let leave : Unit {0} → Result (Unit {0} × Remaining) Fault = λ _. Ok (tt, behind (padding_of n) b) in
    let one = first_step (padding_at p b.at (take (padding_of n) b.bytes)) leave x e in
    let P : Unit {0} × Remaining → Type 0 = λ x. IsEndOf whole x.1 in
    subst P (same_value (tt, behind (padding_of n) b) x one.2) (end_behind whole (padding_of n) b there h)

-- a frame's body stands in the whole, and what is left behind the frame is the end
abbrev FrameStands : Remaining → FrameView × Remaining → Type 0
FrameStands whole x = StandsIn whole (body_of x.0) × IsEndOf whole x.1

frame_stands : (whole : Remaining) (p : Pad) (test : Test) (b : Remaining) (x : FrameView × Remaining)
    → checked_at p test b ≡ Ok x → IsEndOf whole b → FrameStands whole x
frame_stands whole p test b x e h =
    let after_word : ℕ × Remaining → Result (FrameView × Remaining) Fault =
    λ k. counted_body_at k.1 >>= tested_at p test k.0 in
    let one = first_step (word_at b) after_word x e in
    let k = one.0.0 in
    let two = first_step (counted_body_at one.0.1) (tested_at p test k) x one.2 in
    let y = two.0 in
    let stands = counted_stands whole one.0.1 y two.1 (end_of_word whole b one.0 one.1 h) in
    let leave : Unit {0} × Remaining → Result (FrameView × Remaining) Fault = λ e. Ok (frame_of k y.0, e.1) in
    let after_test : Unit {0} → Result (FrameView × Remaining) Fault =
    λ _. body_end_at p (length y.0.bytes) y.1 >>= leave in
    let three = first_step (test (frame_of k y.0)) after_test x two.2 in
    let four = first_step (body_end_at p (length y.0.bytes) y.1) leave x three.2 in
    let read : FrameView × Remaining = (frame_of k y.0, four.0.1) in
    let P : FrameView × Remaining → Type 0 = FrameStands whole in
    subst P {x = read} (same_value read x four.2)
    (stands.0, end_of_padding whole p (length y.0.bytes) y.1 four.0 four.1 stands.2 stands.1)

-- the same of frames one after the other
abbrev pub FramesStand : Remaining → List FrameView × Remaining → Type 0
FramesStand whole x = StandIn whole x.0 × IsEndOf whole x.1

run_stands : (whole : Remaining) (p : Pad) (test : Test) (n : ℕ) (b : Remaining) (x : List FrameView × Remaining)
    → items_at (checked_at p test) n b ≡ Ok x → IsEndOf whole b → FramesStand whole x
run_stands whole p test zero b x e h =
    let P : List FrameView × Remaining → Type 0 = FramesStand whole in
    subst P (same_value ([], b) x e) (tt, h)
run_stands whole p test (suc n) b x e h =
    let others : FrameView × Remaining → Result (List FrameView × Remaining) Fault =
    λ y. items_at (checked_at p test) n y.1 >>= λ xs. Ok (y.0 ∷ xs.0, xs.1) in
    let one = first_step (checked_at p test b) others x e in
    let last : List FrameView × Remaining → Result (List FrameView × Remaining) Fault =
    λ xs. Ok (one.0.0 ∷ xs.0, xs.1) in
    let two = first_step (items_at (checked_at p test) n one.0.1) last x one.2 in
    let here = frame_stands whole p test b one.0 one.1 h in
    let more = run_stands whole p test n one.0.1 two.0 two.1 here.1 in
    let read : List FrameView × Remaining = (one.0.0 ∷ two.0.0, two.0.1) in
    let P : List FrameView × Remaining → Type 0 = FramesStand whole in
    subst P {x = read} (same_value read x two.2) ((here.0, more.0), more.1)

-- the body of each frame that is read at the end of the whole stands in it, and what is left behind them is the end
pub frames_stand : (whole : Remaining) (p : Pad) (test : Test) (b : Remaining) (x : List FrameView × Remaining)
    → frames_at p test b ≡ Ok x → IsEndOf whole b → FramesStand whole x
frames_stand whole p test b x e h =
    let run : ℕ × Remaining → Result (List FrameView × Remaining) Fault = λ n. items_at (checked_at p test) n.0 n.1 in
    let one = first_step (word_at b) run x e in
    run_stands whole p test one.0.0 one.0.1 x one.2 (end_of_word whole b one.0 one.1 h)

-- ---- parts of parts

within : (a b c : Remaining) → StandsIn a b → StandsIn b c → StandsIn a c
within a b c (front, back, whole, place) (before, after, part, at) =
    let inner : b.bytes ++ back ≡ before ++ (c.bytes ++ (after ++ back)) =
    ap (λ (t : List ℕ). t ++ back) part ∙ append_assoc before (c.bytes ++ after) back
    ∙ ap (λ (t : List ℕ). before ++ t) (append_assoc c.bytes after back) in (
      front ++ before,
      after ++ back,
      whole ∙ ap (λ (t : List ℕ). front ++ t) inner ∙ sym (append_assoc front before (c.bytes ++ (after ++ back))),
      omega (arith, place, at, length-append front before),
    )

range_stands : (whole : List ℕ) (f : FrameView) → IsRange whole f.at f.body → StandsIn (from_start whole) (body_of f)
range_stands whole f h =
    let n = length f.body in
    let tail = drop f.at whole in
    let parts : tail ≡ f.body ++ drop n tail = sym (take-append-drop n tail) ∙ ap (λ (t : List ℕ). t ++ drop n tail) (sym h.1) in (
      take f.at whole,
      drop n tail,
      sym (take-append-drop f.at whole) ∙ ap (λ (t : List ℕ). take f.at whole ++ t) parts,
      omega (arith, length-take f.at whole, h.0),
    )

stands_range : (whole : List ℕ) (f : FrameView) → StandsIn (from_start whole) (body_of f) → IsRange whole f.at f.body
stands_range whole f (front, back, parts, place) =
    let at : f.at ≡ length front = omega (arith, place) in
    let rest : drop f.at whole ≡ f.body ++ back =
    ap (λ (k : ℕ). drop k whole) at ∙ ap (drop (length front)) parts ∙ drop-append_seam front (f.body ++ back) in (
      omega (arith, at, ap length parts, length-append front (f.body ++ back), length-append f.body back),
      sym (ap (take (length f.body)) rest ∙ take-append_seam f.body back),
    )

pub all_ranges : (whole : List ℕ) (fs : List FrameView) → StandIn (from_start whole) fs → AreRanges whole fs
all_ranges whole [] h = tt
all_ranges whole (f ∷ fs) h = (stands_range whole f h.0, all_ranges whole fs h.1)

-- what stands in a range of the whole is a range of the whole
pub nested_ranges : (whole : List ℕ) (f : FrameView) (fs : List FrameView) → IsRange whole f.at f.body
    → StandIn (body_of f) fs → AreRanges whole fs
nested_ranges whole f [] h inner = tt
nested_ranges whole f (g ∷ fs) h inner = (
  stands_range whole g (within (from_start whole) (body_of f) (body_of g) (range_stands whole f h) inner.0),
  nested_ranges whole f fs h inner.1,
)

-- and so is its end
pub nested_end : (whole : List ℕ) (f : FrameView) (tail : List ℕ) → IsRange whole f.at f.body → EndsWith f.body tail
    → IsRange whole (f.at + (length f.body - length tail)) tail
nested_end whole f tail h (front, parts) =
    let rest : FrameView = record { format = f.format; body = tail; at = f.at + (length f.body - length tail) } in
    let place : rest.at ≡ f.at + length front = omega (arith, ap length parts, length-append front tail) in
    let ends : StandsIn (body_of f) (body_of rest) =
    (front, [], parts ∙ ap (λ (t : List ℕ). front ++ t) (sym (append-nil tail)), place) in
    stands_range whole rest (within (from_start whole) (body_of f) (body_of rest) (range_stands whole f h) ends)

-- a part between a front and a back stands behind the front
pub part_stands : (whole front part back named : List ℕ) (n : ℕ) → whole ≡ front ++ (part ++ back) → part ≡ named
    → length front ≡ n → IsRange whole n named
part_stands whole front part back named n parts same len =
    let f : FrameView = record { format = 0; body = part; at = n } in
    let P : List ℕ → Type 0 = IsRange whole n in
    subst P same (all_ranges whole (f ∷ []) ((front, back, parts, omega (arith, len)), tt)).0
