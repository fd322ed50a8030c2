-- Frames that were read once are there, and are given one after the other.
use Rattle.std.proofs.Common.{◌≡◌, ◌≢◌, ℕ, zero, suc, ◌-◌, List, [], ◌∷◌, length, Result, Ok, Err, refl, sym, ap, subst, ◌∙◌, arith}
use Rattle.std.specs.Prelude.{IsOk}
use Rattle.wire_spec.specs.declared.pad.Pad.{Pad}
use Rattle.wire_spec.specs.declared.fault.Fault.{Fault}
use Rattle.wire_spec.specs.Fails.{Remaining}
use Rattle.wire_spec.specs.Reading.{◌>>=◌, word_at}
use Rattle.wire_spec.specs.Bodies.{counted_body_at, items_at}
use Rattle.wire_spec.proofs.FreePadding.{Keeps, itself, in_turn, free_end}
use Rattle.wire_spec.proofs.Runs.{all_kept}
use Rattle.data_format.specs.Views.{FrameView}
use Rattle.data_format.specs.Frames.{Test, frame_of, checked_at, frame_at, list_of, frames_in, AreFrames}

-- ---- what was read with a check is read without one

untested : (r : Result (Unit {0}) Fault) → Keeps r (Ok tt)
untested r u e = refl

pub frame_again : (p : Pad) (test : Test) (b : Remaining) → Keeps (checked_at p test b) (frame_at b)
frame_again p test b = in_turn (word_at b) (word_at b) _ _ (itself _) (λ (k : ℕ × Remaining).
    in_turn (counted_body_at k.1) (counted_body_at k.1) _ _ (itself _) (λ (x : Remaining × Remaining).
    in_turn (test (frame_of k.0 x.0)) (Ok tt) _ _ (untested (test (frame_of k.0 x.0))) (λ u.
    in_turn _ _ _ _ (free_end p (length x.0.bytes) x.1) (λ e. itself _))))

pub frames_again : (p : Pad) (test : Test) (n : ℕ) (b c : Remaining) (fs : List FrameView)
    → items_at (checked_at p test) n b ≡ Ok (fs, c) → AreFrames n b × (frames_in n b ≡ fs)
unfolding AreFrames frames_in
frames_again p test n b c fs e =
    let again : items_at frame_at n b ≡ Ok (fs, c) =
    all_kept (checked_at p test) frame_at (frame_again p test) n b (fs, c) e in
    (rw again refl, rw again refl)

-- ---- one after the other

-- a frame, and then those of what is left
abbrev and_then : FrameView → List FrameView × Remaining → Result (List FrameView × Remaining) Fault
and_then x xs = Ok (x ∷ xs.0, xs.1)

and_those : (x : FrameView) (r : Result (List FrameView × Remaining) Fault) → IsOk (r >>= and_then x)
    → IsOk r × (list_of (r >>= and_then x) ≡ x ∷ list_of r)
and_those x (Ok xs) h = (h, refl)
and_those x (Err f) h = absurd cc

-- n frames where the first of one more was read
abbrev further : ℕ → Result (FrameView × Remaining) Fault → Result (List FrameView × Remaining) Fault
further n r = r >>= λ y. items_at frame_at n y.1 >>= and_then y.0

one_given : (n : ℕ) (b c : Remaining) (x : FrameView) → frame_at b ≡ Ok (x, c) → AreFrames (suc n) b
    → AreFrames n c × (frames_in (suc n) b ≡ x ∷ frames_in n c)
unfolding AreFrames frames_in
one_given n b c x e h =
    let P : Result (FrameView × Remaining) Fault → Type 0 = λ r. IsOk (further n r) in
    let Q : Result (FrameView × Remaining) Fault → Type 0 =
    λ r. IsOk (items_at frame_at n c) × (list_of (further n r) ≡ x ∷ list_of (items_at frame_at n c)) in
    subst Q (sym e) (and_those x (items_at frame_at n c) (subst P e h))

one_there : (n : ℕ) (b : Remaining) (f : Fault) → frame_at b ≡ Err f → AreFrames (suc n) b → ⊥
unfolding AreFrames
one_there n b f e h =
    let P : Result (FrameView × Remaining) Fault → Type 0 = λ r. IsOk (further n r) in
    let no : P (Err f) = subst P e h in
    absurd cc

number_of : (n : ℕ) (r : Result (FrameView × Remaining) Fault)
    → ((c : Remaining) → IsOk (items_at frame_at n c) → length (list_of (items_at frame_at n c)) ≡ n)
    → IsOk (further n r) → length (list_of (further n r)) ≡ suc n
number_of n (Ok y) fewer h =
    let those = and_those y.0 (items_at frame_at n y.1) h in
    ap length those.1 ∙ ap suc (fewer y.1 those.0)
number_of n (Err f) fewer h = absurd cc

-- n of them are n
pub length-frames_in : (n : ℕ) (b : Remaining) → AreFrames n b → length (frames_in n b) ≡ n
unfolding AreFrames frames_in
length-frames_in zero b h = refl
length-frames_in (suc n) b h = number_of n (frame_at b) (λ c g. length-frames_in n c g) h

-- the first one, and what is left behind it
pub next_given : (count : ℕ) (b c : Remaining) (x : FrameView) → count ≢ 0 → frame_at b ≡ Ok (x, c) → AreFrames count b
    → AreFrames (count - 1) c × (frames_in count b ≡ x ∷ frames_in (count - 1) c)
next_given zero b c x some e h = absurd (some refl)
next_given (suc n) b c x some e h = let less : suc n - 1 ≡ n = omega arith in rw less (one_given n b c x e h)

-- there is one
pub next_there : (count : ℕ) (b : Remaining) (f : Fault) → count ≢ 0 → frame_at b ≡ Err f → AreFrames count b → ⊥
next_there zero b f some e h = some refl
next_there (suc n) b f some e h = one_there n b f e h

-- none is left
pub none_left : (count : ℕ) (b : Remaining) → count ≡ 0 → frames_in count b ≡ []
unfolding frames_in
none_left zero b e = refl
none_left (suc n) b e = absurd (omega arith)

-- no frames are always there
pub none_there : (b : Remaining) → AreFrames 0 b
unfolding AreFrames
none_there b = refl
