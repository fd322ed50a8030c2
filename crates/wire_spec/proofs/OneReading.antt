-- Bytes have one value or one fault, and not both.
use Rattle.std.proofs.Common.{◌≡◌, ℕ, ◌+◌, ◌<◌, ◌≤◌, Bool, true, false, cond, ltb, eqb, List, [], ◌++◌, length, Result, Ok, Err, refl, sym, ap, subst, ◌∙◌, arith, inl, inr}
use Rattle.std.proofs.lemmas.Bool.{ltb-false, ltb-true, le-ltb, lt-ltb, eqb-true, eqb-false, ne_eqb}
use Rattle.std.proofs.lemmas.List.{append-nil, nil_from_length}
use Rattle.wire_spec.specs.declared.pad.Pad.{Pad}
use Rattle.wire_spec.specs.declared.fault.Fault.{Fault}
use Rattle.wire_spec.specs.Bytes.{AreBytes}
use Rattle.wire_spec.specs.Exactly.{OneOfEither}
use Rattle.wire_spec.specs.Shapes.{Shape, Tree}
use Rattle.wire_spec.specs.Spells.{Spells}
use Rattle.wire_spec.specs.Fails.{Remaining, past, Fails}
use Rattle.wire_spec.specs.Reading.{◌>>=◌, reading}
use Rattle.wire_spec.specs.Whole.{from_start, trailing, too_long, SpellsWhole, FailsWhole, SpellsFront, at_end, whole_reading}
use Rattle.wire_spec.proofs.Steps.{IsSo}
use Rattle.wire_spec.proofs.Grammar.{agrees}

-- a function that answers one or the other, each answer of which is so and which answers whatever is so
pub one_of_either : {A B : Type 0} (P : A → Type 0) (Q : B → Type 0) (r : Result A B)
    → ((x : A) → r ≡ Ok x → P x) → ((y : B) → r ≡ Err y → Q y)
    → ((x : A) → P x → r ≡ Ok x) → ((y : B) → Q y → r ≡ Err y) → OneOfEither P Q
one_of_either P Q (Ok x) good bad taken refused =
    inl ((x, good x refl, λ y h. let e = taken y h in cc), λ y h. let e = refused y h in absurd cc)
one_of_either P Q (Err y) good bad taken refused =
    inr ((y, bad y refl, λ z h. let e = refused z h in cc), λ x h. let e = taken x h in absurd cc)

-- ---- a front, at any place

front_answer : Tree × Remaining → Result (Tree × List ℕ) Fault
front_answer x = Ok (x.0, x.1.bytes)

front_good : (p : Pad) (s : Shape) (b : Remaining) (r : Result (Tree × Remaining) Fault) → IsSo b (Spells p s) (Fails p s) r
    → (x : Tree × List ℕ) → (r >>= front_answer) ≡ Ok x → SpellsFront p s b.bytes x
unfolding front_answer
front_good p s b (Ok y) o x e =
    let P : Tree × List ℕ → Type 0 = SpellsFront p s b.bytes in
    let same : (y.0, y.1.bytes) ≡ x = cc in
    subst P same (o.0, y.1.bytes, o.1, refl, o.2)
front_good p s b (Err f) o x e = absurd cc

front_bad : (p : Pad) (s : Shape) (b : Remaining) (r : Result (Tree × Remaining) Fault) → IsSo b (Spells p s) (Fails p s) r
    → (f : Fault) → (r >>= front_answer) ≡ Err f → Fails p s b f
unfolding front_answer
front_bad p s b (Ok y) o f e = absurd cc
front_bad p s b (Err g) o f e = let P : Fault → Type 0 = Fails p s b in let same : g ≡ f = cc in subst P same o

pub one_front : (p : Pad) (s : Shape) (b : Remaining) → AreBytes b.bytes
    → OneOfEither (SpellsFront p s b.bytes) (Fails p s b)
unfolding front_answer
one_front p s b fits =
    let all = agrees p s in
    let step : Result (Tree × Remaining) Fault → Result (Tree × List ℕ) Fault = λ r. r >>= front_answer in
    let answer : List ℕ → Tree → Result (Tree × List ℕ) Fault = λ l t. Ok (t, l) in
    one_of_either (SpellsFront p s b.bytes) (Fails p s b) (reading p s b >>= front_answer)
    (front_good p s b (reading p s b) (all.so b fits)) (front_bad p s b (reading p s b) (all.so b fits))
    (λ x h. ap step (all.takes b x.0 h.0 h.1 h.2 h.4) ∙ ap (λ (l : List ℕ). answer l x.0) h.3)
    (λ f h. ap step (all.refuses b f h))

-- ---- all of the bytes

abbrev IsSoWhole : Pad → Shape → List ℕ → Result Tree Fault → Type 0
IsSoWhole p s bytes (Ok t) = SpellsWhole p s bytes t
IsSoWhole p s bytes (Err f) = FailsWhole p s bytes f

end_so : (p : Pad) (s : Shape) (bytes : List ℕ) (x : Tree × Remaining) (t : Bool) → eqb (length x.1.bytes) 0 ≡ t
    → length bytes ≤ 65535 → (a : List ℕ) → Spells p s x.0 a → bytes ≡ a ++ x.1.bytes → x.1.at ≡ 0 + length a
    → IsSoWhole p s bytes (cond t (Ok x.0) (Err (trailing x.1.at (length x.1.bytes))))
end_so p s bytes x true e few a h parts place =
    let nothing : x.1.bytes ≡ [] = nil_from_length x.1.bytes (eqb-true _ _ e) in
    let same : a ≡ bytes = sym (parts ∙ ap (λ (t : List ℕ). a ++ t) nothing ∙ append-nil a) in
    let P : List ℕ → Type 0 = Spells p s x.0 in
    (few, subst P same h)
end_so p s bytes x false e few a h parts place =
    let some : 0 < length x.1.bytes = omega (arith, eqb-false _ _ e) in
    inr (few, inr (x.0, (a, x.1.bytes, h, parts, (some, ap (λ (k : ℕ). trailing k (length x.1.bytes)) place))))

within_limit : (p : Pad) (s : Shape) (bytes : List ℕ) (r : Result (Tree × Remaining) Fault) → length bytes ≤ 65535
    → IsSo (from_start bytes) (Spells p s) (Fails p s) r → IsSoWhole p s bytes (r >>= at_end)
within_limit p s bytes (Ok x) few o = end_so p s bytes x (eqb (length x.1.bytes) 0) refl few o.0 o.1 o.2 o.3
within_limit p s bytes (Err f) few o = inr (few, inl o)

limit_so : (p : Pad) (s : Shape) (bytes : List ℕ) (t : Bool) → ltb 65535 (length bytes) ≡ t → AreBytes bytes
    → IsSoWhole p s bytes (cond t (Err too_long) (reading p s (from_start bytes) >>= at_end))
limit_so p s bytes true e fits = inl (ltb-true _ _ e, refl)
limit_so p s bytes false e fits =
    within_limit p s bytes (reading p s (from_start bytes)) (ltb-false _ _ e) ((agrees p s).so (from_start bytes) fits)

whole_so : (p : Pad) (s : Shape) (bytes : List ℕ) → AreBytes bytes → IsSoWhole p s bytes (whole_reading p s bytes)
whole_so p s bytes fits = limit_so p s bytes (ltb 65535 (length bytes)) refl fits

pub whole_good : (p : Pad) (s : Shape) (bytes : List ℕ) (t : Tree) → AreBytes bytes → whole_reading p s bytes ≡ Ok t
    → SpellsWhole p s bytes t
whole_good p s bytes t fits e =
    let P : Result Tree Fault → Type 0 = IsSoWhole p s bytes in subst P e (whole_so p s bytes fits)

pub whole_bad : (p : Pad) (s : Shape) (bytes : List ℕ) (f : Fault) → AreBytes bytes → whole_reading p s bytes ≡ Err f
    → FailsWhole p s bytes f
whole_bad p s bytes f fits e =
    let P : Result Tree Fault → Type 0 = IsSoWhole p s bytes in subst P e (whole_so p s bytes fits)

pub whole_taken : (p : Pad) (s : Shape) (bytes : List ℕ) (t : Tree) → SpellsWhole p s bytes t
    → whole_reading p s bytes ≡ Ok t
whole_taken p s bytes t h =
    let b = from_start bytes in
    let e : reading p s b ≡ Ok (t, past b bytes []) = (agrees p s).takes b t bytes [] h.1 (sym (append-nil bytes)) in
    rw (le-ltb _ _ h.0, e) refl

pub whole_refused : (p : Pad) (s : Shape) (bytes : List ℕ) (f : Fault) → FailsWhole p s bytes f
    → whole_reading p s bytes ≡ Err f
whole_refused p s bytes f (inl h) = rw (lt-ltb _ _ h.0, h.1) refl
whole_refused p s bytes f (inr (few, inl h)) = rw (le-ltb _ _ few, (agrees p s).refuses (from_start bytes) f h) refl
whole_refused p s bytes f (inr (few, inr (t, (a, rest, h, parts, (some, e))))) =
    let b = from_start bytes in
    let r : reading p s b ≡ Ok (t, past b a rest) = (agrees p s).takes b t a rest h parts in
    let ne : length rest ≡ 0 → ⊥ = λ z. omega (arith, z, some) in
    rw (le-ltb _ _ few, r, ne_eqb _ _ ne, e) refl

pub one_whole : (p : Pad) (s : Shape) (bytes : List ℕ) → AreBytes bytes
    → OneOfEither (SpellsWhole p s bytes) (FailsWhole p s bytes)
one_whole p s bytes fits =
    one_of_either (SpellsWhole p s bytes) (FailsWhole p s bytes) (whole_reading p s bytes)
    (λ t e. whole_good p s bytes t fits e) (λ f e. whole_bad p s bytes f fits e)
    (λ t h. whole_taken p s bytes t h) (λ f h. whole_refused p s bytes f h)
