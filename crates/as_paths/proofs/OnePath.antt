-- Bytes that are so many segments, and those that aren't, in the words of the grammar.
use Rattle.std.proofs.Common.{◌≡◌, ℕ, ◌+◌, ◌<◌, Bool, true, false, cond, eqb, List, [], ◌++◌, length, Result, Ok, Err, refl, sym, ap, subst, ◌∙◌, append-nil, arith, inl, inr}
use Rattle.std.specs.Prelude.{IfOk, IfErr}
use Rattle.std.proofs.lemmas.Bool.{eqb-true, eqb-false, ne_eqb}
use Rattle.std.proofs.lemmas.List.{nil_from_length}
use Rattle.wire_spec.specs.declared.pad.Pad.TheVariants.{Any}
use Rattle.wire_spec.specs.declared.fault.Fault.{Fault}
use Rattle.wire_spec.specs.Bytes.{AreBytes}
use Rattle.wire_spec.specs.Exactly.{OneOfEither}
use Rattle.wire_spec.specs.Shapes.{Tree, Trees}
use Rattle.wire_spec.specs.Spells.{Spells}
use Rattle.wire_spec.specs.Fails.{Remaining, past, Fails, FailsAmong}
use Rattle.wire_spec.specs.Reading.{◌>>=◌, many_at, reading}
use Rattle.wire_spec.specs.Bodies.{items_at}
use Rattle.wire_spec.specs.Tables.{path_segment}
use Rattle.wire_spec.specs.Whole.{from_start, trailing, at_end}
use Rattle.wire_spec.proofs.Grammar.{agrees}
use Rattle.wire_spec.proofs.Lists.{IsMany, many_agree}
use Rattle.wire_spec.proofs.OneReading.{one_of_either}
use Rattle.wire_spec.proofs.Steps.{IsSo, Agrees}
use Rattle.xdr_words.specs.Readers.{Gives}
use Rattle.as_paths.specs.declared.segment.Segment.{Segment}
use Rattle.as_paths.specs.Paths.{segment_trees, segment_at, path_over, SpellsSegments, FailsSegments}
use Rattle.as_paths.proofs.Paths.{segments_as_trees}

abbrev Good : Tree → List ℕ → Type 0
Good = Spells Any path_segment

abbrev Bad : Remaining → Fault → Type 0
Bad = Fails Any path_segment

abbrev each_at : Remaining → Result (Tree × Remaining) Fault
each_at = reading Any path_segment

many : (n : ℕ) → Agrees (IsMany Good n) (FailsAmong Good Bad n) (many_at each_at n)
many n = many_agree Good Bad each_at (agrees Any path_segment) n

-- n values, and nothing behind them
abbrev trees_over : ℕ → List ℕ → Result Trees Fault
trees_over n bytes = many_at each_at n (from_start bytes) >>= at_end

abbrev IsSoPath : ℕ → List ℕ → Result Trees Fault → Type 0
IsSoPath n bytes (Ok ts) = SpellsSegments n bytes ts
IsSoPath n bytes (Err f) = FailsSegments n bytes f

end_so : (n : ℕ) (bytes : List ℕ) (x : Trees × Remaining) (t : Bool) → eqb (length x.1.bytes) 0 ≡ t
    → (a : List ℕ) → IsMany Good n x.0 a → bytes ≡ a ++ x.1.bytes → x.1.at ≡ 0 + length a
    → IsSoPath n bytes (cond t (Ok x.0) (Err (trailing x.1.at (length x.1.bytes))))
end_so n bytes x true e a h parts place =
    let nothing : x.1.bytes ≡ [] = nil_from_length x.1.bytes (eqb-true _ _ e) in
    let same : a ≡ bytes = sym (parts ∙ ap (λ (t : List ℕ). a ++ t) nothing ∙ append-nil a) in
    let P : List ℕ → Type 0 = λ t. IsMany Good n x.0 t in
    subst P same h
end_so n bytes x false e a h parts place =
    let some : 0 < length x.1.bytes = omega (arith, eqb-false _ _ e) in
    inr (x.0, h.0, (a, x.1.bytes, h.1, parts, (some, ap (λ (k : ℕ). trailing k (length x.1.bytes)) place)))

at_end_so : (n : ℕ) (bytes : List ℕ) (r : Result (Trees × Remaining) Fault)
    → IsSo (from_start bytes) (IsMany Good n) (FailsAmong Good Bad n) r → IsSoPath n bytes (r >>= at_end)
at_end_so n bytes (Ok x) o = end_so n bytes x (eqb (length x.1.bytes) 0) refl o.0 o.1 o.2 o.3
at_end_so n bytes (Err f) o = inl o

trees_so : (n : ℕ) (bytes : List ℕ) → AreBytes bytes → IsSoPath n bytes (trees_over n bytes)
trees_so n bytes fits = at_end_so n bytes (many_at each_at n (from_start bytes)) ((many n).so (from_start bytes) fits)

good : (n : ℕ) (bytes : List ℕ) → AreBytes bytes → (ts : Trees) → trees_over n bytes ≡ Ok ts → SpellsSegments n bytes ts
good n bytes fits ts e =
    let P : Result Trees Fault → Type 0 = IsSoPath n bytes in subst P e (trees_so n bytes fits)

bad : (n : ℕ) (bytes : List ℕ) → AreBytes bytes → (f : Fault) → trees_over n bytes ≡ Err f → FailsSegments n bytes f
bad n bytes fits f e =
    let P : Result Trees Fault → Type 0 = IsSoPath n bytes in subst P e (trees_so n bytes fits)

taken : (n : ℕ) (bytes : List ℕ) (ts : Trees) → SpellsSegments n bytes ts → trees_over n bytes ≡ Ok ts
taken n bytes ts h =
    let b = from_start bytes in
    let e : many_at each_at n b ≡ Ok (ts, past b bytes []) = (many n).takes b ts bytes [] h (sym (append-nil bytes)) in
    rw e refl

refused : (n : ℕ) (bytes : List ℕ) (f : Fault) → FailsSegments n bytes f → trees_over n bytes ≡ Err f
refused n bytes f (inl h) = rw ((many n).refuses (from_start bytes) f h) refl
refused n bytes f (inr (ts, number, (a, rest, h, parts, (some, e)))) =
    let b = from_start bytes in
    let r : many_at each_at n b ≡ Ok (ts, past b a rest) = (many n).takes b ts a rest (number, h) parts in
    let ne : length rest ≡ 0 → ⊥ = λ z. omega (arith, z, some) in
    rw (r, ne_eqb _ _ ne, e) refl

pub one_path : (n : ℕ) (bytes : List ℕ) → AreBytes bytes → OneOfEither (SpellsSegments n bytes) (FailsSegments n bytes)
one_path n bytes fits =
    one_of_either (SpellsSegments n bytes) (FailsSegments n bytes) (trees_over n bytes)
    (good n bytes fits) (bad n bytes fits) (taken n bytes) (refused n bytes)

-- ---- what the call answers

abbrev as_trees : List Segment → Result Trees Fault
as_trees xs = Ok (segment_trees xs)

-- the segments of a path are those values
path_trees : (n : ℕ) (bytes : List ℕ) → trees_over n bytes ≡ (path_over n bytes >>= as_trees)
path_trees n bytes =
    rw (segments_as_trees Any n (from_start bytes)) (at_items (items_at segment_at n (from_start bytes)))
  where
    by_end : (x : List Segment × Remaining) (t : Bool)
        → cond t (let o : Result Trees Fault = Ok (segment_trees x.0) in o) (Err (trailing x.1.at (length x.1.bytes)))
        ≡ (cond t (let o : Result (List Segment) Fault = Ok x.0 in o) (Err (trailing x.1.at (length x.1.bytes))) >>= as_trees)
    by_end x true = refl
    by_end x false = refl

    at_items : (r : Result (List Segment × Remaining) Fault)
        → ((r >>= λ xs. let o : Result (Trees × Remaining) Fault = Ok (segment_trees xs.0, xs.1) in o) >>= at_end)
        ≡ ((r >>= at_end) >>= as_trees)
    at_items (Ok x) = by_end x (eqb (length x.1.bytes) 0)
    at_items (Err f) = refl

abbrev step : Result (List Segment) Fault → Result Trees Fault
step r = r >>= as_trees

pub over_spelled : (n : ℕ) (bytes : List ℕ) (r : Result (List Segment) Fault) → AreBytes bytes
    → Gives (λ p. p) (λ f. f) r (path_over n bytes) → IfOk r (λ p. SpellsSegments n bytes (segment_trees p))
over_spelled n bytes (Ok xs) fits h = good n bytes fits (segment_trees xs) (path_trees n bytes ∙ ap step h)
over_spelled n bytes (Err f) fits h = tt

pub over_fails : (n : ℕ) (bytes : List ℕ) (r : Result (List Segment) Fault) → AreBytes bytes
    → Gives (λ p. p) (λ f. f) r (path_over n bytes) → IfErr r (λ f. FailsSegments n bytes f)
over_fails n bytes (Ok xs) fits h = tt
over_fails n bytes (Err f) fits h = bad n bytes fits f (path_trees n bytes ∙ ap step h)
