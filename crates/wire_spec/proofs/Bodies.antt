-- A body behind its length word, and the padding behind it, are read as the grammar has them.
use Rattle.std.proofs.Common.{◌≡◌, ℕ, ◌+◌, ◌≤◌, Bool, true, false, cond, ltb, List, ◌++◌, length, take, drop, Result, Ok, Err, refl, sym, ap, subst, ◌∙◌, append_assoc, arith, inl, inr}
use Rattle.std.proofs.lemmas.Bool.{ltb-false, ltb-true}
use Rattle.std.proofs.lemmas.List.{take-append-drop, length-append, length-take, length-drop}
use Rattle.wire_spec.specs.declared.pad.Pad.{Pad}
use Rattle.wire_spec.specs.declared.fault.Fault.{Fault}
use Rattle.wire_spec.specs.Bytes.{AreBytes}
use Rattle.wire_spec.specs.Padding.{padding_of}
use Rattle.wire_spec.specs.Spells.{IsWord}
use Rattle.wire_spec.specs.Fails.{Remaining, short, FailsItem, FailsPadding}
use Rattle.wire_spec.specs.Reading.{◌>>=◌, word_at, padding_at, body_at, body_end_at}
use Rattle.wire_spec.specs.Bodies.{IsCounted, FailsCounted, IsPaddingOf, counted_body_at}
use Rattle.wire_spec.proofs.Steps.{IsSo}
use Rattle.wire_spec.proofs.Items.{word_agrees, PaddingIsSo, padding_so}
use Rattle.wire_spec.proofs.Runs.{first_step, same_value}

-- a body of n bytes, and what is left behind it
abbrev pub body_parts : ℕ → Remaining → Remaining × Remaining
body_parts n b = (record { at = b.at; bytes = take n b.bytes }, record { at = b.at + n; bytes = drop n b.bytes })

-- where a body was read, it is there with its padding
pub body_is_there : (n : ℕ) (b : Remaining) (x : Remaining × Remaining) → body_at n b ≡ Ok x
    → (n + padding_of n ≤ length b.bytes) × (body_parts n b ≡ x)
body_is_there n b x e = by_test (ltb (length b.bytes) (n + padding_of n)) refl e
  where
    by_test : (t : Bool) → ltb (length b.bytes) (n + padding_of n) ≡ t
        → cond t (Err (short b.at (n + padding_of n) (length b.bytes))) (Ok (body_parts n b)) ≡ Ok x
        → (n + padding_of n ≤ length b.bytes) × (body_parts n b ≡ x)
    by_test true t e = absurd cc
    by_test false t e = (ltb-false _ _ t, same_value (body_parts n b) x e)

-- it has that length, and its padding is left behind it
pub body_has_length : (n : ℕ) (b : Remaining) (x : Remaining × Remaining) → body_at n b ≡ Ok x
    → (length x.0.bytes ≡ n) × (padding_of n ≤ length x.1.bytes)
body_has_length n b x e =
    let there = body_is_there n b x e in
    let P : Remaining × Remaining → Type 0 = λ x. (length x.0.bytes ≡ n) × (padding_of n ≤ length x.1.bytes) in
    let here : P (body_parts n b) =
    (omega (arith, there.0, length-take n b.bytes), omega (arith, there.0, length-drop n b.bytes)) in
    subst P there.1 here

pub counted_padding : (b : Remaining) (x : Remaining × Remaining) → counted_body_at b ≡ Ok x
    → padding_of (length x.0.bytes) ≤ length x.1.bytes
counted_padding b x e =
    let body : ℕ × Remaining → Result (Remaining × Remaining) Fault = λ n. body_at n.0 n.1 in
    let n = first_step (word_at b) body x e in
    let has = body_has_length n.0.0 n.0.1 x n.2 in
    rw has.0 has.1

-- ---- the grammar's words

-- the bytes of a body behind its length word
abbrev pub IsCountedBody : Remaining → List ℕ → Type 0
IsCountedBody x a = IsCounted x.bytes a

pub counted_so : (b : Remaining) → AreBytes b.bytes
    → IsSo b IsCountedBody FailsCounted (counted_body_at b)
counted_so b fits = at_length (word_at b) (word_agrees.so b fits)
  where
    at_body : (n : ℕ) (c : Remaining) (t : Bool) → ltb (length c.bytes) (n + padding_of n) ≡ t
        → (w : List ℕ) → IsWord n w → b.bytes ≡ w ++ c.bytes → c.at ≡ b.at + length w
        → IsSo b IsCountedBody FailsCounted
        (cond t (Err (short c.at (n + padding_of n) (length c.bytes))) (Ok (body_parts n c)))
    at_body n c true t w one parts place =
        inr (n, (w, c.bytes, one, parts, (ltb-true _ _ t, ap (λ (k : ℕ). short k (n + padding_of n) (length c.bytes)) place)))
    at_body n c false t w one parts place =
        let long : n + padding_of n ≤ length c.bytes = ltb-false _ _ t in
        let len : length (take n c.bytes) ≡ n = omega (arith, long, length-take n c.bytes) in (
          w ++ take n c.bytes,
          (w, take n c.bytes, subst (λ (k : ℕ). IsWord k w) (sym len) one, refl, refl),
          parts ∙ ap (λ (l : List ℕ). w ++ l) (sym (take-append-drop n c.bytes))
              ∙ sym (append_assoc w (take n c.bytes) (drop n c.bytes)),
          omega (arith, place, len, length-append w (take n c.bytes)),
        )

    at_length : (r : Result (ℕ × Remaining) Fault) → IsSo b IsWord (FailsItem 4) r
        → IsSo b IsCountedBody FailsCounted (r >>= λ n. body_at n.0 n.1)
    at_length (Ok n) (w, one, parts, place) =
        at_body n.0 n.1 (ltb (length n.1.bytes) (n.0 + padding_of n.0)) refl w one parts place
    at_length (Err f) bad = inl bad

-- the padding of a body of n bytes fails
abbrev pub FailsPaddingOf : Pad → ℕ → Remaining → Fault → Type 0
FailsPaddingOf p n b f = FailsPadding p b.at (take (padding_of n) b.bytes) f

-- what is left behind it
abbrev behind_padding : ℕ → Remaining → Remaining
behind_padding n b = record { at = b.at + padding_of n; bytes = drop (padding_of n) b.bytes }

pub body_end_so : (p : Pad) (n : ℕ) (b : Remaining) → padding_of n ≤ length b.bytes
    → IsSo b (λ (u : Unit {0}) a. IsPaddingOf p n a) (FailsPaddingOf p n) (body_end_at p n b)
body_end_so p n b there = go (padding_at p b.at (take (padding_of n) b.bytes)) (padding_so p b.at (take (padding_of n) b.bytes))
  where
    go : (u : Result (Unit {0}) Fault) → PaddingIsSo p b.at (take (padding_of n) b.bytes) u
        → IsSo b (λ (u : Unit {0}) a. IsPaddingOf p n a) (FailsPaddingOf p n)
        (u >>= λ _. let o : Result (Unit {0} × Remaining) Fault = Ok (tt, behind_padding n b) in o)
    go (Ok u) may =
        let len : length (take (padding_of n) b.bytes) ≡ padding_of n =
        omega (arith, there, length-take (padding_of n) b.bytes) in
        (take (padding_of n) b.bytes, (len, may), sym (take-append-drop (padding_of n) b.bytes), omega (arith, len))
    go (Err f) bad = bad
