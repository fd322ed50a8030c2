-- A counted run of values is read as the grammar has it.
use Rattle.std.proofs.Common.{◌≡◌, ℕ, zero, suc, ◌+◌, List, [], ◌++◌, length, Result, Ok, refl, sym, ap, subst, ◌∙◌, append_assoc, arith, inl, inr}
use Rattle.std.proofs.lemmas.List.{length-append}
use Rattle.wire_spec.specs.declared.fault.Fault.{Fault}
use Rattle.wire_spec.specs.Shapes.{Tree, Trees, none, ◌&◌, count_of}
use Rattle.wire_spec.specs.Spells.{Each}
use Rattle.wire_spec.specs.Fails.{Remaining, past, After, FailsAmong}
use Rattle.wire_spec.specs.Reading.{◌>>=◌, many_at}
use Rattle.wire_spec.proofs.Steps.{Agrees, said_as, Seen, seen, Both, Either, both}

-- n values, one after the other
abbrev pub IsMany : (Tree → List ℕ → Type 0) → ℕ → Trees → List ℕ → Type 0
IsMany Good n ts a = (count_of ts ≡ n) × Each Good ts a

module _ (Good : Tree → List ℕ → Type 0) (Bad : Remaining → Fault → Type 0) where
  -- a first value, and then n more
  MoreThan : ℕ → Trees → List ℕ → Type 0
  MoreThan n = Both Good (λ t. Seen (λ (ts : Trees). t & ts) (IsMany Good n))

  FailsMoreThan : ℕ → Remaining → Fault → Type 0
  FailsMoreThan n = Either Good Bad (λ at t. FailsAmong Good Bad n)

  one_more : (n : ℕ) (ts : Trees) (a : List ℕ) → MoreThan n ts a → IsMany Good (suc n) ts a
  unfolding MoreThan
  one_more n ts a (t, (x, y, one, (rest, e, others), parts)) =
      let P : Trees → Type 0 = λ ts. IsMany Good (suc n) ts a in
      subst P (sym e) (ap suc others.0, (x, y, one, others.1, parts))

  one_less : (n : ℕ) (ts : Trees) (a : List ℕ) → IsMany Good (suc n) ts a → MoreThan n ts a
  unfolding MoreThan
  one_less n none a h = absurd (omega (arith, h.0))
  one_less n (t & ts) a h = (t, (h.1.0, h.1.1, h.1.2, (ts, refl, (omega (arith, h.0), h.1.3)), h.1.4))

  fails_more : (n : ℕ) (b : Remaining) (f : Fault) → FailsMoreThan n b f → FailsAmong Good Bad (suc n) b f
  unfolding FailsMoreThan
  fails_more n b f (inl bad) =
      let here : ℕ → Remaining = λ k. record { at = k; bytes = b.bytes } in
      let same : b.at ≡ b.at + 0 = omega arith in
      (none, omega arith, ([], b.bytes, refl, refl, subst (λ (k : ℕ). Bad (here k) f) same bad))
  fails_more n b f (inr (t, (a, rest, first, parts, (ts, less, (a', rest', others, parts', bad))))) =
      let here : ℕ → Remaining = λ k. record { at = k; bytes = rest' } in
      let same : (b.at + length a) + length a' ≡ b.at + length (a ++ a') = omega (arith, length-append a a') in
      let whole : b.bytes ≡ (a ++ a') ++ rest' =
      parts ∙ ap (λ (x : List ℕ). a ++ x) parts' ∙ sym (append_assoc a a' rest') in (
        t & ts,
        omega (arith, less),
        (a ++ a', rest', (a, a', first, others, refl), whole, subst (λ (k : ℕ). Bad (here k) f) same bad),
      )

  fails_less : (n : ℕ) (b : Remaining) (f : Fault) → FailsAmong Good Bad (suc n) b f → FailsMoreThan n b f
  unfolding FailsMoreThan
  fails_less n b f (none, less, (a, rest, nil, parts, bad)) =
      let here : ℕ → List ℕ → Remaining = λ k t. record { at = k; bytes = t } in
      let all : rest ≡ b.bytes = sym (parts ∙ ap (λ (t : List ℕ). t ++ rest) nil) in
      let same : b.at + length a ≡ b.at = omega (arith, ap length nil) in
      let P : ℕ → Type 0 = λ k. Bad (here k rest) f in
      let Q : List ℕ → Type 0 = λ t. Bad (here b.at t) f in
      inl (subst Q all (subst P same bad))
  fails_less n b f (t & ts, less, (a, rest, (d, g, one, others, cat), parts, bad)) =
      let here : ℕ → Remaining = λ k. record { at = k; bytes = rest } in
      let same : b.at + length a ≡ (b.at + length d) + length g = omega (arith, ap length cat, length-append d g) in
      let P : ℕ → Type 0 = λ k. Bad (here k) f in
      let whole : b.bytes ≡ d ++ (g ++ rest) = parts ∙ ap (λ (x : List ℕ). x ++ rest) cat ∙ append_assoc d g rest in
      let later : After (Each Good ts) Bad (past b d (g ++ rest)) f = (g, rest, others, refl, subst P same bad) in
      inr (t, (d, g ++ rest, one, whole, (ts, omega (arith, less), later)))

  none_left : (b : Remaining) (ts : Trees) (a rest : List ℕ) → IsMany Good 0 ts a → b.bytes ≡ a ++ rest
      → (let o : Result (Trees × Remaining) Fault = Ok (none, b) in o) ≡ Ok (ts, past b a rest)
  none_left b none a rest h parts =
      let answer : ℕ → List ℕ → Result (Trees × Remaining) Fault = λ k t. Ok (none, record { at = k; bytes = t }) in
      let same : b.at ≡ b.at + length a = omega (arith, ap length h.1) in
      let all : b.bytes ≡ rest = parts ∙ ap (λ (t : List ℕ). t ++ rest) h.1 in
      ap (λ (k : ℕ). answer k b.bytes) same ∙ ap (answer (b.at + length a)) all
  none_left b (t & ts) a rest h parts = absurd (omega (arith, h.0))

  module _ (each : Remaining → Result (Tree × Remaining) Fault) (one : Agrees Good Bad each) where
    pub many_agree : (n : ℕ) → Agrees (IsMany Good n) (FailsAmong Good Bad n) (many_at each n)
    unfolding MoreThan FailsMoreThan
    many_agree zero = record {
      so = λ b fits. ([], (refl, refl), refl, omega arith);
      takes = none_left;
      refuses = λ b f h. absurd (omega (arith, h.1));
    }
    many_agree (suc n) =
        said_as (MoreThan n) (IsMany Good (suc n)) (FailsMoreThan n) (FailsAmong Good Bad (suc n)) (many_at each (suc n))
        (one_more n) (one_less n) (fails_more n) (fails_less n)
        (both Good (λ t. Seen (λ (ts : Trees). t & ts) (IsMany Good n)) Bad (λ at t. FailsAmong Good Bad n) each
        (λ at x. many_at each n x.1 >>= λ xs. Ok (x.0 & xs.0, xs.1)) one
        (λ at t. seen (λ (ts : Trees). t & ts) (IsMany Good n) (FailsAmong Good Bad n) (many_at each n) (many_agree n)))
