-- Receivers of which those at the first places have done their part.
use Rattle.std.proofs.Common.{◌≡◌, ◌⊎◌, inl, inr, ℕ, zero, suc, ◌+◌, ◌<◌, List, [], ◌∷◌, Option, Some, None, length, get_or, set, take, refl, sym, ap, subst, ◌∙◌, arith, add-one}
use Rattle.std.specs.Prelude.{slice_get}
use Rattle.std.proofs.lemmas.Bool.{cases_eq}
use Rattle.relay_out.specs.declared.progress.Progress.{Progress}
use Rattle.relay_out.specs.Routes.{Route}
use Rattle.relay_out.specs.Relays.{AtEach, at_start, progress_at}

module _ {A : Type 0} where
  written_here : (xs : List A) (n : ℕ) (z : A) → n < length xs → slice_get (set xs n z) n ≡ Some z
  written_here [] n z lt = absurd (omega (arith, lt))
  written_here (x ∷ xs) zero z lt = refl
  written_here (x ∷ xs) (suc n) z lt = written_here xs n z (omega (arith, lt))

  written_elsewhere : (xs : List A) (n k : ℕ) (z : A) → (k ≡ n → ⊥) → slice_get (set xs n z) k ≡ slice_get xs k
  written_elsewhere [] n k z ne = refl
  written_elsewhere (x ∷ xs) zero zero z ne = absurd (ne refl)
  written_elsewhere (x ∷ xs) zero (suc k) z ne = refl
  written_elsewhere (x ∷ xs) (suc n) zero z ne = refl
  written_elsewhere (x ∷ xs) (suc n) (suc k) z ne = written_elsewhere xs n k z (λ e. ne (ap suc e))

  same_length : (xs : List A) (n : ℕ) (z : A) → length (set xs n z) ≡ length xs
  same_length [] n z = refl
  same_length (x ∷ xs) zero z = refl
  same_length (x ∷ xs) (suc n) z = ap suc (same_length xs n z)

  got_here : (xs : List A) (n : ℕ) (z d : A) → n < length xs → get_or (set xs n z) n d ≡ z
  got_here [] n z d lt = absurd (omega (arith, lt))
  got_here (x ∷ xs) zero z d lt = refl
  got_here (x ∷ xs) (suc n) z d lt = got_here xs n z d (omega (arith, lt))

  got_elsewhere : (xs : List A) (n k : ℕ) (z d : A) → (k ≡ n → ⊥) → get_or (set xs n z) k d ≡ get_or xs k d
  got_elsewhere [] n k z d ne = refl
  got_elsewhere (x ∷ xs) zero zero z d ne = absurd (ne refl)
  got_elsewhere (x ∷ xs) zero (suc k) z d ne = refl
  got_elsewhere (x ∷ xs) (suc n) zero z d ne = refl
  got_elsewhere (x ∷ xs) (suc n) (suc k) z d ne = got_elsewhere xs n k z d (λ e. ne (ap suc e))

  pub none_yet : (xs : List A) (n : ℕ) → slice_get (take n xs) n ≡ None
  none_yet [] zero = refl
  none_yet [] (suc n) = refl
  none_yet (x ∷ xs) zero = refl
  none_yet (x ∷ xs) (suc n) = none_yet xs n

  now_here : (xs : List A) (n : ℕ) → slice_get (take (suc n) xs) n ≡ slice_get xs n
  now_here [] n = refl
  now_here (x ∷ xs) zero = refl
  now_here (x ∷ xs) (suc n) = now_here xs n

  as_before : (xs : List A) (n k : ℕ) → (k ≡ n → ⊥) → slice_get (take (suc n) xs) k ≡ slice_get (take n xs) k
  as_before [] zero k ne = refl
  as_before [] (suc n) k ne = refl
  as_before (x ∷ xs) zero zero ne = absurd (ne refl)
  as_before (x ∷ xs) zero (suc k) ne = refl
  as_before (x ∷ xs) (suc n) zero ne = refl
  as_before (x ∷ xs) (suc n) (suc k) ne = as_before xs n k (λ e. ne (ap suc e))

module _ {X : Type 0} (did : Option Route → X → Progress → X → Progress → Type 0) (routes : List Route)
    (xs : List X) (was : List Progress) (ys : List X) (now : List Progress) (n : ℕ) (z : X) (q : Progress) where
  one_further : n < length ys → n < length now → AtEach did (take n routes) xs was ys now
      → ((x y : X) → slice_get xs n ≡ Some x → slice_get ys n ≡ Some y
      → did None x (progress_at was n) y (progress_at now n) → did (slice_get routes n) x (progress_at was n) z q)
      → AtEach did (take (suc n) routes) xs was (set ys n z) (set now n q)
  one_further inside counted so_far does = record { many = same_length ys n z ∙ so_far.many; each = each }
    where
      Does : ℕ → X → Type 0
      Does k x = (y : X) × (slice_get (set ys n z) k ≡ Some y)
          × did (slice_get (take (suc n) routes) k) x (progress_at was k) y (progress_at (set now n q) k)

      here : (x : X) → slice_get xs n ≡ Some x → Does n x
      here x at =
          let before = so_far.each n x at in
          let took = does x before.0 at before.1 (subst (λ o. did o x (progress_at was n) before.0 (progress_at now n)) (none_yet routes n) before.2) in (
            z,
            written_here ys n z inside,
            subst (λ p. did (slice_get (take (suc n) routes) n) x (progress_at was n) z p) (sym (got_here now n q at_start counted))
                (subst (λ o. did o x (progress_at was n) z q) (sym (now_here routes n)) took),
          )

      elsewhere : (k : ℕ) (x : X) → (k ≡ n → ⊥) → slice_get xs k ≡ Some x → Does k x
      elsewhere k x ne at =
          let before = so_far.each k x at in (
            before.0,
            written_elsewhere ys n k z ne ∙ before.1,
            subst (λ p. did (slice_get (take (suc n) routes) k) x (progress_at was k) before.0 p) (sym (got_elsewhere now n k q at_start ne))
                (subst (λ o. did o x (progress_at was k) before.0 (progress_at now k)) (sym (as_before routes n k ne)) before.2),
          )

      by_place : (k : ℕ) (x : X) → (k ≡ n) ⊎ (k ≡ n → ⊥) → slice_get xs k ≡ Some x → Does k x
      by_place k x (inl same) at = subst (λ m. Does m x) (sym same) (here x (subst (λ m. slice_get xs m ≡ Some x) same at))
      by_place k x (inr ne) at = elsewhere k x ne at

      each : (k : ℕ) (x : X) → slice_get xs k ≡ Some x → Does k x
      each k x at = by_place k x (cases_eq k n) at

  pub further : n < length ys → n < length now → AtEach did (take n routes) xs was ys now
      → ((x y : X) → slice_get xs n ≡ Some x → slice_get ys n ≡ Some y
      → did None x (progress_at was n) y (progress_at now n) → did (slice_get routes n) x (progress_at was n) z q)
      → AtEach did (take (n + 1) routes) xs was (set ys n z) (set now n q)
  further inside counted so_far does = rw (add-one n) (one_further inside counted so_far does)
