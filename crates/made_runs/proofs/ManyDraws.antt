-- One draw more behind many.
use Rattle.std.proofs.Common.{◌≡◌, ◌∙◌, ℕ, zero, suc, ◌+◌, ◌<◌, List, [], ◌∷◌, ◌++◌, length, take, set, refl, sym, ap, add-one}
use Rattle.std.proofs.lemmas.List.{take_more_set}
use Rattle.std.specs.Prelude.{map}
use Rattle.std.proofs.lemmas.List.{map-append}
use Rattle.trial_spec.specs.Made.{next_state, drawn, all_drawn, state_after}

state-suc : (k x : ℕ) → state_after (suc k) x ≡ next_state (state_after k x)
state-suc zero x = refl
state-suc (suc k) x = state-suc k (next_state x)

drawn-suc : (n k x : ℕ) → all_drawn (suc k) n x ≡ all_drawn k n x ++ drawn n (next_state (state_after k x)) ∷ []
drawn-suc n zero x = refl
drawn-suc n (suc k) x = ap (λ xs. drawn n (next_state x) ∷ xs) (drawn-suc n k (next_state x))

pub state-more : (k x : ℕ) → state_after (k + 1) x ≡ next_state (state_after k x)
state-more k x = rw (add-one k) (state-suc k x)

pub drawn-more : (n k x : ℕ) → all_drawn (k + 1) n x ≡ all_drawn k n x ++ drawn n (next_state (state_after k x)) ∷ []
drawn-more n k x = rw (add-one k) (drawn-suc n k x)

-- the state now is that after k draws
pub state-on : (k x now new : ℕ) → now ≡ state_after k x → new ≡ next_state now → new ≡ state_after (k + 1) x
state-on k x now new h e = e ∙ ap next_state h ∙ sym (state-more k x)

-- the draw at place k is written there
pub write-on : (n k x now y : ℕ) (xs : List ℕ) → k < length xs → now ≡ state_after k x → take k xs ≡ all_drawn k n x
    → y ≡ drawn n (next_state now) → take (k + 1) (set xs k y) ≡ all_drawn (k + 1) n x
write-on n k x now y xs lt h e d =
    take_more_set xs k y lt ∙ ap (λ ys. ys ++ y ∷ []) e
    ∙ ap (λ z. all_drawn k n x ++ z ∷ []) (d ∙ ap (λ s. drawn n (next_state s)) h) ∙ sym (drawn-more n k x)

-- the draw at place k is put behind the others
pub push-on : (f : ℕ → ℕ) (n k x now y : ℕ) (xs : List ℕ) → now ≡ state_after k x → xs ≡ map f (all_drawn k n x)
    → y ≡ drawn n (next_state now) → xs ++ f y ∷ [] ≡ map f (all_drawn (k + 1) n x)
push-on f n k x now y xs h e d =
    ap (λ ys. ys ++ f y ∷ []) e
    ∙ ap (λ z. map f (all_drawn k n x) ++ f z ∷ []) (d ∙ ap (λ s. drawn n (next_state s)) h)
    ∙ sym (map-append f (all_drawn k n x) (drawn n (next_state (state_after k x)) ∷ []))
    ∙ ap (map f) (sym (drawn-more n k x))
