-- Where none is unlisted, all keys that arrived are listed; and the keys that pass a test are listed alike.
use Rattle.std.proofs.Common.{◌≡◌, ℕ, zero, suc, ◌+◌, inl, inr, Bool, true, false, cond, ◌||◌, List, [], ◌∷◌, ◌++◌, length, refl, sym, ap, ◌∙◌, true≢false, arith}
use Rattle.std.specs.List.{filter}
use Rattle.std.proofs.lemmas.Bool.{cases_Bool, cases_lt}
use Rattle.std.proofs.lemmas.List.{append-nil}
use Rattle.std.proofs.lemmas.List.Elements.{filter-append}
use Rattle.books_spec.specs.Listing.{among, with_key, first_arrivals, listed, unlisted}
use Rattle.books_spec.proofs.Listings.{IsSame, listed-known, listed-all, listed-new, unlisted-known, unlisted-full, unlisted-room, with_key-has}

never : (n : ℕ) → n + 1 ≡ 0 → ⊥
never n e = omega arith

module _ {K : Type 0} (same : K → K → Bool) (laws : IsSame same) where
  -- none was unlisted before either
  pub room-before : (limit : ℕ) (key : K) (arrived : List K) → unlisted same limit (key ∷ arrived) ≡ 0
      → unlisted same limit arrived ≡ 0
  room-before limit key arrived h =
      elim (cases_Bool (among same (listed same limit arrived) key)) [
        | inl there ↦ sym (unlisted-known same laws limit arrived key there) ∙ h
        | inr none ↦
            elim (cases_lt (length (listed same limit arrived)) limit) [
              | inl room ↦ unlisted-room same laws limit arrived room
              | inr full ↦ absurd (never (unlisted same limit arrived)
                  (sym (unlisted-full same laws limit arrived key none full) ∙ h))
            ]
      ]

  -- the keys with one more, by whether it is among the same keys under another name
  one-more : (keys others : List K) (key : K) (b : Bool) → keys ≡ others → among same keys key ≡ b
      → cond b keys (keys ++ key ∷ []) ≡ with_key same others key
  one-more keys others key b e f =
      ap (λ ks. cond b ks (ks ++ key ∷ [])) e
      ∙ ap (λ c. cond c others (others ++ key ∷ [])) (sym f ∙ ap (λ ks. among same ks key) e)

  pub all-listed : (limit : ℕ) (arrived : List K) → unlisted same limit arrived ≡ 0
      → listed same limit arrived ≡ first_arrivals same arrived
  all-listed limit [] h = nothing limit
    where
      nothing : (n : ℕ) → listed same n [] ≡ []
      nothing zero = refl
      nothing (suc n) = refl
  all-listed limit (key ∷ arrived) h =
      elim (cases_Bool (among same (listed same limit arrived) key)) [
        | inl there ↦
            listed-known same limit arrived key there
            ∙ one-more (listed same limit arrived) (first_arrivals same arrived) key true
            (all-listed limit arrived (room-before limit key arrived h)) there
        | inr none ↦
            elim (cases_lt (length (listed same limit arrived)) limit) [
              | inl room ↦
                  listed-new same limit arrived key none room
                  ∙ one-more (listed same limit arrived) (first_arrivals same arrived) key false
                  (listed-all same limit arrived room) none
              | inr full ↦ absurd (never (unlisted same limit arrived)
                  (sym (unlisted-full same laws limit arrived key none full) ∙ h))
            ]
      ]

  -- where none is unlisted, the latest is listed
  pub latest-listed : (limit : ℕ) (key : K) (arrived : List K) → unlisted same limit (key ∷ arrived) ≡ 0
      → among same (listed same limit (key ∷ arrived)) key ≡ true
  latest-listed limit key arrived h =
      ap (λ ks. among same ks key) (all-listed limit (key ∷ arrived) h)
      ∙ with_key-has same laws (first_arrivals same arrived) key

  -- ---- keys that pass a test

  among-passing : (p : K → Bool) (keys : List K) (key : K) → p key ≡ true
      → among same (filter p keys) key ≡ among same keys key
  among-passing p [] key e = refl
  among-passing p (k ∷ keys) key e = go (p k) refl (among-passing p keys key e)
    where
      other : p k ≡ false → (b : Bool) → same key k ≡ b → same key k ≡ false
      other f true s = absurd (true≢false (sym e ∙ ap p (laws.to key k s) ∙ f))
      other f false s = s

      go : (b : Bool) → p k ≡ b → among same (filter p keys) key ≡ among same keys key
          → among same (cond b (k ∷ filter p keys) (filter p keys)) key ≡ (same key k || among same keys key)
      go true f later = ap (λ c. same key k || c) later
      go false f later = later ∙ ap (λ c. c || among same keys key) (sym (other f (same key k) refl))

  with_key-passing : (p : K → Bool) (keys : List K) (key : K) (b : Bool) → p key ≡ b
      → cond b (with_key same (filter p keys) key) (filter p keys) ≡ filter p (with_key same keys key)
  with_key-passing p keys key true e =
      ap (λ c. cond c (filter p keys) (filter p keys ++ key ∷ [])) (among-passing p keys key e)
      ∙ go (among same keys key)
    where
      go : (c : Bool) → cond c (filter p keys) (filter p keys ++ key ∷ []) ≡ filter p (cond c keys (keys ++ key ∷ []))
      go true = refl
      go false = sym (filter-append p keys (key ∷ [])
          ∙ ap (λ b. filter p keys ++ cond b (key ∷ []) []) e)
  with_key-passing p keys key false e = go (among same keys key)
    where
      go : (c : Bool) → filter p keys ≡ filter p (cond c keys (keys ++ key ∷ []))
      go true = refl
      go false = sym (filter-append p keys (key ∷ [])
          ∙ ap (λ b. filter p keys ++ cond b (key ∷ []) []) e
          ∙ append-nil (filter p keys))

  -- they arrive in the same order
  pub arrivals-passing : (p : K → Bool) (arrived : List K)
      → first_arrivals same (filter p arrived) ≡ filter p (first_arrivals same arrived)
  arrivals-passing p [] = refl
  arrivals-passing p (key ∷ before) =
      go (p key) refl (arrivals-passing p before)
    where
      go : (b : Bool) → p key ≡ b → first_arrivals same (filter p before) ≡ filter p (first_arrivals same before)
          → first_arrivals same (cond b (key ∷ filter p before) (filter p before))
          ≡ filter p (with_key same (first_arrivals same before) key)
      go true e later =
          ap (λ ks. with_key same ks key) later ∙ with_key-passing p (first_arrivals same before) key true e
      go false e later = later ∙ with_key-passing p (first_arrivals same before) key false e

  pub listed-passing : (p : K → Bool) (limit limit_of_some : ℕ) (arrived : List K)
      → unlisted same limit arrived ≡ 0 → unlisted same limit_of_some (filter p arrived) ≡ 0
      → listed same limit_of_some (filter p arrived) ≡ filter p (listed same limit arrived)
  listed-passing p limit limit_of_some arrived all some =
      all-listed limit_of_some (filter p arrived) some ∙ arrivals-passing p arrived
      ∙ ap (filter p) (sym (all-listed limit arrived all))
