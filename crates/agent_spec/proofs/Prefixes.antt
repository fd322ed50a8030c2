-- Longest prefixes of a list.
use Rattle.std.proofs.Common.{◌≡◌, ℕ, zero, suc, ◌≤◌, ◌<◌, inl, inr, Bool, true, false, cond, List, [], ◌∷◌, ◌++◌, length, take, drop, arith, refl, ap, ◌∙◌, length-drop, take-append-drop}
use Rattle.std.specs.List.{AllByRecursion}
use Rattle.std.proofs.lemmas.Bool.{cases_lt}
use Rattle.agent_spec.specs.Packing.{joined, longest, prefixes, cut}

module _ {X : Type 0} (fits : List X → Bool) where
  pub longest-some : (items : List X) (k : ℕ) → 1 ≤ longest fits items k
  longest-some items zero = omega arith
  longest-some items (suc k) = go (fits (take (suc k) items)) (longest-some items k)
    where
      go : (b : Bool) → 1 ≤ longest fits items k → 1 ≤ cond b (suc k) (longest fits items k)
      go true h = omega arith
      go false h = h

  -- more than one fit together
  pub longest-fits : (items : List X) (k : ℕ) → 1 < longest fits items k
      → fits (take (longest fits items k) items) ≡ true
  longest-fits items zero h = absurd (omega (arith, h))
  longest-fits items (suc k) h = go (fits (take (suc k) items)) refl h (longest-fits items k)
    where
      go : (b : Bool) → fits (take (suc k) items) ≡ b → 1 < cond b (suc k) (longest fits items k)
          → (1 < longest fits items k → fits (take (longest fits items k) items) ≡ true)
          → fits (take (cond b (suc k) (longest fits items k)) items) ≡ true
      go true e h before = e
      go false e h before = before h

  -- no more of them do
  pub longest-most : (items : List X) (k j : ℕ) → longest fits items k < j → j ≤ k → fits (take j items) ≡ false
  longest-most items zero j h most = absurd (omega (arith, h, most))
  longest-most items (suc k) j h most = go (fits (take (suc k) items)) refl h (longest-most items k j)
    where
      go : (b : Bool) → fits (take (suc k) items) ≡ b → cond b (suc k) (longest fits items k) < j
          → (longest fits items k < j → j ≤ k → fits (take j items) ≡ false) → fits (take j items) ≡ false
      go true e h before = absurd (omega (arith, h, most))
      go false e h before = elim (cases_lt k j) [
        | inl last ↦ let same : j ≡ suc k = omega (arith, last, most) in ap (λ (n : ℕ). fits (take n items)) same ∙ e
        | inr within ↦ before h within
      ]

  prefixes-join : (most : ℕ) (items : List X) → length items ≤ most → joined (prefixes fits most items) ≡ items
  prefixes-join zero [] h = refl
  prefixes-join zero (x ∷ more) h = absurd (omega (arith, h))
  prefixes-join (suc most) [] h = refl
  prefixes-join (suc most) (x ∷ more) h =
      let size : ℕ = longest fits (x ∷ more) (length (x ∷ more)) in
      let some : 1 ≤ size = longest-some (x ∷ more) (length (x ∷ more)) in
      ap (λ (rest : List X). take size (x ∷ more) ++ rest)
      (prefixes-join most (drop size (x ∷ more)) (omega (arith, length-drop size (x ∷ more), some, h)))
      ∙ take-append-drop size (x ∷ more)

  -- the prefixes are the whole list
  pub cut-joins : (items : List X) → joined (cut fits items) ≡ items
  cut-joins items = prefixes-join (length items) items (omega arith)

  all-drop : (P : X → Type 0) (n : ℕ) (items : List X) → AllByRecursion P items → AllByRecursion P (drop n items)
  all-drop P zero items h = h
  all-drop P (suc n) [] h = h
  all-drop P (suc n) (x ∷ more) h = all-drop P n more h.1

  one-or-more : (x : X) (more : List X) (size : ℕ) → 1 ≤ size → fits (x ∷ []) ≡ true
      → (1 < size → fits (take size (x ∷ more)) ≡ true) → fits (take size (x ∷ more)) ≡ true
  one-or-more x more size some alone many = elim (cases_lt 1 size) [
    | inl above ↦ many above
    | inr one ↦ let e : size ≡ 1 = omega (arith, one, some) in
        ap (λ (n : ℕ). fits (take n (x ∷ more))) e ∙ alone
  ]

  prefixes-fit : (most : ℕ) (items : List X) → AllByRecursion (λ (x : X). fits (x ∷ []) ≡ true) items
      → AllByRecursion (λ (d : List X). fits d ≡ true) (prefixes fits most items)
  prefixes-fit zero items h = tt
  prefixes-fit (suc most) [] h = tt
  prefixes-fit (suc most) (x ∷ more) h =
      let whole : List X = x ∷ more in
      let size : ℕ = longest fits (x ∷ more) (length (x ∷ more)) in (
        one-or-more x more size (longest-some (x ∷ more) (length (x ∷ more))) h.0
            (longest-fits (x ∷ more) (length (x ∷ more))),
        prefixes-fit most (drop size (x ∷ more))
            (all-drop (λ (y : X). fits (y ∷ []) ≡ true) size (x ∷ more) h),
      )

  -- where each item fits alone, each prefix fits
  pub cut-fits : (items : List X) → AllByRecursion (λ (x : X). fits (x ∷ []) ≡ true) items
      → AllByRecursion (λ (d : List X). fits d ≡ true) (cut fits items)
  cut-fits items h = prefixes-fit (length items) items h
