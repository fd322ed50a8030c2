-- What briefs make of consumers, for any kind of consumer and of brief.
use Rattle.std.specs.Prelude.{◌≡◌, Bool, true, false, not, List, [], ◌∷◌}
use Rattle.std.specs.List.{AllZip, filter}

module _ {X B : Type 0} (step : X → B → X → Type 0) (done : X → Bool) where
  -- a consumer takes briefs one by one until it is done
  abbrev pub Fed : List B → X → X → Type 0
  Fed [] x after = after ≡ x
  Fed (b ∷ bs) x after = (done x ≡ true → after ≡ x) × (done x ≡ false → (next : X) × step x b next × Fed bs next after)

  -- those that are held after briefs: in order, the ones that the briefs don't leave done; without a brief all
  abbrev pub Held : List B → List X → List X → Type 0
  Held [] xs ys = ys ≡ xs
  Held (b ∷ bs) xs ys = (afters : List X) × AllZip (Fed (b ∷ bs)) xs afters × (ys ≡ filter (λ y. not (done y)) afters)
