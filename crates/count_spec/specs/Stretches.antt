-- Stretches: a list of items that is cut where an item begins the next stretch, as the datagrams of a stream are by
-- restarts of its sub-agent. Every list has the LATEST FIRST, and the current stretch first.
use Rattle.std.specs.Prelude.{List, [], ◌∷◌}
use Rattle.count_spec.specs.declared.stretch_place.StretchPlace.{StretchPlace}
use Rattle.count_spec.specs.declared.stretch_place.StretchPlace.TheVariants.{Current, Next, Stale}

-- the stretches with one item more, at its place
abbrev pub placed : {X : Type 0} → StretchPlace → X → List (List X) → List (List X)
placed Current x [] = (x ∷ []) ∷ []
placed Current x (current ∷ closed) = (x ∷ current) ∷ closed
placed Next x stretches = (x ∷ []) ∷ stretches
placed Stale x stretches = stretches

-- the stretches of these items, by the place of an item after stretches
abbrev pub stretches : {X : Type 0} → (List (List X) → X → StretchPlace) → List X → List (List X)
stretches place [] = []
stretches {X} place (x ∷ before) =
    let so_far : List (List X) = stretches place before in placed (place so_far x) x so_far

-- the item, where it is stale, and the stale ones before it
abbrev pub with_stale : {X : Type 0} → StretchPlace → X → List X → List X
with_stale Current x stale = stale
with_stale Next x stale = stale
with_stale Stale x stale = x ∷ stale

-- the items that are in no stretch
abbrev pub stale_among : {X : Type 0} → (List (List X) → X → StretchPlace) → List X → List X
stale_among place [] = []
stale_among place (x ∷ before) = with_stale (place (stretches place before) x) x (stale_among place before)
