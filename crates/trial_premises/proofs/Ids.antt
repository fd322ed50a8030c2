-- No two sources of a sub-agent have one id.
use Rattle.std.proofs.Common.{◌≡◌, ◌∙◌, ℕ, zero, suc, Bool, true, false, ◌&&◌, ◌||◌, Some, List, [], ◌∷◌, ◌++◌, map, refl, ap, subst}
use Rattle.std.specs.Prelude.{◌==◌, slice_get}
use Rattle.std.specs.List.{AllByRecursion}
use Rattle.std.proofs.lemmas.Option.{same_Some}
use Rattle.books_spec.specs.Listing.{same_flag, same_id, among, AreDistinct}
use Rattle.agent_spec.specs.Sources.{Source, FlowSetup, CounterSetup, same_kind, same_source}
use Rattle.account_spec.specs.Histories.{SubAgent, flow_sources, counter_sources, IsSubAgent}
use Rattle.account_spec.specs.Deliveries.{id_of}
use Rattle.trial_premises.specs.Streams.{ids_of}

same-flags : (a b : Bool) → same_flag a b ≡ same_kind a b
same-flags true b = refl
same-flags false b = refl

same-ids : (s t : Source) → same_id (id_of s) (id_of t) ≡ same_source s t
same-ids s t = ap (λ (b : Bool). b && (s.class == t.class) && (s.index == t.index)) (same-flags s.flow t.flow)

among-ids : (s : Source) (xs : List Source) → among same_id (map id_of xs) (id_of s) ≡ among same_source xs s
among-ids s [] = refl
among-ids s (x ∷ more) =
    let later = among-ids s more in
    λ j. same-ids s x j || later j

distinct-ids : (xs : List Source) → AreDistinct same_source xs → AreDistinct same_id (map id_of xs)
distinct-ids [] h = tt
distinct-ids (x ∷ more) h = (among-ids x more ∙ h.0, distinct-ids more h.1)

-- ---- flow sources and counter sources

not-among : (s : Source) (ys : List Source) → s.flow ≡ true → AllByRecursion (λ (y : Source). y.flow ≡ false) ys
    → among same_source ys s ≡ false
not-among s [] flow h = refl
not-among s (y ∷ more) flow h =
    let kind : same_kind s.flow y.flow ≡ false = λ j. same_kind (flow j) (h.0 j) in
    (λ j. (kind j && (s.class == y.class) && (s.index == y.index)) || among same_source more s)
    ∙ not-among s more flow h.1

among-both : (s : Source) (xs ys : List Source) → among same_source xs s ≡ false → among same_source ys s ≡ false
    → among same_source (xs ++ ys) s ≡ false
among-both s [] ys e f = f
among-both s (x ∷ more) ys e f = go (same_source s x) e (λ g. among-both s more ys g f)
  where
    go : (b : Bool) → (b || among same_source more s) ≡ false
        → (among same_source more s ≡ false → among same_source (more ++ ys) s ≡ false)
        → (b || among same_source (more ++ ys) s) ≡ false
    go true g later = g
    go false g later = later g

distinct-both : (xs ys : List Source) → AllByRecursion (λ (x : Source). x.flow ≡ true) xs
    → AllByRecursion (λ (y : Source). y.flow ≡ false) ys → AreDistinct same_source xs → AreDistinct same_source ys
    → AreDistinct same_source (xs ++ ys)
distinct-both [] ys flows counters h k = k
distinct-both (x ∷ more) ys flows counters h k = (
  among-both x more ys h.0 (not-among x ys flows.0 counters),
  distinct-both more ys flows.1 counters h.1 k,
)

all-mapped : {X Y : Type 0} (f : X → Y) (P : Y → Type 0) (xs : List X) → AllByRecursion (λ (x : X). P (f x)) xs
    → AllByRecursion P (map f xs)
all-mapped f P [] h = tt
all-mapped f P (x ∷ more) h = (h.0, all-mapped f P more h.1)

pub ids-differ : (a : SubAgent) → IsSubAgent a → AreDistinct same_id (ids_of a)
ids-differ a h = distinct-ids (flow_sources a.setup ++ counter_sources a.setup)
    (distinct-both (flow_sources a.setup) (counter_sources a.setup)
    (all-mapped (λ (f : FlowSetup). f.source) (λ (x : Source). x.flow ≡ true) a.setup.flows h.setup.flows)
    (all-mapped (λ (c : CounterSetup). c.source) (λ (x : Source). x.flow ≡ false) a.setup.counters h.setup.counters)
    h.setup.flows_once h.setup.counters_once)

-- what holds of all holds at a place
pub all-at : {X : Type 0} (P : X → Type 0) (xs : List X) (p : ℕ) (x : X) → AllByRecursion P xs → slice_get xs p ≡ Some x → P x
all-at P [] p x h at = absurd cc
all-at P (y ∷ more) zero x h at = subst P (same_Some y x at) h.0
all-at P (y ∷ more) (suc p) x h at = all-at P more p x h.1 at
