-- The generation of a source goes on with its resets alone.
use Rattle.std.proofs.Common.{◌≡◌, ℕ, ◌+◌, ◌<◌, Bool, false, cond, List, ◌∷◌, arith, ap}
use Rattle.std.specs.List.{count_by}
use Rattle.std.proofs.lemmas.List.Sums.{sum_by-cons}
use Rattle.agent_spec.specs.Sources.{Source, same_source}
use Rattle.agent_spec.specs.Events.{Event, Reset, is_reset_of, generation_after, turn_after}
use Rattle.agent_spec.proofs.Keys.{source-self}

generation-stays : (source : Source) (e : Event) (events : List Event) → is_reset_of source e ≡ false
    → generation_after source (e ∷ events) ≡ generation_after source events
generation-stays source e events stay =
    let c : count_by (is_reset_of source) (e ∷ events) ≡ cond (is_reset_of source e) 1 0 + count_by (is_reset_of source) events =
    sum_by-cons (λ (x : Event). cond (is_reset_of source x) 1 0) e events in
    let none : ℕ = 0 in
    let zero_more : cond (is_reset_of source e) 1 0 ≡ none = ap (λ (b : Bool). cond b 1 0) stay in
    omega (arith, c, zero_more)

pub turn-stays : (source : Source) (e : Event) (events : List Event) → is_reset_of source e ≡ false
    → turn_after source (e ∷ events) ≡ turn_after source events
turn-stays source e events stay =
    ap (λ (n : ℕ). record { source = source; generation = n }) (generation-stays source e events stay)

pub generation-goes-on : (source : Source) (events : List Event)
    → generation_after source events < generation_after source (Reset source ∷ events)
generation-goes-on source events =
    let c : count_by (is_reset_of source) (Reset source ∷ events) ≡ cond (same_source source source) 1 0 + count_by (is_reset_of source) events =
    sum_by-cons (λ (x : Event). cond (is_reset_of source x) 1 0) (Reset source) events in
    let one : ℕ = 1 in
    let one_more : cond (same_source source source) 1 0 ≡ one = ap (λ (b : Bool). cond b 1 0) (source-self source) in
    omega (arith, c, one_more)
