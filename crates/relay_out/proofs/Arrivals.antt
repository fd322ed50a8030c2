-- Those of what comes that go on.
use Rattle.std.proofs.Common.{◌≡◌, Bool, true, false, cond, List, [], ◌∷◌, ◌++◌, map, refl, ap}
use Rattle.std.specs.List.{filter}
use Rattle.relay_out.specs.Routes.{AgentDatagram}
use Rattle.relay_out.specs.Runs.{Arrival, firsts}

pub first_more : (arrivals : List Arrival) (d : AgentDatagram)
    → firsts (arrivals ++ record { datagram = d; is_first = true } ∷ []) ≡ firsts arrivals ++ d ∷ []
first_more [] d = refl
first_more (a ∷ arrivals) d = go a.is_first (first_more arrivals d)
  where
    Rest : List Arrival → List Arrival
    Rest l = filter (λ (b : Arrival). b.is_first) l

    go : (b : Bool) → firsts (arrivals ++ record { datagram = d; is_first = true } ∷ []) ≡ firsts arrivals ++ d ∷ []
        → map (λ (a : Arrival). a.datagram) (cond b (a ∷ Rest (arrivals ++ record { datagram = d; is_first = true } ∷ [])) (Rest (arrivals ++ record { datagram = d; is_first = true } ∷ [])))
        ≡ map (λ (a : Arrival). a.datagram) (cond b (a ∷ Rest arrivals) (Rest arrivals)) ++ d ∷ []
    go true others = ap (λ (l : List AgentDatagram). a.datagram ∷ l) others
    go false others = others

pub others_rest : (arrivals : List Arrival) (d : AgentDatagram)
    → firsts (arrivals ++ record { datagram = d; is_first = false } ∷ []) ≡ firsts arrivals
others_rest [] d = refl
others_rest (a ∷ arrivals) d = go a.is_first (others_rest arrivals d)
  where
    Rest : List Arrival → List Arrival
    Rest l = filter (λ (b : Arrival). b.is_first) l

    go : (b : Bool) → firsts (arrivals ++ record { datagram = d; is_first = false } ∷ []) ≡ firsts arrivals
        → map (λ (a : Arrival). a.datagram) (cond b (a ∷ Rest (arrivals ++ record { datagram = d; is_first = false } ∷ [])) (Rest (arrivals ++ record { datagram = d; is_first = false } ∷ [])))
        ≡ map (λ (a : Arrival). a.datagram) (cond b (a ∷ Rest arrivals) (Rest arrivals))
    go true others = ap (λ (l : List AgentDatagram). a.datagram ∷ l) others
    go false others = others
