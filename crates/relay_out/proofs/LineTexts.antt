-- The lines from one route on.
use Rattle.std.proofs.Common.{◌≡◌, ℕ, suc, ◌+◌, ◌<◌, List, ◌++◌, Some, length, drop, drop-cons, add-one, ap, subst, sym, ◌∙◌}
use Rattle.std.specs.Prelude.{slice_get, IfSome}
use Rattle.std.proofs.lemmas.Option.{get_or_from_slice_get, slice_get_within}
use Rattle.relay_out.specs.declared.progress.Progress.{Progress}
use Rattle.relay_out.specs.Routes.{Route}
use Rattle.relay_out.specs.Relays.{progress_at}
use Rattle.relay_out.specs.Lines.{relay_line, relay_lines}
use Rattle.relay_out.proofs.Steps.{element}

lines_at : (progress : List Progress) (routes : List Route) (place : ℕ) (route : Route) → slice_get routes place ≡ Some route
    → relay_lines place (drop place routes) progress
    ≡ relay_line (place + 1) route.place (progress_at progress place) ++ relay_lines (place + 1) (drop (place + 1) routes) progress
lines_at progress routes place route there =
    ap (λ (l : List Route). relay_lines place l progress) (drop-cons routes place route (slice_get_within routes place route there))
    ∙ ap (λ (r : Route). relay_line (place + 1) r.place (progress_at progress place) ++ relay_lines (place + 1) (drop (suc place) routes) progress)
    (get_or_from_slice_get routes place route route there)
    ∙ ap (λ (n : ℕ). relay_line (place + 1) route.place (progress_at progress place) ++ relay_lines (place + 1) (drop n routes) progress) (sym (add-one place))

-- the line of the route at this place, whose place is this text, and those behind it
pub line_next : (progress : List Progress) (routes : List Route) (place : ℕ) (text : List ℕ) (p : Progress) → place < length routes
    → IfSome (slice_get routes place) (λ r. text ≡ r.place) → p ≡ progress_at progress place
    → relay_lines place (drop place routes) progress
    ≡ relay_line (place + 1) text p ++ relay_lines (place + 1) (drop (place + 1) routes) progress
line_next progress routes place text p inside says is =
    let there = element routes place inside in
    let to_place : text ≡ there.0.place = subst (λ o. IfSome o (λ (r : Route). text ≡ r.place)) there.1 says in
    lines_at progress routes place there.0 there.1
    ∙ ap (λ (l : List ℕ). relay_line (place + 1) l (progress_at progress place) ++ relay_lines (place + 1) (drop (place + 1) routes) progress) (sym to_place)
    ∙ ap (λ (q : Progress). relay_line (place + 1) text q ++ relay_lines (place + 1) (drop (place + 1) routes) progress) (sym is)
