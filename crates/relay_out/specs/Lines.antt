-- The lines that tell what a run made of receivers, one for each route. Each ends with a line feed.
use Rattle.std.specs.Prelude.{ℕ, ◌+◌, ◌++◌, Bool, true, false, List, [], ◌∷◌, codes, decimal}
use Rattle.std.specs.List.{concat}
use Rattle.relay_out.specs.declared.progress.Progress.{Progress}
use Rattle.relay_out.specs.Routes.{Route}
use Rattle.relay_out.specs.Relays.{progress_at}

abbrev pub yes_or_no : Bool → List ℕ
yes_or_no true = codes "yes"
yes_or_no false = codes "no"

-- the line of the route with this number
unfoldable pub relay_line : ℕ → List ℕ → Progress → List ℕ
relay_line number place progress = concat (
    codes "relay " ∷ decimal number ∷
    codes " place " ∷ place ∷
    codes " passed " ∷ decimal progress.passed ∷
    codes " stopped " ∷ yes_or_no progress.stopped ∷
    codes "\n" ∷ [])

-- the lines of these routes, of which the first stands at this place, counted from 0
abbrev pub relay_lines : ℕ → List Route → List Progress → List ℕ
relay_lines place [] progress = []
relay_lines place (route ∷ routes) progress =
    relay_line (place + 1) route.place (progress_at progress place) ++ relay_lines (place + 1) routes progress

abbrev pub relay_text : List Route → List Progress → List ℕ
relay_text routes progress = relay_lines 0 routes progress
