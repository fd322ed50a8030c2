-- The places and the routes that words name, and how many receives they ask for.
use Rattle.std.specs.Prelude.{ℕ, ◌==◌, List, Option, Some, None, if◌then◌else◌, option_and_then}
use Rattle.relay_out.specs.Routes.{Route, routes_in}
use Rattle.command_words.specs.Rules.{Text}
use Rattle.command_words.specs.Numbers.{number_in}

-- the place of the text, or the usual one where there is no text
abbrev pub place_or : Text → Option Text → Text
place_or usual None = usual
place_or usual (Some text) = text

abbrev pub unless_zero : ℕ → Option ℕ
unless_zero n = if n == 0 then None else Some n

-- the number that the text writes, at least 1
abbrev pub turns_asked : Option Text → Option ℕ
turns_asked None = None
turns_asked (Some text) = option_and_then unless_zero (number_in text)

-- the routes that the text says
abbrev pub routes_asked : Option Text → Option (List Route)
routes_asked text = option_and_then routes_in text
