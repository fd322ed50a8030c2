-- What values showed at their ends, if there is one. Values have the LATEST FIRST.
use Rattle.std.specs.Prelude.{Option, Some, None, List, [], ◌∷◌}
use Rattle.count_spec.specs.Rise.{NumberedValue}
use Rattle.trial_spec.specs.CloseTests.{Ends, ends_of}

abbrev pub ends_in : List NumberedValue → Option Ends
ends_in [] = None
ends_in (v ∷ before) = Some (ends_of v before)
