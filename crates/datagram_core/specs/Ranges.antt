-- Where the records of samples stand.
use Rattle.std.specs.Prelude.{ℕ, List, [], ◌∷◌}
use Rattle.data_format.specs.Ranges.{AreRanges, StandIn}
use Rattle.data_format.specs.Views.{FrameView, body_of}

-- whatever stands in the body of one of the frames is a range of the whole
abbrev pub BodiesAreRanges : List ℕ → List FrameView → Type 0
BodiesAreRanges whole [] = Unit {0}
BodiesAreRanges whole (f ∷ fs) =
    ((records : List FrameView) → StandIn (body_of f) records → AreRanges whole records) × BodiesAreRanges whole fs
