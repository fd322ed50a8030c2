-- Where the body of a frame stands.
use Rattle.std.specs.Prelude.{◌≡◌, ℕ, ◌+◌, ◌≤◌, List, [], ◌∷◌, ◌++◌, length, take, drop}
use Rattle.wire_spec.specs.Fails.{Remaining}
use Rattle.data_format.specs.Views.{FrameView, body_of}

-- the part is the range of the whole from this place on
abbrev pub IsRange : List ℕ → ℕ → List ℕ → Type 0
IsRange whole at part = (at + length part ≤ length whole) × (part ≡ take (length part) (drop at whole))

-- the body of each frame is the range of the whole at its place
abbrev pub AreRanges : List ℕ → List FrameView → Type 0
AreRanges whole [] = Unit {0}
AreRanges whole (f ∷ fs) = IsRange whole f.at f.body × AreRanges whole fs

-- ---- within a body, whose first byte has a place of its own

-- the part stands within the whole, and its place is where
abbrev pub StandsIn : Remaining → Remaining → Type 0
StandsIn whole part = (front : List ℕ) × (back : List ℕ)
    × (whole.bytes ≡ front ++ (part.bytes ++ back)) × (part.at ≡ whole.at + length front)

-- the body of each frame does
abbrev pub StandIn : Remaining → List FrameView → Type 0
StandIn whole [] = Unit {0}
StandIn whole (f ∷ fs) = StandsIn whole (body_of f) × StandIn whole fs

-- this is the rest of the bytes, behind some front
abbrev pub EndsWith : List ℕ → List ℕ → Type 0
EndsWith bytes rest = (front : List ℕ) × (bytes ≡ front ++ rest)
