-- Lists of numbers that are bytes.
use Rattle.std.specs.Prelude.{◌≡◌, ℕ, ◌<◌, List, ◌++◌, get_or}

-- each is below 256
abbrev pub AreBytes : List ℕ → Type 0
AreBytes bytes = (i : ℕ) → get_or bytes i 0 < 256

-- they begin with this front
abbrev pub BeginsWith : List ℕ → List ℕ → Type 0
BeginsWith bytes front = (more : List ℕ) × (bytes ≡ front ++ more)
