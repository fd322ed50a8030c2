-- Which bytes spell a value of a shape (RFC 4506 section 4).
use Rattle.std.specs.Prelude.{◌≡◌, ◌≢◌, ℕ, ◌<◌, ◌^◌, ◌⊎◌, List, [], ◌++◌, length}
use Rattle.std.specs.List.{AllByRecursion}
use Rattle.std.specs.Int.{w32, w64, to_be_bytes}
use Rattle.wire_spec.specs.declared.pad.Pad.{Pad}
use Rattle.wire_spec.specs.declared.pad.Pad.TheVariants as pads
use Rattle.wire_spec.specs.Padding.{padding_of}
use Rattle.wire_spec.specs.Shapes.{
  Shape,
  word,
  hyper,
  fixed,
  opaque,
  array,
  structure,
  union,
  frame,
  Shapes,
  end,
  ◌then◌,
  Table,
  empty,
  row,
  Tree,
  known,
  other,
  Trees,
  none,
  ◌&◌,
  count_of,
}

-- the bytes are a first part and then a second
abbrev pub Joined : (List ℕ → Type 0) → (List ℕ → Type 0) → List ℕ → Type 0
Joined First Second bytes = (a : List ℕ) × (b : List ℕ) × First a × Second b × (bytes ≡ a ++ b)

-- four bytes, the most significant first (section 4.2)
abbrev pub IsWord : ℕ → List ℕ → Type 0
IsWord n bytes = (n < 2 ^ 32) × (bytes ≡ to_be_bytes w32 n)

-- eight bytes, the most significant first (section 4.5)
abbrev pub IsHyper : ℕ → List ℕ → Type 0
IsHyper n bytes = (n < 2 ^ 64) × (bytes ≡ to_be_bytes w64 n)

-- padding is zero, or free, as it is read
abbrev pub MayPad : Pad → List ℕ → Type 0
MayPad pads.Any bytes = Unit {0}
MayPad pads.Zero bytes = AllByRecursion (λ b. b ≡ 0) bytes

-- these are the bytes v and their padding (section 4.9)
abbrev pub IsPadded : Pad → List ℕ → List ℕ → Type 0
IsPadded p v bytes = Joined (λ a. a ≡ v) (λ b. (length b ≡ padding_of (length v)) × MayPad p b) bytes

-- these are n bytes v and their padding
abbrev pub IsFixed : Pad → ℕ → List ℕ → List ℕ → Type 0
IsFixed p n v bytes = (length v ≡ n) × IsPadded p v bytes

-- a length word, and then that many bytes with their padding (section 4.10)
abbrev pub IsOpaque : Pad → List ℕ → List ℕ → Type 0
IsOpaque p v bytes = Joined (IsWord (length v)) (IsPadded p v) bytes

-- each of the values, one after the other
abbrev pub Each : (Tree → List ℕ → Type 0) → Trees → List ℕ → Type 0
Each P none bytes = bytes ≡ []
Each P (t & more) bytes = Joined (P t) (Each P more) bytes

-- the table has no row for this word
abbrev pub IsAbsent : ℕ → Table → Type 0
IsAbsent k empty = Unit {0}
IsAbsent k (row j s more) = (k ≢ j) × IsAbsent k more

abbrev mutual
  -- the bytes spell this value of the shape
  pub Spells : Pad → Shape → Tree → List ℕ → Type 0
  Spells p word (word n) bytes = IsWord n bytes
  Spells p hyper (hyper n) bytes = IsHyper n bytes
  Spells p (fixed n) (fixed v) bytes = IsFixed p n v bytes
  Spells p opaque (opaque v) bytes = IsOpaque p v bytes
  Spells p (array s) (array ts) bytes = Joined (IsWord (count_of ts)) (Each (Spells p s) ts) bytes
  Spells p (structure ss) (structure ts) bytes = SpellsAll p ss ts bytes
  Spells p (union u T) (union k t) bytes = Joined (IsWord k) (SpellsRow p T k t) bytes
  Spells p (frame T) (known k t tail) bytes = Joined (IsWord k) (λ rest.
      (body : List ℕ) × Joined (SpellsRow p T k t) (λ b. b ≡ tail) body × IsOpaque p body rest) bytes
  Spells p (frame T) (other k body) bytes = IsAbsent k T × Joined (IsWord k) (IsOpaque p body) bytes
  Spells p _ _ bytes = ⊥

  -- the members, one after the other
  pub SpellsAll : Pad → Shapes → Trees → List ℕ → Type 0
  SpellsAll p end none bytes = bytes ≡ []
  SpellsAll p (s then ss) (t & ts) bytes = Joined (Spells p s t) (SpellsAll p ss ts) bytes
  SpellsAll p _ _ bytes = ⊥

  -- by the shape that the table has for k
  pub SpellsRow : Pad → Table → ℕ → Tree → List ℕ → Type 0
  SpellsRow p empty k t bytes = ⊥
  SpellsRow p (row j s T) k t bytes = ((k ≡ j) × Spells p s t bytes) ⊎ ((k ≢ j) × SpellsRow p T k t bytes)
