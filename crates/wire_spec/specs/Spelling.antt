-- The one spelling of a value whose padding is zero.
use Rattle.std.specs.Prelude.{◌≡◌, ◌≢◌, ℕ, ◌<◌, ◌^◌, ◌⊎◌, List, [], ◌++◌, length, replicate}
use Rattle.std.specs.Int.{w32, w64, to_be_bytes}
use Rattle.wire_spec.specs.Padding.{padding_of}
use Rattle.wire_spec.specs.Shapes.{
  Shape,
  word,
  hyper,
  fixed,
  opaque,
  array,
  structure,
  union,
  frame,
  Shapes,
  end,
  ◌then◌,
  Table,
  empty,
  row,
  Tree,
  known,
  other,
  Trees,
  none,
  ◌&◌,
  count_of,
}
use Rattle.wire_spec.specs.Spells.{IsAbsent}

-- bytes and zero padding
abbrev pub padded : List ℕ → List ℕ
padded v = v ++ replicate (padding_of (length v)) 0

-- a length word, bytes and zero padding
abbrev pub counted : List ℕ → List ℕ
counted v = to_be_bytes w32 (length v) ++ padded v

abbrev mutual
  pub spell : Tree → List ℕ
  spell (word n) = to_be_bytes w32 n
  spell (hyper n) = to_be_bytes w64 n
  spell (fixed v) = padded v
  spell (opaque v) = counted v
  spell (array ts) = to_be_bytes w32 (count_of ts) ++ spell_all ts
  spell (structure ts) = spell_all ts
  spell (union k t) = to_be_bytes w32 k ++ spell t
  spell (known k t tail) = to_be_bytes w32 k ++ counted (spell t ++ tail)
  spell (other k v) = to_be_bytes w32 k ++ counted v

  pub spell_all : Trees → List ℕ
  spell_all none = []
  spell_all (t & more) = spell t ++ spell_all more

abbrev pub AllTrees : (Tree → Type 0) → Trees → Type 0
AllTrees P none = Unit {0}
AllTrees P (t & more) = P t × AllTrees P more

-- a lawful value of a shape: its numbers, counts and lengths fit their words
abbrev mutual
  pub IsLawful : Shape → Tree → Type 0
  IsLawful word (word n) = n < 2 ^ 32
  IsLawful hyper (hyper n) = n < 2 ^ 64
  IsLawful (fixed n) (fixed v) = length v ≡ n
  IsLawful opaque (opaque v) = length v < 2 ^ 32
  IsLawful (array s) (array ts) = (count_of ts < 2 ^ 32) × AllTrees (IsLawful s) ts
  IsLawful (structure ss) (structure ts) = AreLawful ss ts
  IsLawful (union u T) (union k t) = (k < 2 ^ 32) × IsLawfulRow T k t
  IsLawful (frame T) (known k t tail) = (k < 2 ^ 32) × (length (spell t ++ tail) < 2 ^ 32) × IsLawfulRow T k t
  IsLawful (frame T) (other k v) = (k < 2 ^ 32) × (length v < 2 ^ 32) × IsAbsent k T
  IsLawful _ _ = ⊥

  pub AreLawful : Shapes → Trees → Type 0
  AreLawful end none = Unit {0}
  AreLawful (s then ss) (t & ts) = IsLawful s t × AreLawful ss ts
  AreLawful _ _ = ⊥

  pub IsLawfulRow : Table → ℕ → Tree → Type 0
  IsLawfulRow empty k t = ⊥
  IsLawfulRow (row j s T) k t = ((k ≡ j) × IsLawful s t) ⊎ ((k ≢ j) × IsLawfulRow T k t)
