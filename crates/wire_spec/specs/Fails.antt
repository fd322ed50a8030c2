-- Where bytes fail to spell a shape, and how: the first fault that a reader meets from the front on.
use Rattle.std.specs.Prelude.{◌≡◌, ◌≢◌, ℕ, zero, suc, ◌+◌, ◌<◌, ◌≤◌, ◌⊎◌, List, [], ◌∷◌, ◌++◌, length}
use Rattle.wire_spec.specs.declared.pad.Pad.{Pad}
use Rattle.wire_spec.specs.declared.pad.Pad.TheVariants as pads
use Rattle.wire_spec.specs.declared.fault.Fault.{Fault}
use Rattle.wire_spec.specs.declared.fault.FaultKind.{FaultKind}
use Rattle.wire_spec.specs.declared.fault.FaultKind.TheVariants as kinds
use Rattle.wire_spec.specs.Padding.{padding_of}
use Rattle.wire_spec.specs.Shapes.{
  Union,
  version,
  address,
  segment,
  Shape,
  word,
  hyper,
  fixed,
  opaque,
  array,
  structure,
  union,
  frame,
  Shapes,
  end,
  ◌then◌,
  Table,
  empty,
  row,
  Tree,
  Trees,
  count_of,
}
use Rattle.wire_spec.specs.Spells.{Joined, IsWord, Each, IsAbsent, Spells, SpellsRow}

-- what is left of the innermost body, and the place of its first byte
pub record Remaining : Type 0 where
  pub at : ℕ
  pub bytes : List ℕ

-- what is left behind a front
abbrev pub past : Remaining → List ℕ → List ℕ → Remaining
past b front rest = record { at = b.at + length front; bytes = rest }

abbrev pub short : ℕ → ℕ → ℕ → Fault
short at need left = record { at = at; kind = kinds.Short need left }

abbrev pub bad_padding : ℕ → Fault
bad_padding at = record { at = at; kind = kinds.Pad }

-- a discriminant outside of its union
abbrev pub unknown_word : Union → ℕ → ℕ → Fault
unknown_word version at found = record { at = at; kind = kinds.Version found }
unknown_word address at found = record { at = at; kind = kinds.AddressType found }
unknown_word segment at found = record { at = at; kind = kinds.SegmentType found }

-- a front is sound, and what is left behind it fails
abbrev pub After : (List ℕ → Type 0) → (Remaining → Fault → Type 0) → Remaining → Fault → Type 0
After Sound Bad b f = (a : List ℕ) × (rest : List ℕ) × Sound a × (b.bytes ≡ a ++ rest) × Bad (past b a rest) f

-- an item of n bytes with its padding isn't there
abbrev pub FailsItem : ℕ → Remaining → Fault → Type 0
FailsItem n b f = (length b.bytes < n) × (f ≡ short b.at n (length b.bytes))

-- the first byte that isn't zero stands at this place
abbrev pub FirstNonzero : ℕ → List ℕ → ℕ → Type 0
FirstNonzero at [] place = ⊥
FirstNonzero at (zero ∷ bytes) place = FirstNonzero (suc at) bytes place
FirstNonzero at (suc b ∷ bytes) place = place ≡ at

-- these padding bytes, the first of which stands at `at`, aren't zero though they must be
abbrev pub FailsPadding : Pad → ℕ → List ℕ → Fault → Type 0
FailsPadding pads.Any at bytes f = ⊥
FailsPadding pads.Zero at bytes f = (place : ℕ) × FirstNonzero at bytes place × (f ≡ bad_padding place)

-- Of n bytes with their padding: they aren't there, or their inside fails, or it is sound and the padding fails.
abbrev pub FailsPadded :
    Pad → ℕ → (Remaining → Fault → Type 0) → (List ℕ → Type 0) → Remaining → Fault → Type 0
FailsPadded p n Bad Sound b f = FailsItem (n + padding_of n) b f
    ⊎ ((v : List ℕ) × (padding : List ℕ) × (rest : List ℕ)
    × (length v ≡ n) × (length padding ≡ padding_of n) × (b.bytes ≡ v ++ (padding ++ rest))
    × (Bad (record { at = b.at; bytes = v }) f ⊎ (Sound v × FailsPadding p (b.at + n) padding f)))

abbrev pub FailsFixed : Pad → ℕ → Remaining → Fault → Type 0
FailsFixed p n b f = FailsPadded p n (λ _ _. ⊥) (λ _. Unit {0}) b f

-- fewer than n are sound, and the next one fails
abbrev pub FailsAmong :
    (Tree → List ℕ → Type 0) → (Remaining → Fault → Type 0) → ℕ → Remaining → Fault → Type 0
FailsAmong Sound Bad n b f = (ts : Trees) × (count_of ts < n) × After (Each Sound ts) Bad b f

-- the body of a frame of format k is sound: the table hasn't the format, or it is a value and a tail
abbrev pub IsSoundBody : Pad → Table → ℕ → List ℕ → Type 0
IsSoundBody p T k body =
    IsAbsent k T ⊎ ((t : Tree) × (tail : List ℕ) × Joined (SpellsRow p T k t) (λ b. b ≡ tail) body)

abbrev mutual
  -- the bytes fail to spell the shape, and this is the first fault
  pub Fails : Pad → Shape → Remaining → Fault → Type 0
  Fails p word b f = FailsItem 4 b f
  Fails p hyper b f = FailsItem 8 b f
  Fails p (fixed n) b f = FailsFixed p n b f
  Fails p opaque b f = FailsItem 4 b f ⊎ ((n : ℕ) × After (IsWord n) (FailsFixed p n) b f)
  Fails p (array s) b f =
      FailsItem 4 b f ⊎ ((n : ℕ) × After (IsWord n) (FailsAmong (Spells p s) (Fails p s) n) b f)
  Fails p (structure ss) b f = FailsMember p ss b f
  Fails p (union u T) b f = FailsItem 4 b f ⊎ ((k : ℕ) × After (IsWord k) (FailsUnion p u b.at T k) b f)
  Fails p (frame T) b f = FailsItem 4 b f ⊎ ((k : ℕ) × After (IsWord k) (λ c f.
      FailsItem 4 c f ⊎ ((n : ℕ) × After (IsWord n)
      (FailsPadded p n (FailsRow p T k) (IsSoundBody p T k)) c f)) b f)

  -- the members in front are spelled, and the next one fails
  pub FailsMember : Pad → Shapes → Remaining → Fault → Type 0
  FailsMember p end b f = ⊥
  FailsMember p (s then ss) b f = Fails p s b f ⊎ ((t : Tree) × After (Spells p s t) (FailsMember p ss) b f)

  -- what the union has for k fails; behind the last row k, which stands at `at`, is outside of the union
  pub FailsUnion : Pad → Union → ℕ → Table → ℕ → Remaining → Fault → Type 0
  FailsUnion p u at empty k b f = f ≡ unknown_word u at k
  FailsUnion p u at (row j s T) k b f = ((k ≡ j) × Fails p s b f) ⊎ ((k ≢ j) × FailsUnion p u at T k b f)

  -- the shape that a frame's table has for the format k fails
  pub FailsRow : Pad → Table → ℕ → Remaining → Fault → Type 0
  FailsRow p empty k b f = ⊥
  FailsRow p (row j s T) k b f = ((k ≡ j) × Fails p s b f) ⊎ ((k ≢ j) × FailsRow p T k b f)

-- ---- where faults may stand

-- an item that is short has fewer bytes left than it needs
abbrev pub LacksBytes : FaultKind → Type 0
LacksBytes (kinds.Short need left) = left < need
LacksBytes _ = Unit {0}

-- the fault stands in these bytes or right behind them
pub record IsWithin (b : Remaining) (f : Fault) : Type 0 where
  pub from : b.at ≤ f.at
  pub to : f.at ≤ b.at + length b.bytes
  pub lacks : LacksBytes f.kind
