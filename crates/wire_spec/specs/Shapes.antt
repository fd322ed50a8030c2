-- What a format is made of (RFC 4506 section 4; sFlow Version 5, section 5), and the values that it has.
use Rattle.std.specs.Prelude.{ℕ, suc, List}

-- the unions of the formats. It says which fault a discriminant outside of its union is
pub data Union : Type 0 where
  version : Union
  address : Union
  segment : Union

-- The parts of a format. A word is an unsigned integer of 32 bits, a hyper one of 64. Opaque bytes have a
-- fixed length, or a length word in front of them. An array has a count word in front. A union is a word and
-- what its table has for that word. A frame is a format word and opaque bytes, the body: what the table has for
-- that format, and then a tail.
mutual
  pub data Shape : Type 0 where
    word : Shape
    hyper : Shape
    fixed : ℕ → Shape
    opaque : Shape
    array : Shape → Shape
    structure : Shapes → Shape
    union : Union → Table → Shape
    frame : Table → Shape

  -- the members of a structure, in their order
  pub data Shapes : Type 0 where
    end : Shapes
    ◌then◌ : Shape → Shapes → Shapes

  -- the shape for each of some words; of two rows for one word the first counts
  pub data Table : Type 0 where
    empty : Table
    row : ℕ → Shape → Table → Table

infixr 30 ◌then◌
-- The values of a format. A frame whose format its table has is `known`: the format, the value, and the tail.
-- Any other frame is the format and the bytes of its body.
mutual
  pub data Tree : Type 0 where
    word : ℕ → Tree
    hyper : ℕ → Tree
    fixed : List ℕ → Tree
    opaque : List ℕ → Tree
    array : Trees → Tree
    structure : Trees → Tree
    union : ℕ → Tree → Tree
    known : ℕ → Tree → List ℕ → Tree
    other : ℕ → List ℕ → Tree

  pub data Trees : Type 0 where
    none : Trees
    ◌&◌ : Tree → Trees → Trees

infixr 30 ◌&◌
-- how many they are
abbrev pub count_of : Trees → ℕ
count_of none = 0
count_of (t & more) = suc (count_of more)
