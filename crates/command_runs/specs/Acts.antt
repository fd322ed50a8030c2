-- What a command does with what it reads: its row.
use Rattle.std.specs.Prelude.{Bool, ℕ, List}

pub record Act (X : Type 0) : Type 0 where
  -- the text where the input is read to its end
  pub whole : X → List ℕ
  -- the text of what was read, where reading ends before that
  pub part : X → List ℕ
  -- whether a run over all of it has found what it was to find
  pub finds : X → Bool
  -- it may find something
  pub may_find : Bool
  -- it writes nothing before it has read all
  pub at_end : Bool
  -- it takes all memory before it reads or writes a byte
  pub memory_first : Bool
