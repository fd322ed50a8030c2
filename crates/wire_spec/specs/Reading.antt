-- The one value or the one fault of bytes, as a function that reads from the front on.
use Rattle.std.specs.Prelude.{
  ℕ,
  zero,
  suc,
  ◌+◌,
  ◌==◌,
  List,
  [],
  ◌∷◌,
  length,
  take,
  drop,
  Result,
  Ok,
  Err,
  nat_lt,
  if◌then◌else◌,
}
use Rattle.std.specs.Int.{w32, w64, from_be_bytes}
use Rattle.wire_spec.specs.declared.pad.Pad.{Pad}
use Rattle.wire_spec.specs.declared.pad.Pad.TheVariants as pads
use Rattle.wire_spec.specs.declared.fault.Fault.{Fault}
use Rattle.wire_spec.specs.Padding.{padding_of}
use Rattle.wire_spec.specs.Shapes.{
  Union,
  Shape,
  word,
  hyper,
  fixed,
  opaque,
  array,
  structure,
  union,
  frame,
  Shapes,
  end,
  ◌then◌,
  Table,
  empty,
  row,
  Tree,
  known,
  other,
  Trees,
  none,
  ◌&◌,
}
use Rattle.wire_spec.specs.Fails.{Remaining, short, bad_padding, unknown_word}

infixl 10 ◌>>=◌
-- one step, and where it is Ok the next
abbrev pub ◌>>=◌ : {A B : Type 0} → Result A Fault → (A → Result B Fault) → Result B Fault
(Ok x) >>= f = f x
(Err e) >>= f = Err e

-- the next n bytes as one item
abbrev pub item_at : ℕ → Remaining → Result (List ℕ × Remaining) Fault
item_at n b = if nat_lt (length b.bytes) n then Err (short b.at n (length b.bytes))
    else Ok (take n b.bytes, record { at = b.at + n; bytes = drop n b.bytes })

abbrev pub word_at : Remaining → Result (ℕ × Remaining) Fault
word_at b = item_at 4 b >>= λ x. Ok (from_be_bytes w32 x.0, x.1)

abbrev pub hyper_at : Remaining → Result (ℕ × Remaining) Fault
hyper_at b = item_at 8 b >>= λ x. Ok (from_be_bytes w64 x.0, x.1)

-- that the bytes are zero, the first of which stands at `at`
abbrev pub zeros_at : ℕ → List ℕ → Result (Unit {0}) Fault
zeros_at at [] = Ok tt
zeros_at at (zero ∷ bytes) = zeros_at (suc at) bytes
zeros_at at (suc b ∷ bytes) = Err (bad_padding at)

abbrev pub padding_at : Pad → ℕ → List ℕ → Result (Unit {0}) Fault
padding_at pads.Any at bytes = Ok tt
padding_at pads.Zero at bytes = zeros_at at bytes

-- a body of n bytes, which are there with their padding, and what is left behind it
abbrev pub body_at : ℕ → Remaining → Result (Remaining × Remaining) Fault
body_at n b = if nat_lt (length b.bytes) (n + padding_of n)
    then Err (short b.at (n + padding_of n) (length b.bytes))
    else Ok (record { at = b.at; bytes = take n b.bytes }, record { at = b.at + n; bytes = drop n b.bytes })

-- past the padding of n bytes
abbrev pub body_end_at : Pad → ℕ → Remaining → Result (Unit {0} × Remaining) Fault
body_end_at p n b = padding_at p b.at (take (padding_of n) b.bytes)
    >>= λ _. Ok (tt, record { at = b.at + padding_of n; bytes = drop (padding_of n) b.bytes })

-- the inside of a body of n bytes, and then its padding
abbrev pub past_body :
    {A : Type 0} → Pad → (Remaining → Result A Fault) → ℕ → Remaining × Remaining → Result (A × Remaining) Fault
past_body p inside n x = inside x.0 >>= λ y. body_end_at p n x.1 >>= λ e. Ok (y, e.1)

-- n bytes with their padding, whose inside is read so
abbrev pub padded_at :
    {A : Type 0} → Pad → ℕ → (Remaining → Result A Fault) → Remaining → Result (A × Remaining) Fault
padded_at p n inside b = body_at n b >>= past_body p inside n

-- the bytes of a body as they are
abbrev pub as_bytes : Remaining → Result (List ℕ) Fault
as_bytes b = Ok b.bytes

abbrev pub fixed_at : Pad → ℕ → Remaining → Result (List ℕ × Remaining) Fault
fixed_at p n b = padded_at p n as_bytes b

abbrev pub opaque_at : Pad → Remaining → Result (List ℕ × Remaining) Fault
opaque_at p b = word_at b >>= λ n. fixed_at p n.0 n.1

-- n values, one after the other
abbrev pub many_at : (Remaining → Result (Tree × Remaining) Fault) → ℕ → Remaining → Result (Trees × Remaining) Fault
many_at each zero b = Ok (none, b)
many_at each (suc n) b = each b >>= λ x. many_at each n x.1 >>= λ xs. Ok (x.0 & xs.0, xs.1)

abbrev mutual
  -- a value of the shape, and what is left behind it; or the first fault
  pub reading : Pad → Shape → Remaining → Result (Tree × Remaining) Fault
  reading p word b = word_at b >>= λ x. Ok (Tree.word x.0, x.1)
  reading p hyper b = hyper_at b >>= λ x. Ok (Tree.hyper x.0, x.1)
  reading p (fixed n) b = fixed_at p n b >>= λ x. Ok (Tree.fixed x.0, x.1)
  reading p opaque b = opaque_at p b >>= λ x. Ok (Tree.opaque x.0, x.1)
  reading p (array s) b = word_at b >>= λ n. many_at (reading p s) n.0 n.1 >>= λ x. Ok (Tree.array x.0, x.1)
  reading p (structure ss) b = members_at p ss b >>= λ x. Ok (Tree.structure x.0, x.1)
  reading p (union u T) b = word_at b >>= λ k. union_at p u b.at T k.0 k.1 >>= λ x. Ok (Tree.union k.0 x.0, x.1)
  reading p (frame T) b = word_at b >>= λ k. word_at k.1 >>= λ n. padded_at p n.0 (inside_at p T k.0) n.1

  pub members_at : Pad → Shapes → Remaining → Result (Trees × Remaining) Fault
  members_at p end b = Ok (none, b)
  members_at p (s then ss) b = reading p s b >>= λ x. members_at p ss x.1 >>= λ xs. Ok (x.0 & xs.0, xs.1)

  -- what the table has for the discriminant k, which stands at `at`
  pub union_at : Pad → Union → ℕ → Table → ℕ → Remaining → Result (Tree × Remaining) Fault
  union_at p u at empty k b = Err (unknown_word u at k)
  union_at p u at (row j s T) k b = if k == j then reading p s b else union_at p u at T k b

  -- the inside of a frame of format k
  pub inside_at : Pad → Table → ℕ → Remaining → Result Tree Fault
  inside_at p empty k b = Ok (other k b.bytes)
  inside_at p (row j s T) k b =
      if k == j then (reading p s b >>= λ x. Ok (known k x.0 x.1.bytes)) else inside_at p T k b
