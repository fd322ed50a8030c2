-- Words one after the other, as AS numbers and communities stand (RFC 4506 section 4.13).
use Rattle.std.specs.Prelude.{◌≡◌, ℕ, zero, suc, ◌/◌, ◌%◌, ◌^◌, ◌<◌, List, [], ◌∷◌, length, take, drop, Result}
use Rattle.std.specs.Int.{w32, from_be_bytes}
use Rattle.wire_spec.specs.declared.fault.Fault.{Fault}
use Rattle.wire_spec.specs.Bytes.{AreBytes}
use Rattle.wire_spec.specs.Shapes.{Tree, Trees}
use Rattle.wire_spec.specs.Fails.{Remaining}
use Rattle.wire_spec.specs.Reading.{◌>>=◌, word_at}
use Rattle.wire_spec.specs.Bodies.{items_at}
use Rattle.as_paths.specs.Arrays.{trees_of}

-- the first n words of bytes
abbrev pub words_at : ℕ → List ℕ → List ℕ
words_at zero bytes = []
words_at (suc n) bytes = from_be_bytes w32 (take 4 bytes) ∷ words_at n (drop 4 bytes)

-- all words of bytes
unfoldable pub words_in : List ℕ → List ℕ
words_in bytes = words_at (length bytes / 4) bytes

-- bytes that are whole words
abbrev pub AreWords : List ℕ → Type 0
AreWords bytes = (length bytes % 4 ≡ 0) × (length bytes < 2 ^ 32) × AreBytes bytes

abbrev pub word_trees : List ℕ → Trees
word_trees numbers = trees_of (λ n. Tree.word n) numbers

-- a count word, and that many words
abbrev pub numbers_at : Remaining → Result (List ℕ × Remaining) Fault
numbers_at b = word_at b >>= λ n. items_at word_at n.0 n.1
