-- Words have no padding: their spelling is the one, under each reading of padding.
use Rattle.std.proofs.Common.{◌≡◌, ℕ, ◌%◌, List, [], ◌∷◌, ◌++◌, length, ap, ◌∙◌, arith}
use Rattle.std.specs.Int.{w32, to_be_bytes}
use Rattle.std.proofs.lemmas.List.{append-nil}
use Rattle.wire_spec.specs.declared.pad.Pad.{Pad}
use Rattle.wire_spec.specs.Padding.{padding_of}
use Rattle.wire_spec.specs.Shapes.{word, array, Tree, count_of}
use Rattle.wire_spec.specs.Spells.{Each, Spells}
use Rattle.wire_spec.specs.Spelling.{spell_all, padded}
use Rattle.as_paths.specs.WordLists.{word_trees}

-- whole words have no padding
pub unpadded : (v : List ℕ) → length v % 4 ≡ 0 → padded v ≡ v
unpadded v whole =
    let none : padding_of (length v) ≡ 0 = omega (arith, whole) in
    rw none (append-nil v)

pub words_alike : (p : Pad) (ns a : List ℕ) → Each (Spells p word) (word_trees ns) a → a ≡ spell_all (word_trees ns)
words_alike p [] a e = e
words_alike p (n ∷ ns) a (x, y, one, more, parts) =
    parts ∙ ap (λ (t : List ℕ). t ++ y) one.1
    ∙ ap (λ (t : List ℕ). to_be_bytes w32 n ++ t) (words_alike p ns y more)

pub numbers_alike : (p : Pad) (ns a : List ℕ) → Spells p (array word) (Tree.array (word_trees ns)) a
    → a ≡ to_be_bytes w32 (count_of (word_trees ns)) ++ spell_all (word_trees ns)
numbers_alike p ns a (x, y, one, more, parts) =
    parts ∙ ap (λ (t : List ℕ). t ++ y) one.1
    ∙ ap (λ (t : List ℕ). to_be_bytes w32 (count_of (word_trees ns)) ++ t) (words_alike p ns y more)
