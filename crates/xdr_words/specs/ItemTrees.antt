-- Items that are to be written, as values of the grammar.
use Rattle.std.specs.Prelude.{ℕ, ◌≤◌, List, [], ◌∷◌, ◌++◌, length}
use Rattle.wire_spec.specs.Shapes.{Tree, Trees, none, ◌&◌}
use Rattle.wire_spec.specs.Spelling.{spell_all}
use Rattle.xdr_words.specs.declared.item.Item.{Item}
use Rattle.xdr_words.specs.declared.item.Item.TheVariants.{Word, Hyper, Fixed, Opaque}

abbrev pub item_tree : Item → Tree
item_tree (Word n) = Tree.word n
item_tree (Hyper n) = Tree.hyper n
item_tree (Fixed v) = Tree.fixed v.now
item_tree (Opaque v) = Tree.opaque v.now

abbrev pub item_trees : List Item → Trees
item_trees [] = none
item_trees (x ∷ xs) = item_tree x & item_trees xs

-- opaque bytes are at most 65,535
abbrev pub Fits : Item → Type 0
Fits (Word n) = Unit {0}
Fits (Hyper n) = Unit {0}
Fits (Fixed v) = length v.now ≤ 65535
Fits (Opaque v) = length v.now ≤ 65535

abbrev pub AllFit : List Item → Type 0
AllFit [] = Unit {0}
AllFit (x ∷ xs) = Fits x × AllFit xs

-- one item after the other, and then the tail
abbrev pub run_bytes : List Item → List ℕ → List ℕ
run_bytes items tail = spell_all (item_trees items) ++ tail
