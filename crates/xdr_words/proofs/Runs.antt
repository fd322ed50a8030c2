-- Items one after the other.
use Rattle.std.proofs.Common.{◌≡◌, ℕ, zero, suc, ◌+◌, ◌<◌, ◌≤◌, List, [], ◌∷◌, ◌++◌, length, drop, get_or, refl, ap, add-one, arith}
use Rattle.std.proofs.Math.Seq.{drop-cons}
use Rattle.wire_spec.specs.Spelling.{spell, spell_all}
use Rattle.xdr_words.specs.declared.item.Item.{Item}
use Rattle.xdr_words.specs.ItemTrees.{item_tree, item_trees, Fits, AllFit}

-- what is spelled by those from index i on
abbrev pub from_index : ℕ → List Item → List ℕ
from_index i items = spell_all (item_trees (drop i items))

-- one, and those behind it
pub one_of_run : (items : List Item) (i : ℕ) (d : Item) → i < length items
    → from_index i items ≡ spell (item_tree (get_or items i d)) ++ from_index (i + 1) items
one_of_run items i d less =
    let spelled : List Item → List ℕ = λ l. spell_all (item_trees l) in
    rw add-one (ap spelled (drop-cons items i d less))

-- each of them fits
pub one_fits : (items : List Item) (i : ℕ) (d : Item) → AllFit items → i < length items → Fits (get_or items i d)
one_fits [] i d h less = absurd (omega arith)
one_fits (x ∷ items) zero d h less = h.0
one_fits (x ∷ items) (suc i) d h less = one_fits items i d h.1 (omega arith)

-- none is left
pub none_of_run : (items : List Item) (i : ℕ) → length items ≤ i → from_index i items ≡ []
none_of_run [] zero h = refl
none_of_run [] (suc i) h = refl
none_of_run (y ∷ items) zero h = absurd (omega arith)
none_of_run (y ∷ items) (suc i) h = none_of_run items i (omega arith)
