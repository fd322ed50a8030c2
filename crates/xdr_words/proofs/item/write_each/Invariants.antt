-- The items so far are written, and those that are left are the rest.
use Rattle.std.proofs.Common.{◌≡◌, ◌++◌, ℕ, List}
use Rattle.wire_spec.specs.Spelling.{spell_all}
use Rattle.xdr_words.specs.ItemTrees.{item_trees}
use Rattle.xdr_words.specs.Written.{Appends}
use Rattle.xdr_words.proofs.Runs.{from_index}
use Rattle.xdr_words.proofs.item.write_each.Given as goal

abbrev pub invariant-loop-item : goal.invariant-loop-item
invariant-loop-item l = (front : List ℕ) × Appends l.initial.out l.out front
    × (front ++ from_index l.item-index l.items ≡ spell_all (item_trees l.items))
