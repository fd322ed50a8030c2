-- The bytes so far are counted: those of the items that are left are the rest.
use Rattle.std.proofs.Common.{◌≡◌, ◌+◌, ◌*◌, ◌≤◌, length}
use Rattle.xdr_words.specs.ItemTrees.{run_bytes}
use Rattle.xdr_words.proofs.Runs.{from_index}
use Rattle.xdr_words.proofs.item.length_of_run.Given as goal

abbrev pub invariant-loop-item : goal.invariant-loop-item
invariant-loop-item l = record {
  most : l.all ≤ 65535 + 65543 * l.item-index;
  exact : l.all + length (from_index l.item-index l.items) ≡ length (run_bytes l.items l.tail);
}
