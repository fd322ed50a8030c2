use Rattle.std.proofs.Common.{List, ℕ, ◌++◌, ap, sym, ◌∙◌, append_assoc}
use Rattle.xdr_words.proofs.Puts.{both_appended}
use Rattle.xdr_words.proofs.Runs.{one_fits, one_of_run}
use Rattle.xdr_words.proofs.item.write_each.Goals as goal

pub append_item-requires-clause-fits : goal.append_item-requires-clause-fits
append_item-requires-clause-fits c = one_fits c.args.items.now c.loop-item.item-index _ c.requires.fit c.loop-item-test.true

pub loop-item-preserved : goal.loop-item-preserved
loop-item-preserved c =
    let (front, so_far, all) = c.loop-item.invariant in
    let next = one_of_run c.args.items.now c.loop-item.item-index _ c.loop-item-test.true in (
      _,
      both_appended _ _ _ front _ so_far c.append_item.ensures,
      append_assoc front _ _ ∙ ap (λ (l : List ℕ). front ++ l) (sym next) ∙ all,
    )
