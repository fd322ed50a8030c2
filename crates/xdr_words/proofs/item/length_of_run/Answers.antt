use Rattle.xdr_words.proofs.Runs.{one_fits}
use Rattle.xdr_words.proofs.item.length_of_run.Goals as goal

pub length-all-requires : goal.length-all-requires
length-all-requires c = one_fits c.args.items.now c.loop-item.item-index _ c.requires.fit c.loop-item-test.true
