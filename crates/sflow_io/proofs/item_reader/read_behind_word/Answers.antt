use Rattle.sflow_io.proofs.item_reader.read_behind_word.Goals as goal

pub returns-in-0-clause-reads : goal.returns-in-0-clause-reads
returns-in-0-clause-reads g c = rw c.in-0.is (c.read_end_item.ensures.reads c.args.room.now)
