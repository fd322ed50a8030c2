use Rattle.script_tables.specs.Said.{counter_said, with_counter}
use Rattle.script_tables.proofs.Grow.{said_place}
use Rattle.script_tables.proofs.SetRows.{on_ok}
use Rattle.script_tables.proofs.setups.add_counter_at.Goals as goal

pub returns : goal.returns
returns c = on_ok c.add_counter.result
    (said_place (with_counter (counter_said c.args.counter)) c.args.setups.now c.args.place c.index-setups-place.result c.add_counter.new.setup c.requires)
    c.add_counter.ensures
