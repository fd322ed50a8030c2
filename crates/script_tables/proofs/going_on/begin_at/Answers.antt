use Rattle.script_tables.specs.Tables.{with_boot}
use Rattle.script_tables.proofs.SetRows.{at_place, on_ok}
use Rattle.script_tables.proofs.going_on.begin_at.Goals as goal

pub returns : goal.returns
returns c = on_ok c.begin.result
    (at_place (with_boot c.args.at) c.args.subs.now c.args.place c.index-subs-place.result c.begin.new.self c.requires)
    c.begin.ensures
