use Rattle.script_tables.specs.Tables.{with_sent}
use Rattle.script_tables.proofs.SetRows.{at_place}
use Rattle.script_tables.proofs.going_on.set_sent_at.Goals as goal

pub returns : goal.returns
returns c =
    at_place (with_sent c.args.sent) c.args.subs.now c.args.place c.index-subs-place.result c.set_sent.new.self c.requires
    c.set_sent.ensures
