use Rattle.script_tables.specs.Said.{flow_said, with_flow}
use Rattle.script_tables.proofs.Grow.{said_place}
use Rattle.script_tables.proofs.SetRows.{on_ok}
use Rattle.script_tables.proofs.setups.add_flow_at.Goals as goal

pub returns : goal.returns
returns c = on_ok c.add_flow.result
    (said_place (with_flow (flow_said c.args.flow)) c.args.setups.now c.args.place c.index-setups-place.result c.add_flow.new.setup c.requires)
    c.add_flow.ensures
