use Rattle.std.proofs.Common.{◌∙◌, sym, ap}
use Rattle.data_format.specs.Trees.{frame_trees}
use Rattle.datagram_core.specs.Records.{RecordsView}
use Rattle.datagram_core.specs.Tables.{counter_records_read}
use Rattle.flow_collector.specs.Items.{first_interface}
use Rattle.flow_collector.specs.Shown.{carried_in}
use Rattle.flow_collector.proofs.Carried.{carried-is}
use Rattle.flow_collector.proofs.interfaces.carried_by.Goals as goal

pub returns : goal.returns
returns c = λ form f rest h all this.
    let some = c.in_ok-sample.ensures.some in
    carried-is c.in_ok-sample.sample c.args.ahead c.next.new.self rest f some.0 form h (carried_in c.first_carried.result) some.1
    some.2 all this (sym c.if-not-has_counters.ensures)
    (c.first_carried.ensures
    ∙ ap (λ (v : RecordsView). first_interface (frame_trees counter_records_read v.frames)) c.records.ensures)
