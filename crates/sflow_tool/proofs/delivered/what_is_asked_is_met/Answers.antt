use Rattle.std.proofs.Common.{arith}
use Rattle.account_spec.specs.Rows.{usual}
use Rattle.account_spec.specs.Premises.{Premises}
use Rattle.delivered_items.specs.WholeRows.{whole_history, whole_deliveries}
use Rattle.sflow_tool.proofs.HeadlineRows.{whole_input_is_bytes}
use Rattle.sflow_tool.proofs.delivered.what_is_asked_is_met.Goals as goal

pub returns-clause-bytes : goal.returns-clause-bytes
returns-clause-bytes c = whole_input_is_bytes

pub returns-clause-met : goal.returns-clause-met
returns-clause-met c =
    let premises : Premises usual whole_history whole_deliveries = record {
      history_is = c.whole_history_row.ensures.history;
      sent = c.whole_deliveries_row.ensures;
      visible = c.whole_premises_row.ensures.visible;
      close = c.whole_premises_row.ensures.close;
      roomy = c.whole_premises_row.ensures.roomy;
      apparent = c.whole_premises_row.ensures.apparent;
    } in
    c.deliveries_have_a_capture.ensures usual whole_history whole_deliveries c.whole_history_row.ensures.accepted premises
    (omega arith, (omega arith, (omega arith, (omega arith, (omega arith, (omega arith, (omega arith, (omega arith, tt))))))))
    (omega arith)
