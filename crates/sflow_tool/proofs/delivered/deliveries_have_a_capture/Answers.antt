use Rattle.std.proofs.Common.{◌<◌, ◌≤◌, ◌^◌, length, map, arith, refl}
use Rattle.std.specs.List.{AllByRecursion}
use Rattle.std.proofs.lemmas.List.{length-map}
use Rattle.wire_spec.specs.Captures.{IsEntry}
use Rattle.account_spec.specs.Deliveries.{Delivery, entry_of}
use Rattle.account_laws.proofs.Lists.{all-both, all-map}
use Rattle.sflow_tool.proofs.HeadlineRows.{capture_in_order}
use Rattle.sflow_tool.proofs.delivered.deliveries_have_a_capture.Goals as goal

pub returns : goal.returns
returns c = λ l history deliveries accepted premises arrivals few.
    let each : AllByRecursion IsEntry (map (entry_of history) deliveries) =
    all-map IsEntry (entry_of history) deliveries
    (all-both (λ (d : Delivery). d.arrival < 2 ^ 64)
    (λ (d : Delivery). length (entry_of history d).bytes ≤ 65535)
    (λ (d : Delivery). IsEntry (entry_of history d))
    (λ d a b. record { arrival = a; bytes = b }) deliveries arrivals
    (c.what_was_sent_is_read.ensures.few history deliveries premises.history_is accepted premises.sent)) in
    record {
      accepted = accepted;
      premises = premises;
      entries = map (entry_of history) deliveries;
      delivers = record { sent = premises.sent; entries_are = refl };
      capture = capture_in_order (map (entry_of history) deliveries) each
          (omega (arith, length-map deliveries (entry_of history)));
    }
