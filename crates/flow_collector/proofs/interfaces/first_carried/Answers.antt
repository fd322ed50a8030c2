use Rattle.std.proofs.Common.{◌∙◌, None, Some, subst}
use Rattle.datagram_core.specs.declared.records.RecordKind.{RecordKind}
use Rattle.datagram_core.specs.Kinds.{HasKind}
use Rattle.datagram_core.specs.Records.{IsRecordOf}
use Rattle.if_ledger.specs.Records.{counters_in}
use Rattle.flow_collector.proofs.Carried.{first-of}
use Rattle.flow_collector.proofs.interfaces.first_carried.Goals as goal

pub interface_counters-requires : goal.interface_counters-requires
interface_counters-requires c =
    let K : RecordKind → Type 0 = λ kind. HasKind kind c.in-Some.item in
    subst K c.loop-item.invariant.kind c.in-Some.ensures.of_kind

pub loop-item-preserved : goal.loop-item-preserved
loop-item-preserved c =
    let some = c.in-Some.ensures.some in
    let K : RecordKind → Type 0 = λ kind. IsRecordOf kind some.0 c.in-Some.item in
    record {
      kind = c.next.ensures.kind ∙ c.loop-item.invariant.kind;
      left = first-of some.0 c.loop-item.records.frames c.next.new.self.frames c.in-Some.item None some.1
          (subst K c.loop-item.invariant.kind some.2) c.in_default-interface_counters.ensures ∙ c.loop-item.invariant.left;
    }

pub returns-in-Some-interface_counters : goal.returns-in-Some-interface_counters
returns-in-Some-interface_counters c =
    let some = c.in-Some.ensures.some in
    let K : RecordKind → Type 0 = λ kind. IsRecordOf kind some.0 c.in-Some.item in
    first-of some.0 c.loop-item.records.frames c.next.new.self.frames c.in-Some.item
    (Some (counters_in c.in-Some-interface_counters.found)) some.1
    (subst K c.loop-item.invariant.kind some.2) c.in-Some-interface_counters.ensures ∙ c.loop-item.invariant.left
