use Rattle.std.proofs.Common.{None, ap, arith}
use Rattle.capture_spec.specs.ItemReading.{front_from}
use Rattle.byte_ends.proofs.Filled.{behind_held, short_room}
use Rattle.byte_ends.proofs.Unread.{stops_within}
use Rattle.sflow_io.proofs.EntryFronts.{head_stops, none_left}
use Rattle.sflow_io.proofs.entry_reader.read_end.Goals as goal

pub returns-in-Ok-eq0-clause-told : goal.returns-in-Ok-eq0-clause-told
returns-in-Ok-eq0-clause-told g c = λ count offset bytes told.
    let reads = rw c.in-Ok-eq0.field-0-is at c.in-Ok-eq0.ensures.reads in
    let h = short_room _ _ _ _ bytes told reads (omega arith) in
    ap (front_from None 0) (head_stops bytes (omega (arith, h.number)))

pub returns-in-Ok-eq0-clause-at_end : goal.returns-in-Ok-eq0-clause-at_end
returns-in-Ok-eq0-clause-at_end g c =
    let reads = rw c.in-Ok-eq0.field-0-is at c.in-Ok-eq0.ensures.reads in
    behind_held _ _ (reads.all (omega arith))

pub returns-in-Err-clause-stops : goal.returns-in-Err-clause-stops
returns-in-Err-clause-stops g c = λ count failed.
    none_left count _ _ (stops_within _ _ _ _ 1 c.in-Err.ensures.reads c.in-Err.ensures.none (omega arith))
