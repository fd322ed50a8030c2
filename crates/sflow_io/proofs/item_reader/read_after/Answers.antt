use Rattle.std.proofs.Common.{arith}
use Rattle.sflow_io.proofs.Fronts.{ends_here}
use Rattle.sflow_io.proofs.ItemParts.{after_none}
use Rattle.sflow_io.proofs.item_reader.read_after.Goals as goal

pub returns-in-Ok-eq0-clause-reads : goal.returns-in-Ok-eq0-clause-reads
returns-in-Ok-eq0-clause-reads g c = λ room.
    ends_here _ _ _ _ _ _ _ room _ c.in-Ok-eq0.ensures.reads c.in-Ok-eq0.field-0-test (omega arith) after_none
