use Rattle.std.proofs.Common.{arith}
use Rattle.sflow_io.proofs.capture_reader.read_within.Goals as goal

pub returns-else-count-lt-MAX_ENTRIES-clause-told : goal.returns-else-count-lt-MAX_ENTRIES-clause-told
returns-else-count-lt-MAX_ENTRIES-clause-told g c = λ bytes told.
    rw c.in-One.is
    (record {
      goes_on = λ few. absurd (omega (arith, few));
      at_most = λ many. c.read_end.ensures.told c.args.count c.args.offset bytes told;
    })
