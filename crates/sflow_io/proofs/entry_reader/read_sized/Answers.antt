use Rattle.std.proofs.Common.{◌+◌, ap, arith}
use Rattle.capture_spec.specs.ItemReading.{front_from}
use Rattle.sflow_io.specs.Senders.{sender_in}
use Rattle.sflow_io.proofs.EntryFronts.{body_reads, sized_long}
use Rattle.sflow_io.proofs.Fronts.{breaks_here}
use Rattle.sflow_io.proofs.entry_reader.read_sized.Goals as goal

pub returns-then-len-gt65535 : goal.returns-then-len-gt65535
returns-then-len-gt65535 g c = record {
  reads = breaks_here _ _ _ (c.args.start.now.more + 8) _ _ _ _
      (λ bytes. ap (front_from (sender_in c.args.start.now.from) c.args.start.now.more)
      (sized_long c.args.start.now.at c.args.len bytes c.if-len-gt65535.true))
      (omega arith);
}

pub returns : goal.returns
returns g c =
    let read = c.read_body.ensures in
    record {
      reads = body_reads _ _ _ _ _ _ _ _ _ _ _ (omega (arith, c.if-len-gt65535.false)) read.told read.short read.at_end
          read.cause read.stops;
    }
