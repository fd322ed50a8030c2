use Rattle.std.proofs.Common.{rules}
use Rattle.data_format.specs.Views.{frame_view}
use Rattle.datagram_core.specs.Records.{table_of}
use Rattle.datagram_core.proofs.RecordFrames.{record_of_frame}
use Rattle.datagram_core.proofs.Unchecked.{not_passed}
use Rattle.datagram_core.proofs.records.Records.next.Goals as goal

pub unreachable-requires : goal.unreachable-requires
unreachable-requires c =
    let frame = c.in_ok-frame.frame in
    not_passed (table_of c.kind-kind.result) (frame_view frame) c.in-Err.field-0 c.in-Err.ensures.exact
    (search (rules, c.in_ok-frame.ensures.passes))

pub returns-clause-some : goal.returns-clause-some
returns-clause-some c =
    let frame = c.in_ok-frame.frame in (
      frame_view frame,
      search rules,
      search (rules, record_of_frame _ frame c.in-Ok.found c.in_ok-frame.ensures.format c.in_ok-frame.ensures.place c.in-Ok.ensures.exact c.in-Ok.ensures.from),
    )
