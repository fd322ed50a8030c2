use Rattle.std.proofs.Common.{ap, ◌∙◌}
use Rattle.sflow_tool.proofs.PcapRuns.{finished, refused, write_failed}
use Rattle.sflow_tool.proofs.pcap.pcap.Goals as goal

pub returns-in-Ok-take_packets : goal.returns-in-Ok-take_packets
returns-in-Ok-take_packets g c =
    finished c.args.output _ _ _ _ _ _ _ c.new-page.ensures c.in-Ok-take_packets.counts _
    c.in-Ok-take_packets.ensures.walks c.in-Ok-take_packets.ensures.at_end c.in-Ok-take_packets.ensures.cause
    c.finish.ensures

pub stop-requires : goal.stop-requires
stop-requires g c = λ counts. (c.in-Err-Read.ensures.waits counts).2 ∙ c.new-page.ensures

pub returns-in-Err-Read : goal.returns-in-Err-Read
returns-in-Err-Read g c =
    let seen = rw c.in-Err-Read.field-0-is at c.in-Err-Read.ensures.walks in
    let cause = rw c.in-Err-Read.field-0-is at c.in-Err-Read.ensures.cause in
    refused c.args.output _ _ _ _ _ _ _ c.new-page.ensures _ _ _ c.status_of.ensures seen cause
    c.stop.ensures.flushed
    (λ counts.
    let stop = c.stop.ensures.waits counts in
    (stop.0, ap (λ s. (g.K.Sink.seen s).told) (stop.1 ∙ (c.in-Err-Read.ensures.waits counts).1)))

pub returns : goal.returns
returns g c =
    let seen = rw c.in-Err-Write.field-0-is at c.in-Err-Write.ensures.walks in
    let cause = rw c.in-Err-Write.field-0-is at c.in-Err-Write.ensures.cause in
    write_failed c.args.output _ _ _ _ (g.K.Sink.seen c.args.sink.now) _ _ c.new-page.ensures seen cause
