use Rattle.std.proofs.lemmas.Result.{err_from_is_err_and}
use Rattle.sflow_io.proofs.Items.{sent_bytes_are}
use Rattle.byte_ends.proofs.Prefixes.{prefix_longer, writes_after}
use Rattle.sflow_io.proofs.item_writer.write_item.Goals as goal

pub returns-in_err-write_front : goal.returns-in_err-write_front
returns-in_err-write_front g c =
    let failed = err_from_is_err_and c.from_residual.result c.from_residual.ensures.1 in
    rw (failed.1, sent_bytes_are) (prefix_longer _ _ _ _ c.in_err-write_front.ensures)

pub returns : goal.returns
returns g c = rw sent_bytes_are (writes_after _ _ _ _ _ _ c.in_ok-write_front.ensures c.write_datagram.ensures)
