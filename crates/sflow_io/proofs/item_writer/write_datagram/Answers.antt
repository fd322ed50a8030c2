use Rattle.std.proofs.Common.{length, subst, ◌∙◌, arith}
use Rattle.std.proofs.lemmas.List.{take-replicate}
use Rattle.std.proofs.lemmas.Result.{err_from_is_err_and}
use Rattle.wire_spec.specs.Padding.{padding_of}
use Rattle.byte_ends.specs.Seen.{Takes, TakesPart, WritesAll}
use Rattle.sflow_io.proofs.Items.{datagram_bytes_are}
use Rattle.byte_ends.proofs.Prefixes.{prefix_longer, prefix_after, writes_after}
use Rattle.sflow_io.proofs.item_writer.write_datagram.Goals as goal

pub returns-in_err-write_all : goal.returns-in_err-write_all
returns-in_err-write_all g c =
    let failed = err_from_is_err_and c.from_residual.result c.from_residual.ensures.1 in
    let head = c.as_slice.ensures ∙ c.word_of.ensures in
    rw (failed.1, datagram_bytes_are)
    (prefix_longer _ _ _ _ (subst (TakesPart _ _) head c.in_err-write_all.ensures))

pub returns-in_err-write_all-2 : goal.returns-in_err-write_all-2
returns-in_err-write_all-2 g c =
    let failed =
    err_from_is_err_and c.from_residual-in_err-write_all-2.result c.from_residual-in_err-write_all-2.ensures.1 in
    let head = c.as_slice.ensures ∙ c.word_of.ensures in
    rw (failed.1, datagram_bytes_are)
    (prefix_after _ _ _ _ _ (subst (Takes _ _) head c.in_ok-write_all.ensures)
    (prefix_longer _ _ _ _ c.in_err-write_all-2.ensures))

pub returns : goal.returns
returns g c =
    let head = c.as_slice.ensures ∙ c.word_of.ensures in
    let padding = take-replicate (padding_of (length c.args.bytes.now)) 4 0 (omega arith) in
    rw datagram_bytes_are
    (writes_after _ _ _ _ _ _ (subst (Takes _ _) head c.in_ok-write_all.ensures)
    (writes_after _ _ _ _ _ _ c.in_ok-write_all-2.ensures
    (subst (WritesAll _ _ _) padding c.write_all-3.ensures)))
