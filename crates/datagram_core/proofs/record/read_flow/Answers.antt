use Rattle.std.proofs.Common.{Ok, Err, arith}
use Rattle.std.proofs.lemmas.Result.{err_from_is_err_and}
use Rattle.data_format.specs.Views.{body_of, frame_view, format_word}
use Rattle.rec_headers.specs.Contents.{raw_content, ethernet_content, ipv4_content, ipv6_content}
use Rattle.rec_extended.specs.Contents.{switch_content}
use Rattle.rec_extended.specs.RouteContents.{router_content, gateway_content}
use Rattle.rec_more.specs.Contents.{user_content, url_content, mpls_content, nat_content}
use Rattle.datagram_core.proofs.RecordRows.{row_read, raw_row, ethernet_row, ipv4_row, ipv6_row, switch_row, router_row, gateway_row, user_row, url_row, mpls_row, nat_row, no_flow_row}
use Rattle.datagram_core.proofs.record.read_flow.Goals as goal

pub returns-then-frame-ne0-clause-exact : goal.returns-then-frame-ne0-clause-exact
returns-then-frame-ne0-clause-exact g c =
    no_flow_row c.args.pad (format_word c.args.frame.format) (body_of (frame_view c.args.frame))
    (omega arith, (omega arith, (omega arith, (omega arith, (omega arith, (omega arith, (omega arith, (omega arith, (omega arith, (omega arith, (omega arith, tt)))))))))))

pub returns-in_default-clause-exact : goal.returns-in_default-clause-exact
returns-in_default-clause-exact g c =
    no_flow_row c.args.pad (format_word c.args.frame.format) (body_of (frame_view c.args.frame))
    (omega arith, (omega arith, (omega arith, (omega arith, (omega arith, (omega arith, (omega arith, (omega arith, (omega arith, (omega arith, (omega arith, tt)))))))))))

pub returns-in_ok-read-in-1-clause-exact : goal.returns-in_ok-read-in-1-clause-exact
returns-in_ok-read-in-1-clause-exact g c =
    row_read raw_content c.args.pad (format_word c.args.frame.format) (body_of (frame_view c.args.frame))
    (Ok c.in_ok-read-in-1.field-0) raw_row (omega arith) c.in_ok-read-in-1.ensures.exact

pub returns-in_err-read-in-1-clause-exact : goal.returns-in_err-read-in-1-clause-exact
returns-in_err-read-in-1-clause-exact g c =
    let failed = err_from_is_err_and c.from_residual.result c.from_residual.ensures.1 in
    rw (failed.1, failed.2)
    (row_read raw_content c.args.pad (format_word c.args.frame.format) (body_of (frame_view c.args.frame))
    (Err c.in_err-read-in-1.field-0.0) raw_row (omega arith) c.in_err-read-in-1.ensures.exact)

pub returns-in_ok-read-in-2-clause-exact : goal.returns-in_ok-read-in-2-clause-exact
returns-in_ok-read-in-2-clause-exact g c =
    row_read ethernet_content c.args.pad (format_word c.args.frame.format) (body_of (frame_view c.args.frame))
    (Ok c.in_ok-read-in-2.field-0) ethernet_row (omega arith) c.in_ok-read-in-2.ensures.exact

pub returns-in_err-read-in-2-clause-exact : goal.returns-in_err-read-in-2-clause-exact
returns-in_err-read-in-2-clause-exact g c =
    let failed = err_from_is_err_and c.from_residual-in_err-read-in-2.result c.from_residual-in_err-read-in-2.ensures.1 in
    rw (failed.1, failed.2)
    (row_read ethernet_content c.args.pad (format_word c.args.frame.format) (body_of (frame_view c.args.frame))
    (Err c.in_err-read-in-2.field-0.0) ethernet_row (omega arith) c.in_err-read-in-2.ensures.exact)

pub returns-in_ok-read-in-3-clause-exact : goal.returns-in_ok-read-in-3-clause-exact
returns-in_ok-read-in-3-clause-exact g c =
    row_read ipv4_content c.args.pad (format_word c.args.frame.format) (body_of (frame_view c.args.frame))
    (Ok c.in_ok-read-in-3.field-0) ipv4_row (omega arith) c.in_ok-read-in-3.ensures.exact

pub returns-in_err-read-in-3-clause-exact : goal.returns-in_err-read-in-3-clause-exact
returns-in_err-read-in-3-clause-exact g c =
    let failed = err_from_is_err_and c.from_residual-in_err-read-in-3.result c.from_residual-in_err-read-in-3.ensures.1 in
    rw (failed.1, failed.2)
    (row_read ipv4_content c.args.pad (format_word c.args.frame.format) (body_of (frame_view c.args.frame))
    (Err c.in_err-read-in-3.field-0.0) ipv4_row (omega arith) c.in_err-read-in-3.ensures.exact)

pub returns-in_ok-read-in-4-clause-exact : goal.returns-in_ok-read-in-4-clause-exact
returns-in_ok-read-in-4-clause-exact g c =
    row_read ipv6_content c.args.pad (format_word c.args.frame.format) (body_of (frame_view c.args.frame))
    (Ok c.in_ok-read-in-4.field-0) ipv6_row (omega arith) c.in_ok-read-in-4.ensures.exact

pub returns-in_err-read-in-4-clause-exact : goal.returns-in_err-read-in-4-clause-exact
returns-in_err-read-in-4-clause-exact g c =
    let failed = err_from_is_err_and c.from_residual-in_err-read-in-4.result c.from_residual-in_err-read-in-4.ensures.1 in
    rw (failed.1, failed.2)
    (row_read ipv6_content c.args.pad (format_word c.args.frame.format) (body_of (frame_view c.args.frame))
    (Err c.in_err-read-in-4.field-0.0) ipv6_row (omega arith) c.in_err-read-in-4.ensures.exact)

pub returns-in_ok-read-in-1001-clause-exact : goal.returns-in_ok-read-in-1001-clause-exact
returns-in_ok-read-in-1001-clause-exact g c =
    row_read switch_content c.args.pad (format_word c.args.frame.format) (body_of (frame_view c.args.frame))
    (Ok c.in_ok-read-in-1001.field-0) switch_row (omega arith) c.in_ok-read-in-1001.ensures.exact

pub returns-in_err-read-in-1001-clause-exact : goal.returns-in_err-read-in-1001-clause-exact
returns-in_err-read-in-1001-clause-exact g c =
    let failed = err_from_is_err_and c.from_residual-in_err-read-in-1001.result c.from_residual-in_err-read-in-1001.ensures.1 in
    rw (failed.1, failed.2)
    (row_read switch_content c.args.pad (format_word c.args.frame.format) (body_of (frame_view c.args.frame))
    (Err c.in_err-read-in-1001.field-0.0) switch_row (omega arith) c.in_err-read-in-1001.ensures.exact)

pub returns-in_ok-read-in-1002-clause-exact : goal.returns-in_ok-read-in-1002-clause-exact
returns-in_ok-read-in-1002-clause-exact g c =
    row_read router_content c.args.pad (format_word c.args.frame.format) (body_of (frame_view c.args.frame))
    (Ok c.in_ok-read-in-1002.field-0) router_row (omega arith) c.in_ok-read-in-1002.ensures.exact

pub returns-in_err-read-in-1002-clause-exact : goal.returns-in_err-read-in-1002-clause-exact
returns-in_err-read-in-1002-clause-exact g c =
    let failed = err_from_is_err_and c.from_residual-in_err-read-in-1002.result c.from_residual-in_err-read-in-1002.ensures.1 in
    rw (failed.1, failed.2)
    (row_read router_content c.args.pad (format_word c.args.frame.format) (body_of (frame_view c.args.frame))
    (Err c.in_err-read-in-1002.field-0.0) router_row (omega arith) c.in_err-read-in-1002.ensures.exact)

pub returns-in_ok-read-in-1003-clause-exact : goal.returns-in_ok-read-in-1003-clause-exact
returns-in_ok-read-in-1003-clause-exact g c =
    row_read gateway_content c.args.pad (format_word c.args.frame.format) (body_of (frame_view c.args.frame))
    (Ok c.in_ok-read-in-1003.field-0) gateway_row (omega arith) c.in_ok-read-in-1003.ensures.exact

pub returns-in_err-read-in-1003-clause-exact : goal.returns-in_err-read-in-1003-clause-exact
returns-in_err-read-in-1003-clause-exact g c =
    let failed = err_from_is_err_and c.from_residual-in_err-read-in-1003.result c.from_residual-in_err-read-in-1003.ensures.1 in
    rw (failed.1, failed.2)
    (row_read gateway_content c.args.pad (format_word c.args.frame.format) (body_of (frame_view c.args.frame))
    (Err c.in_err-read-in-1003.field-0.0) gateway_row (omega arith) c.in_err-read-in-1003.ensures.exact)

pub returns-in_ok-read-in-1004-clause-exact : goal.returns-in_ok-read-in-1004-clause-exact
returns-in_ok-read-in-1004-clause-exact g c =
    row_read user_content c.args.pad (format_word c.args.frame.format) (body_of (frame_view c.args.frame))
    (Ok c.in_ok-read-in-1004.field-0) user_row (omega arith) c.in_ok-read-in-1004.ensures.exact

pub returns-in_err-read-in-1004-clause-exact : goal.returns-in_err-read-in-1004-clause-exact
returns-in_err-read-in-1004-clause-exact g c =
    let failed = err_from_is_err_and c.from_residual-in_err-read-in-1004.result c.from_residual-in_err-read-in-1004.ensures.1 in
    rw (failed.1, failed.2)
    (row_read user_content c.args.pad (format_word c.args.frame.format) (body_of (frame_view c.args.frame))
    (Err c.in_err-read-in-1004.field-0.0) user_row (omega arith) c.in_err-read-in-1004.ensures.exact)

pub returns-in_ok-read-in-1005-clause-exact : goal.returns-in_ok-read-in-1005-clause-exact
returns-in_ok-read-in-1005-clause-exact g c =
    row_read url_content c.args.pad (format_word c.args.frame.format) (body_of (frame_view c.args.frame))
    (Ok c.in_ok-read-in-1005.field-0) url_row (omega arith) c.in_ok-read-in-1005.ensures.exact

pub returns-in_err-read-in-1005-clause-exact : goal.returns-in_err-read-in-1005-clause-exact
returns-in_err-read-in-1005-clause-exact g c =
    let failed = err_from_is_err_and c.from_residual-in_err-read-in-1005.result c.from_residual-in_err-read-in-1005.ensures.1 in
    rw (failed.1, failed.2)
    (row_read url_content c.args.pad (format_word c.args.frame.format) (body_of (frame_view c.args.frame))
    (Err c.in_err-read-in-1005.field-0.0) url_row (omega arith) c.in_err-read-in-1005.ensures.exact)

pub returns-in_ok-read-in-1006-clause-exact : goal.returns-in_ok-read-in-1006-clause-exact
returns-in_ok-read-in-1006-clause-exact g c =
    row_read mpls_content c.args.pad (format_word c.args.frame.format) (body_of (frame_view c.args.frame))
    (Ok c.in_ok-read-in-1006.field-0) mpls_row (omega arith) c.in_ok-read-in-1006.ensures.exact

pub returns-in_err-read-in-1006-clause-exact : goal.returns-in_err-read-in-1006-clause-exact
returns-in_err-read-in-1006-clause-exact g c =
    let failed = err_from_is_err_and c.from_residual-in_err-read-in-1006.result c.from_residual-in_err-read-in-1006.ensures.1 in
    rw (failed.1, failed.2)
    (row_read mpls_content c.args.pad (format_word c.args.frame.format) (body_of (frame_view c.args.frame))
    (Err c.in_err-read-in-1006.field-0.0) mpls_row (omega arith) c.in_err-read-in-1006.ensures.exact)

pub returns-in_ok-read-in-1007-clause-exact : goal.returns-in_ok-read-in-1007-clause-exact
returns-in_ok-read-in-1007-clause-exact g c =
    row_read nat_content c.args.pad (format_word c.args.frame.format) (body_of (frame_view c.args.frame))
    (Ok c.in_ok-read-in-1007.field-0) nat_row (omega arith) c.in_ok-read-in-1007.ensures.exact

pub returns-in_err-read-in-1007-clause-exact : goal.returns-in_err-read-in-1007-clause-exact
returns-in_err-read-in-1007-clause-exact g c =
    let failed = err_from_is_err_and c.from_residual-in_err-read-in-1007.result c.from_residual-in_err-read-in-1007.ensures.1 in
    rw (failed.1, failed.2)
    (row_read nat_content c.args.pad (format_word c.args.frame.format) (body_of (frame_view c.args.frame))
    (Err c.in_err-read-in-1007.field-0.0) nat_row (omega arith) c.in_err-read-in-1007.ensures.exact)
