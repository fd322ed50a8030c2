use Rattle.std.proofs.Common.{Ok, Err, arith}
use Rattle.std.proofs.lemmas.Result.{err_from_is_err_and}
use Rattle.data_format.specs.Views.{body_of, frame_view, format_word}
use Rattle.rec_counters.specs.Contents.{interface_content, ethernet_content, vlan_content}
use Rattle.rec_more.specs.Contents.{processor_content}
use Rattle.datagram_core.proofs.RecordRows.{row_read, interface_row, ethernet_counters_row, vlan_row, processor_row, no_counters_row}
use Rattle.datagram_core.proofs.record.read_counters.Goals as goal

pub returns-then-frame-ne0-clause-exact : goal.returns-then-frame-ne0-clause-exact
returns-then-frame-ne0-clause-exact g c =
    no_counters_row c.args.pad (format_word c.args.frame.format) (body_of (frame_view c.args.frame))
    (omega arith, (omega arith, (omega arith, (omega arith, tt))))

pub returns-in_default-clause-exact : goal.returns-in_default-clause-exact
returns-in_default-clause-exact g c =
    no_counters_row c.args.pad (format_word c.args.frame.format) (body_of (frame_view c.args.frame))
    (omega arith, (omega arith, (omega arith, (omega arith, tt))))

pub returns-in_ok-read-in-1-clause-exact : goal.returns-in_ok-read-in-1-clause-exact
returns-in_ok-read-in-1-clause-exact g c =
    row_read interface_content c.args.pad (format_word c.args.frame.format) (body_of (frame_view c.args.frame))
    (Ok c.in_ok-read-in-1.field-0) interface_row (omega arith) c.in_ok-read-in-1.ensures.exact

pub returns-in_err-read-in-1-clause-exact : goal.returns-in_err-read-in-1-clause-exact
returns-in_err-read-in-1-clause-exact g c =
    let failed = err_from_is_err_and c.from_residual.result c.from_residual.ensures.1 in
    rw (failed.1, failed.2)
    (row_read interface_content c.args.pad (format_word c.args.frame.format) (body_of (frame_view c.args.frame))
    (Err c.in_err-read-in-1.field-0.0) interface_row (omega arith) c.in_err-read-in-1.ensures.exact)

pub returns-in_ok-read-in-2-clause-exact : goal.returns-in_ok-read-in-2-clause-exact
returns-in_ok-read-in-2-clause-exact g c =
    row_read ethernet_content c.args.pad (format_word c.args.frame.format) (body_of (frame_view c.args.frame))
    (Ok c.in_ok-read-in-2.field-0) ethernet_counters_row (omega arith) c.in_ok-read-in-2.ensures.exact

pub returns-in_err-read-in-2-clause-exact : goal.returns-in_err-read-in-2-clause-exact
returns-in_err-read-in-2-clause-exact g c =
    let failed = err_from_is_err_and c.from_residual-in_err-read-in-2.result c.from_residual-in_err-read-in-2.ensures.1 in
    rw (failed.1, failed.2)
    (row_read ethernet_content c.args.pad (format_word c.args.frame.format) (body_of (frame_view c.args.frame))
    (Err c.in_err-read-in-2.field-0.0) ethernet_counters_row (omega arith) c.in_err-read-in-2.ensures.exact)

pub returns-in_ok-read-in-5-clause-exact : goal.returns-in_ok-read-in-5-clause-exact
returns-in_ok-read-in-5-clause-exact g c =
    row_read vlan_content c.args.pad (format_word c.args.frame.format) (body_of (frame_view c.args.frame))
    (Ok c.in_ok-read-in-5.field-0) vlan_row (omega arith) c.in_ok-read-in-5.ensures.exact

pub returns-in_err-read-in-5-clause-exact : goal.returns-in_err-read-in-5-clause-exact
returns-in_err-read-in-5-clause-exact g c =
    let failed = err_from_is_err_and c.from_residual-in_err-read-in-5.result c.from_residual-in_err-read-in-5.ensures.1 in
    rw (failed.1, failed.2)
    (row_read vlan_content c.args.pad (format_word c.args.frame.format) (body_of (frame_view c.args.frame))
    (Err c.in_err-read-in-5.field-0.0) vlan_row (omega arith) c.in_err-read-in-5.ensures.exact)

pub returns-in_ok-read-in-1001-clause-exact : goal.returns-in_ok-read-in-1001-clause-exact
returns-in_ok-read-in-1001-clause-exact g c =
    row_read processor_content c.args.pad (format_word c.args.frame.format) (body_of (frame_view c.args.frame))
    (Ok c.in_ok-read-in-1001.field-0) processor_row (omega arith) c.in_ok-read-in-1001.ensures.exact

pub returns-in_err-read-in-1001-clause-exact : goal.returns-in_err-read-in-1001-clause-exact
returns-in_err-read-in-1001-clause-exact g c =
    let failed = err_from_is_err_and c.from_residual-in_err-read-in-1001.result c.from_residual-in_err-read-in-1001.ensures.1 in
    rw (failed.1, failed.2)
    (row_read processor_content c.args.pad (format_word c.args.frame.format) (body_of (frame_view c.args.frame))
    (Err c.in_err-read-in-1001.field-0.0) processor_row (omega arith) c.in_err-read-in-1001.ensures.exact)
