use Rattle.std.proofs.Common.{Ok, Err, refl, arith}
use Rattle.std.proofs.lemmas.Result.{err_from_is_err_and}
use Rattle.data_format.specs.Views.{body_of, frame_view, format_word}
use Rattle.datagram_core.specs.Tables.{flow_records_read, counter_records_read}
use Rattle.datagram_core.proofs.Rows.{flow_row, counters_row, expanded_flow_row, expanded_counters_row, no_row}
use Rattle.datagram_core.proofs.sample.Sample.read.Goals as goal

pub returns-then-frame-ne0-clause-exact : goal.returns-then-frame-ne0-clause-exact
returns-then-frame-ne0-clause-exact c =
    no_row c.args.pad (format_word c.args.frame.format) (body_of (frame_view c.args.frame))
    (omega arith) (omega arith) (omega arith) (omega arith)

pub returns-in_default-clause-exact : goal.returns-in_default-clause-exact
returns-in_default-clause-exact c =
    no_row c.args.pad (format_word c.args.frame.format) (body_of (frame_view c.args.frame))
    (omega arith) (omega arith) (omega arith) (omega arith)

pub returns-in_ok-read-in-1-clause-exact : goal.returns-in_ok-read-in-1-clause-exact
returns-in_ok-read-in-1-clause-exact c =
    flow_row c.args.pad (format_word c.args.frame.format) (body_of (frame_view c.args.frame))
    (Ok c.in_ok-read-in-1.field-0) (omega arith) c.in_ok-read-in-1.ensures.exact

pub returns-in_ok-read-in-1-clause-from : goal.returns-in_ok-read-in-1-clause-from
returns-in_ok-read-in-1-clause-from c = record {
  itself = tt;
  records = c.in_ok-read-in-1.ensures.passes flow_records_read (λ f. refl);
  ranges = c.in_ok-read-in-1.ensures.ranges;
  tail = c.in_ok-read-in-1.ensures.tail;
}

pub returns-in_err-read-in-1-clause-exact : goal.returns-in_err-read-in-1-clause-exact
returns-in_err-read-in-1-clause-exact c =
    let failed = err_from_is_err_and c.from_residual.result c.from_residual.ensures.1 in
    rw (failed.1, failed.2)
    (flow_row c.args.pad (format_word c.args.frame.format) (body_of (frame_view c.args.frame))
    (Err c.in_err-read-in-1.field-0.0) (omega arith) c.in_err-read-in-1.ensures.exact)

pub returns-in_ok-read-in-2-clause-exact : goal.returns-in_ok-read-in-2-clause-exact
returns-in_ok-read-in-2-clause-exact c =
    counters_row c.args.pad (format_word c.args.frame.format) (body_of (frame_view c.args.frame))
    (Ok c.in_ok-read-in-2.field-0) (omega arith) c.in_ok-read-in-2.ensures.exact

pub returns-in_ok-read-in-2-clause-from : goal.returns-in_ok-read-in-2-clause-from
returns-in_ok-read-in-2-clause-from c = record {
  itself = tt;
  records = c.in_ok-read-in-2.ensures.passes counter_records_read (λ f. refl);
  ranges = c.in_ok-read-in-2.ensures.ranges;
  tail = c.in_ok-read-in-2.ensures.tail;
}

pub returns-in_err-read-in-2-clause-exact : goal.returns-in_err-read-in-2-clause-exact
returns-in_err-read-in-2-clause-exact c =
    let failed = err_from_is_err_and c.from_residual-in_err-read-in-2.result c.from_residual-in_err-read-in-2.ensures.1 in
    rw (failed.1, failed.2)
    (counters_row c.args.pad (format_word c.args.frame.format) (body_of (frame_view c.args.frame))
    (Err c.in_err-read-in-2.field-0.0) (omega arith) c.in_err-read-in-2.ensures.exact)

pub returns-in_ok-read-in-3-clause-exact : goal.returns-in_ok-read-in-3-clause-exact
returns-in_ok-read-in-3-clause-exact c =
    expanded_flow_row c.args.pad (format_word c.args.frame.format) (body_of (frame_view c.args.frame))
    (Ok c.in_ok-read-in-3.field-0) (omega arith) c.in_ok-read-in-3.ensures.exact

pub returns-in_ok-read-in-3-clause-from : goal.returns-in_ok-read-in-3-clause-from
returns-in_ok-read-in-3-clause-from c = record {
  itself = tt;
  records = c.in_ok-read-in-3.ensures.passes flow_records_read (λ f. refl);
  ranges = c.in_ok-read-in-3.ensures.ranges;
  tail = c.in_ok-read-in-3.ensures.tail;
}

pub returns-in_err-read-in-3-clause-exact : goal.returns-in_err-read-in-3-clause-exact
returns-in_err-read-in-3-clause-exact c =
    let failed = err_from_is_err_and c.from_residual-in_err-read-in-3.result c.from_residual-in_err-read-in-3.ensures.1 in
    rw (failed.1, failed.2)
    (expanded_flow_row c.args.pad (format_word c.args.frame.format) (body_of (frame_view c.args.frame))
    (Err c.in_err-read-in-3.field-0.0) (omega arith) c.in_err-read-in-3.ensures.exact)

pub returns-in_ok-read-in-4-clause-exact : goal.returns-in_ok-read-in-4-clause-exact
returns-in_ok-read-in-4-clause-exact c =
    expanded_counters_row c.args.pad (format_word c.args.frame.format) (body_of (frame_view c.args.frame))
    (Ok c.in_ok-read-in-4.field-0) (omega arith) c.in_ok-read-in-4.ensures.exact

pub returns-in_ok-read-in-4-clause-from : goal.returns-in_ok-read-in-4-clause-from
returns-in_ok-read-in-4-clause-from c = record {
  itself = tt;
  records = c.in_ok-read-in-4.ensures.passes counter_records_read (λ f. refl);
  ranges = c.in_ok-read-in-4.ensures.ranges;
  tail = c.in_ok-read-in-4.ensures.tail;
}

pub returns-in_err-read-in-4-clause-exact : goal.returns-in_err-read-in-4-clause-exact
returns-in_err-read-in-4-clause-exact c =
    let failed = err_from_is_err_and c.from_residual-in_err-read-in-4.result c.from_residual-in_err-read-in-4.ensures.1 in
    rw (failed.1, failed.2)
    (expanded_counters_row c.args.pad (format_word c.args.frame.format) (body_of (frame_view c.args.frame))
    (Err c.in_err-read-in-4.field-0.0) (omega arith) c.in_err-read-in-4.ensures.exact)
