use Rattle.std.proofs.Common.{Ok, refl, arith}
use Rattle.wire_spec.specs.declared.pad.Pad.TheVariants as pads
use Rattle.data_format.specs.Views.{body_of, frame_view, format_word}
use Rattle.datagram_core.specs.Tables.{flow_records_read, counter_records_read}
use Rattle.datagram_core.proofs.Rows.{flow_row, counters_row, expanded_flow_row, expanded_counters_row, no_row}
use Rattle.datagram_core.proofs.Unchecked.{flow_there, counters_there, expanded_flow_there, expanded_counters_there}
use Rattle.datagram_core.proofs.sample.Sample.again.Goals as goal

pub returns-then-frame-ne0-clause-exact : goal.returns-then-frame-ne0-clause-exact
returns-then-frame-ne0-clause-exact c =
    no_row pads.Any (format_word c.args.frame.format) (body_of (frame_view c.args.frame))
    (omega arith) (omega arith) (omega arith) (omega arith)

pub returns-in_default-clause-exact : goal.returns-in_default-clause-exact
returns-in_default-clause-exact c =
    no_row pads.Any (format_word c.args.frame.format) (body_of (frame_view c.args.frame))
    (omega arith) (omega arith) (omega arith) (omega arith)

pub again-requires-clause-passes : goal.again-requires-clause-passes
again-requires-clause-passes c = flow_there (frame_view c.args.frame) (omega arith, c.requires.passes)

pub returns-in-1-clause-exact : goal.returns-in-1-clause-exact
returns-in-1-clause-exact c =
    flow_row pads.Any (format_word c.args.frame.format) (body_of (frame_view c.args.frame)) (Ok c.again.result) (omega arith)
    c.again.ensures.exact

pub returns-in-1-clause-from : goal.returns-in-1-clause-from
returns-in-1-clause-from c = record {
  itself = tt;
  records = c.again.ensures.passes flow_records_read (λ f. refl);
  ranges = c.again.ensures.ranges;
  tail = c.again.ensures.tail;
}

pub again-requires-in-2-clause-passes : goal.again-requires-in-2-clause-passes
again-requires-in-2-clause-passes c = counters_there (frame_view c.args.frame) (omega arith, c.requires.passes)

pub returns-in-2-clause-exact : goal.returns-in-2-clause-exact
returns-in-2-clause-exact c =
    counters_row pads.Any (format_word c.args.frame.format) (body_of (frame_view c.args.frame)) (Ok c.again-in-2.result) (omega arith)
    c.again-in-2.ensures.exact

pub returns-in-2-clause-from : goal.returns-in-2-clause-from
returns-in-2-clause-from c = record {
  itself = tt;
  records = c.again-in-2.ensures.passes counter_records_read (λ f. refl);
  ranges = c.again-in-2.ensures.ranges;
  tail = c.again-in-2.ensures.tail;
}

pub again-requires-in-3-clause-passes : goal.again-requires-in-3-clause-passes
again-requires-in-3-clause-passes c = expanded_flow_there (frame_view c.args.frame) (omega arith, c.requires.passes)

pub returns-in-3-clause-exact : goal.returns-in-3-clause-exact
returns-in-3-clause-exact c =
    expanded_flow_row pads.Any (format_word c.args.frame.format) (body_of (frame_view c.args.frame)) (Ok c.again-in-3.result) (omega arith)
    c.again-in-3.ensures.exact

pub returns-in-3-clause-from : goal.returns-in-3-clause-from
returns-in-3-clause-from c = record {
  itself = tt;
  records = c.again-in-3.ensures.passes flow_records_read (λ f. refl);
  ranges = c.again-in-3.ensures.ranges;
  tail = c.again-in-3.ensures.tail;
}

pub again-requires-in-4-clause-passes : goal.again-requires-in-4-clause-passes
again-requires-in-4-clause-passes c = expanded_counters_there (frame_view c.args.frame) (omega arith, c.requires.passes)

pub returns-in-4-clause-exact : goal.returns-in-4-clause-exact
returns-in-4-clause-exact c =
    expanded_counters_row pads.Any (format_word c.args.frame.format) (body_of (frame_view c.args.frame)) (Ok c.again-in-4.result) (omega arith)
    c.again-in-4.ensures.exact

pub returns-in-4-clause-from : goal.returns-in-4-clause-from
returns-in-4-clause-from c = record {
  itself = tt;
  records = c.again-in-4.ensures.passes counter_records_read (λ f. refl);
  ranges = c.again-in-4.ensures.ranges;
  tail = c.again-in-4.ensures.tail;
}
