use Rattle.std.proofs.Common.{arith}
use Rattle.data_format.specs.declared.heads.Form.TheVariants.{Compact, Expanded}
use Rattle.data_format.specs.Views.{frame_view}
use Rattle.datagram_core.proofs.SampleHeads.{flow_in, counters_in, expanded_flow_in, expanded_counters_in, other_in}
use Rattle.datagram_core.proofs.Unchecked.{flow_there, counters_there, expanded_flow_there, expanded_counters_there}
use Rattle.datagram_core.proofs.sample_head.SampleHead.again.Goals as goal

pub returns-then-frame-ne0 : goal.returns-then-frame-ne0
returns-then-frame-ne0 c =
    other_in (frame_view c.args.frame) (omega arith) (omega arith) (omega arith) (omega arith)

pub returns-in_default : goal.returns-in_default
returns-in_default c =
    other_in (frame_view c.args.frame) (omega arith) (omega arith) (omega arith) (omega arith)

pub head_again-requires-clause-passes : goal.head_again-requires-clause-passes
head_again-requires-clause-passes c = flow_there (frame_view c.args.frame) (omega arith, c.requires.passes)

pub returns-in-1 : goal.returns-in-1
returns-in-1 c =
    (Compact, flow_in (frame_view c.args.frame) c.head_again.result c.head_again.ensures.form (omega arith) c.head_again.ensures.exact)

pub head_again-requires-in-2-clause-passes : goal.head_again-requires-in-2-clause-passes
head_again-requires-in-2-clause-passes c = counters_there (frame_view c.args.frame) (omega arith, c.requires.passes)

pub returns-in-2 : goal.returns-in-2
returns-in-2 c =
    (Compact, counters_in (frame_view c.args.frame) c.head_again-in-2.result c.head_again-in-2.ensures.form (omega arith) c.head_again-in-2.ensures.exact)

pub head_again-requires-in-3-clause-passes : goal.head_again-requires-in-3-clause-passes
head_again-requires-in-3-clause-passes c = expanded_flow_there (frame_view c.args.frame) (omega arith, c.requires.passes)

pub returns-in-3 : goal.returns-in-3
returns-in-3 c =
    (Expanded, expanded_flow_in (frame_view c.args.frame) c.head_again-in-3.result (omega arith) c.head_again-in-3.ensures.exact)

pub head_again-requires-in-4-clause-passes : goal.head_again-requires-in-4-clause-passes
head_again-requires-in-4-clause-passes c = expanded_counters_there (frame_view c.args.frame) (omega arith, c.requires.passes)

pub returns-in-4 : goal.returns-in-4
returns-in-4 c =
    (Expanded, expanded_counters_in (frame_view c.args.frame) c.head_again-in-4.result (omega arith) c.head_again-in-4.ensures.exact)
