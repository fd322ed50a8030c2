use Rattle.std.proofs.Common.{◌++◌, ap}
use Rattle.wire_spec.specs.Captures.{entry_bytes}
use Rattle.wire_spec.specs.Spelling.{padded}
use Rattle.text_lines.proofs.PageLaws.{prints_first, prints_second, prints_same}
use Rattle.sflow_tool.proofs.canon.put_entry.Goals as goal

pub returns-in_err-put : goal.returns-in_err-put
unfolding entry_bytes
returns-in_err-put g c =
    prints_same _ _ _ _ _ _ _ (ap (λ l. l ++ padded c.args.bytes.now) c.head_of.ensures)
    (prints_first _ _ _ _ _ _ _ (padded c.args.bytes.now) c.from_residual.ensures.1 c.in_err-put.ensures)

pub returns : goal.returns
unfolding entry_bytes
returns g c =
    prints_same _ _ _ _ _ _ _ (ap (λ l. l ++ padded c.args.bytes.now) c.head_of.ensures)
    (prints_second _ _ _ _ _ _ _ _ _ c.in_ok-put.ensures c.put_padded.ensures)
