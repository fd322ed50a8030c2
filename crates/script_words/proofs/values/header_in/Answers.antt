use Rattle.std.proofs.Common.{◌∙◌, sym}
use Rattle.script_words.proofs.Headers.{header_none, header_empty, header_some}
use Rattle.script_words.proofs.values.header_in.Goals as goal

pub returns-in_err-bytes : goal.returns-in_err-bytes
returns-in_err-bytes c =
    rw c.from_residual.ensures
    (header_none c.args.word.now (sym c.is_dash.ensures ∙ c.if-is_dash.false) (sym c.in_err-bytes.ensures))

pub returns-then-is_empty : goal.returns-then-is_empty
returns-then-is_empty c =
    header_empty c.args.word.now c.in_ok-bytes.bytes.items (sym c.is_dash.ensures ∙ c.if-is_dash.false)
    (sym c.in_ok-bytes.ensures) (sym c.is_empty.ensures ∙ c.if-is_empty.true)

pub returns : goal.returns
returns c =
    header_some c.args.word.now c.in_ok-bytes.bytes.items (sym c.is_dash.ensures ∙ c.if-is_dash.false)
    (sym c.in_ok-bytes.ensures) (sym c.is_empty.ensures ∙ c.if-is_empty.false)
