use Rattle.std.proofs.Common.{◌≡◌, ◌∙◌, Some, ap, length, reverse, arith, slice_get}
use Rattle.std.proofs.lemmas.Option.{slice_get_within}
use Rattle.script_spec.specs.Agents.{subs_in}
use Rattle.true_samples.specs.States.{TrueState}
use Rattle.sflow_tool.proofs.SentCounts.{kept_at, sent_newest}
use Rattle.sflow_tool.proofs.TrueStands.{same_many}
use Rattle.sflow_tool.proofs.TrueSteps.{read_at}
use Rattle.sflow_tool.proofs.trues.Trues.sent_count.Goals as goal

pub returns-then-place-len-clause-some : goal.returns-then-place-len-clause-some
returns-then-place-len-clause-some c = λ lines s at h.
    let t : TrueState = c.index.result.now in
    let there : slice_get c.args.self.now c.args.place ≡ Some t =
    read_at c.self.inside.subs.items c.args.self.now c.args.place t c.self.view_is
    (omega (arith, c.if-place-len.true, c.len.ensures)) c.index.ensures in
    c.sent_count.ensures _ _ _ _ (kept_at c.args.self.now lines s c.args.place t h at there) ∙ sent_newest lines s

pub returns-clause-some : goal.returns-clause-some
returns-clause-some c = λ lines s at h.
    absurd
    (omega (
      arith,
      slice_get_within (reverse (subs_in lines)) c.args.place s at,
      same_many lines c.args.self.now (reverse (subs_in lines)) h,
      c.if-place-len.false,
      c.len.ensures,
      ap length c.self.view_is,
    ))
