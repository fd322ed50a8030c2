use Rattle.std.proofs.Common.{refl}
use Rattle.std.proofs.lemmas.Result.{on_ok_weaker}
use Rattle.sflow_tool.proofs.TriedLines.{err_same, not_delivery, quiet_step, still_collected, tried_more}
use Rattle.sflow_tool.proofs.trial_run.Tried.follow.Goals as goal

pub returns-in-Delivered-clause-stands : goal.returns-in-Delivered-clause-stands
returns-in-Delivered-clause-stands g c =
    on_ok_weaker c.deliver.result
    (λ f. λ l lines line lawful few acts is tried. f l lines line lawful (rw c.in-Delivered.is at is) tried) c.deliver.ensures.stands

pub returns-in-Delivered-clause-takes : goal.returns-in-Delivered-clause-takes
returns-in-Delivered-clause-takes g c =
    on_ok_weaker c.deliver.result
    (λ f. λ l m lines line xs all lawful acts is tried few so_far. f l m lines line xs all lawful (rw c.in-Delivered.is at is) tried few so_far)
    c.deliver.ensures.takes

pub returns-in_default : goal.returns-in_default
returns-in_default g c = record {
  stands = on_ok_weaker c.follow.result
      (λ f. λ l lines line lawful few acts is tried.
      tried_more l c.args.self.now _ line lines acts
      (quiet_step lines line c.args.step.now is (not_delivery c.args.step.now c.in_default.not-Delivered))
      (f lines line lawful few acts is tried.trues) tried)
      c.follow.ensures;
  takes = on_ok_weaker c.follow.result
      (λ f. λ l m lines line xs all lawful acts is tried few so_far.
      still_collected _ _ m _ xs _ all _ line lines lawful
      (quiet_step lines line c.args.step.now is (not_delivery c.args.step.now c.in_default.not-Delivered)) so_far)
      c.follow.ensures;
  failed = err_same c.follow.result _ _;
  ended = refl;
}
