use Rattle.std.proofs.Common.{◌∙◌, ap, map}
use Rattle.sflow_tool.specs.Trials.{true_sample}
use Rattle.sflow_tool.proofs.TriedLines.{collected, entered, nothing_found, trues_stay}
use Rattle.sflow_tool.proofs.trial_run.Tried.deliver.Goals as goal

pub returns-in_default-clause-stands : goal.returns-in_default-clause-stands
returns-in_default-clause-stands g c = λ l lines line lawful arrives tried.
    absurd (nothing_found c.find.result c.in_default.not-Some (c.find.ensures.none lines line c.args.at lawful arrives tried.trues))

pub returns-in_default-clause-takes : goal.returns-in_default-clause-takes
returns-in_default-clause-takes g c = λ l m lines line xs all lawful arrives tried few so_far.
    absurd (nothing_found c.find.result c.in_default.not-Some (c.find.ensures.none lines line c.args.at lawful arrives tried.trues))

pub returns-clause-stands : goal.returns-clause-stands
returns-clause-stands g c = λ l lines line lawful arrives tried.
    let finds = c.in-Some.ensures.some lines line c.args.at lawful arrives tried.trues in
    record {
      trues = trues_stay lines line _ _ _ _ lawful arrives _ finds c.args.self.now.trues tried.trues;
      premises_stand = entered lines line _ _ _ _ lawful arrives _ finds c.args.self.now.premises c.deliver.new.self
          c.number.result c.uptime.result c.deref.result.now c.number.ensures c.uptime.ensures
          (c.deref.ensures.value ∙ c.in_ok-samples.ensures ∙ ap (map true_sample) c.samples.ensures)
          c.in_ok-deliver.ensures.stands tried.premises_stand;
      limits_are = c.in_ok-deliver.ensures.limits ∙ tried.limits_are;
    }

pub returns-clause-takes : goal.returns-clause-takes
returns-clause-takes g c = λ l m lines line xs all lawful arrives tried few so_far.
    let finds = c.in-Some.ensures.some lines line c.args.at lawful arrives tried.trues in
    collected lines line _ _ _ _ lawful arrives _ finds _ _ m _ _ xs _ _ all _ _ c.bytes.result.now c.bytes.ensures few so_far
    c.take_entry.ensures.gathers c.take_entry.ensures.ended
