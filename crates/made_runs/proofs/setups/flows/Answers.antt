use Rattle.std.proofs.Common.{◌∙◌, ◌++◌, [], ◌∷◌, List, ℕ, ap, map}
use Rattle.std.proofs.lemmas.Result.{IfOk-from_err}
use Rattle.agent_setups.specs.declared.setup.FlowSetup.{FlowSetup}
use Rattle.agent_spec.specs.Sources as spec
use Rattle.made_runs.specs.Setups.{flow_as}
use Rattle.trial_spec.specs.Made.{made_flow}
use Rattle.made_runs.proofs.setups.flows.Goals as goal

pub returns-in_err-push : goal.returns-in_err-push
returns-in_err-push c = IfOk-from_err c.from_residual-in_err-push.result _ c.from_residual-in_err-push.ensures.0

pub returns : goal.returns
returns c =
    let flow : FlowSetup = record {
      source = record { class = 0; index = 1 };
      rate = 10;
      skips = c.in_ok-skips.skips;
      first = 4294967280;
      pool = 4294967000;
      drops = 0;
    } in
    let f : List ℕ → spec.FlowSetup = λ skips. record (made_flow c.args.seed) { skips = skips } in
    let add : List FlowSetup → List FlowSetup = λ xs. xs ++ flow ∷ [] in
    ap (map flow_as) (c.in_ok-push.ensures.items ∙ ap add c.new-flows.ensures.items)
    ∙ ap (λ skips. f skips ∷ []) c.in_ok-skips.ensures
