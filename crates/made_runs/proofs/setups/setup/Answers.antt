use Rattle.std.proofs.lemmas.Result.{IfOk-from_err}
use Rattle.made_runs.specs.Setups.{IsMadeSetup}
use Rattle.made_runs.proofs.setups.setup.Goals as goal

pub returns-in_err-counters : goal.returns-in_err-counters
returns-in_err-counters c =
    IfOk-from_err c.from_residual-in_err-counters.result (λ u. IsMadeSetup c.args.seed u)
    c.from_residual-in_err-counters.ensures.0
