use Rattle.std.proofs.Common.{sym, arith}
use Rattle.relay_out.proofs.Cuts.{no_route}
use Rattle.relay_out.proofs.route.Route.read.Goals as goal

pub returns-in_err-agent : goal.returns-in_err-agent
returns-in_err-agent c =
    let all = c.in_err-agent.ensures.byte (omega arith) (λ w o found. found) in
    rw c.from_residual.ensures (sym (no_route c.args.text.now all))
