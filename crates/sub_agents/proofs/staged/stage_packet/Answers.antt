use Rattle.std.proofs.Common.{◌∙◌, ◌++◌, ℕ, List, take, ap}
use Rattle.sub_agents.proofs.Lists.{take-shown}
use Rattle.sub_agents.proofs.staged.stage_packet.Goals as goal

pub returns-clause-header : goal.returns-clause-header
returns-clause-header c =
    let bytes : List ℕ = c.args.packet.now.header.now in
    c.in-Ok.ensures.ok
    ∙ ap (λ (l : List ℕ). l ++ take c.min-shown.result bytes) c.new-header.ensures
    ∙ take-shown bytes c.min-shown.result c.min-shown.ensures
