use Rattle.std.proofs.Common.{◌∙◌, sym}
use Rattle.relay_out.proofs.Below.{below}
use Rattle.relay_out.proofs.receivers.Receivers.can_pass.Goals as goal

pub returns-clause-yes : goal.returns-clause-yes
returns-clause-yes g c = λ yes place. below _ (sym c.all_below.ensures ∙ yes) place
