use Rattle.std.proofs.Common.{◌∷◌}
use Rattle.trial_premises.proofs.sources.SourceWatch.take.Goals as goal

pub returns : goal.returns
returns c = λ a current closed h some st.
    c.enter.ensures a current closed h some (c.in_ok-reserve.ensures.same c.args.width c.args.boot (current ∷ closed) st)
