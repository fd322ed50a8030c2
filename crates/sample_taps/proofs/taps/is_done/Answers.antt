use Rattle.std.proofs.Common.{ap, ◌∙◌}
use Rattle.sample_taps.proofs.taps.is_done.Goals as goal

pub returns : goal.returns
returns g c = c.done.ensures ∙ ap (λ p. (g.dyn-1.0.entry p.0).1.ended p.1) c.deref_box-1.ensures.1
