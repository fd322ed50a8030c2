use Rattle.std.proofs.Common.{ap, ◌∙◌}
use Rattle.sample_taps.proofs.taps.line_of.Goals as goal

pub returns : goal.returns
returns g c = c.line.ensures ∙ ap (λ p. (g.dyn-1.0.entry p.0).1.text p.1) c.deref_box-1.ensures.1
