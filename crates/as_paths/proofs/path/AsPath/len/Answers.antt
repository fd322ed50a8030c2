use Rattle.std.proofs.Common.{◌∙◌, sym, ap, length}
use Rattle.as_paths.proofs.Paths.{length-segments_in}
use Rattle.as_paths.proofs.path.AsPath.len.Goals as goal

pub returns : goal.returns
returns c = sym (length-segments_in _ _ c.self.invariant.1 c.self.invariant.2) ∙ ap length c.self.view_is
