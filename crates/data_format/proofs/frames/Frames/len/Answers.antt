use Rattle.std.proofs.Common.{◌∙◌, sym, ap, length}
use Rattle.data_format.proofs.Again.{length-frames_in}
use Rattle.data_format.proofs.frames.Frames.len.Goals as goal

pub returns : goal.returns
returns c = sym (length-frames_in _ _ c.self.invariant.1) ∙ ap length c.self.view_is
