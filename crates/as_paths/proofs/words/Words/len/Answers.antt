use Rattle.std.proofs.Common.{◌∙◌, sym, ap, length}
use Rattle.as_paths.proofs.WordRuns.{length-words_in}
use Rattle.as_paths.proofs.words.Words.len.Goals as goal

pub returns : goal.returns
returns c = sym (length-words_in c.self.inside.bytes.now) ∙ ap length c.self.view_is
