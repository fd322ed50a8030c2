use Rattle.std.proofs.Common.{arith}
use Rattle.std.proofs.lemmas.Str.Pattern.{strip_prefix_char}
use Rattle.command_words.proofs.Hyphens.{after_hyphen-stripped}
use Rattle.command_words.proofs.meaning.without_hyphen.Goals as goal

pub returns : goal.returns
returns c = after_hyphen-stripped _ _ (strip_prefix_char 45 _ _ c.strip_prefix.ensures.cases (omega arith))
