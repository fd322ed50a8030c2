use Rattle.command_words.proofs.Ranges.{words_lawful}
use Rattle.command_words.proofs.laws.limits_are_lawful.Goals as goal

pub returns-clause-limits : goal.returns-clause-limits
returns-clause-limits c = λ words command asked. (words_lawful words command asked).0

pub returns-clause-length : goal.returns-clause-length
returns-clause-length c = λ words command asked. (words_lawful words command asked).1
