use Rattle.std.proofs.Common.{rules}
use Rattle.command_words.proofs.Named.{form_named-rules_in}
use Rattle.command_words.proofs.meaning.form_of.Goals as goal

pub returns : goal.returns
returns c = rw form_named-rules_in (search rules)

pub returns-in_err-argument_of : goal.returns-in_err-argument_of
returns-in_err-argument_of c = rw form_named-rules_in (search rules)
