use Rattle.std.proofs.Common.{rules}
use Rattle.command_words.proofs.Hyphens.{no_equals}
use Rattle.command_words.proofs.meaning.long.Goals as goal

pub returns-in-None : goal.returns-in-None
returns-in-None c = rw (no_equals c.args.rest.now (search rules)) (search rules)
