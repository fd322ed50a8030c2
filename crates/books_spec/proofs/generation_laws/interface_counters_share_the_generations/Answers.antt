use Rattle.books_spec.proofs.Seen.{generations-same}
use Rattle.books_spec.proofs.generation_laws.interface_counters_share_the_generations.Goals as goal

pub returns : goal.returns
returns c = λ l width source items. generations-same l width source items
