use Rattle.books_spec.proofs.Parting.{streams-part, sources-part}
use Rattle.books_spec.proofs.parting_laws.collectors_may_part_the_agents.Goals as goal

pub returns-clause-streams : goal.returns-clause-streams
returns-clause-streams c = λ agents l streams sources items all some. streams-part agents l streams sources items all some

pub returns-clause-sources : goal.returns-clause-sources
returns-clause-sources c = λ agents l streams sources items all some. sources-part agents l streams sources items all some
