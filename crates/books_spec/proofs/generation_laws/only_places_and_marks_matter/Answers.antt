use Rattle.books_spec.proofs.Mapped.{generations-mapped, stale-mapped, stretches-mapped, generation_count-mapped, stale_count-mapped}
use Rattle.books_spec.proofs.generation_laws.only_places_and_marks_matter.Goals as goal

pub returns-clause-generations : goal.returns-clause-generations
returns-clause-generations g c = λ f place mark width samples. generations-mapped f place mark width samples

pub returns-clause-stale : goal.returns-clause-stale
returns-clause-stale g c = λ f place mark width samples. stale-mapped f place mark width samples

pub returns-clause-stretches : goal.returns-clause-stretches
returns-clause-stretches g c = λ f place mark width boots. stretches-mapped f place mark width boots

pub returns-clause-count : goal.returns-clause-count
returns-clause-count g c = λ f place mark width boots. generation_count-mapped f place mark width boots

pub returns-clause-stale_count : goal.returns-clause-stale_count
returns-clause-stale_count g c = λ f place mark width boots. stale_count-mapped f place mark width boots
