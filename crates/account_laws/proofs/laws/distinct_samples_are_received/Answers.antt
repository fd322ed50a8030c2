use Rattle.std.proofs.Common.{ap, ◌∙◌}
use Rattle.books_spec.specs.WholeBooks.{SourceLine}
use Rattle.account_laws.proofs.Whole.{line-is}
use Rattle.account_laws.proofs.Distinct.{received-distinct}
use Rattle.account_laws.proofs.laws.distinct_samples_are_received.Goals as goal

pub returns : goal.returns
returns c = λ l history deliveries source p h there.
    ap (λ (line : SourceLine). line.view.ledger.received) (line-is l history deliveries p source there)
    ∙ received-distinct l history deliveries p source there h
