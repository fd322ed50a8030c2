use Rattle.std.proofs.Common.{◌≡◌, List, length, map, arith, ◌∙◌}
use Rattle.std.proofs.lemmas.List.{length-map}
use Rattle.books_spec.specs.SampledHeaders.{FirstHeader}
use Rattle.account_laws.proofs.Weaker.{lesser}
use Rattle.sample_taps.specs.Briefs.{facts_in}
use Rattle.sample_taps.specs.BookBriefs.{brief_in}
use Rattle.sample_taps.proofs.ClassCounts.{one_kind_each}
use Rattle.delivered_items.specs.AccountHeaders.{account_headers}
use Rattle.delivered_items.proofs.HeadersReceived.{as-many}
use Rattle.delivered_items.proofs.laws.headers_are_as_many_as_received.Goals as goal

pub returns-clause-headers : goal.returns-clause-headers
returns-clause-headers c = λ l history ds p. as-many l history ds (lesser l history ds p)

pub returns-clause-classes : goal.returns-clause-classes
returns-clause-classes c = λ l history ds p few.
    let hs : List FirstHeader = account_headers l ds in
    let same : length (map facts_in (map brief_in hs)) ≡ length hs = length-map (map brief_in hs) facts_in ∙ length-map hs brief_in in
    one_kind_each (map facts_in (map brief_in hs)) (omega (arith, same, few))
    ∙ same ∙ as-many l history ds (lesser l history ds p)
