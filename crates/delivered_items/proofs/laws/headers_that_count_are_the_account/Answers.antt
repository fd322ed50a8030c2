use Rattle.std.proofs.Common.{List, map, ap}
use Rattle.books_spec.specs.SampledHeaders.{FirstHeader}
use Rattle.sample_taps.specs.Briefs.{facts_in}
use Rattle.sample_taps.specs.Classes.{classes}
use Rattle.sample_taps.specs.BookBriefs.{brief_in}
use Rattle.account_laws.proofs.Weaker.{lesser}
use Rattle.delivered_items.proofs.AccountHeaders.{headers-are}
use Rattle.delivered_items.proofs.laws.headers_that_count_are_the_account.Goals as goal

pub returns-clause-headers : goal.returns-clause-headers
returns-clause-headers c = λ l history ds p. headers-are l history ds (lesser l history ds p)

pub returns-clause-briefs : goal.returns-clause-briefs
returns-clause-briefs c = λ l history ds p. ap (map brief_in) (headers-are l history ds (lesser l history ds p))

pub returns-clause-classes : goal.returns-clause-classes
returns-clause-classes c = λ l history ds p.
    ap (λ (hs : List FirstHeader). classes (map facts_in (map brief_in hs))) (headers-are l history ds (lesser l history ds p))
