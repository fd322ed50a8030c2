-- No sample counts twice.
use Rattle.std.proofs.Common.{◌≡◌, ℕ, Bool, true, false, List, [], ◌∷◌, map, refl, sym, subst, arith}
use Rattle.std.specs.List.{AllByRecursion}
use Rattle.books_spec.specs.declared.limits.Limits.{Limits}
use Rattle.books_spec.specs.Items.{Source}
use Rattle.books_spec.specs.Views.{closed_sum}
use Rattle.books_spec.specs.WholeBooks.{SourceLine, whole_books}
use Rattle.account_spec.specs.Histories.{SubAgent, agent_of}
use Rattle.account_spec.specs.Deliveries.{Delivery, deliveries_of, item}
use Rattle.account_spec.specs.Arrivals.{Arrived, source_boots}
use Rattle.account_spec.specs.Accounts.{generations_of, generation_figures, figures_over, ledger_account, rate_among, line_account, delivered_sources}
use Rattle.account_laws.specs.Found.{LesserPremises}
use Rattle.account_laws.proofs.Lists.{all-map, all-each}
use Rattle.account_laws.proofs.Whole.{books-are}

closed-once : (width : ℕ) (gs : List (List Arrived)) → (closed_sum (map (generation_figures width) gs)).repeated ≡ 0
closed-once width [] = refl
closed-once width (g ∷ gs) = let later = closed-once width gs in omega (arith, later)

over-once : (width : ℕ) (gs : List (List Arrived)) → (figures_over width gs).repeated ≡ 0
over-once width [] = refl
over-once width (g ∷ gs) = let later = closed-once width gs in omega (arith, later)

ledger-once : (flow : Bool) (width rate : ℕ) (gs : List (List Arrived)) → (ledger_account flow width rate gs).repeated ≡ 0
ledger-once true width rate gs = over-once width gs
ledger-once false width rate gs = over-once width gs

pub sources-once : (l : Limits) (history : List SubAgent) (ds : List Delivery) → LesserPremises l history ds
    → AllByRecursion (λ (line : SourceLine). line.view.ledger.repeated ≡ 0) (whole_books l (map item ds)).sources
sources-once l history ds p =
    subst (λ books. AllByRecursion (λ (line : SourceLine). line.view.ledger.repeated ≡ 0) books.sources) (sym (books-are l history ds p))
    (all-map (λ (line : SourceLine). line.view.ledger.repeated ≡ 0) (line_account l history ds) (delivered_sources l.datagram_width ds)
    (all-each (λ (source : Source). (line_account l history ds source).view.ledger.repeated ≡ 0)
    (λ source. ledger-once source.id.flow l.sample_width (rate_among (agent_of history source.stream).setup.flows source)
    (generations_of (source_boots l.datagram_width source.id (deliveries_of source.stream ds)))) (delivered_sources l.datagram_width ds)))
