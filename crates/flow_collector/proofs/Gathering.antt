-- What a collector makes of one item more.
use Rattle.std.proofs.Common.{◌≡◌, ◌∙◌, Bool, List, [], ◌∷◌, ◌++◌, map, refl, sym, ap, subst}
use Rattle.std.proofs.lemmas.List.{map-append}
use Rattle.books_spec.specs.declared.limits.Limits.{Limits}
use Rattle.books_spec.specs.Items.{Malformed}
use Rattle.books_spec.specs.SampledHeaders.{HeaderedItem, items_within, headers_now, first_headers}
use Rattle.wire_spec.specs.declared.fault.Fault.{Fault}
use Rattle.sample_taps.specs.declared.brief.Brief.{Brief}
use Rattle.sample_taps.specs.Briefs.{facts_in}
use Rattle.sample_taps.specs.BookBriefs.{brief_in, book_briefs, book_classes}
use Rattle.sample_taps.specs.Classes.{classes, no_classes, with_headers}
use Rattle.sample_taps.specs.Feeding.{Held}
use Rattle.sample_taps.proofs.ClassCounts.{classes_more}
use Rattle.sample_taps.proofs.Feedings.{held_more}
use Rattle.flow_collector.specs.Collectors.{CollectorState, StandsFor}
use Rattle.flow_collector.specs.Gathering.{Gathered}
use Rattle.flow_collector.specs.Headers.{briefs_now}

-- the briefs of one item more come behind those of the others
pub briefs-more : (l : Limits) (i : HeaderedItem) (before : List HeaderedItem)
    → book_briefs l (i ∷ before) ≡ book_briefs l before ++ briefs_now l (items_within before) i
briefs-more l i before =
    map-append brief_in (first_headers l before) (headers_now l (items_within before) i.item i.headers)

-- and are counted behind them
pub classes-more : (l : Limits) (i : HeaderedItem) (before : List HeaderedItem)
    → with_headers (book_classes l before) (map facts_in (briefs_now l (items_within before) i)) ≡ book_classes l (i ∷ before)
classes-more l i before =
    classes_more (map facts_in (book_briefs l before)) (map facts_in (briefs_now l (items_within before) i))
    ∙ ap classes (sym (map-append facts_in (book_briefs l before) (briefs_now l (items_within before) i)))
    ∙ ap (λ bs. classes (map facts_in bs)) (sym (briefs-more l i before))

module _ {X : Type 0} (step : X → Brief → X → Type 0) (done : X → Bool) where
  -- nothing was taken yet
  pub gathered-none : (s : CollectorState) (l : Limits) (xs : List X) → StandsFor s.books l [] → s.classes ≡ no_classes
      → Gathered step done s l [] xs xs
  gathered-none s l xs stands none = record { stands = stands; classes = none; held = refl }

  -- one item more was taken
  pub gathered-more : (old new : CollectorState) (l : Limits) (items : List HeaderedItem) (i : HeaderedItem) (xs ys zs : List X)
      → StandsFor new.books l (i.item ∷ items_within items)
      → new.classes ≡ with_headers old.classes (map facts_in (briefs_now l (items_within items) i))
      → Held step done (briefs_now l (items_within items) i) ys zs
      → Gathered step done old l items xs ys → Gathered step done new l (i ∷ items) xs zs
  gathered-more old new l items i xs ys zs stands counts fed was = record {
    stands = stands;
    classes = counts ∙ ap (λ t. with_headers t (map facts_in (briefs_now l (items_within items) i))) was.classes
        ∙ classes-more l i items;
    held = subst (λ bs. Held step done bs xs zs) (sym (briefs-more l i items))
        (held_more step done (book_briefs l items) (briefs_now l (items_within items) i) xs ys zs was.held fed);
  }

  -- an entry that is no datagram
  pub gathered-rejected : (old new : CollectorState) (l : Limits) (items : List HeaderedItem) (f : Fault) (xs ys : List X)
      → StandsFor new.books l (Malformed f ∷ items_within items) → new.classes ≡ old.classes
      → Gathered step done old l items xs ys
      → Gathered step done new l (record { item = Malformed f; headers = [] } ∷ items) xs ys
  gathered-rejected old new l items f xs ys stands same was =
      gathered-more old new l items (record { item = Malformed f; headers = [] }) xs ys ys stands same refl was
