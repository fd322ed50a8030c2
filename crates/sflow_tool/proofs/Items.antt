-- The items of entries, and a collector that takes them and feeds consumers.
use Rattle.std.proofs.Common.{◌≡◌, ℕ, Bool, ◌^◌, ◌<◌, List, [], ◌∷◌, ◌++◌, length, map, Result, refl, ap, sym, subst, ◌∙◌, arith}
use Rattle.std.specs.Prelude.{reverse}
use Rattle.std.proofs.lemmas.List.{length-map, length-reverse, map-append, reverse-append}
use Rattle.capture_spec.specs.Items.{Received}
use Rattle.books_spec.specs.SampledHeaders.{HeaderedItem, item_within, items_within}
use Rattle.books_spec.specs.WholeBooks.{whole_books}
use Rattle.books_spec.specs.declared.limits.Limits.{Limits}
use Rattle.books_spec.specs.Books.{most_entries}
use Rattle.sample_taps.specs.declared.brief.Brief.{Brief}
use Rattle.sample_taps.specs.declared.class_totals.ClassTotals.{ClassTotals}
use Rattle.sample_taps.specs.Classes.{no_classes}
use Rattle.flow_collector.specs.Collectors.{CollectorState, StandsFor}
use Rattle.flow_collector.specs.Gathering.{Gathered}
use Rattle.flow_collector.specs.Headers.{headered_of}
use Rattle.wire_spec.specs.declared.fault.Fault.{Fault}
use Rattle.wire_spec.specs.Shapes.{Tree}
use Rattle.flow_collector.proofs.Gathering.{gathered-none}
use Rattle.report_lines.specs.HeaderLines.{ShownTaps}
use Rattle.report_lines.specs.InterfaceLines.{report_with}
use Rattle.sflow_tool.specs.Replays.{Collects, entry_item, headered_items, headered_received, items_in, report_of}

pub map_reverse : {A B : Type 0} (f : A → B) (xs : List A) → map f (reverse xs) ≡ reverse (map f xs)
map_reverse f [] = refl
map_reverse f (x ∷ xs) =
    ap (map f) (reverse-append (x ∷ []) xs)
    ∙ map-append f (reverse xs) (x ∷ [])
    ∙ ap (λ ys. ys ++ f x ∷ []) (map_reverse f xs)
    ∙ sym (reverse-append (f x ∷ []) (map f xs))

-- ---- items with their headers

headered-push : (entries : List Received) (e : Received)
    → headered_items (entries ++ e ∷ []) ≡ headered_received e ∷ headered_items entries
headered-push entries e =
    ap reverse (map-append headered_received entries (e ∷ []))
    ∙ reverse-append (map headered_received entries) (headered_received e ∷ [])

length-headered : (entries : List Received) → length (headered_items entries) ≡ length entries
length-headered entries = length-reverse (map headered_received entries) ∙ length-map entries headered_received

each_within : (entries : List Received) → map item_within (map headered_received entries) ≡ map entry_item entries
each_within [] = refl
each_within (e ∷ entries) = ap (λ items. entry_item e ∷ items) (each_within entries)

pub items-within : (entries : List Received) → items_within (headered_items entries) ≡ items_in entries
items-within entries =
    map_reverse item_within (map headered_received entries) ∙ ap reverse (each_within entries)

module _ {X : Type 0} (step : X → Brief → X → Type 0) (done : X → Bool) (l : Limits) where
  -- a collector that has taken some entries has taken a further one
  pub one_taken : (old new : CollectorState) (xs ys zs : List X) (all left left' : ℕ) (entries : List Received)
      (e : Received) → length entries < 2 ^ 48 → Collects step done l old xs ys all left entries
      → ((m : Limits) (items : List HeaderedItem) (us : List X) → length items < most_entries
      → Gathered step done old m items us ys → Gathered step done new m (headered_received e ∷ items) us zs)
      → left' ≡ left → Collects step done l new xs zs all left' (entries ++ e ∷ [])
  one_taken old new xs ys zs all left left' entries e few so_far takes kept =
      let fewer : length (headered_items entries) < most_entries = omega (arith, few, length-headered entries) in
      let taken = takes l (headered_items entries) xs fewer so_far.gathered in
      record {
        gathered =
            subst (λ (items : List HeaderedItem). Gathered step done new l items xs zs) (sym (headered-push entries e)) taken;
        taps_kept = kept ∙ so_far.taps_kept;
      }

  -- it has taken none yet
  pub none_taken : (collector : CollectorState) (xs : List X) (all : ℕ) → StandsFor collector.books l []
      → collector.classes ≡ no_classes → Collects step done l collector xs xs all all []
  none_taken collector xs all stands classes =
      record { gathered = gathered-none step done collector l xs stands classes; taps_kept = refl }

  -- the books of a collector that has taken these entries
  pub stands_so : (now : CollectorState) (xs ys : List X) (all left : ℕ) (entries : List Received)
      → Collects step done l now xs ys all left entries → StandsFor now.books l (items_in entries)
  stands_so now xs ys all left entries so_far = subst (StandsFor now.books l) (items-within entries) so_far.gathered.stands

  -- and what its report is
  pub report_so : (now : CollectorState) (xs ys : List X) (all left : ℕ) (entries : List Received) (interfaces : Bool)
      (taps : ShownTaps) → Collects step done l now xs ys all left entries
      → report_with interfaces (whole_books l (items_in entries)) now.classes taps ≡ report_of l interfaces taps entries
  unfolding report_of
  report_so now xs ys all left entries interfaces taps so_far =
      ap (λ (classes : ClassTotals). report_with interfaces (whole_books l (items_in entries)) classes taps)
      so_far.gathered.classes

-- the bytes of an entry were read so
pub gathered_at : {X : Type 0} (step : X → Brief → X → Type 0) (done : X → Bool) (s : CollectorState) (l : Limits)
    (at : ℕ) (read found : Result Tree Fault) (items : List HeaderedItem) (xs ys : List X) → read ≡ found
    → Gathered step done s l (headered_of at found ∷ items) xs ys → Gathered step done s l (headered_of at read ∷ items) xs ys
gathered_at step done s l at read found items xs ys is gathered =
    subst (λ (r : Result Tree Fault). Gathered step done s l (headered_of at r ∷ items) xs ys) (sym is) gathered
