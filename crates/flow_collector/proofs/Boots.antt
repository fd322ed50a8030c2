-- A datagram none of whose samples is entered.
use Rattle.std.proofs.Common.{◌≡◌, ℕ, Bool, true, false, cond, Option, List, [], ◌∷◌, length, map, refl, sym, ap, subst, ◌∙◌, true≢false}
use Rattle.std.specs.List.{filter_map}
use Rattle.count_spec.specs.Windows.{answer, counted}
use Rattle.count_spec.specs.Boots.{sequences, boot_place, boots}
use Rattle.count_spec.specs.Stretches.{placed}
use Rattle.count_spec.specs.declared.entered.Entered as window
use Rattle.count_spec.specs.declared.entered.Entered.TheVariants as answers
use Rattle.count_spec.specs.declared.stretch_place.StretchPlace.{StretchPlace}
use Rattle.count_spec.specs.declared.stretch_place.StretchPlace.TheVariants.{Current, Next, Stale}
use Rattle.books_spec.specs.Items.{SourceId, Sample, Datagram, stamp_of, Item, Got, stream_of, Source}
use Rattle.books_spec.specs.SourceViews.{PlacedReading}
use Rattle.books_spec.specs.PlacedSamples.{PlacedSample, placed_at, first_placed, placed_reading_of, placed_readings, placed_boots, InterfaceSample, interface_samples, interface_boots}
use Rattle.books_spec.specs.declared.limits.Limits.{Limits}
use Rattle.books_spec.specs.Listing.{same_stream, among}
use Rattle.books_spec.specs.Books.{listed_streams, own, stream_boots, taken_of, taken_at, taken_in, taken_now, samples_at, onto, entered_in, entered, source_of, sources_of}
use Rattle.books_spec.specs.declared.taken.Taken.{Taken}
use Rattle.books_spec.specs.declared.taken.Taken.TheVariants.{First, Repeat, Late, Unlisted, Spent}
use Rattle.books_spec.specs.declared.taken.Taken.TheVariants as takes
use Rattle.books_spec.proofs.Keys.{stream-same}
use Rattle.stream_books.specs.Sources.{StandsFor}
use Rattle.stream_books.specs.declared.source.SourceRecord.{SourceRecord}
use Rattle.stream_books.proofs.Sources.{record-passed}
use Rattle.flow_collector.specs.Steps.{is_first, with_samples}
use Rattle.if_ledger.specs.Ledgers.{IfState}
use Rattle.if_ledger.specs.Boots.{StandsForBoots}
use Rattle.if_ledger.proofs.Runs.{passed-stands}
use Rattle.flow_collector.proofs.Entering.{place-same, taken-same, seen_in, seen_boots, see_interface}
use Rattle.flow_collector.proofs.Lists.{length-map-all}

-- ---- no samples

samples-none : (t : Taken) → samples_at t [] ≡ []
samples-none First = refl
samples-none Repeat = refl
samples-none Late = refl
samples-none takes.Stale = refl
samples-none Unlisted = refl
samples-none takes.Malformed = refl
samples-none Spent = refl

pub entered-none : (l : Limits) (items : List Item) (d : Datagram)
    → entered l (Got (with_samples d []) ∷ items) ≡ entered l items
entered-none l items d =
    ap (λ xs. onto (map (entered_in (stream_of d)) xs) (entered l items))
    (samples-none (taken_now l items (Got (with_samples d []))))

pub sources-none : (l : Limits) (items : List Item) (d : Datagram)
    → sources_of l (Got (with_samples d []) ∷ items) ≡ sources_of l items
sources-none l items d = ap (filter_map source_of) (entered-none l items d)

-- boots with one more at most, without an entry
pub data Grown {X : Type 0} (old new : List (List X)) : Type 0 where
  same : new ≡ old → Grown old new
  passed : new ≡ [] ∷ old → Grown old new

-- what stands for boots stands after a boot in which nothing came
pub grown-stands : (s : SourceRecord) (old new : List (List PlacedReading)) → Grown old new → StandsFor s old → StandsFor s new
grown-stands s old new (same e) st =
    let P : List (List PlacedReading) → Type 0 = λ bs. StandsFor s bs in
    subst P (sym e) st
grown-stands s old new (passed e) st =
    let P : List (List PlacedReading) → Type 0 = λ bs. StandsFor s bs in
    subst P (sym e) (record-passed s old st)

pub grown-interface : (width : ℕ) (s : IfState) (old new : List (List InterfaceSample)) → Grown old new
    → StandsForBoots width s old → StandsForBoots width s new
grown-interface width s old new (same e) st =
    let P : List (List InterfaceSample) → Type 0 = λ bs. StandsForBoots width s bs in
    subst P (sym e) st
grown-interface width s old new (passed e) st =
    let P : List (List InterfaceSample) → Type 0 = λ bs. StandsForBoots width s bs in
    subst P (sym e) (passed-stands width s old st)

placed-none : (a : window.Entered) → placed_at a [] ≡ []
placed-none (answers.First place n) = refl
placed-none answers.Repeat = refl
placed-none answers.Late = refl

module _ {X : Type 0} (see : SourceId → PlacedSample → Option X) where
  placed-grown : (w : ℕ) (id : SourceId) (d : Datagram) (p : StretchPlace) (bs : List (List Datagram))
      → Grown (map (seen_in see w id) bs) (map (seen_in see w id) (placed p (with_samples d []) bs))
  placed-grown w id d Current [] = passed (
      ap (λ xs. filter_map (see id) (onto xs []) ∷ [])
      (placed-none (answer w (counted w []) d.head.sequence)))
  placed-grown w id d Current (current ∷ closed) = same (
      ap (λ xs. filter_map (see id) (onto xs (first_placed w current)) ∷ map (seen_in see w id) closed)
      (placed-none (answer w (counted w (sequences stamp_of current)) d.head.sequence)))
  placed-grown w id d Next bs = passed (
      ap (λ xs. filter_map (see id) (onto xs []) ∷ map (seen_in see w id) bs)
      (placed-none (answer w (counted w []) d.head.sequence)))
  placed-grown w id d Stale bs = same refl

  pub seen-boots-none : (l : Limits) (items : List Item) (d : Datagram) (k : Source)
      → Grown (seen_boots see l k items) (seen_boots see l k (Got (with_samples d []) ∷ items))
  seen-boots-none l items d k = go (same_stream k.stream (stream_of d))
    where
      go : (b : Bool) → Grown (seen_boots see l k items)
          (map (seen_in see l.datagram_width k.id) (boots stamp_of l.boot_slack l.datagram_width
          (cond b (with_samples d [] ∷ own k.stream items) (own k.stream items))))
      go false = same refl
      go true =
          let bs = stream_boots l k.stream items in
          placed-grown l.datagram_width k.id d (boot_place stamp_of l.boot_slack l.datagram_width bs (with_samples d [])) bs

pub source-boots-none : (l : Limits) (items : List Item) (d : Datagram) (k : Source)
    → Grown (placed_boots l k items) (placed_boots l k (Got (with_samples d []) ∷ items))
source-boots-none l items d k = seen-boots-none placed_reading_of l items d k

pub interface-boots-none : (l : Limits) (items : List Item) (d : Datagram) (k : Source)
    → Grown (interface_boots l k items) (interface_boots l k (Got (with_samples d []) ∷ items))
interface-boots-none l items d k = seen-boots-none see_interface l items d k

-- ---- a datagram whose samples aren't entered

samples-not_first : (t : Taken) (xs : List Sample) → is_first t ≡ false → samples_at t [] ≡ samples_at t xs
samples-not_first First xs not = absurd (true≢false not)
samples-not_first Repeat xs not = refl
samples-not_first Late xs not = refl
samples-not_first takes.Stale xs not = refl
samples-not_first Unlisted xs not = refl
samples-not_first takes.Malformed xs not = refl
samples-not_first Spent xs not = refl

pub entered-not_first : (l : Limits) (items : List Item) (d : Datagram) → is_first (taken_now l items (Got d)) ≡ false
    → entered l (Got (with_samples d []) ∷ items) ≡ entered l (Got d ∷ items)
entered-not_first l items d not =
    ap (λ t. onto (map (entered_in (stream_of d)) (samples_at t [])) (entered l items)) (taken-same l items d [])
    ∙ ap (λ xs. onto (map (entered_in (stream_of d)) xs) (entered l items))
    (samples-not_first (taken_now l items (Got d)) d.samples not)

placed-at-not_first : (a : window.Entered) (xs : List Sample) → is_first (taken_of a) ≡ false → placed_at a [] ≡ placed_at a xs
placed-at-not_first (answers.First place n) xs not = absurd (true≢false not)
placed-at-not_first answers.Repeat xs not = refl
placed-at-not_first answers.Late xs not = refl

module _ {X : Type 0} (see : SourceId → PlacedSample → Option X) where
  placed-not_first : (w : ℕ) (id : SourceId) (d : Datagram) (p : StretchPlace) (bs : List (List Datagram))
      → is_first (taken_at w p bs d.head.sequence) ≡ false
      → map (seen_in see w id) (placed p (with_samples d []) bs) ≡ map (seen_in see w id) (placed p d bs)
  placed-not_first w id d Current [] not =
      ap (λ xs. filter_map (see id) (onto xs []) ∷ [])
      (placed-at-not_first (answer w (counted w []) d.head.sequence) d.samples not)
  placed-not_first w id d Current (current ∷ closed) not =
      ap (λ xs. filter_map (see id) (onto xs (first_placed w current)) ∷ map (seen_in see w id) closed)
      (placed-at-not_first (answer w (counted w (sequences stamp_of current)) d.head.sequence) d.samples not)
  placed-not_first w id d Next bs not = absurd (true≢false not)
  placed-not_first w id d Stale bs not = refl

  pub seen-boots-not_first : (l : Limits) (items : List Item) (d : Datagram) (k : Source)
      → among same_stream (listed_streams l (Got d ∷ items)) k.stream ≡ true
      → is_first (taken_now l items (Got d)) ≡ false
      → seen_boots see l k (Got (with_samples d []) ∷ items) ≡ seen_boots see l k (Got d ∷ items)
  seen-boots-not_first l items d k there not = go (same_stream k.stream (stream_of d)) refl
    where
      go : (b : Bool) → same_stream k.stream (stream_of d) ≡ b
          → map (seen_in see l.datagram_width k.id) (boots stamp_of l.boot_slack l.datagram_width
          (cond b (with_samples d [] ∷ own k.stream items) (own k.stream items)))
          ≡ map (seen_in see l.datagram_width k.id) (boots stamp_of l.boot_slack l.datagram_width
          (cond b (d ∷ own k.stream items) (own k.stream items)))
      go false e = refl
      go true e =
          let this : k.stream ≡ stream_of d = stream-same.to k.stream (stream_of d) e in
          let bs : List (List Datagram) = stream_boots l k.stream items in
          let listed_now : among same_stream (listed_streams l (Got d ∷ items)) (stream_of d) ≡ true =
          ap (among same_stream (listed_streams l (Got d ∷ items))) (sym this) ∙ there in
          let answered : taken_now l items (Got d) ≡ taken_in l bs d =
          ap (λ b. cond b (taken_in l (stream_boots l (stream_of d) items) d) Unlisted) listed_now
          ∙ ap (λ s. taken_in l (stream_boots l s items) d) (sym this) in
          ap (λ p. map (seen_in see l.datagram_width k.id) (placed p (with_samples d []) bs))
          (place-same l.boot_slack l.datagram_width bs d [])
          ∙ placed-not_first l.datagram_width k.id d (boot_place stamp_of l.boot_slack l.datagram_width bs d) bs
          (ap is_first (sym answered) ∙ not)

pub source-boots-not_first : (l : Limits) (items : List Item) (d : Datagram) (k : Source)
    → among same_stream (listed_streams l (Got d ∷ items)) k.stream ≡ true
    → is_first (taken_now l items (Got d)) ≡ false
    → placed_boots l k (Got (with_samples d []) ∷ items) ≡ placed_boots l k (Got d ∷ items)
source-boots-not_first l items d k there not = seen-boots-not_first placed_reading_of l items d k there not

pub interface-boots-not_first : (l : Limits) (items : List Item) (d : Datagram) (k : Source)
    → among same_stream (listed_streams l (Got d ∷ items)) k.stream ≡ true
    → is_first (taken_now l items (Got d)) ≡ false
    → interface_boots l k (Got (with_samples d []) ∷ items) ≡ interface_boots l k (Got d ∷ items)
interface-boots-not_first l items d k there not = seen-boots-not_first see_interface l items d k there not

-- ---- how many boots there are

length-placed : (p : StretchPlace) (d : Datagram) (xs : List Sample) (bs : List (List Datagram))
    → length (placed p (with_samples d xs) bs) ≡ length (placed p d bs)
length-placed Current d xs [] = refl
length-placed Current d xs (current ∷ closed) = refl
length-placed Next d xs bs = refl
length-placed Stale d xs bs = refl

pub boots-same : (l : Limits) (items : List Item) (d : Datagram) (xs : List Sample)
    → length (stream_boots l (stream_of d) (Got (with_samples d xs) ∷ items))
    ≡ length (stream_boots l (stream_of d) (Got d ∷ items))
boots-same l items d xs = go (same_stream (stream_of d) (stream_of d))
  where
    go : (b : Bool) → length (boots stamp_of l.boot_slack l.datagram_width
        (cond b (with_samples d xs ∷ own (stream_of d) items) (own (stream_of d) items)))
        ≡ length (boots stamp_of l.boot_slack l.datagram_width
        (cond b (d ∷ own (stream_of d) items) (own (stream_of d) items)))
    go false = refl
    go true =
        let bs : List (List Datagram) = stream_boots l (stream_of d) items in
        ap (λ p. length (placed p (with_samples d xs) bs)) (place-same l.boot_slack l.datagram_width bs d xs)
        ∙ length-placed (boot_place stamp_of l.boot_slack l.datagram_width bs d) d xs bs

pub source-boots-length : (l : Limits) (k : Source) (items : List Item)
    → length (placed_boots l k items) ≡ length (stream_boots l k.stream items)
source-boots-length l k items = length-map-all (placed_readings l.datagram_width k.id) (stream_boots l k.stream items)

pub interface-boots-length : (l : Limits) (k : Source) (items : List Item)
    → length (interface_boots l k items) ≡ length (stream_boots l k.stream items)
interface-boots-length l k items = length-map-all (interface_samples l.datagram_width k.id) (stream_boots l k.stream items)
