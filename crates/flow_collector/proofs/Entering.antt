-- One sample more of a datagram whose samples are entered.
use Rattle.std.proofs.Common.{◌≡◌, ℕ, suc, ◌+◌, ℤ, Bool, true, false, cond, ◌&&◌, Option, Some, None, List, [], ◌∷◌, ◌++◌, length, map, refl, sym, ap, ◌∙◌, true≢false, arith}
use Rattle.std.specs.List.{filter_map, cons_option}
use Rattle.count_spec.specs.Windows.{answer, counted}
use Rattle.count_spec.specs.Boots.{sequences, boot_place, boots}
use Rattle.count_spec.specs.Stretches.{placed}
use Rattle.count_spec.specs.declared.entered.Entered as window
use Rattle.count_spec.specs.declared.entered.Entered.TheVariants as answers
use Rattle.count_spec.specs.declared.stretch_place.StretchPlace.{StretchPlace}
use Rattle.count_spec.specs.declared.stretch_place.StretchPlace.TheVariants.{Current, Next, Stale}
use Rattle.books_spec.specs.Items.{SourceId, Sample, Other, Datagram, stamp_of, Item, Got, stream_of, Source}
use Rattle.books_spec.specs.declared.reading.SampleReading.{SampleReading}
use Rattle.books_spec.specs.declared.limits.Limits.{Limits}
use Rattle.books_spec.specs.declared.sample_place.SamplePlace.{SamplePlace}
use Rattle.books_spec.specs.InterfaceRise.{InterfaceCounters}
use Rattle.books_spec.specs.Listing.{same_stream, same_id, same_source, among}
use Rattle.books_spec.specs.Books.{listed_streams, own, stream_boots, taken_at, taken_in, taken_now, samples_at, onto, entered_in, entered, source_in, source_of, sources_of, reading_of}
use Rattle.books_spec.specs.SourceViews.{PlacedReading}
use Rattle.books_spec.specs.PlacedSamples.{PlacedSample, placed_from, placed_at, first_placed, read_at, placed_reading_of, placed_boots, InterfaceSample, seen_at, interface_sample_at, interface_boots}
use Rattle.books_spec.specs.declared.taken.Taken.{Taken}
use Rattle.books_spec.specs.declared.taken.Taken.TheVariants.{First, Unlisted}
use Rattle.books_spec.specs.declared.taken.Taken.TheVariants as takes
use Rattle.books_spec.proofs.Keys.{stream-same, id-same}
use Rattle.stream_books.specs.Receipts.{receipt_of, receipt_at, receipt_in}
use Rattle.stream_books.proofs.Receipts.{receipt-taken}
use Rattle.collector_tables.specs.Sources.{with_reading, after_reading}
use Rattle.flow_collector.specs.Items.{sample_with}
use Rattle.flow_collector.specs.Steps.{is_first, with_samples, with_sample, number_in}
use Rattle.flow_collector.proofs.Lists.{onto-last, map-last, either-way}

-- ---- the place of a datagram is the same whatever its samples are

pub place-same : (slack width : ℕ) (bs : List (List Datagram)) (d : Datagram) (xs : List Sample)
    → boot_place stamp_of slack width bs (with_samples d xs) ≡ boot_place stamp_of slack width bs d
place-same slack width [] d xs = refl
place-same slack width (current ∷ closed) d xs = refl

pub taken-same : (l : Limits) (items : List Item) (d : Datagram) (xs : List Sample)
    → taken_now l items (Got (with_samples d xs)) ≡ taken_now l items (Got d)
taken-same l items d xs =
    ap (λ p. cond (among same_stream (listed_streams l (Got d ∷ items)) (stream_of d))
    (taken_at l.datagram_width p (stream_boots l (stream_of d) items) d.head.sequence) Unlisted)
    (place-same l.boot_slack l.datagram_width (stream_boots l (stream_of d) items) d xs)

-- ---- entered samples

pub entered-first : (l : Limits) (items : List Item) (d : Datagram) → taken_now l items (Got d) ≡ First
    → entered l (Got d ∷ items) ≡ onto (map (entered_in (stream_of d)) d.samples) (entered l items)
entered-first l items d first =
    ap (λ t. onto (map (entered_in (stream_of d)) (samples_at t d.samples)) (entered l items)) first

pub entered-one_more : (l : Limits) (items : List Item) (d : Datagram) (x : Sample) → taken_now l items (Got d) ≡ First
    → entered l (Got (with_sample d x) ∷ items) ≡ entered_in (stream_of d) x ∷ entered l (Got d ∷ items)
entered-one_more l items d x first =
    entered-first l items (with_sample d x) (taken-same l items d (d.samples ++ x ∷ []) ∙ first)
    ∙ ap (λ es. onto es (entered l items)) (map-last (entered_in (stream_of d)) d.samples x)
    ∙ onto-last (map (entered_in (stream_of d)) d.samples) (entered_in (stream_of d) x) (entered l items)
    ∙ ap (λ es. entered_in (stream_of d) x ∷ es) (sym (entered-first l items d first))

pub sources-one_more : (l : Limits) (items : List Item) (d : Datagram) (x : Sample) → taken_now l items (Got d) ≡ First
    → sources_of l (Got (with_sample d x) ∷ items)
    ≡ cons_option (source_in (stream_of d) x) (sources_of l (Got d ∷ items))
sources-one_more l items d x first = ap (filter_map source_of) (entered-one_more l items d x first)

-- ---- samples with their places

-- a sample at this index in the datagram of this number
abbrev pub sample_at : ℤ → ℕ → Sample → PlacedSample
sample_at n index x = record { place = record { datagram = n; index = index }; sample = x }

-- the samples of a datagram with one more
placed-last : (n : ℤ) (from : ℕ) (xs : List Sample) (x : Sample)
    → placed_from n from (xs ++ x ∷ []) ≡ placed_from n from xs ++ sample_at n (from + length xs) x ∷ []
placed-last n from [] x =
    let same : from ≡ from + 0 = omega arith in
    ap (λ (k : ℕ). sample_at n k x ∷ []) same
placed-last n from (y ∷ xs) x =
    let same : suc from + length xs ≡ from + suc (length xs) = omega arith in
    ap (λ (ps : List PlacedSample). sample_at n from y ∷ ps) (placed-last n (suc from) xs x)
    ∙ ap (λ (k : ℕ). sample_at n from y ∷ (placed_from n (suc from) xs ++ sample_at n k x ∷ [])) same

placed-one_more : (a : window.Entered) (n : ℤ) (xs : List Sample) (x : Sample) (rest : List PlacedSample)
    → (receipt_of a).taken ≡ First → n ≡ (receipt_of a).number
    → onto (placed_at a (xs ++ x ∷ [])) rest ≡ sample_at n (length xs) x ∷ onto (placed_at a xs) rest
placed-one_more (answers.First place m) n xs x rest first is =
    let same : 0 + length xs ≡ length xs = omega arith in
    ap (λ (ps : List PlacedSample). onto ps rest) (placed-last m 0 xs x)
    ∙ onto-last (placed_from m 0 xs) (sample_at m (0 + length xs) x) rest
    ∙ (λ j. sample_at (sym is j) (same j) x ∷ onto (placed_from m 0 xs) rest)
placed-one_more answers.Repeat n xs x rest first is = absurd (true≢false (sym (ap is_first first)))
placed-one_more answers.Late n xs x rest first is = absurd (true≢false (sym (ap is_first first)))

pub stale-first : (A : Type 0) → takes.Stale ≡ First → A
stale-first A e = absurd (true≢false (sym (ap is_first e)))

-- where a datagram is First, its stream is listed, and it is First in its boots
first-parts : (b : Bool) (t : Taken) → cond b t Unlisted ≡ First → (b ≡ true) × (t ≡ First)
first-parts true t e = (refl, e)
first-parts false t e = absurd (true≢false (ap is_unlisted e))
  where
    is_unlisted : Taken → Bool
    is_unlisted Unlisted = true
    is_unlisted _ = false

pub first-listed : (l : Limits) (items : List Item) (d : Datagram) → taken_now l items (Got d) ≡ First
    → among same_stream (listed_streams l (Got d ∷ items)) (stream_of d) ≡ true
first-listed l items d first =
    (first-parts (among same_stream (listed_streams l (Got d ∷ items)) (stream_of d))
    (taken_in l (stream_boots l (stream_of d) items) d) first).0

pub first-in : (l : Limits) (items : List Item) (d : Datagram) → taken_now l items (Got d) ≡ First
    → taken_in l (stream_boots l (stream_of d) items) d ≡ First
first-in l items d first =
    (first-parts (among same_stream (listed_streams l (Got d ∷ items)) (stream_of d))
    (taken_in l (stream_boots l (stream_of d) items) d) first).1

-- the answer in its receipt
pub receipt-first : (l : Limits) (items : List Item) (d : Datagram) → taken_now l items (Got d) ≡ First
    → (receipt_in l.boot_slack l.datagram_width (stream_boots l (stream_of d) items) d).taken ≡ First
receipt-first l items d first =
    let bs : List (List Datagram) = stream_boots l (stream_of d) items in
    receipt-taken l.datagram_width (boot_place stamp_of l.boot_slack l.datagram_width bs d) bs d.head.sequence
    ∙ first-in l items d first

-- ---- what is seen of a source over boots

-- the boots with one more in the current one, if there is one
abbrev pub with_one : {X : Type 0} → X → List (List X) → List (List X)
with_one x [] = []
with_one x (current ∷ closed) = (x ∷ current) ∷ closed

abbrev pub with_option : {X : Type 0} → Option X → List (List X) → List (List X)
with_option None boots = boots
with_option (Some x) boots = with_one x boots

-- what came of each source, after one more of this one
abbrev pub after_one : {X : Type 0} → Source → X → (Source → List (List X)) → Source → List (List X)
after_one source x boots_of other = cond (same_source source other) (with_one x (boots_of other)) (boots_of other)

one-more-boot : {X : Type 0} (o : Option X) (current : List X) (closed : List (List X))
    → cons_option o current ∷ closed ≡ with_option o (current ∷ closed)
one-more-boot None current closed = refl
one-more-boot (Some x) current closed = refl

module _ {X : Type 0} (see : SourceId → PlacedSample → Option X) where
  -- what is seen of a source in one boot, and in each boot of its stream
  abbrev pub seen_in : ℕ → SourceId → List Datagram → List X
  seen_in width id boot = filter_map (see id) (first_placed width boot)

  abbrev pub seen_boots : Limits → Source → List Item → List (List X)
  seen_boots l k items = map (seen_in l.datagram_width k.id) (stream_boots l k.stream items)

  seen-one_more : (w : ℕ) (id : SourceId) (d : Datagram) (x : Sample) (n : ℤ) (before : List Datagram)
      → (receipt_of (answer w (counted w (sequences stamp_of before)) d.head.sequence)).taken ≡ First
      → n ≡ (receipt_of (answer w (counted w (sequences stamp_of before)) d.head.sequence)).number
      → seen_in w id (with_sample d x ∷ before)
      ≡ cons_option (see id (sample_at n (length d.samples) x)) (seen_in w id (d ∷ before))
  seen-one_more w id d x n before first is =
      ap (filter_map (see id))
      (placed-one_more (answer w (counted w (sequences stamp_of before)) d.head.sequence) n d.samples x (first_placed w before)
      first is)

  boots-one_more : (w : ℕ) (id : SourceId) (d : Datagram) (x : Sample) (n : ℤ) (p : StretchPlace) (bs : List (List Datagram))
      → (receipt_at w p bs d.head.sequence).taken ≡ First → n ≡ (receipt_at w p bs d.head.sequence).number
      → map (seen_in w id) (placed p (with_sample d x) bs)
      ≡ with_option (see id (sample_at n (length d.samples) x)) (map (seen_in w id) (placed p d bs))
  boots-one_more w id d x n Current [] first is =
      ap (λ current. current ∷ []) (seen-one_more w id d x n [] first is)
      ∙ one-more-boot (see id (sample_at n (length d.samples) x)) (seen_in w id (d ∷ [])) []
  boots-one_more w id d x n Current (current ∷ closed) first is =
      ap (λ rs. rs ∷ map (seen_in w id) closed) (seen-one_more w id d x n current first is)
      ∙ one-more-boot (see id (sample_at n (length d.samples) x)) (seen_in w id (d ∷ current))
      (map (seen_in w id) closed)
  boots-one_more w id d x n Next bs first is =
      ap (λ rs. rs ∷ map (seen_in w id) bs) (seen-one_more w id d x n [] refl is)
      ∙ one-more-boot (see id (sample_at n (length d.samples) x)) (seen_in w id (d ∷ []))
      (map (seen_in w id) bs)
  boots-one_more w id d x n Stale bs first is =
      stale-first (map (seen_in w id) bs
      ≡ with_option (see id (sample_at n (length d.samples) x)) (map (seen_in w id) bs)) first

  -- what is seen of a source over the datagrams of its stream, of which this may be one more
  boots_if : Limits → SourceId → List Datagram → Datagram → Bool → List (List X)
  boots_if l id ds d b =
      map (seen_in l.datagram_width id) (boots stamp_of l.boot_slack l.datagram_width (cond b (d ∷ ds) ds))

  pub seen-boots-one_more : (l : Limits) (items : List Item) (d : Datagram) (x : Sample) (n : ℤ) (k : Source)
      → taken_now l items (Got d) ≡ First → n ≡ number_in l items d
      → seen_boots l k (Got (with_sample d x) ∷ items)
      ≡ cond (same_stream k.stream (stream_of d))
      (with_option (see k.id (sample_at n (length d.samples) x)) (seen_boots l k (Got d ∷ items)))
      (seen_boots l k (Got d ∷ items))
  unfolding boots_if
  seen-boots-one_more l items d x n k first is = go (same_stream k.stream (stream_of d)) refl
    where
      go : (b : Bool) → same_stream k.stream (stream_of d) ≡ b
          → boots_if l k.id (own k.stream items) (with_sample d x) b
          ≡ cond b (with_option (see k.id (sample_at n (length d.samples) x)) (boots_if l k.id (own k.stream items) d b))
          (boots_if l k.id (own k.stream items) d b)
      go false e = refl
      go true e =
          let same : stream_of d ≡ k.stream = sym (stream-same.to k.stream (stream_of d) e) in
          let bs : List (List Datagram) = stream_boots l k.stream items in
          let there : (receipt_in l.boot_slack l.datagram_width bs d).taken ≡ First =
          ap (λ s. (receipt_in l.boot_slack l.datagram_width (stream_boots l s items) d).taken) (sym same)
          ∙ receipt-first l items d first in
          let number : n ≡ (receipt_in l.boot_slack l.datagram_width bs d).number =
          is ∙ ap (λ s. (receipt_in l.boot_slack l.datagram_width (stream_boots l s items) d).number) same in
          ap (λ p. map (seen_in l.datagram_width k.id) (placed p (with_sample d x) bs))
          (place-same l.boot_slack l.datagram_width bs d (d.samples ++ x ∷ []))
          ∙ boots-one_more l.datagram_width k.id d x n (boot_place stamp_of l.boot_slack l.datagram_width bs d) bs there number

  -- a sample of which a source shows this, where it is the source's
  pub seen-boots-of : (l : Limits) (items : List Item) (d : Datagram) (id : SourceId) (x : Sample) (seen : X) (n : ℤ) (k : Source)
      → see k.id (sample_at n (length d.samples) x) ≡ cond (same_id k.id id) (Some seen) None
      → taken_now l items (Got d) ≡ First → n ≡ number_in l items d
      → after_one (record { stream = stream_of d; id = id }) seen (λ s. seen_boots l s (Got d ∷ items)) k
      ≡ seen_boots l k (Got (with_sample d x) ∷ items)
  seen-boots-of l items d id x seen n k shows first is =
      let bs : List (List X) = seen_boots l k (Got d ∷ items) in
      (λ j. cond (either-way same_stream stream-same (stream_of d) k.stream j && either-way same_id id-same id k.id j)
      (with_one seen bs) bs)
      ∙ go (same_stream k.stream (stream_of d)) (same_id k.id id) bs
      ∙ ap (λ o. cond (same_stream k.stream (stream_of d)) (with_option o bs) bs) (sym shows)
      ∙ sym (seen-boots-one_more l items d x n k first is)
    where
      go : (b c : Bool) (bs : List (List X))
          → cond (b && c) (with_one seen bs) bs ≡ cond b (with_option (cond c (Some seen) None) bs) bs
      go true true bs = refl
      go true false bs = refl
      go false c bs = refl

  -- a sample of another format
  pub seen-boots-other : (l : Limits) (items : List Item) (d : Datagram) (k : Source)
      → ((p : SamplePlace) → see k.id (record { place = p; sample = Other }) ≡ None)
      → taken_now l items (Got d) ≡ First
      → seen_boots l k (Got d ∷ items) ≡ seen_boots l k (Got (with_sample d Other) ∷ items)
  seen-boots-other l items d k unseen first =
      go (same_stream k.stream (stream_of d)) (seen_boots l k (Got d ∷ items))
      ∙ ap (λ o. cond (same_stream k.stream (stream_of d)) (with_option o (seen_boots l k (Got d ∷ items))) (seen_boots l k (Got d ∷ items)))
      (sym (unseen (record { datagram = number_in l items d; index = length d.samples })))
      ∙ sym (seen-boots-one_more l items d Other (number_in l items d) k first refl)
    where
      go : (b : Bool) (bs : List (List X)) → bs ≡ cond b (with_option None bs) bs
      go true bs = refl
      go false bs = refl

-- ---- readings, and interface counters

abbrev pub see_interface : SourceId → PlacedSample → Option InterfaceSample
see_interface id p = interface_sample_at p.place id p.sample

same-reading : (r : PlacedReading) (bs : List (List PlacedReading)) → with_reading r bs ≡ with_one r bs
same-reading r [] = refl
same-reading r (current ∷ closed) = refl

-- one reading more of a source, whatever counters the sample carries
pub source-boots-of : (l : Limits) (items : List Item) (d : Datagram) (id : SourceId) (r : SampleReading)
    (carried : Option InterfaceCounters) (n : ℤ) (k : Source) → taken_now l items (Got d) ≡ First → n ≡ number_in l items d
    → after_reading (record { stream = stream_of d; id = id })
    (record { place = record { datagram = n; index = length d.samples }; reading = r })
    (λ s. placed_boots l s (Got d ∷ items)) k
    ≡ placed_boots l k (Got (with_sample d (sample_with id r carried)) ∷ items)
source-boots-of l items d id r carried n k first is =
    let source : Source = record { stream = stream_of d; id = id } in
    let bs : List (List PlacedReading) = placed_boots l k (Got d ∷ items) in
    let p : PlacedReading = record { place = record { datagram = n; index = length d.samples }; reading = r } in
    ap (λ more. cond (same_source source k) more bs) (same-reading p bs)
    ∙ seen-boots-of placed_reading_of l items d id (sample_with id r carried) p n k (shows carried) first is
  where
    place : SamplePlace
    place = record { datagram = n; index = length d.samples }

    read : (b : Bool) → read_at place (cond b (Some r) None) ≡ cond b (Some (record { place = place; reading = r })) None
    read true = refl
    read false = refl

    shows : (o : Option InterfaceCounters)
        → read_at place (reading_of k.id (sample_with id r o)) ≡ cond (same_id k.id id) (Some (record { place = place; reading = r })) None
    shows None = read (same_id k.id id)
    shows (Some c) = read (same_id k.id id)

-- and one sample more as its interface counters see it
pub interface-boots-of : (l : Limits) (items : List Item) (d : Datagram) (id : SourceId) (r : SampleReading)
    (carried : Option InterfaceCounters) (n : ℤ) (k : Source) → taken_now l items (Got d) ≡ First → n ≡ number_in l items d
    → after_one (record { stream = stream_of d; id = id }) (seen_at (record { datagram = n; index = length d.samples }) r carried)
    (λ s. interface_boots l s (Got d ∷ items)) k
    ≡ interface_boots l k (Got (with_sample d (sample_with id r carried)) ∷ items)
interface-boots-of l items d id r carried n k first is =
    seen-boots-of see_interface l items d id (sample_with id r carried)
    (seen_at (record { datagram = n; index = length d.samples }) r carried) n k (shows carried) first is
  where
    place : SamplePlace
    place = record { datagram = n; index = length d.samples }

    shows : (o : Option InterfaceCounters)
        → interface_sample_at place k.id (sample_with id r o) ≡ cond (same_id k.id id) (Some (seen_at place r o)) None
    shows None = refl
    shows (Some c) = refl

pub source-boots-other : (l : Limits) (items : List Item) (d : Datagram) (k : Source)
    → taken_now l items (Got d) ≡ First
    → placed_boots l k (Got d ∷ items) ≡ placed_boots l k (Got (with_sample d Other) ∷ items)
source-boots-other l items d k first = seen-boots-other placed_reading_of l items d k (λ p. refl) first

pub interface-boots-other : (l : Limits) (items : List Item) (d : Datagram) (k : Source)
    → taken_now l items (Got d) ≡ First
    → interface_boots l k (Got d ∷ items) ≡ interface_boots l k (Got (with_sample d Other) ∷ items)
interface-boots-other l items d k first = seen-boots-other see_interface l items d k (λ p. refl) first
