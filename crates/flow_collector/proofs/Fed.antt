-- What the samples of a datagram feed, one after the other.
use Rattle.std.proofs.Common.{◌≡◌, ◌∙◌, ℕ, suc, ◌+◌, ℤ, Bool, true, false, cond, Option, Some, None, List, [], ◌∷◌, ◌++◌, length, map, refl, sym, ap, subst, true≢false, arith}
use Rattle.std.proofs.lemmas.List.{append_assoc, append-nil, map-append}
use Rattle.count_spec.specs.declared.entered.Entered as window
use Rattle.count_spec.specs.declared.entered.Entered.TheVariants as answers
use Rattle.count_spec.specs.declared.stretch_place.StretchPlace.{StretchPlace}
use Rattle.count_spec.specs.declared.stretch_place.StretchPlace.TheVariants as places
use Rattle.count_spec.specs.Boots.{boot_place}
use Rattle.count_spec.specs.Windows.{answer, counted}
use Rattle.data_format.specs.declared.heads.FlowHead.{FlowHead}
use Rattle.data_format.specs.Trees.{frame_tree, frame_trees}
use Rattle.data_format.specs.Views.{FrameView}
use Rattle.datagram_core.specs.Tables.{samples_read}
use Rattle.books_spec.specs.declared.limits.Limits.{Limits}
use Rattle.books_spec.specs.declared.sample_place.SamplePlace.{SamplePlace}
use Rattle.books_spec.specs.declared.taken.Taken.TheVariants.{First, Unlisted}
use Rattle.books_spec.specs.Items.{Sample, Datagram, stamp_of, Item, Got, stream_of}
use Rattle.books_spec.specs.Listing.{same_stream, among}
use Rattle.books_spec.specs.Books.{current_marks, stream_boots, listed_streams, taken_in, taken_now, stream_number}
use Rattle.books_spec.specs.InterfaceRise.{InterfaceCounters}
use Rattle.books_spec.specs.PlacedSamples.{placed_from, placed_at, placed_after, placed_in}
use Rattle.books_spec.specs.SampledHeaders.{SampledHeader, FirstHeader, header_from, headers_at, headers_behind, headers_now, counts}
use Rattle.stream_books.specs.Receipts.{receipt_of, receipt_at}
use Rattle.stream_books.proofs.Receipts.{receipt-taken}
use Rattle.collector_tables.specs.declared.streams.TakenAt.{TakenAt}
use Rattle.sample_taps.specs.declared.brief.Brief.{Brief}
use Rattle.sample_taps.specs.BookBriefs.{brief_in}
use Rattle.sample_taps.specs.Passing.{BriefingState, Passes}
use Rattle.sample_taps.proofs.Passings.{passes_none, passes_more}
use Rattle.flow_collector.specs.Items.{sample_in, counters_with}
use Rattle.flow_collector.specs.Collectors.{BooksState, StandsFor}
use Rattle.flow_collector.specs.Headers.{briefs_if, brief_from, flow_id, flow_reading, headers_each, headers_entered, headers_of, stream_fed}
use Rattle.flow_collector.specs.Shown.{flow_of}
use Rattle.flow_collector.specs.Steps.{is_first, with_samples, with_sample, number_in, Enters}
use Rattle.flow_collector.proofs.Entering.{first-listed, receipt-first, stale-first}
use Rattle.flow_collector.proofs.SoFar.{SoFar, samples_of, begins, goes-on, enters-with}

-- ---- one sample

map-map : (stream : ℕ) (h : FlowHead) (headers : List SampledHeader)
    → map brief_in (map (header_from stream (flow_id h) (flow_reading h)) headers) ≡ map (brief_from stream h) headers
map-map stream h [] = refl
map-map stream h (x ∷ more) = ap (λ rest. brief_from stream h x ∷ rest) (map-map stream h more)

-- the briefs of a flow sample of this head
pub flow-briefs : (l : Limits) (items : List Item) (d : Datagram) (place : SamplePlace) (h : FlowHead) (headers : List SampledHeader)
    → briefs_if (stream_fed l items d place h) h headers ≡ map brief_in (headers_at l items d place (flow_of h) headers)
flow-briefs l items d place h headers = go (counts l items d place (flow_id h) (flow_reading h))
  where
    go : (b : Bool) → briefs_if (cond b (Some (stream_number l (Got d ∷ items) (stream_of d))) None) h headers
        ≡ map brief_in (cond b (map (header_from (stream_number l (Got d ∷ items) (stream_of d)) (flow_id h) (flow_reading h)) headers) [])
    go true = sym (map-map (stream_number l (Got d ∷ items) (stream_of d)) h headers)
    go false = refl

-- a counters sample has none
pub counters-briefs : (l : Limits) (items : List Item) (d : Datagram) (place : SamplePlace) (class index sequence : ℕ)
    (carried : Option InterfaceCounters) (headers : List SampledHeader)
    → [] ≡ map brief_in (headers_at l items d place (counters_with class index sequence carried) headers)
counters-briefs l items d place class index sequence None headers = refl
counters-briefs l items d place class index sequence (Some c) headers = refl

-- ---- of a datagram that is First, and of another one

at-first : (a : window.Entered) (xs : List Sample) (n : ℤ) → (receipt_of a).taken ≡ First → n ≡ (receipt_of a).number
    → placed_at a xs ≡ placed_from n 0 xs
at-first (answers.First place m) xs n first is = ap (λ k. placed_from k 0 xs) (sym is)
at-first answers.Repeat xs n first is = absurd (true≢false (sym (ap is_first first)))
at-first answers.Late xs n first is = absurd (true≢false (sym (ap is_first first)))

after-first : (width : ℕ) (p : StretchPlace) (boots : List (List Datagram)) (mark : ℕ) (xs : List Sample) (n : ℤ)
    → (receipt_at width p boots mark).taken ≡ First → n ≡ (receipt_at width p boots mark).number
    → placed_after width p boots mark xs ≡ placed_from n 0 xs
after-first width places.Current boots mark xs n first is =
    at-first (answer width (counted width (current_marks boots)) mark) xs n first is
after-first width places.Next boots mark xs n first is = at-first (answer width [] mark) xs n first is
after-first width places.Stale boots mark xs n first is =
    stale-first (placed_after width places.Stale boots mark xs ≡ placed_from n 0 xs) first

at-other : (a : window.Entered) (xs : List Sample) → is_first (receipt_of a).taken ≡ false → placed_at a xs ≡ []
at-other (answers.First place m) xs not = absurd (true≢false not)
at-other answers.Repeat xs not = refl
at-other answers.Late xs not = refl

after-other : (width : ℕ) (p : StretchPlace) (boots : List (List Datagram)) (mark : ℕ) (xs : List Sample)
    → is_first (receipt_at width p boots mark).taken ≡ false → placed_after width p boots mark xs ≡ []
after-other width places.Current boots mark xs not = at-other (answer width (counted width (current_marks boots)) mark) xs not
after-other width places.Next boots mark xs not = at-other (answer width [] mark) xs not
after-other width places.Stale boots mark xs not = refl

pub headers-first : (l : Limits) (items : List Item) (d : Datagram) (n : ℤ) (headers : List (List SampledHeader))
    → taken_now l items (Got d) ≡ First → n ≡ number_in l items d
    → headers_now l items (Got d) headers ≡ headers_behind l items (with_samples d []) (placed_from n 0 d.samples) headers
headers-first l items d n headers first is =
    let bs : List (List Datagram) = stream_boots l (stream_of d) items in
    ap (λ b. cond b (headers_behind l items (with_samples d []) (placed_in l bs d) headers) []) (first-listed l items d first)
    ∙ ap (λ ps. headers_behind l items (with_samples d []) ps headers)
    (after-first l.datagram_width (boot_place stamp_of l.boot_slack l.datagram_width bs d) bs d.head.sequence d.samples n
    (receipt-first l items d first) is)

pub headers-other : (l : Limits) (items : List Item) (d : Datagram) (headers : List (List SampledHeader))
    → is_first (taken_now l items (Got d)) ≡ false → headers_now l items (Got d) headers ≡ []
headers-other l items d headers not = go (among same_stream (listed_streams l (Got d ∷ items)) (stream_of d)) not
  where
    go : (b : Bool) → is_first (cond b (taken_in l (stream_boots l (stream_of d) items) d) Unlisted) ≡ false
        → cond b (headers_behind l items (with_samples d []) (placed_in l (stream_boots l (stream_of d) items) d) headers) [] ≡ []
    go false not = refl
    go true not =
        let bs : List (List Datagram) = stream_boots l (stream_of d) items in
        let p : StretchPlace = boot_place stamp_of l.boot_slack l.datagram_width bs d in
        ap (λ ps. headers_behind l items (with_samples d []) ps headers)
        (after-other l.datagram_width p bs d.head.sequence d.samples
        (ap is_first (receipt-taken l.datagram_width p bs d.head.sequence) ∙ not))

-- ---- samples so far

module _ {X : Type 0} (step : X → Brief → X → Type 0) (done : X → Bool) where
  -- the headers of the samples that are no longer left went as briefs
  pub record FedBy (l : Limits) (items : List Item) (d : Datagram) (number : ℤ) (index : ℕ) (all left : List FrameView)
      (entered : List Sample) (was now : BriefingState) (xs ys : List X) : Type 0 where
    pub front : List FirstHeader
    pub parts : headers_entered l items d number all ≡ front ++ headers_behind l items (with_samples d entered)
        (placed_from number index (samples_of left)) (headers_each (frame_trees samples_read left))
    pub passes : Passes step done was xs (map brief_in front) now ys

  pub record SoFarFed (old now : BooksState) (t : TakenAt) (index : ℕ) (all left : List FrameView) (was at : BriefingState)
      (xs ys : List X) : Type 0 where
    pub so_far : SoFar old now t index all left
    pub fed : (l : Limits) (items : List Item) (d : Datagram) → Enters l items t d
        → StandsFor old l (Got (with_samples d []) ∷ items)
        → FedBy l items d t.receipt.number index all left so_far.done was at xs ys

  pub fed-begins : (s : BooksState) (t : TakenAt) (all : List FrameView) (was : BriefingState) (xs : List X)
      → SoFarFed s s t 0 all all was was xs xs
  fed-begins s t all was xs = record {
    so_far = begins s t all;
    fed = λ l items d enters st. record { front = []; parts = refl; passes = passes_none step done was xs };
  }

  one-more : (l : Limits) (items : List Item) (d : Datagram) (n : ℤ) (index : ℕ) (all left rest : List FrameView) (f : FrameView)
      (entered : List Sample) (was now new : BriefingState) (xs ys zs : List X) → left ≡ f ∷ rest
      → FedBy l items d n index all left entered was now xs ys
      → Passes step done now ys (map brief_in (headers_at l items (with_samples d entered)
      (record { datagram = n; index = index }) (sample_in (frame_tree samples_read f)) (headers_of (frame_tree samples_read f)))) new zs
      → FedBy l items d n (index + 1) all rest (entered ++ sample_in (frame_tree samples_read f) ∷ []) was new xs zs
  one-more l items d n index all left rest f entered was now new xs ys zs is so_far more =
      let x : Sample = sample_in (frame_tree samples_read f) in
      let own : List FirstHeader = headers_at l items (with_samples d entered) (record { datagram = n; index = index }) x
      (headers_of (frame_tree samples_read f)) in
      let behind : ℕ → List FirstHeader = λ k. headers_behind l items (with_samples d (entered ++ x ∷ []))
      (placed_from n k (samples_of rest)) (headers_each (frame_trees samples_read rest)) in
      let next : suc index ≡ index + 1 = omega arith in
      record {
        front = so_far.front ++ own;
        parts = so_far.parts
            ∙ ap (λ fs. so_far.front ++ headers_behind l items (with_samples d entered) (placed_from n index (samples_of fs))
            (headers_each (frame_trees samples_read fs))) is
            ∙ ap (λ k. so_far.front ++ (own ++ behind k)) next
            ∙ sym (append_assoc so_far.front own (behind (index + 1)));
        passes = subst (λ bs. Passes step done was xs bs new zs) (sym (map-append brief_in so_far.front own))
            (passes_more step done was now new xs ys zs (map brief_in so_far.front) (map brief_in own) so_far.passes more);
      }

  pub fed-goes-on : (old now new : BooksState) (t : TakenAt) (index : ℕ) (all left rest : List FrameView) (f : FrameView)
      (was at next : BriefingState) (xs ys zs : List X) → left ≡ f ∷ rest
      → ((l : Limits) (items : List Item) (d : Datagram) → Enters l items t d → length d.samples ≡ index
      → StandsFor now l (Got d ∷ items) → StandsFor new l (Got (with_sample d (sample_in (frame_tree samples_read f))) ∷ items))
      → ((l : Limits) (items : List Item) (d : Datagram) → Enters l items t d → length d.samples ≡ index
      → StandsFor now l (Got d ∷ items)
      → Passes step done at ys (map brief_in (headers_at l items d (record { datagram = t.receipt.number; index = index })
      (sample_in (frame_tree samples_read f)) (headers_of (frame_tree samples_read f)))) next zs)
      → SoFarFed old now t index all left was at xs ys → SoFarFed old new t (index + 1) all rest was next xs zs
  fed-goes-on old now new t index all left rest f was at next xs ys zs is stands passes so_far = record {
    so_far = goes-on old now new t index all left rest f is stands so_far.so_far;
    fed = λ l items d enters st.
        let entered : List Sample = so_far.so_far.done in
        one-more l items d t.receipt.number index all left rest f entered was at next xs ys zs is (so_far.fed l items d enters st)
        (passes l items (with_samples d entered) (enters-with l items t d entered enters) so_far.so_far.count
        (so_far.so_far.stands l items d enters st));
  }

  pub all-fed : (old now : BooksState) (t : TakenAt) (index : ℕ) (all left : List FrameView) (was at : BriefingState)
      (xs ys : List X) → left ≡ [] → SoFarFed old now t index all left was at xs ys
      → (l : Limits) (items : List Item) (d : Datagram) → Enters l items t d → StandsFor old l (Got (with_samples d []) ∷ items)
      → Passes step done was xs (map brief_in (headers_entered l items d t.receipt.number all)) at ys
  all-fed old now t index all left was at xs ys none so_far l items d enters st =
      let fed = so_far.fed l items d enters st in
      let entered : List Sample = so_far.so_far.done in
      let whole : fed.front ≡ headers_entered l items d t.receipt.number all =
      sym (append-nil fed.front)
      ∙ ap (λ fs. fed.front ++ headers_behind l items (with_samples d entered) (placed_from t.receipt.number index (samples_of fs))
      (headers_each (frame_trees samples_read fs))) (sym none) ∙ sym fed.parts in
      subst (λ hs. Passes step done was xs (map brief_in hs) at ys) whole fed.passes
