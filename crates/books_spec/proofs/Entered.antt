-- The readings of a source over boots are the samples of it that were entered.
use Rattle.std.proofs.Common.{◌≡◌, ℕ, ◌+◌, Bool, true, false, cond, ◌&&◌, ◌||◌, Some, None, List, [], ◌∷◌, length, map, refl, sym, ap, ◌∙◌, true≢false, arith}
use Rattle.std.specs.List.{filter_map, cons_option, count_by, sum_by}
use Rattle.std.proofs.lemmas.List.Sums.{sum_by-cons}
use Rattle.count_spec.proofs.Counts.{count_by-cons}
use Rattle.count_spec.specs.Windows.{answer, counted}
use Rattle.count_spec.specs.Boots.{sequences, boot_place, boots}
use Rattle.count_spec.specs.Stretches.{placed}
use Rattle.count_spec.specs.declared.stretch_place.StretchPlace.{StretchPlace}
use Rattle.count_spec.specs.declared.stretch_place.StretchPlace.TheVariants.{Current, Next, Stale}
use Rattle.books_spec.specs.Items.{SourceId, Sample, Of, Carrying, Other, Datagram, stamp_of, Item, Got, Malformed, Stream, stream_of, Source}
use Rattle.books_spec.specs.declared.limits.Limits.{Limits}
use Rattle.books_spec.specs.declared.reading.SampleReading.{SampleReading}
use Rattle.books_spec.specs.Listing.{same_stream, same_id, same_source, among, listed, first_arrivals}
use Rattle.books_spec.specs.Books.{streams_of, listed_streams, own, stream_boots, taken_of, taken_at, taken_in, taken_now, samples_at, first_samples, onto, Entered, entered_in, entered, source_of, sources_of, reading_of, readings, source_boots}
use Rattle.books_spec.specs.declared.taken.Taken.{Taken}
use Rattle.books_spec.specs.declared.taken.Taken.TheVariants.{Unlisted}
use Rattle.books_spec.proofs.Listings.{listed-keeps, listed-other, listed-just_now, first_arrivals-all}
use Rattle.books_spec.proofs.Keys.{stream-same}

-- ---- how many samples are of a source

abbrev is_of : SourceId → Sample → ℕ
is_of id (Of other reading) = cond (same_id id other) 1 0
is_of id (Carrying other reading counters) = cond (same_id id other) 1 0
is_of id Other = 0

abbrev of_count : SourceId → List Sample → ℕ
of_count id [] = 0
of_count id (x ∷ more) = is_of id x + of_count id more

one-if : (b : Bool) (reading : SampleReading) (rest : List SampleReading)
    → length (cons_option (cond b (Some reading) None) rest) ≡ cond b 1 0 + length rest
one-if true reading rest = omega arith
one-if false reading rest = omega arith

reading-one : (id : SourceId) (x : Sample) (rest : List Sample)
    → length (filter_map (reading_of id) (x ∷ rest)) ≡ is_of id x + length (filter_map (reading_of id) rest)
reading-one id Other rest = omega arith
reading-one id (Of other reading) rest = one-if (same_id id other) reading (filter_map (reading_of id) rest)
reading-one id (Carrying other reading counters) rest =
    one-if (same_id id other) reading (filter_map (reading_of id) rest)

readings-onto : (id : SourceId) (xs rest : List Sample)
    → length (filter_map (reading_of id) (onto xs rest)) ≡ of_count id xs + length (filter_map (reading_of id) rest)
readings-onto id [] rest = omega arith
readings-onto id (x ∷ more) rest =
    let later = readings-onto id more (x ∷ rest) in
    let here = reading-one id x rest in
    omega (arith, later, here)

-- ---- entered samples of a source

both-or-none : (b c : Bool) (n : ℕ) → cond (b && c) 1 0 + n ≡ cond b (cond c 1 0) 0 + n
both-or-none true c n = refl
both-or-none false c n = refl

entry-one : (k : Source) (s : Stream) (x : Sample) (rest : List Entered)
    → count_by (same_source k) (filter_map source_of (entered_in s x ∷ rest))
    ≡ cond (same_stream k.stream s) (is_of k.id x) 0 + count_by (same_source k) (filter_map source_of rest)
entry-one k s Other rest = go (same_stream k.stream s)
  where
    go : (b : Bool) → count_by (same_source k) (filter_map source_of rest)
        ≡ cond b 0 0 + count_by (same_source k) (filter_map source_of rest)
    go true = omega arith
    go false = omega arith
entry-one k s (Of id reading) rest =
    count_by-cons (same_source k) (record { stream = s; id = id }) (filter_map source_of rest)
    ∙ both-or-none (same_stream k.stream s) (same_id k.id id) (count_by (same_source k) (filter_map source_of rest))
entry-one k s (Carrying id reading counters) rest =
    count_by-cons (same_source k) (record { stream = s; id = id }) (filter_map source_of rest)
    ∙ both-or-none (same_stream k.stream s) (same_id k.id id) (count_by (same_source k) (filter_map source_of rest))

entries-onto : (k : Source) (s : Stream) (xs : List Sample) (rest : List Entered)
    → count_by (same_source k) (filter_map source_of (onto (map (entered_in s) xs) rest))
    ≡ cond (same_stream k.stream s) (of_count k.id xs) 0 + count_by (same_source k) (filter_map source_of rest)
entries-onto k s [] rest = go (same_stream k.stream s)
  where
    go : (b : Bool) → count_by (same_source k) (filter_map source_of rest)
        ≡ cond b 0 0 + count_by (same_source k) (filter_map source_of rest)
    go true = omega arith
    go false = omega arith
entries-onto k s (x ∷ more) rest =
    let later = entries-onto k s more (entered_in s x ∷ rest) in
    let here = entry-one k s x rest in
    let both = split (same_stream k.stream s) (is_of k.id x) (of_count k.id more) in
    omega (arith, later, here, both)
  where
    split : (b : Bool) (m n : ℕ) → cond b (m + n) 0 ≡ cond b m 0 + cond b n 0
    split true m n = refl
    split false m n = refl

-- ---- streams that aren't listed have none

pub unlisted-none : (l : Limits) (k : Source) (items : List Item)
    → among same_stream (listed_streams l items) k.stream ≡ false
    → count_by (same_source k) (sources_of l items) ≡ 0
unlisted-none l k [] none = refl
unlisted-none l k (Malformed f ∷ before) none = unlisted-none l k before none
unlisted-none l k (Got d ∷ before) none =
    let earlier : among same_stream (listed_streams l before) k.stream ≡ false =
    was (among same_stream (listed_streams l before) k.stream) refl in
    let rest = unlisted-none l k before earlier in
    let step = entries-onto k (stream_of d) (samples_at (taken_now l before (Got d)) d.samples) (entered l before) in
    let here = own_none (same_stream k.stream (stream_of d)) refl in
    omega (arith, step, rest, here)
  where
    was : (b : Bool) → among same_stream (listed_streams l before) k.stream ≡ b
        → among same_stream (listed_streams l before) k.stream ≡ false
    was true e = absurd (true≢false (
        sym (listed-keeps same_stream l.streams (streams_of before) (stream_of d) k.stream e) ∙ none))
    was false e = e

    own_none : (b : Bool) → same_stream k.stream (stream_of d) ≡ b
        → cond b (of_count k.id (samples_at (taken_now l before (Got d)) d.samples)) 0 ≡ 0
    own_none false e = refl
    own_none true e =
        let same : k.stream ≡ stream_of d = stream-same.to k.stream (stream_of d) e in
        let absent : among same_stream (listed_streams l (Got d ∷ before)) (stream_of d) ≡ false =
        ap (among same_stream (listed_streams l (Got d ∷ before))) (sym same) ∙ none in
        ap (λ b. of_count k.id (samples_at
        (cond b (taken_in l (stream_boots l (stream_of d) before) d) Unlisted) d.samples)) absent

-- ---- one more datagram of a stream

boots-step : (l : Limits) (id : SourceId) (bs : List (List Datagram)) (d : Datagram)
    → sum_by length (map (readings l.datagram_width id)
    (placed (boot_place stamp_of l.boot_slack l.datagram_width bs d) d bs))
    ≡ of_count id (samples_at (taken_in l bs d) d.samples)
    + sum_by length (map (readings l.datagram_width id) bs)
boots-step l id [] d =
    let here = readings-onto id d.samples [] in
    let first = sum_by-cons length (readings l.datagram_width id (d ∷ [])) [] in
    omega (arith, here, first)
boots-step l id (current ∷ closed) d = go (boot_place stamp_of l.boot_slack l.datagram_width (current ∷ closed) d)
  where
    go : (p : StretchPlace)
        → sum_by length (map (readings l.datagram_width id) (placed p d (current ∷ closed)))
        ≡ of_count id (samples_at (taken_at l.datagram_width p (current ∷ closed) d.head.sequence) d.samples)
        + sum_by length (map (readings l.datagram_width id) (current ∷ closed))
    go Current =
        let w : ℕ = l.datagram_width in
        let answered : Taken = taken_of (answer w (counted w (sequences stamp_of current)) d.head.sequence) in
        let here = readings-onto id (samples_at answered d.samples) (first_samples w current) in
        let new = sum_by-cons length (readings w id (d ∷ current)) (map (readings w id) closed) in
        let old = sum_by-cons length (readings w id current) (map (readings w id) closed) in
        omega (arith, here, new, old)
    go Next =
        let w : ℕ = l.datagram_width in
        let here = readings-onto id d.samples [] in
        let new = sum_by-cons length (readings w id (d ∷ [])) (map (readings w id) (current ∷ closed)) in
        omega (arith, here, new)
    go Stale = omega arith

-- a stream of which nothing came has no datagrams
pub own-none : (stream : Stream) (items : List Item) → among same_stream (streams_of items) stream ≡ false
    → own stream items ≡ []
own-none stream [] none = refl
own-none stream (Malformed f ∷ before) none = own-none stream before none
own-none stream (Got d ∷ before) none = go (same_stream stream (stream_of d)) none (own-none stream before)
  where
    go : (b : Bool) → (b || among same_stream (streams_of before) stream) ≡ false
        → (among same_stream (streams_of before) stream ≡ false → own stream before ≡ [])
        → cond b (d ∷ own stream before) (own stream before) ≡ []
    go true h earlier = absurd (true≢false h)
    go false h earlier = earlier h

-- ---- the readings are the entered samples

-- how many readings a source has over these boots
abbrev reading_count : Limits → SourceId → List (List Datagram) → ℕ
reading_count l id bs = sum_by length (map (readings l.datagram_width id) bs)

pub readings-are-entered : (l : Limits) (k : Source) (items : List Item)
    → among same_stream (listed_streams l items) k.stream ≡ true
    → sum_by length (source_boots l k items) ≡ count_by (same_source k) (sources_of l items)
readings-are-entered l k [] there = refl
readings-are-entered l k (Malformed f ∷ before) there = readings-are-entered l k before there
readings-are-entered l k (Got d ∷ before) there =
    go (same_stream k.stream (stream_of d)) refl (readings-are-entered l k before)
  where
    -- the datagrams of the stream, where this one is of it or isn't
    boots_if : Bool → List (List Datagram)
    boots_if b = boots stamp_of l.boot_slack l.datagram_width
        (cond b (d ∷ own k.stream before) (own k.stream before))

    step : (b : Bool) → same_stream k.stream (stream_of d) ≡ b
        → count_by (same_source k) (sources_of l (Got d ∷ before))
        ≡ cond b (of_count k.id (samples_at (taken_now l before (Got d)) d.samples)) 0
        + count_by (same_source k) (sources_of l before)
    step b e =
        entries-onto k (stream_of d) (samples_at (taken_now l before (Got d)) d.samples) (entered l before)
        ∙ ap (λ c. cond c (of_count k.id (samples_at (taken_now l before (Got d)) d.samples)) 0
        + count_by (same_source k) (sources_of l before)) e

    -- before it, where the stream is the datagram's
    earlier : k.stream ≡ stream_of d
        → (among same_stream (listed_streams l before) k.stream ≡ true
        → sum_by length (source_boots l k before) ≡ count_by (same_source k) (sources_of l before))
        → (b : Bool) → among same_stream (listed_streams l before) k.stream ≡ b
        → sum_by length (source_boots l k before) ≡ count_by (same_source k) (sources_of l before)
    earlier same induction true e = induction e
    earlier same induction false e =
        let now : among same_stream (listed same_stream l.streams (k.stream ∷ streams_of before)) k.stream ≡ true =
        ap (λ s. among same_stream (listed same_stream l.streams (s ∷ streams_of before)) k.stream) same ∙ there in
        let new = listed-just_now same_stream l.streams (streams_of before) k.stream e now in
        let none : own k.stream before ≡ [] =
        own-none k.stream before (absent (among same_stream (streams_of before) k.stream) refl new) in
        ap (λ ds. reading_count l k.id (boots stamp_of l.boot_slack l.datagram_width ds)) none
        ∙ sym (unlisted-none l k before e)
      where
        absent : (b : Bool) → among same_stream (streams_of before) k.stream ≡ b
            → among same_stream (first_arrivals same_stream (streams_of before)) k.stream ≡ false
            → among same_stream (streams_of before) k.stream ≡ false
        absent true h new = absurd (true≢false (
            sym (first_arrivals-all same_stream stream-same (streams_of before) k.stream h) ∙ new))
        absent false h new = h

    go : (b : Bool) → same_stream k.stream (stream_of d) ≡ b
        → (among same_stream (listed_streams l before) k.stream ≡ true
        → sum_by length (source_boots l k before) ≡ count_by (same_source k) (sources_of l before))
        → reading_count l k.id (boots_if (same_stream k.stream (stream_of d)))
        ≡ count_by (same_source k) (sources_of l (Got d ∷ before))
    go false e induction =
        let before_too = listed-other same_stream l.streams (streams_of before) (stream_of d) k.stream e there in
        let same = induction before_too in
        let counted_too = step false e in
        ap (λ b. reading_count l k.id (boots_if b)) e ∙ same ∙ sym (counted_too ∙ omega arith)
    go true e induction =
        let same : k.stream ≡ stream_of d = stream-same.to k.stream (stream_of d) e in
        let bs : List (List Datagram) = stream_boots l k.stream before in
        let was = earlier same induction (among same_stream (listed_streams l before) k.stream) refl in
        let more = boots-step l k.id bs d in
        let answered : taken_now l before (Got d) ≡ taken_in l bs d =
        ap (λ s. cond (among same_stream (listed_streams l (Got d ∷ before)) s)
        (taken_in l (stream_boots l s before) d) Unlisted) (sym same)
        ∙ ap (λ b. cond b (taken_in l bs d) Unlisted) there in
        let samples = ap (λ t. of_count k.id (samples_at t d.samples)) answered in
        let counted_too = step true e in
        ap (λ b. reading_count l k.id (boots_if b)) e ∙ more ∙ sums _ _ _ _ _ samples was counted_too
      where
        sums : (a b c x y : ℕ) → a ≡ b → c ≡ x → y ≡ a + x → b + c ≡ y
        sums a b c x y p q r = omega arith
