-- The samples that are entered of a source in one boot are those that are delivered.
use Rattle.std.proofs.Common.{◌≡◌, ℕ, suc, Bool, true, false, cond, not, ◌&&◌, List, [], ◌∷◌, map, ℤ, pos, ◌-ℤ◌, refl, sym, ap, ◌∙◌}
use Rattle.std.specs.Prelude.{Option, Some, None}
use Rattle.std.specs.List.{filter, filter_map, cons_option}
use Rattle.count_spec.specs.Windows.{mark_of, has, place, answer, counted}
use Rattle.count_spec.specs.Boots.{sequences}
use Rattle.count_spec.specs.declared.entered.Place.{Place}
use Rattle.count_spec.specs.declared.entered.Entered.{Entered}
use Rattle.count_spec.specs.declared.entered.Entered.TheVariants.{First, Repeat, Late}
use Rattle.books_spec.specs.declared.reading.SampleReading.{SampleReading}
use Rattle.books_spec.specs.Items.{SourceId, stamp_of}
use Rattle.books_spec.specs.Items as items
use Rattle.books_spec.specs.Listing.{same_id, same_stream}
use Rattle.books_spec.specs.Books.{onto, own, reading_of}
use Rattle.books_spec.specs.SourceViews.{PlacedReading}
use Rattle.books_spec.specs.PlacedSamples.{PlacedSample, placed_from, placed_at, first_placed, read_at, placed_reading_of, placed_readings}
use Rattle.books_spec.specs.Items.{Stream}
use Rattle.agent_spec.specs.Samples.{Content, Sampled, Counted, Sample}
use Rattle.account_spec.specs.Deliveries.{Delivery, number_of, numbers_of, deliveries_of, id_in, reading_shown, content_shown, sample_shown, datagram_shown, item}
use Rattle.account_spec.specs.TrueNumbers.{is_late, in_time, AreClose}
use Rattle.account_spec.specs.Arrivals.{Arrived, arrived_from, brought, arrived, arrived_of}
use Rattle.account_laws.proofs.Lists.{map-onto, filter-onto}
use Rattle.account_laws.proofs.Moved.{base, back}
use Rattle.account_laws.proofs.Numbers.{true_set, true_answer, answer-is}
use Rattle.account_laws.proofs.Views.{entered}
use Rattle.account_laws.proofs.BootSteps.{sequences-shown}

pub filter_map-onto : {X Y : Type 0} (h : X → Option Y) (xs rest : List X)
    → filter_map h (onto xs rest) ≡ onto (filter_map h xs) (filter_map h rest)
filter_map-onto h [] rest = refl
filter_map-onto {X} {Y} h (x ∷ xs) rest = filter_map-onto h xs (x ∷ rest) ∙ go (h x)
  where
    go : (o : Option Y) → onto (filter_map h xs) (cons_option o (filter_map h rest)) ≡ onto (cons_option o (filter_map h xs)) (filter_map h rest)
    go (Some y) = refl
    go None = refl

-- the deliveries of a sub-agent are the datagrams of its stream
pub own-are : (stream : Stream) (ds : List Delivery) → own stream (map item ds) ≡ map datagram_shown (deliveries_of stream ds)
own-are stream [] = refl
own-are stream (d ∷ before) = go (same_stream stream d.stream) (own-are stream before)
  where
    go : (b : Bool) → own stream (map item before) ≡ map datagram_shown (deliveries_of stream before)
        → cond b (datagram_shown d ∷ own stream (map item before)) (own stream (map item before))
        ≡ map datagram_shown (cond b (d ∷ deliveries_of stream before) (deliveries_of stream before))
    go true h = ap (λ (r : List items.Datagram). datagram_shown d ∷ r) h
    go false h = h

abbrev is_own : SourceId → Arrived → Bool
is_own id x = same_id id (id_in x.sample)

-- what is read of a sample, whatever it carries
reading-read : (id other : SourceId) (r : SampleReading) (content : Content)
    → reading_of id (content_shown other r content) ≡ cond (same_id id other) (Some r) None
reading-read id other r (Sampled packet) = refl
reading-read id other r (Counted counters) = refl

-- one datagram
placed-are : (id : SourceId) (c n : ℤ) (boot i : ℕ) (ss : List Sample)
    → filter_map (placed_reading_of id) (placed_from (n -ℤ c) i (map sample_shown ss))
    ≡ map (entered c) (filter (is_own id) (arrived_from boot n i ss))
placed-are id c n boot i [] = refl
placed-are id c n boot i (s ∷ ss) =
    ap (λ (o : Option SampleReading). cons_option (read_at (record { datagram = n -ℤ c; index = i }) o)
    (filter_map (placed_reading_of id) (placed_from (n -ℤ c) (suc i) (map sample_shown ss))))
    (reading-read id (id_in s) (reading_shown s) s.content)
    ∙ go (same_id id (id_in s)) (placed-are id c n boot (suc i) ss)
  where
    x : Arrived
    x = record { boot = boot; place = record { datagram = n; index = i }; sample = s }

    rest : List PlacedReading
    rest = filter_map (placed_reading_of id) (placed_from (n -ℤ c) (suc i) (map sample_shown ss))

    more : List Arrived
    more = filter (is_own id) (arrived_from boot n (suc i) ss)

    go : (b : Bool) → rest ≡ map (entered c) more
        → cons_option (read_at (record { datagram = n -ℤ c; index = i }) (cond b (Some (reading_shown s)) None)) rest
        ≡ map (entered c) (cond b (x ∷ more) more)
    go true h = ap (λ (r : List PlacedReading). entered c x ∷ r) h
    go false h = h

taken-are : (id : SourceId) (c n : ℤ) (boot : ℕ) (a b : Bool) (p : Place) (ss : List Sample)
    → filter_map (placed_reading_of id) (placed_at (cond a Late (cond b Repeat (First p (n -ℤ c)))) (map sample_shown ss))
    ≡ map (entered c) (filter (is_own id) (cond (not a && not b) (arrived_from boot n 0 ss) []))
taken-are id c n boot true b p ss = refl
taken-are id c n boot false true p ss = refl
taken-are id c n boot false false p ss = placed-are id c n boot 0 ss

-- the samples of one datagram onto the others
joined-are : (id : SourceId) (c : ℤ) (a : Entered) (ss : List items.Sample) (rest : List PlacedSample) (new old : List Arrived)
    → filter_map (placed_reading_of id) (placed_at a ss) ≡ map (entered c) (filter (is_own id) new)
    → filter_map (placed_reading_of id) rest ≡ map (entered c) (filter (is_own id) old)
    → filter_map (placed_reading_of id) (onto (placed_at a ss) rest) ≡ map (entered c) (filter (is_own id) (onto new old))
joined-are id c a ss rest new old e f =
    filter_map-onto (placed_reading_of id) (placed_at a ss) rest
    ∙ (λ j. onto (e j) (f j))
    ∙ sym (map-onto (entered c) (filter (is_own id) new) (filter (is_own id) old))
    ∙ sym (ap (map (entered c)) (filter-onto (is_own id) new old))

-- What is entered is what is delivered, each at its place less one constant
pub entered-are : (width : ℕ) (id : SourceId) (ds : List Delivery) → AreClose (numbers_of ds)
    → placed_readings width id (map datagram_shown ds) ≡ map (entered (base (numbers_of ds))) (arrived_of width id ds)
entered-are width id [] close = refl
entered-are width id (d ∷ []) close =
    let n : ℤ = number_of d in
    let c : ℤ = base (numbers_of (d ∷ [])) in
    joined-are id c (answer width [] (mark_of n)) (map sample_shown d.datagram.samples) [] (brought width [] d) []
    (ap (λ (k : ℤ). filter_map (placed_reading_of id) (placed_from k 0 (map sample_shown d.datagram.samples))) (back n (pos (mark_of n)))
    ∙ placed-are id c n d.boot 0 d.datagram.samples) refl
entered-are width id (d ∷ e ∷ before) close =
    let us : List Delivery = e ∷ before in
    let n : ℤ = number_of d in
    let c : ℤ = base (numbers_of us) in
    let ss : List items.Sample = map sample_shown d.datagram.samples in
    let a : answer width (counted width (sequences stamp_of (map datagram_shown us))) (mark_of n) ≡ true_answer width c (numbers_of us) n =
    ap (λ (ms : List ℕ). answer width (counted width ms) (mark_of n)) (sequences-shown us)
    ∙ answer-is width n (number_of e) (numbers_of before) close in
    joined-are id c (answer width (counted width (sequences stamp_of (map datagram_shown us))) (mark_of n)) ss
    (first_placed width (map datagram_shown us)) (brought width us d) (arrived width us)
    (ap (λ (r : Entered). filter_map (placed_reading_of id) (placed_at r ss)) a
    ∙ taken-are id c n d.boot (is_late width (numbers_of us) n) (has (in_time width (numbers_of us)) n)
    (place (true_set width c (numbers_of us)) (n -ℤ c)) d.datagram.samples)
    (entered-are width id (e ∷ before) close.1)
