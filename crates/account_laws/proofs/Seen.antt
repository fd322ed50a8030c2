-- The samples of a source with the counters that they carry, as they are entered in one boot, and over boots.
use Rattle.std.proofs.Common.{◌≡◌, ℕ, suc, Bool, true, false, cond, not, ◌&&◌, List, [], ◌∷◌, map, ℤ, pos, ◌-ℤ◌, refl, sym, ap, ◌∙◌}
use Rattle.std.specs.Prelude.{Option, Some, None}
use Rattle.std.specs.List.{filter, filter_map, cons_option}
use Rattle.count_spec.specs.Windows.{mark_of, has, place, answer, counted}
use Rattle.count_spec.specs.Boots.{sequences}
use Rattle.count_spec.specs.TrueStretches.{true_stretches}
use Rattle.count_spec.specs.declared.entered.Place.{Place}
use Rattle.count_spec.specs.declared.entered.Entered.{Entered}
use Rattle.count_spec.specs.declared.entered.Entered.TheVariants.{First, Repeat, Late}
use Rattle.books_spec.specs.declared.reading.SampleReading.{SampleReading}
use Rattle.books_spec.specs.declared.sample_place.SamplePlace.{SamplePlace}
use Rattle.books_spec.specs.InterfaceRise.{InterfaceCounters, with_counters, first_counters}
use Rattle.books_spec.specs.Items.{SourceId, stamp_of}
use Rattle.books_spec.specs.Items as items
use Rattle.books_spec.specs.Listing.{same_id}
use Rattle.books_spec.specs.Books.{onto}
use Rattle.books_spec.specs.Generations.{generations}
use Rattle.books_spec.specs.SourceViews.{over_boots, source_stretches}
use Rattle.books_spec.specs.PlacedSamples.{PlacedSample, placed_from, placed_at, first_placed, InterfaceSample, seen_at, interface_sample_at, interface_samples}
use Rattle.books_spec.specs.WholeBooks.{place_seen, mark_seen, carried}
use Rattle.books_spec.proofs.Mapped.{generations-mapped}
use Rattle.agent_spec.specs.Samples.{Content, Sampled, Counted, Sample}
use Rattle.account_spec.specs.Readings.{counters_in}
use Rattle.account_spec.specs.Deliveries.{Delivery, number_of, numbers_of, id_in, reading_shown, content_shown, sample_shown, datagram_shown}
use Rattle.account_spec.specs.TrueNumbers.{is_late, in_time, AreClose}
use Rattle.account_spec.specs.Arrivals.{Arrived, generation_of, arrived_from, brought, arrived, arrived_of}
use Rattle.account_spec.specs.Accounts.{generations_of}
use Rattle.account_laws.proofs.Lists.{map-onto, filter-onto}
use Rattle.account_laws.proofs.Moved.{base, back}
use Rattle.account_laws.proofs.Numbers.{true_set, true_answer, answer-is}
use Rattle.account_laws.proofs.Opened.{mark_shown, place_less}
use Rattle.account_laws.proofs.Split.{generations-are}
use Rattle.account_laws.proofs.Views.{BootSamples, samples_of, AllSound, over-map}
use Rattle.account_laws.proofs.BootSteps.{sequences-shown}
use Rattle.account_laws.proofs.Entering.{filter_map-onto}

abbrev pub carried_in : Content → Option InterfaceCounters
carried_in (Sampled packet) = None
carried_in (Counted reading) = Some (counters_in reading)

abbrev pub carried_by : Arrived → Option InterfaceCounters
carried_by x = carried_in x.sample.content

-- what is seen of a sample, its place less a constant
abbrev pub seen : ℤ → Arrived → InterfaceSample
seen c x = record { place = place_less c x; mark = mark_shown x; counters = carried_by x }

abbrev is_own : SourceId → Arrived → Bool
is_own id x = same_id id (id_in x.sample)

abbrev look : SourceId → PlacedSample → Option InterfaceSample
look id p = interface_sample_at p.place id p.sample

content-seen : (at : SamplePlace) (id other : SourceId) (r : SampleReading) (content : Content)
    → interface_sample_at at id (content_shown other r content) ≡ cond (same_id id other) (Some (seen_at at r (carried_in content))) None
content-seen at id other r (Sampled packet) = refl
content-seen at id other r (Counted reading) = refl

placed-are : (id : SourceId) (c n : ℤ) (boot i : ℕ) (ss : List Sample)
    → filter_map (look id) (placed_from (n -ℤ c) i (map sample_shown ss)) ≡ map (seen c) (filter (is_own id) (arrived_from boot n i ss))
placed-are id c n boot i [] = refl
placed-are id c n boot i (s ∷ ss) =
    ap (λ (o : Option InterfaceSample). cons_option o (filter_map (look id) (placed_from (n -ℤ c) (suc i) (map sample_shown ss))))
    (content-seen (record { datagram = n -ℤ c; index = i }) id (id_in s) (reading_shown s) s.content)
    ∙ go (same_id id (id_in s)) (placed-are id c n boot (suc i) ss)
  where
    x : Arrived
    x = record { boot = boot; place = record { datagram = n; index = i }; sample = s }

    rest : List InterfaceSample
    rest = filter_map (look id) (placed_from (n -ℤ c) (suc i) (map sample_shown ss))

    more : List Arrived
    more = filter (is_own id) (arrived_from boot n (suc i) ss)

    go : (b : Bool) → rest ≡ map (seen c) more → cons_option (cond b (Some (seen c x)) None) rest ≡ map (seen c) (cond b (x ∷ more) more)
    go true h = ap (λ (r : List InterfaceSample). seen c x ∷ r) h
    go false h = h

taken-are : (id : SourceId) (c n : ℤ) (boot : ℕ) (a b : Bool) (p : Place) (ss : List Sample)
    → filter_map (look id) (placed_at (cond a Late (cond b Repeat (First p (n -ℤ c)))) (map sample_shown ss))
    ≡ map (seen c) (filter (is_own id) (cond (not a && not b) (arrived_from boot n 0 ss) []))
taken-are id c n boot true b p ss = refl
taken-are id c n boot false true p ss = refl
taken-are id c n boot false false p ss = placed-are id c n boot 0 ss

joined-are : (id : SourceId) (c : ℤ) (a : Entered) (ss : List items.Sample) (rest : List PlacedSample) (new old : List Arrived)
    → filter_map (look id) (placed_at a ss) ≡ map (seen c) (filter (is_own id) new)
    → filter_map (look id) rest ≡ map (seen c) (filter (is_own id) old)
    → filter_map (look id) (onto (placed_at a ss) rest) ≡ map (seen c) (filter (is_own id) (onto new old))
joined-are id c a ss rest new old e f =
    filter_map-onto (look id) (placed_at a ss) rest
    ∙ (λ j. onto (e j) (f j))
    ∙ sym (map-onto (seen c) (filter (is_own id) new) (filter (is_own id) old))
    ∙ sym (ap (map (seen c)) (filter-onto (is_own id) new old))

pub seen-are : (width : ℕ) (id : SourceId) (ds : List Delivery) → AreClose (numbers_of ds)
    → interface_samples width id (map datagram_shown ds) ≡ map (seen (base (numbers_of ds))) (arrived_of width id ds)
seen-are width id [] close = refl
seen-are width id (d ∷ []) close =
    let n : ℤ = number_of d in
    let c : ℤ = base (numbers_of (d ∷ [])) in
    joined-are id c (answer width [] (mark_of n)) (map sample_shown d.datagram.samples) [] (brought width [] d) []
    (ap (λ (k : ℤ). filter_map (look id) (placed_from k 0 (map sample_shown d.datagram.samples))) (back n (pos (mark_of n)))
    ∙ placed-are id c n d.boot 0 d.datagram.samples) refl
seen-are width id (d ∷ e ∷ before) close =
    let us : List Delivery = e ∷ before in
    let n : ℤ = number_of d in
    let c : ℤ = base (numbers_of us) in
    let ss : List items.Sample = map sample_shown d.datagram.samples in
    let a : answer width (counted width (sequences stamp_of (map datagram_shown us))) (mark_of n) ≡ true_answer width c (numbers_of us) n =
    ap (λ (ms : List ℕ). answer width (counted width ms) (mark_of n)) (sequences-shown us)
    ∙ answer-is width n (number_of e) (numbers_of before) close in
    joined-are id c (answer width (counted width (sequences stamp_of (map datagram_shown us))) (mark_of n)) ss
    (first_placed width (map datagram_shown us)) (brought width us d) (arrived width us)
    (ap (λ (r : Entered). filter_map (look id) (placed_at r ss)) a
    ∙ taken-are id c n d.boot (is_late width (numbers_of us) n) (has (in_time width (numbers_of us)) n)
    (place (true_set width c (numbers_of us)) (n -ℤ c)) d.datagram.samples)
    (seen-are width id (e ∷ before) close.1)

-- ---- over boots, without the places

record Bare : Type 0 where
  mark : ℕ
  counters : Option InterfaceCounters

abbrev bare_mark : Bare → ℕ
bare_mark b = b.mark

abbrev bare_counters : Bare → Option InterfaceCounters
bare_counters b = b.counters

abbrev strip : InterfaceSample → Bare
strip s = record { mark = s.mark; counters = s.counters }

abbrev bare : Arrived → Bare
bare x = record { mark = mark_shown x; counters = carried_by x }

abbrev pub seen_of : BootSamples → List InterfaceSample
seen_of b = map (seen b.less) b.samples

strip-all : (c : ℤ) (gs : List (List Arrived)) → map (map strip) (map (map (seen c)) gs) ≡ map (map bare) gs
strip-all c [] = refl
strip-all c (g ∷ gs) = let here = one g in let later = strip-all c gs in λ j. here j ∷ later j
  where
    one : (xs : List Arrived) → map strip (map (seen c) xs) ≡ map bare xs
    one [] = refl
    one (x ∷ xs) = ap (λ (r : List Bare). bare x ∷ r) (one xs)

boots-stripped : (width : ℕ) (bs : List BootSamples) → AllSound bs
    → map (map (map strip)) (map (generations place_seen mark_seen width) (map seen_of bs))
    ≡ map (map (map bare)) (map (true_stretches generation_of) (map samples_of bs))
boots-stripped width [] h = refl
boots-stripped width (b ∷ bs) h =
    let here = ap (map (map strip)) (generations-mapped (seen b.less) place_seen mark_seen width b.samples
    ∙ ap (map (map (seen b.less))) (generations-are b.less width b.samples h.0))
    ∙ strip-all b.less (true_stretches generation_of b.samples) in
    let later = boots-stripped width bs h.1 in
    λ j. here j ∷ later j

stretches-stripped : (width : ℕ) (bs : List BootSamples) → AllSound bs
    → map (map strip) (source_stretches place_seen mark_seen width (map seen_of bs)) ≡ map (map bare) (generations_of (map samples_of bs))
stretches-stripped width bs h =
    over-map strip (map (generations place_seen mark_seen width) (map seen_of bs))
    ∙ ap over_boots (boots-stripped width bs h)
    ∙ sym (over-map bare (map (true_stretches generation_of) (map samples_of bs)))

-- ---- the First samples that carry counters

map-map : {X Y : Type 0} (f : X → Y) (m : Y → ℕ) (xs : List X) → map m (map f xs) ≡ map (λ x. m (f x)) xs
map-map f m [] = refl
map-map f m (x ∷ xs) = ap (λ more. m (f x) ∷ more) (map-map f m xs)

first-of : {X Y : Type 0} (f : X → Y) (m : Y → ℕ) (shown : Y → Option InterfaceCounters) (width : ℕ) (xs : List X)
    → first_counters m shown width (map f xs) ≡ first_counters (λ x. m (f x)) (λ x. shown (f x)) width xs
first-of f m shown width [] = refl
first-of f m shown width (x ∷ xs) =
    let marks = map-map f m xs in
    let later = first-of f m shown width xs in
    λ j. with_counters (answer width (counted width (marks j)) (m (f x))) (shown (f x)) (later j)

first-all : {X Y : Type 0} (f : X → Y) (m : Y → ℕ) (shown : Y → Option InterfaceCounters) (width : ℕ) (ss : List (List X))
    → map (first_counters m shown width) (map (map f) ss) ≡ map (first_counters (λ x. m (f x)) (λ x. shown (f x)) width) ss
first-all f m shown width [] = refl
first-all f m shown width (s ∷ ss) = let here = first-of f m shown width s in let later = first-all f m shown width ss in λ j. here j ∷ later j

-- The First samples with counters, by true generations
pub carried-are : (width : ℕ) (bs : List BootSamples) → AllSound bs
    → carried width (map seen_of bs) ≡ map (first_counters mark_shown carried_by width) (generations_of (map samples_of bs))
carried-are width bs h =
    sym (first-all strip bare_mark bare_counters width (source_stretches place_seen mark_seen width (map seen_of bs)))
    ∙ ap (map (first_counters bare_mark bare_counters width)) (stretches-stripped width bs h)
    ∙ first-all bare bare_mark bare_counters width (generations_of (map samples_of bs))
