-- One reading more of a source, as the table of sources enters it, and the counters of an interface that it may carry.
use Rattle.std.proofs.Common.{◌≡◌, ◌∙◌, ℕ, ◌+◌, ◌≤◌, ◌<◌, ◌^◌, nat_le, Bool, true, false, cond, if◌then◌else◌, Option, Some, None, List, [], ◌∷◌, length, map, refl, ap, sym, subst, arith}
use Rattle.std.specs.Prelude.{slice_get}
use Rattle.std.specs.Option.{is_some, IfSome}
use Rattle.std.specs.List.{sum_by}
use Rattle.std.proofs.lemmas.Bool.{leb-true, leb-false}
use Rattle.std.proofs.lemmas.List.Sums.{count_by-le-length}
use Rattle.books_spec.specs.declared.limits.Limits.{Limits}
use Rattle.books_spec.specs.declared.reading.SampleReading.{SampleReading}
use Rattle.books_spec.specs.Generations.{booked}
use Rattle.books_spec.specs.SourceViews.{generation_count, PlacedReading, place_in, placed_mark, PlacedMark}
use Rattle.books_spec.specs.PlacedSamples.{placed_boots, InterfaceSample, seen_at, interface_boots}
use Rattle.books_spec.specs.InterfaceRise.{InterfaceCounters}
use Rattle.books_spec.specs.Items.{Datagram, Item, Got, Stream, stream_of, Source}
use Rattle.books_spec.specs.Listing.{same_source, among, listed, first_arrivals, unlisted}
use Rattle.books_spec.specs.Books.{listed_streams, sources_of}
use Rattle.books_spec.proofs.Keys.{source-same}
use Rattle.books_spec.proofs.Listings.{listed-few, listed-full, unlisted-known, unlisted-new, unlisted-room}
use Rattle.books_spec.proofs.Seen.{read_mark, seen_mark}
use Rattle.source_ledger.specs.Numbers as numbers
use Rattle.source_ledger.specs.Numbers.{NumbersState}
use Rattle.source_ledger.proofs.GenerationCounts.{generations-sum}
use Rattle.stream_books.specs.Sources.{StandsFor as KeepsSource, width_of}
use Rattle.stream_books.specs.declared.source.SourceRecord.{SourceRecord}
use Rattle.stream_books.specs.declared.source.SourceRecord.TheVariants.{Flow, Counters}
use Rattle.collector_tables.specs.declared.keys.SourceKey.{SourceKey}
use Rattle.collector_tables.specs.declared.sources.EnteredAt.{EnteredAt}
use Rattle.collector_tables.specs.declared.streams.TakenAt.{TakenAt}
use Rattle.collector_tables.specs.Keys.{id_in, source_in, IsPlaced}
use Rattle.collector_tables.specs.Tables.{Table}
use Rattle.collector_tables.specs.Sources.{AreEmpty, SourceStands, SourcesStand, after_reading}
use Rattle.collector_tables.proofs.Tables.{each-at}
use Rattle.if_ledger.specs.Boots.{runs_before}
use Rattle.if_ledger.specs.Tables.{Ledgers}
use Rattle.if_ledger.proofs.Marked.{same-booked, same-count}
use Rattle.flow_collector.specs.Collectors.{BooksState, StandsFor}
use Rattle.flow_collector.specs.Interfaces.{run_in, IsReadyFor, AreEnteredFor}
use Rattle.flow_collector.specs.Items.{sample_with}
use Rattle.flow_collector.specs.Steps.{with_sample, Enters, boot_number}
use Rattle.flow_collector.proofs.Boots.{interface-boots-length}
use Rattle.flow_collector.proofs.Entering.{with_one, first-listed, source-boots-of, interface-boots-of}
use Rattle.flow_collector.proofs.Counts.{fresh-empty}
use Rattle.flow_collector.proofs.Found.{key-at, stream-found, key-placed}
use Rattle.flow_collector.proofs.InterfaceSteps.{IsEnteredAt, IsUnlisted, IsEntered, are-ready, are-entered}
use Rattle.flow_collector.proofs.Kept.{HasBoot, has-boot, boots-some}
use Rattle.flow_collector.proofs.Marks.{marks-same, lengths-same, fresh-empty as no-samples}
use Rattle.flow_collector.proofs.Moves.{with_listed, of-stands}
use Rattle.flow_collector.proofs.Readings.{readings-are-entered}

-- what the table of sources promises of one reading more
pub record EnterStep (old now : List (SourceKey × SourceRecord)) (key : SourceKey) (r : PlacedReading) (boot : ℕ)
    (entered : Option EnteredAt) (limit width : ℕ) : Type 0 where
  pub stands : (streams : List Stream) (arrived : List Source) (boots_of : Source → List (List PlacedReading))
      (current : List PlacedReading) (closed : List (List PlacedReading)) → IsPlaced streams key
      → boots_of (source_in streams key) ≡ current ∷ closed → length closed + 1 ≡ boot
      → (among same_source (first_arrivals same_source arrived) (source_in streams key) ≡ false
      → AreEmpty (current ∷ closed))
      → SourcesStand streams limit width old arrived boots_of
      → SourcesStand streams limit width now (source_in streams key ∷ arrived)
      (after_reading (source_in streams key) r boots_of)
  pub answer : (streams : List Stream) (arrived : List Source) (boots_of : Source → List (List PlacedReading))
      (current : List PlacedReading) (closed : List (List PlacedReading)) → IsPlaced streams key
      → boots_of (source_in streams key) ≡ current ∷ closed → length closed + 1 ≡ boot
      → (among same_source (first_arrivals same_source arrived) (source_in streams key) ≡ false
      → AreEmpty (current ∷ closed))
      → SourcesStand streams limit width old arrived boots_of
      → IfSome entered (λ e. e.booked ≡ booked place_in placed_mark width current r)
  pub counted : (streams : List Stream) (arrived : List Source) (boots_of : Source → List (List PlacedReading))
      → IsPlaced streams key → SourcesStand streams limit width old arrived boots_of
      → unlisted same_source limit (source_in streams key ∷ arrived)
      ≡ unlisted same_source limit arrived + (if is_some entered then 0 else 1)
  pub placed : IfSome entered (λ e. (kept : SourceRecord) × (slice_get now e.place ≡ Some (key, kept)))

-- what a sample shows at this index of the datagram that was taken so
abbrev pub reading_at : TakenAt → ℕ → SampleReading → PlacedReading
reading_at t index r = record { place = record { datagram = t.receipt.number; index = index }; reading = r }

-- the step, for what it is entered into
pub of-limits : (s : BooksState) (l : Limits) (items : List Item) (d : Datagram) (t : TakenAt) (index : ℕ)
    (key : SourceKey) (reading : SampleReading) (now : List (SourceKey × SourceRecord)) (entered : Option EnteredAt)
    → length d.samples ≡ index
    → EnterStep s.sources.entries now key (reading_at t index reading) t.boot entered s.sources.limit s.limits.sample_width
    → StandsFor s l (Got d ∷ items)
    → EnterStep s.sources.entries now key (reading_at t (length d.samples) reading) t.boot entered l.sources l.sample_width
of-limits s l items d t index key reading now entered same step st =
    let r : PlacedReading = reading_at t (length d.samples) reading in
    let A : ℕ → Type 0 = λ n. EnterStep s.sources.entries now key (reading_at t n reading) t.boot entered
    s.sources.limit s.limits.sample_width in
    let B : ℕ → Type 0 = λ n. EnterStep s.sources.entries now key r t.boot entered n s.limits.sample_width in
    let C : Limits → Type 0 = λ x. EnterStep s.sources.entries now key r t.boot entered l.sources x.sample_width in
    subst C st.limits_are (subst B st.source_limit (subst A (sym same) step))

-- ---- what is known then

-- a source whose reading isn't counted as listed isn't listed
some-one : (n : ℕ) (A : Type 0) → n ≡ n + 1 → A
some-one n A e = absurd (omega (arith, e))

pub is-unlisted : (limit : ℕ) (arrived : List Source) (source : Source)
    → unlisted same_source limit (source ∷ arrived) ≡ unlisted same_source limit arrived + 1 → IsUnlisted limit arrived source
is-unlisted limit arrived source one = go (among same_source (listed same_source limit arrived) source) refl
  where
    absent : among same_source (listed same_source limit arrived) source ≡ false
        → (b : Bool) → nat_le limit (length (listed same_source limit arrived)) ≡ b → IsUnlisted limit arrived source
    absent none true e = record {
      absent = none;
      listed_same = listed-full same_source limit arrived source (leb-true limit (length (listed same_source limit arrived)) e);
    }
    absent none false e =
        let room = leb-false limit (length (listed same_source limit arrived)) e in
        some-one (unlisted same_source limit arrived) (IsUnlisted limit arrived source)
        (unlisted-room same_source source-same limit arrived room
        ∙ sym (unlisted-new same_source source-same limit arrived source none room) ∙ one)

    go : (b : Bool) → among same_source (listed same_source limit arrived) source ≡ b → IsUnlisted limit arrived source
    go true e = some-one (unlisted same_source limit arrived) (IsUnlisted limit arrived source)
        (sym (unlisted-known same_source source-same limit arrived source e) ∙ one)
    go false e = absent e (nat_le limit (length (listed same_source limit arrived))) refl

numbers-counted : (l : NumbersState) (boots : List (List PlacedReading)) → numbers.StandsFor l boots
    → l.generations ≡ generation_count place_in placed_mark l.marks.width boots
numbers-counted l boots st = st.generations_are ∙ generations-sum l.marks.width boots

run-counted : (s : SourceRecord) (boots : List (List PlacedReading)) → KeepsSource s boots
    → run_in s ≡ generation_count place_in placed_mark (width_of s) boots
run-counted (Flow l) boots st = numbers-counted l.numbers boots st.numbers_stand
run-counted (Counters l) boots st = numbers-counted l boots st

-- where the source of a sample of this datagram stands, and what came of it before
pub record Place (l : Limits) (items : List Item) (d : Datagram) (key : SourceKey) : Type 0 where
  pub placed : IsPlaced (listed_streams l (Got d ∷ items)) key
  pub name : ◌≡◌ {A = Source} (source_in (listed_streams l (Got d ∷ items)) key) (record { stream = stream_of d; id = id_in key })
  pub own : HasBoot (placed_boots l (source_in (listed_streams l (Got d ∷ items)) key) (Got d ∷ items)) (boot_number l items d)
  pub fresh : among same_source (first_arrivals same_source (sources_of l (Got d ∷ items)))
      (source_in (listed_streams l (Got d ∷ items)) key) ≡ false
      → AreEmpty (placed_boots l (source_in (listed_streams l (Got d ∷ items)) key) (Got d ∷ items))

pub place-of : (l : Limits) (items : List Item) (d : Datagram) (t : TakenAt) (key : SourceKey) → key.stream ≡ t.place
    → Enters l items t d → Place l items d key
place-of l items d t key here enters =
    let streams : List Stream = listed_streams l (Got d ∷ items) in
    let arrived : List Source = sources_of l (Got d ∷ items) in
    let source : Source = record { stream = stream_of d; id = id_in key } in
    let at : slice_get streams key.stream ≡ Some (stream_of d) = ap (slice_get streams) here ∙ enters.found.at in
    let stream = stream-found streams key.stream (stream_of d) at in
    let name : source_in streams key ≡ source = λ j. record { stream = stream j; id = id_in key } in
    let H : Source → Type 0 = λ x. HasBoot (placed_boots l x (Got d ∷ items)) (boot_number l items d) in
    let F : Source → Type 0 = λ x. among same_source (first_arrivals same_source arrived) x ≡ false
    → AreEmpty (placed_boots l x (Got d ∷ items)) in
    record {
      placed = key-placed l (Got d ∷ items) key (stream_of d) at;
      name = name;
      own = subst H (sym name) (has-boot l items d (id_in key) enters.first);
      fresh = subst F (sym name) (fresh-empty l (Got d ∷ items) source (first-listed l items d enters.first));
    }

-- the same for what the step needs
pub table-stands : (l : Limits) (items : List Item) (d : Datagram) (t : TakenAt) (key : SourceKey) (r : PlacedReading)
    (was now : List (SourceKey × SourceRecord)) (entered : Option EnteredAt) → t.boot ≡ boot_number l items d → Place l items d key
    → EnterStep was now key r t.boot entered l.sources l.sample_width
    → SourcesStand (listed_streams l (Got d ∷ items)) l.sources l.sample_width was (sources_of l (Got d ∷ items))
    (λ k. placed_boots l k (Got d ∷ items))
    → SourcesStand (listed_streams l (Got d ∷ items)) l.sources l.sample_width now
    (source_in (listed_streams l (Got d ∷ items)) key ∷ sources_of l (Got d ∷ items))
    (after_reading (source_in (listed_streams l (Got d ∷ items)) key) r (λ k. placed_boots l k (Got d ∷ items)))
table-stands l items d t key r was now entered boot here step st =
    let P : List (List PlacedReading) → Type 0 = λ bs. AreEmpty bs in
    step.stands (listed_streams l (Got d ∷ items)) (sources_of l (Got d ∷ items)) (λ k. placed_boots l k (Got d ∷ items))
    here.own.current here.own.closed here.placed here.own.boots_are (here.own.number_is ∙ sym boot)
    (λ none. subst P here.own.boots_are (here.fresh none)) st

pub table-answers : (l : Limits) (items : List Item) (d : Datagram) (t : TakenAt) (key : SourceKey) (r : PlacedReading)
    (was now : List (SourceKey × SourceRecord)) (entered : Option EnteredAt) → t.boot ≡ boot_number l items d
    → (here : Place l items d key) → EnterStep was now key r t.boot entered l.sources l.sample_width
    → SourcesStand (listed_streams l (Got d ∷ items)) l.sources l.sample_width was (sources_of l (Got d ∷ items))
    (λ k. placed_boots l k (Got d ∷ items))
    → IfSome entered (λ e. e.booked ≡ booked place_in placed_mark l.sample_width here.own.current r)
table-answers l items d t key r was now entered boot here step st =
    let P : List (List PlacedReading) → Type 0 = λ bs. AreEmpty bs in
    step.answer (listed_streams l (Got d ∷ items)) (sources_of l (Got d ∷ items)) (λ k. placed_boots l k (Got d ∷ items))
    here.own.current here.own.closed here.placed here.own.boots_are (here.own.number_is ∙ sym boot)
    (λ none. subst P here.own.boots_are (here.fresh none)) st

-- ---- in the words of interfaces

-- the readings of the current boot are the samples of it
current-marks : (current : List InterfaceSample) (closed : List (List InterfaceSample)) (readings : List PlacedReading)
    (gone : List (List PlacedReading)) → map (map seen_mark) (current ∷ closed) ≡ map (map read_mark) (readings ∷ gone)
    → map seen_mark current ≡ map read_mark readings
current-marks current closed readings gone same = ap first_of same
  where
    first_of : List (List PlacedMark) → List PlacedMark
    first_of [] = []
    first_of (xs ∷ more) = xs

-- so many generations there are with the sample
run-is : (l : Limits) (items : List Item) (d : Datagram) (t : TakenAt) (key : SourceKey) (reading : SampleReading)
    (carried : Option InterfaceCounters) (now : List (SourceKey × SourceRecord)) (place : ℕ) (kept : SourceRecord)
    (current : List InterfaceSample) (closed : List (List InterfaceSample)) → Enters l items t d
    → slice_get now place ≡ Some (key, kept)
    → interface_boots l (record { stream = stream_of d; id = id_in key }) (Got d ∷ items) ≡ current ∷ closed
    → Place l items d key
    → SourcesStand (listed_streams l (Got d ∷ items)) l.sources l.sample_width now
    (source_in (listed_streams l (Got d ∷ items)) key ∷ sources_of l (Got d ∷ items))
    (after_reading (source_in (listed_streams l (Got d ∷ items)) key) (reading_at t (length d.samples) reading)
    (λ k. placed_boots l k (Got d ∷ items)))
    → run_in kept ≡ runs_before l.sample_width ((seen_at (reading_at t (length d.samples) reading).place reading carried ∷ current) ∷ closed)
run-is l items d t key reading carried now place kept current closed enters at is here st =
    let streams : List Stream = listed_streams l (Got d ∷ items) in
    let source : Source = record { stream = stream_of d; id = id_in key } in
    let r : PlacedReading = reading_at t (length d.samples) reading in
    let x : InterfaceSample = seen_at r.place reading carried in
    let next : List Item = Got (with_sample d (sample_with (id_in key) reading carried)) ∷ items in
    let stands = each-at (source_in streams)
    (SourceStands l.sample_width (after_reading (source_in streams key) r (λ k. placed_boots l k (Got d ∷ items)))) now place key
    kept at st.table.each in
    let readings : after_reading (source_in streams key) r (λ k. placed_boots l k (Got d ∷ items)) (source_in streams key)
    ≡ placed_boots l source next =
    (λ j. after_reading (here.name j) r (λ k. placed_boots l k (Got d ∷ items)) (here.name j))
    ∙ source-boots-of l items d (id_in key) reading carried t.receipt.number source enters.first enters.found.number_is in
    let samples : (x ∷ current) ∷ closed ≡ interface_boots l source next =
    sym (ap (with_one x) is) ∙ sym (ap (λ b. cond b (with_one x (interface_boots l source (Got d ∷ items)))
    (interface_boots l source (Got d ∷ items))) (source-same.self source))
    ∙ interface-boots-of l items d (id_in key) reading carried t.receipt.number source enters.first enters.found.number_is in
    run-counted kept _ stands.stands
    ∙ (λ j. generation_count place_in placed_mark (stands.width_is j) (readings j))
    ∙ same-count l.sample_width (interface_boots l source next) (placed_boots l source next) (marks-same l source next)
    ∙ sym (ap (runs_before l.sample_width) samples)

-- where the sample was entered
entered-at : (l : Limits) (items : List Item) (d : Datagram) (t : TakenAt) (key : SourceKey) (reading : SampleReading)
    (carried : Option InterfaceCounters) (now : List (SourceKey × SourceRecord)) (e : EnteredAt) (kept : SourceRecord)
    (current : List InterfaceSample) (closed : List (List InterfaceSample)) → Enters l items t d
    → slice_get now e.place ≡ Some (key, kept)
    → interface_boots l (record { stream = stream_of d; id = id_in key }) (Got d ∷ items) ≡ current ∷ closed
    → (here : Place l items d key)
    → e.booked ≡ booked place_in placed_mark l.sample_width here.own.current (reading_at t (length d.samples) reading)
    → SourcesStand (listed_streams l (Got d ∷ items)) l.sources l.sample_width now
    (source_in (listed_streams l (Got d ∷ items)) key ∷ sources_of l (Got d ∷ items))
    (after_reading (source_in (listed_streams l (Got d ∷ items)) key) (reading_at t (length d.samples) reading)
    (λ k. placed_boots l k (Got d ∷ items)))
    → IsEnteredAt l.sources l.sample_width (sources_of l (Got d ∷ items)) (record { stream = stream_of d; id = id_in key })
    (seen_at (reading_at t (length d.samples) reading).place reading carried) current closed now e
entered-at l items d t key reading carried now e kept current closed enters at is here answer st =
    let streams : List Stream = listed_streams l (Got d ∷ items) in
    let arrived : List Source = sources_of l (Got d ∷ items) in
    let source : Source = record { stream = stream_of d; id = id_in key } in
    let r : PlacedReading = reading_at t (length d.samples) reading in
    let own : placed_boots l source (Got d ∷ items) ≡ here.own.current ∷ here.own.closed =
    (λ j. placed_boots l (sym here.name j) (Got d ∷ items)) ∙ here.own.boots_are in
    let marks : map (map seen_mark) (current ∷ closed) ≡ map (map read_mark) (here.own.current ∷ here.own.closed) =
    ap (map (map seen_mark)) (sym is) ∙ marks-same l source (Got d ∷ items) ∙ ap (map (map read_mark)) own in
    record {
      at = (λ j. slice_get (listed same_source l.sources (sym here.name j ∷ arrived)) e.place)
          ∙ key-at (source_in streams) now (listed same_source l.sources (source_in streams key ∷ arrived)) e.place key kept at st.table.keys_are
          ∙ ap Some here.name;
      key = key;
      kept = kept;
      kept_at = at;
      run_is = run-is l items d t key reading carried now e.place kept current closed enters at is here st;
      answered = answer ∙ same-booked l.sample_width current here.own.current (seen_at r.place reading carried) r
          (current-marks current closed here.own.current here.own.closed marks) refl;
    }

-- what the ledgers of interfaces know of the source of a sample of this datagram
pub record Known (l : Limits) (items : List Item) (d : Datagram) (t : TakenAt) (key : SourceKey) (reading : SampleReading)
    (carried : Option InterfaceCounters) (now : List (SourceKey × SourceRecord)) (entered : Option EnteredAt) : Type 0 where
  pub current : List InterfaceSample
  pub closed : List (List InterfaceSample)
  pub boots_are : interface_boots l (record { stream = stream_of d; id = id_in key }) (Got d ∷ items) ≡ current ∷ closed
  pub fresh : among same_source (first_arrivals same_source (sources_of l (Got d ∷ items))) (record { stream = stream_of d; id = id_in key }) ≡ false
      → AreEmpty (current ∷ closed)
  pub few : sum_by length (current ∷ closed) ≤ length (sources_of l (Got d ∷ items))
  pub entering : IsEntered l.sources l.sample_width (sources_of l (Got d ∷ items)) (record { stream = stream_of d; id = id_in key })
      (seen_at (reading_at t (length d.samples) reading).place reading carried) current closed now entered

-- boots of interface samples, of which there is one
record HasSamples (boots : List (List InterfaceSample)) : Type 0 where
  current : List InterfaceSample
  closed : List (List InterfaceSample)
  boots_are : boots ≡ current ∷ closed

some-samples : (bs : List (List InterfaceSample)) → 1 ≤ length bs → HasSamples bs
some-samples [] none = absurd (omega (arith, none))
some-samples (current ∷ closed) some = record { current = current; closed = closed; boots_are = refl }

pub known : (l : Limits) (items : List Item) (d : Datagram) (t : TakenAt) (key : SourceKey) (reading : SampleReading)
    (carried : Option InterfaceCounters) (was now : List (SourceKey × SourceRecord)) (entered : Option EnteredAt)
    → key.stream ≡ t.place → Enters l items t d
    → EnterStep was now key (reading_at t (length d.samples) reading) t.boot entered l.sources l.sample_width
    → SourcesStand (listed_streams l (Got d ∷ items)) l.sources l.sample_width was (sources_of l (Got d ∷ items))
    (λ k. placed_boots l k (Got d ∷ items)) → Known l items d t key reading carried now entered
known l items d t key reading carried was now entered at_place enters step st =
    let source : Source = record { stream = stream_of d; id = id_in key } in
    let arrived : List Source = sources_of l (Got d ∷ items) in
    let r : PlacedReading = reading_at t (length d.samples) reading in
    let here = place-of l items d t key at_place enters in
    let listed_stream = first-listed l items d enters.first in
    let all = interface-boots-length l source (Got d ∷ items) in
    let some = boots-some l items d enters.first in
    let has = some-samples (interface_boots l source (Got d ∷ items)) (omega (arith, all, some)) in
    let E : List (List InterfaceSample) → Type 0 = λ bs. AreEmpty bs in
    let count = ap (sum_by length) (sym has.boots_are) ∙ lengths-same l source (Got d ∷ items)
    ∙ readings-are-entered l source (Got d ∷ items) listed_stream in
    let most = count_by-le-length (same_source source) arrived in
    record {
      current = has.current;
      closed = has.closed;
      boots_are = has.boots_are;
      fresh = λ none. subst E has.boots_are (no-samples l (Got d ∷ items) source listed_stream none);
      few = omega (arith, count, most);
      entering = go entered (step.counted (listed_streams l (Got d ∷ items)) arrived (λ k. placed_boots l k (Got d ∷ items)) here.placed st)
          step.placed here (table-answers l items d t key r was now entered enters.found.boot_is here step st) has.current has.closed has.boots_are
          (table-stands l items d t key r was now entered enters.found.boot_is here step st);
    }
  where
    go : (o : Option EnteredAt)
        → unlisted same_source l.sources (source_in (listed_streams l (Got d ∷ items)) key ∷ sources_of l (Got d ∷ items))
        ≡ unlisted same_source l.sources (sources_of l (Got d ∷ items)) + (if is_some o then 0 else 1)
        → IfSome o (λ e. (kept : SourceRecord) × (slice_get now e.place ≡ Some (key, kept)))
        → (here : Place l items d key)
        → IfSome o (λ e. e.booked ≡ booked place_in placed_mark l.sample_width here.own.current (reading_at t (length d.samples) reading))
        → (current : List InterfaceSample) (closed : List (List InterfaceSample))
        → interface_boots l (record { stream = stream_of d; id = id_in key }) (Got d ∷ items) ≡ current ∷ closed
        → SourcesStand (listed_streams l (Got d ∷ items)) l.sources l.sample_width now
        (source_in (listed_streams l (Got d ∷ items)) key ∷ sources_of l (Got d ∷ items))
        (after_reading (source_in (listed_streams l (Got d ∷ items)) key) (reading_at t (length d.samples) reading)
        (λ k. placed_boots l k (Got d ∷ items)))
        → IsEntered l.sources l.sample_width (sources_of l (Got d ∷ items)) (record { stream = stream_of d; id = id_in key })
        (seen_at (reading_at t (length d.samples) reading).place reading carried) current closed now o
    go None counted there here answer current closed is stands =
        let U : Source → Type 0 = λ x. IsUnlisted l.sources (sources_of l (Got d ∷ items)) x in
        subst U here.name (is-unlisted l.sources (sources_of l (Got d ∷ items)) (source_in (listed_streams l (Got d ∷ items)) key) counted)
    go (Some e) counted there here answer current closed is stands =
        entered-at l items d t key reading carried now e there.0 current closed enters there.1 is here answer stands

-- ---- the collector, one sample on

pub enters-stands : (s : BooksState) (l : Limits) (items : List Item) (d : Datagram) (t : TakenAt) (index : ℕ)
    (key : SourceKey) (reading : SampleReading) (carried : Option InterfaceCounters) (sources : Table SourceKey SourceRecord)
    (interfaces : Ledgers) (entered : Option EnteredAt) (unlisted_now : ℕ)
    → key.stream ≡ t.place → length d.samples ≡ index → Enters l items t d
    → EnterStep s.sources.entries sources.entries key (reading_at t index reading) t.boot entered s.sources.limit
    s.limits.sample_width
    → AreEnteredFor s.interfaces.ledgers interfaces.ledgers sources.entries carried entered
    → unlisted_now ≡ s.totals.unlisted_samples + (if is_some entered then 0 else 1)
    → sources.limit ≡ s.sources.limit → interfaces.limit ≡ s.interfaces.limit → StandsFor s l (Got d ∷ items)
    → StandsFor (record s { sources = sources; interfaces = interfaces; totals = with_listed s.totals unlisted_now }) l
    (Got (with_sample d (sample_with (id_in key) reading carried)) ∷ items)
enters-stands s l items d t index key reading carried sources interfaces entered unlisted_now at_place same enters step noted count limit room st =
    let r : PlacedReading = reading_at t (length d.samples) reading in
    let streams : List Stream = listed_streams l (Got d ∷ items) in
    let arrived : List Source = sources_of l (Got d ∷ items) in
    let source : Source = record { stream = stream_of d; id = id_in key } in
    let now = of-limits s l items d t index key reading sources.entries entered same step st in
    let here = place-of l items d t key at_place enters in
    let k = known l items d t key reading carried s.sources.entries sources.entries entered at_place enters now st.sources_stand in
    let S : Source → Type 0 = λ x. SourcesStand streams l.sources l.sample_width sources.entries (x ∷ arrived)
    (after_reading x r (λ y. placed_boots l y (Got d ∷ items))) in
    let U : Source → Type 0 = λ x. unlisted same_source l.sources (x ∷ arrived)
    ≡ unlisted same_source l.sources arrived + (if is_some entered then 0 else 1) in
    of-stands s l items d (id_in key) reading carried t.receipt.number sources interfaces (is_some entered) unlisted_now enters.first
    enters.found.number_is count limit
    (subst S here.name (table-stands l items d t key r s.sources.entries sources.entries entered enters.found.boot_is here now st.sources_stand))
    room
    (are-entered l.sources l.sample_width arrived source (seen_at r.place reading carried) k.current k.closed
    (λ x. interface_boots l x (Got d ∷ items)) k.boots_are sources.entries s.interfaces.ledgers interfaces.ledgers entered k.entering
    k.fresh noted st.interfaces_stand)
    (subst U here.name (now.counted streams arrived (λ x. placed_boots l x (Got d ∷ items)) here.placed st.sources_stand)) st

-- and the ledgers of interfaces may be entered
pub enters-ready : (s : BooksState) (l : Limits) (items : List Item) (d : Datagram) (t : TakenAt) (index : ℕ)
    (key : SourceKey) (reading : SampleReading) (sources : List (SourceKey × SourceRecord)) (entered : Option EnteredAt)
    → key.stream ≡ t.place → length d.samples ≡ index → Enters l items t d
    → EnterStep s.sources.entries sources key (reading_at t index reading) t.boot entered s.sources.limit
    s.limits.sample_width → length (sources_of l (Got d ∷ items)) < 2 ^ 62 → StandsFor s l (Got d ∷ items)
    → IsReadyFor s.interfaces.ledgers s.interfaces.limit sources entered
enters-ready s l items d t index key reading sources entered at_place same enters step few st =
    let r : PlacedReading = reading_at t (length d.samples) reading in
    let arrived : List Source = sources_of l (Got d ∷ items) in
    let source : Source = record { stream = stream_of d; id = id_in key } in
    let now = of-limits s l items d t index key reading sources entered same step st in
    let k = known l items d t key reading None s.sources.entries sources entered at_place enters now st.sources_stand in
    let all = k.few in
    let room = st.interface_limit in
    are-ready l.sources l.sample_width arrived source (seen_at r.place reading None) k.current k.closed
    (λ x. interface_boots l x (Got d ∷ items)) k.boots_are sources s.interfaces.ledgers s.interfaces.limit entered k.entering
    st.interfaces_stand (omega (arith, all, few)) (omega (arith, room)) (listed-few same_source l.sources (source ∷ arrived))
