-- The books are the account: what is listed, totals, and each line.
use Rattle.std.proofs.Common.{◌≡◌, ℕ, ◌+◌, ◌≤◌, inl, inr, Bool, true, false, cond, not, ◌&&◌, ◌||◌, List, [], ◌∷◌, ◌++◌, length, map, ℤ, ◌-ℤ◌, refl, sym, ap, subst, ◌∙◌, arith}
use Rattle.std.specs.Prelude.{Option, Some, None, ◌<◌}
use Rattle.std.specs.List.{AllByRecursion, filter_map, count_by, position_or_len, cons_option}
use Rattle.std.proofs.lemmas.Bool.{cases_order, le-ltb, lt-ltb}
use Rattle.std.proofs.lemmas.List.{length-map}
use Rattle.count_spec.specs.Windows.{mark_of, has, place, answer, counted}
use Rattle.count_spec.specs.Boots.{sequences, boots, stale_items}
use Rattle.count_spec.specs.TrueStretches.{newest_index, stretch_of, true_stretches, past_items}
use Rattle.count_spec.specs.declared.entered.Place.{Place}
use Rattle.count_spec.specs.declared.entered.Entered.{Entered}
use Rattle.count_spec.specs.declared.entered.Entered.TheVariants as answers
use Rattle.count_spec.specs.declared.stretch_place.StretchPlace.{StretchPlace}
use Rattle.count_spec.specs.declared.stretch_place.StretchPlace.TheVariants.{Current, Next, Stale}
use Rattle.count_spec.proofs.Counts.{count_by-no}
use Rattle.books_spec.specs.declared.limits.Limits.{Limits}
use Rattle.books_spec.specs.declared.taken.Taken.TheVariants.{Unlisted}
use Rattle.books_spec.specs.declared.totals.FirstFault.{FirstFault}
use Rattle.books_spec.specs.Items.{Stream, Source, stamp_of}
use Rattle.books_spec.specs.Items as items
use Rattle.books_spec.specs.Listing.{same_stream, same_source, among, first_arrivals, unlisted}
use Rattle.books_spec.specs.Views.{figures_of, figures_over, sum_over, view_with}
use Rattle.books_spec.specs.Books.{onto, is_malformed, first_fault, fault_after, streams_of, listed_streams, stream_boots, taken_of, taken_at, taken_in, taken_now, samples_at, entered_in, entered, source_of, sources_of, listed_sources, is_other, stream_books, stream_number, totals}
use Rattle.books_spec.specs.Books as books
use Rattle.books_spec.specs.WholeBooks.{source_line, whole_books}
use Rattle.books_spec.proofs.Keys.{stream-same, source-same}
use Rattle.books_spec.proofs.Listings.{IsSame, first_arrivals-all}
use Rattle.books_spec.proofs.Rooms.{room-before, all-listed, latest-listed}
use Rattle.agent_spec.specs.Samples.{Content, Sampled, Counted, Sample}
use Rattle.account_spec.specs.Histories.{SubAgent, agent_of}
use Rattle.account_spec.specs.Deliveries.{Delivery, boot_of, number_of, numbers_of, deliveries_of, id_in, reading_shown, sample_shown, datagram_shown, item, content_shown}
use Rattle.account_spec.specs.TrueNumbers.{is_late, in_time, true_figures, AreClose}
use Rattle.account_spec.specs.Arrivals.{is_first_in_time}
use Rattle.account_spec.specs.Accounts.{stream_account, delivered_streams, is_delivered, source_in, sources_with, sample_sources, delivered_sources, line_account, account}
use Rattle.account_laws.specs.Found.{LesserPremises}
use Rattle.account_laws.proofs.Lists.{all-imply, map-on}
use Rattle.account_laws.proofs.Parts.{place-past, place-later, place-same, none-yet, HasCurrent, current}
use Rattle.account_laws.proofs.Numbers.{true_set, answer-is, figures-are}
use Rattle.account_laws.proofs.BootSteps.{AreSeen, seen-before, shown_all, sequences-shown, place-is, boots-are, stale-are}
use Rattle.account_laws.proofs.Entering.{filter_map-onto, own-are}
use Rattle.account_laws.proofs.Agents.{delivered-known, IsDelivered, IsKnown}
use Rattle.account_laws.proofs.Streams.{seen, view-is}
use Rattle.account_laws.proofs.Moved.{base}
use Rattle.count_spec.proofs.TrueStretches.{true_stretches-step}
use Rattle.count_spec.specs.Stretches.{placed}
use Rattle.std.proofs.lemmas.List.Folds.{list_any-append}

-- ---- whether the samples of a delivery are entered

module _ (l : Limits) (d : Delivery) (ss : List items.Sample) where
  abbrev w : ℕ
  w = l.datagram_width

  abbrev Entering : List (List items.Datagram) → StretchPlace → List items.Sample
  Entering bs p = samples_at (taken_at w p bs (mark_of (number_of d))) ss

  abbrev InTime : List Delivery → List items.Sample
  InTime own = cond (is_delivered w own d) ss []

  by-answer : (a b : Bool) (p : Place) (n : ℤ)
      → samples_at (taken_of (cond a answers.Late (cond b answers.Repeat (answers.First p n)))) ss ≡ cond (not a && not b) ss []
  by-answer true b p n = refl
  by-answer false true p n = refl
  by-answer false false p n = refl

  not-past : (own : List Delivery) → newest_index boot_of own ≤ boot_of d
      → cond (is_first_in_time w (stretch_of boot_of d.boot own) d) ss [] ≡ InTime own
  not-past own h =
      sym (ap (λ (b : Bool). cond (not b && is_first_in_time w (stretch_of boot_of d.boot own) d) ss [])
      (le-ltb (boot_of d) (newest_index boot_of own) h))

  on_later : (own : List Delivery) (bs : List (List items.Datagram)) → newest_index boot_of own < boot_of d → Entering bs Next ≡ InTime own
  on_later own bs later =
      sym (ap (λ (xs : List Delivery). cond (is_first_in_time w xs d) ss []) (none-yet boot_of d.boot own later))
      ∙ not-past own (omega arith)

  on_earlier : (own : List Delivery) (bs : List (List items.Datagram)) → boot_of d < newest_index boot_of own → Entering bs Stale ≡ InTime own
  on_earlier own bs earlier =
      sym (ap (λ (b : Bool). cond (not b && is_first_in_time w (stretch_of boot_of d.boot own) d) ss [])
      (lt-ltb (boot_of d) (newest_index boot_of own) earlier))

  on_same : (own : List Delivery) (c : HasCurrent boot_of own) → boot_of d ≡ newest_index boot_of own
      → AreClose (numbers_of (d ∷ c.head ∷ c.tail)) → Entering (shown_all (true_stretches boot_of own)) Current ≡ InTime own
  on_same own c same close =
      let cur : List Delivery = c.head ∷ c.tail in
      let late : Bool = is_late w (numbers_of cur) (number_of d) in
      let again : Bool = has (in_time w (numbers_of cur)) (number_of d) in
      let base_of : ℤ = base (numbers_of cur) in
      ap (λ (bs : List (List Delivery)). Entering (shown_all bs) Current) c.are
      ∙ ap (λ (ms : List ℕ). samples_at (taken_of (answer w (counted w ms) (mark_of (number_of d)))) ss) (sequences-shown cur)
      ∙ ap (λ (a : Entered). samples_at (taken_of a) ss) (answer-is w (number_of d) (number_of c.head) (numbers_of c.tail) close)
      ∙ by-answer late again (place (true_set w base_of (numbers_of cur)) (number_of d -ℤ base_of)) (number_of d -ℤ base_of)
      ∙ ap (λ (xs : List Delivery). cond (is_first_in_time w xs d) ss [])
      (c.is ∙ ap (λ (i : ℕ). stretch_of boot_of i own) (sym same))
      ∙ not-past own (omega arith)

  pub entering : (own : List Delivery) → AreSeen l.boot_slack (d ∷ own)
      → samples_at (taken_in l (boots stamp_of l.boot_slack w (map datagram_shown own)) (datagram_shown d)) ss ≡ InTime own
  entering [] h = let one : 1 ≤ boot_of d = h.numbered.0 in on_later [] [] (omega arith)
  entering (e ∷ before) h =
      ap (λ bs. samples_at (taken_in l bs (datagram_shown d)) ss) (boots-are l.boot_slack w own (seen-before l.boot_slack d own h))
      ∙ ap (Entering bs) (place-is l.boot_slack w d e before h)
      ∙ elim (cases_order (boot_of d) (newest_index boot_of own)) [
        | inl same ↦ ap (Entering bs) (place-same boot_of d own same) ∙ on_same own c same (near same)
        | inr other ↦ elim other [
          | inl earlier ↦ ap (Entering bs) (place-past boot_of d own earlier) ∙ on_earlier own bs earlier
          | inr later ↦ ap (Entering bs) (place-later boot_of d own later) ∙ on_later own bs later
        ]
      ]
    where
      own : List Delivery
      own = e ∷ before

      bs : List (List items.Datagram)
      bs = shown_all (true_stretches boot_of own)

      c : HasCurrent boot_of own
      c = current boot_of e before h.numbered.1

      near : boot_of d ≡ newest_index boot_of own → AreClose (numbers_of (d ∷ c.head ∷ c.tail))
      near same = (subst (AllByRecursion (λ (s : List Delivery). AreClose (numbers_of s)))
          (true_stretches-step boot_of d own h.numbered
          ∙ ap (λ p. placed p d (true_stretches boot_of own)) (place-same boot_of d own same)
          ∙ ap (λ ss. placed Current d ss) c.are) h.close).0

-- ---- all that is entered

streams-are : (ds : List Delivery) → streams_of (map item ds) ≡ map (λ (d : Delivery). d.stream) ds
streams-are [] = refl
streams-are (d ∷ before) = ap (λ (r : List Stream). d.stream ∷ r) (streams-are before)

-- what is known of each sub-agent and of the streams listed
pub record AreReady (l : Limits) (ds : List Delivery) : Type 0 where
  pub streams : (stream : Stream) → AreSeen l.boot_slack (deliveries_of stream ds)
  pub room : unlisted same_stream l.streams (streams_of (map item ds)) ≡ 0

seen-tail : (slack : ℕ) (stream : Stream) (d : Delivery) (before : List Delivery) → AreSeen slack (deliveries_of stream (d ∷ before))
    → AreSeen slack (deliveries_of stream before)
seen-tail slack stream d before = go (same_stream stream d.stream)
  where
    go : (b : Bool) → AreSeen slack (cond b (d ∷ deliveries_of stream before) (deliveries_of stream before)) → AreSeen slack (deliveries_of stream before)
    go true h = seen-before slack d (deliveries_of stream before) h
    go false h = h

seen-own : (slack : ℕ) (d : Delivery) (before : List Delivery) → AreSeen slack (deliveries_of d.stream (d ∷ before))
    → AreSeen slack (d ∷ deliveries_of d.stream before)
seen-own slack d before h =
    subst (λ (b : Bool). AreSeen slack (cond b (d ∷ deliveries_of d.stream before) (deliveries_of d.stream before))) (IsSame.self stream-same d.stream) h

ready-before : (l : Limits) (d : Delivery) (before : List Delivery) → AreReady l (d ∷ before) → AreReady l before
ready-before l d before h = record {
  streams = λ stream. seen-tail l.boot_slack stream d before (h.streams stream);
  room = room-before same_stream stream-same l.streams d.stream (streams_of (map item before)) h.room;
}

entered-now : (l : Limits) (d : Delivery) (before : List Delivery) → AreReady l (d ∷ before)
    → samples_at (taken_now l (map item before) (item d)) (map sample_shown d.datagram.samples)
    ≡ cond (is_delivered l.datagram_width (deliveries_of d.stream before) d) (map sample_shown d.datagram.samples) []
entered-now l d before h =
    let ss : List items.Sample = map sample_shown d.datagram.samples in
    ap (λ (b : Bool). samples_at (cond b (taken_in l (stream_boots l d.stream (map item before)) (datagram_shown d)) Unlisted) ss)
    (latest-listed same_stream stream-same l.streams d.stream (streams_of (map item before)) h.room)
    ∙ ap (λ (own : List items.Datagram). samples_at (taken_in l (boots stamp_of l.boot_slack l.datagram_width own) (datagram_shown d)) ss)
    (own-are d.stream before)
    ∙ entering l d ss (deliveries_of d.stream before) (seen-own l.boot_slack d before (h.streams d.stream))

source-shown : (stream : Stream) (s : Sample) → source_of (entered_in stream (sample_shown s)) ≡ Some (source_in stream s)
source-shown stream s = go s.content
  where
    go : (content : Content) → books.source_in stream (content_shown (id_in s) (reading_shown s) content) ≡ Some (source_in stream s)
    go (Sampled packet) = refl
    go (Counted counters) = refl

sources-in : (stream : Stream) (ss : List Sample) → filter_map source_of (map (entered_in stream) (map sample_shown ss)) ≡ map (source_in stream) ss
sources-in stream [] = refl
sources-in stream (s ∷ more) =
    ap (λ (o : Option Source). cons_option o (filter_map source_of (map (entered_in stream) (map sample_shown more)))) (source-shown stream s)
    ∙ ap (λ (r : List Source). source_in stream s ∷ r) (sources-in stream more)

sources-with : (d : Delivery) (b : Bool)
    → filter_map source_of (map (entered_in d.stream) (cond b (map sample_shown d.datagram.samples) [])) ≡ sources_with b d
sources-with d true = sources-in d.stream d.datagram.samples
sources-with d false = refl

-- The sources of the samples entered are those of the samples delivered
pub sources-are : (l : Limits) (ds : List Delivery) → AreReady l ds → sources_of l (map item ds) ≡ sample_sources l.datagram_width ds
sources-are l [] h = refl
sources-are l (d ∷ before) h =
    let now : Bool = is_delivered l.datagram_width (deliveries_of d.stream before) d in
    ap (λ (r : List items.Sample). filter_map source_of (onto (map (entered_in d.stream) r) (entered l (map item before)))) (entered-now l d before h)
    ∙ filter_map-onto source_of (map (entered_in d.stream) (cond now (map sample_shown d.datagram.samples) [])) (entered l (map item before))
    ∙ (let here = sources-with d now in let later = sources-are l before (ready-before l d before h) in λ j. onto (here j) (later j))

-- ---- totals

none-malformed : (ds : List Delivery) → count_by is_malformed (map item ds) ≡ 0
none-malformed [] = refl
none-malformed (d ∷ before) = count_by-no is_malformed (item d) (map item before) refl ∙ none-malformed before

no-fault : (ds : List Delivery) → first_fault (map item ds) ≡ None
no-fault [] = refl
no-fault (d ∷ before) = ap (λ (f : Option FirstFault). fault_after f (length (map item before)) (item d)) (no-fault before)

abbrev IsOfSource : books.Entered → Type 0
IsOfSource e = is_other e.sample ≡ false

not-other : (s : Sample) → is_other (sample_shown s) ≡ false
not-other s = go s.content
  where
    go : (content : Content) → is_other (content_shown (id_in s) (reading_shown s) content) ≡ false
    go (Sampled packet) = refl
    go (Counted counters) = refl

all-of-sources : (stream : Stream) (b : Bool) (ss : List Sample) (rest : List books.Entered) → AllByRecursion IsOfSource rest
    → AllByRecursion IsOfSource (onto (map (entered_in stream) (cond b (map sample_shown ss) [])) rest)
all-of-sources stream false ss rest h = h
all-of-sources stream true [] rest h = h
all-of-sources stream true (s ∷ more) rest h =
    all-of-sources stream true more (entered_in stream (sample_shown s) ∷ rest) (not-other s, h)

entered-of : (l : Limits) (ds : List Delivery) → AreReady l ds → AllByRecursion IsOfSource (entered l (map item ds))
entered-of l [] h = tt
entered-of l (d ∷ before) h =
    subst (λ (r : List items.Sample). AllByRecursion IsOfSource (onto (map (entered_in d.stream) r) (entered l (map item before)))) (sym (entered-now l d before h))
    (all-of-sources d.stream (is_delivered l.datagram_width (deliveries_of d.stream before) d) d.datagram.samples (entered l (map item before))
    (entered-of l before (ready-before l d before h)))

none-other : (es : List books.Entered) → AllByRecursion IsOfSource es → count_by (λ (e : books.Entered). is_other e.sample) es ≡ 0
none-other [] h = refl
none-other (e ∷ es) h = count_by-no (λ (x : books.Entered). is_other x.sample) e es h.0 ∙ none-other es h.1

-- ---- a stream's line

boot-figures : (width : ℕ) (ss : List (List Delivery)) → AllByRecursion (λ (s : List Delivery). AreClose (numbers_of s)) ss
    → map (figures_of width) (map (sequences stamp_of) (shown_all ss)) ≡ map (λ boot. true_figures width (numbers_of boot)) ss
boot-figures width [] h = refl
boot-figures width (s ∷ ss) h =
    let here = ap (figures_of width) (sequences-shown s) ∙ figures-are width (numbers_of s) h.0 in
    let later = boot-figures width ss h.1 in
    λ j. here j ∷ later j

stream-is : (l : Limits) (ds : List Delivery) (stream : Stream) → AreSeen l.boot_slack (deliveries_of stream ds)
    → stream_books l (map item ds) stream ≡ stream_account l ds stream
stream-is l ds stream h =
    let own : List Delivery = deliveries_of stream ds in
    let bs = ap (boots stamp_of l.boot_slack l.datagram_width) (own-are stream ds) ∙ boots-are l.boot_slack l.datagram_width own h in
    let count = ap length bs ∙ length-map (true_stretches boot_of own) (map datagram_shown) in
    let figures = ap (λ b. figures_over l.datagram_width (map (sequences stamp_of) b)) bs
    ∙ ap sum_over (boot-figures l.datagram_width (true_stretches boot_of own) h.close) in
    let stale = ap (λ o. length (stale_items stamp_of l.boot_slack l.datagram_width o)) (own-are stream ds)
    ∙ ap length (stale-are l.boot_slack l.datagram_width own h) ∙ length-map (past_items boot_of own) datagram_shown in
    λ j. record { stream = stream; boots = count j; view = view_with (figures j) 0 0 0; stale = stale j }

-- ---- the whole

-- what is among the first arrivals arrived
pub arrived-there : {K : Type 0} (same : K → K → Bool) (keys : List K) (key : K) → among same (first_arrivals same keys) key ≡ true → among same keys key ≡ true
arrived-there same [] key h = h
arrived-there {K} same (x ∷ before) key h = go (among same (first_arrivals same before) x) h (arrived-there same before key)
  where
    right : (a b : Bool) → b ≡ true → (a || b) ≡ true
    right true b e = refl
    right false b e = e

    split : (a b c : Bool) → (a || (b || c)) ≡ true → c ≡ false → (a ≡ true → (b || among same before key) ≡ true) → (b || among same before key) ≡ true
    split true b c e f k = k refl
    split false true c e f k = refl
    split false false c e f k = let bad : true ≡ false = sym e ∙ f in absurd cc

    go : (b : Bool) → among same (cond b (first_arrivals same before) (first_arrivals same before ++ x ∷ [])) key ≡ true
        → (among same (first_arrivals same before) key ≡ true → among same before key ≡ true) → (same key x || among same before key) ≡ true
    go true k again = right (same key x) (among same before key) (again k)
    go false k again =
        split (among same (first_arrivals same before) key) (same key x) false
        (sym (list_any-append (same key) (first_arrivals same before) (x ∷ [])) ∙ k) refl
        (λ e. right (same key x) (among same before key) (again e))

-- each key of a list is among it
pub all-there : {K : Type 0} (same : K → K → Bool) (laws : IsSame same) (more keys : List K)
    → ((k : K) → among same keys k ≡ true → among same more k ≡ true) → AllByRecursion (λ (k : K). among same more k ≡ true) keys
all-there same laws more [] sub = tt
all-there same laws more (x ∷ keys) sub = (
  sub x (ap (λ (b : Bool). b || among same keys x) (laws.self x)),
  all-there same laws more keys (λ k h. sub k (right (same k x) (among same keys k) h)),
)
  where
    right : (a b : Bool) → b ≡ true → (a || b) ≡ true
    right true b e = refl
    right false b e = e

module _ (l : Limits) (history : List SubAgent) (ds : List Delivery) (p : LesserPremises l history ds) where
  pub ready : AreReady l ds
  ready = record { streams = seen l history ds p; room = p.roomy.streams }

  pub listed-are : listed_streams l (map item ds) ≡ delivered_streams ds
  listed-are = all-listed same_stream stream-same l.streams (streams_of (map item ds)) p.roomy.streams
      ∙ ap (first_arrivals same_stream) (streams-are ds)

  pub sources-listed : listed_sources l (map item ds) ≡ delivered_sources l.datagram_width ds
  sources-listed = all-listed same_source source-same l.sources (sources_of l (map item ds)) p.roomy.samples
      ∙ ap (first_arrivals same_source) (sources-are l ds ready)

  -- what is known of a source that is listed
  pub record IsListed (source : Source) : Type 0 where
    pub known : IsKnown (agent_of history source.stream).setup source.id
    pub stream : among same_stream (listed_streams l (map item ds)) source.stream ≡ true
    pub sample : among same_source (sources_of l (map item ds)) source ≡ true
    pub number : stream_number l (map item ds) source.stream
        ≡ position_or_len (same_stream source.stream) (delivered_streams ds) + 1

  pub is-listed : (source : Source) → among same_source (delivered_sources l.datagram_width ds) source ≡ true → IsListed source
  is-listed source there =
      let arrived = arrived-there same_source (sample_sources l.datagram_width ds) source there in
      let k : IsDelivered history ds source = delivered-known history l.datagram_width ds source p.history_is p.sent arrived in
      record {
        known = k.known;
        stream = ap (λ ks. among same_stream ks source.stream) listed-are
            ∙ first_arrivals-all same_stream stream-same (map (λ (d : Delivery). d.stream) ds) source.stream k.stream;
        sample = ap (λ ks. among same_source ks source) (sources-are l ds ready) ∙ arrived;
        number = ap (λ ks. position_or_len (same_stream source.stream) ks + 1) listed-are;
      }

  pub line-is : (source : Source) → among same_source (delivered_sources l.datagram_width ds) source ≡ true
      → source_line l (map item ds) source ≡ line_account l history ds source
  line-is source there =
      let k = is-listed source there in
      let number = k.number in
      let view = view-is l history ds p source k.known k.stream k.sample in
      λ j. record { stream = number j; id = source.id; view = view j }

  -- The books are the account
  pub books-are : whole_books l (map item ds) ≡ account l history ds
  books-are =
      let entries = length-map ds item in
      let malformed = none-malformed ds in
      let other = none-other (entered l (map item ds)) (entered-of l ds ready) in
      let fault = no-fault ds in
      let unlisted_streams = p.roomy.streams in
      let unlisted_sources = p.roomy.samples in
      let streams = map-on (stream_books l (map item ds)) (stream_account l ds) (listed_streams l (map item ds)) (each (listed_streams l (map item ds)))
      ∙ ap (map (stream_account l ds)) listed-are in
      let sources = ap (map (source_line l (map item ds))) sources-listed
      ∙ map-on (source_line l (map item ds)) (line_account l history ds) (delivered_sources l.datagram_width ds)
      (all-imply (λ (k : Source). among same_source (delivered_sources l.datagram_width ds) k ≡ true)
      (λ (k : Source). source_line l (map item ds) k ≡ line_account l history ds k) line-is (delivered_sources l.datagram_width ds)
      (all-there same_source source-same (delivered_sources l.datagram_width ds) (delivered_sources l.datagram_width ds) (λ k h. h))) in
      λ j. record {
        totals = record {
          entries = entries j;
          malformed = malformed j;
          unlisted = unlisted_streams j;
          unlisted_samples = unlisted_sources j;
          other = other j;
          first_fault = fault j;
        };
        streams = streams j;
        sources = sources j;
        interfaces = (whole_books l (map item ds)).interfaces;
      }
    where
      each : (ks : List Stream) → AllByRecursion (λ (k : Stream). stream_books l (map item ds) k ≡ stream_account l ds k) ks
      each [] = tt
      each (k ∷ ks) = (stream-is l ds k (seen l history ds p k), each ks)
