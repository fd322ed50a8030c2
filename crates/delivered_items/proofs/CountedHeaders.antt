-- The headers of a delivery that is the first in time of its datagram: those that count in the books are those of the account.
use Rattle.std.proofs.Common.{◌≡◌, ℕ, suc, ◌+◌, ◌≤◌, inl, inr, Bool, true, false, cond, not, ◌&&◌, List, [], ◌∷◌, ◌++◌, length, map, ℤ, ◌-ℤ◌, arith, refl, sym, ap, subst, ◌∙◌}
use Rattle.std.specs.List.{AllByRecursion, filter, position_or_len}
use Rattle.std.proofs.lemmas.Bool.{ltb-false}
use Rattle.std.proofs.lemmas.List.{length-append, map-append}
use Rattle.count_spec.specs.Boots.{boots}
use Rattle.count_spec.specs.Stretches.{placed}
use Rattle.count_spec.specs.TrueStretches.{newest_index, is_past, stretch_of, true_stretches, true_place}
use Rattle.count_spec.specs.declared.stretch_place.StretchPlace.{StretchPlace}
use Rattle.count_spec.specs.declared.stretch_place.StretchPlace.TheVariants.{Current, Next, Stale}
use Rattle.count_spec.proofs.TrueStretches.{true_stretches-step}
use Rattle.books_spec.specs.declared.limits.Limits.{Limits}
use Rattle.books_spec.specs.Items.{SourceId, Of, Stream, Source, stamp_of}
use Rattle.books_spec.specs.Items as items
use Rattle.books_spec.specs.Listing.{same_stream, same_source, among, first_arrivals, listed, unlisted}
use Rattle.books_spec.specs.Books.{onto, own, streams_of, listed_streams, stream_boots, sources_of}
use Rattle.books_spec.specs.Generations.{booked}
use Rattle.books_spec.specs.SourceViews.{PlacedReading, place_in, placed_mark}
use Rattle.books_spec.specs.PlacedSamples.{placed_from, placed_readings, placed_boots}
use Rattle.books_spec.specs.SampledHeaders.{FirstHeader, header_from, current_readings, answer_to, is_first_booked, is_listed, and_sample, headers_at, headers_behind}
use Rattle.books_spec.proofs.Keys.{stream-same, id-same, source-same, and-split}
use Rattle.books_spec.proofs.Listings.{IsSame}
use Rattle.books_spec.proofs.Rooms.{room-before, all-listed, latest-listed}
use Rattle.agent_spec.specs.Sources as agents
use Rattle.agent_spec.specs.Samples.{Packet, Content, Sampled, Counted, Sample, Setup}
use Rattle.account_spec.specs.Histories.{IsSetUp}
use Rattle.account_spec.specs.Deliveries.{Delivery, boot_of, number_of, numbers_of, deliveries_of, id_of, id_in, reading_shown, content_shown, sample_shown, datagram_shown, item}
use Rattle.account_spec.specs.TrueNumbers.{AreClose}
use Rattle.account_spec.specs.Visible.{AreVisible}
use Rattle.account_spec.specs.Arrivals.{Arrived, is_first_in_time, arrived_from, arrived}
use Rattle.account_spec.specs.Accounts.{is_delivered, source_in, sources_with, sample_sources}
use Rattle.account_laws.proofs.Moved.{base}
use Rattle.account_laws.proofs.Parts.{joins, HasCurrent, current}
use Rattle.account_laws.proofs.Opened.{place_less}
use Rattle.account_laws.proofs.Split.{AreSound, sound-before}
use Rattle.account_laws.proofs.Views.{entered}
use Rattle.account_laws.proofs.BootSteps.{AreSeen, shown_all, boots-are}
use Rattle.account_laws.proofs.Entering.{own-are, entered-are}
use Rattle.account_laws.proofs.Whole.{AreReady, sources-are}
use Rattle.account_laws.proofs.Agents.{IsKnown, OfFlow, OfCounter}
use Rattle.account_laws.proofs.Issued.{Carries, IsOwned, kind-of-flow}
use Rattle.delivered_items.specs.PacketHeaders.{content_headers, sample_headers}
use Rattle.delivered_items.specs.AccountHeaders.{is_of, is_in_time, headers_with, headers_each, number_shown}
use Rattle.delivered_items.proofs.InTime.{booked-in_time}

-- ---- what is so of more holds of less

sound-tail : (x : Arrived) (xs : List Arrived) → AreSound (x ∷ xs) → AreSound xs
sound-tail x [] h = record { numbered = tt; order = tt; close = tt; apparent = tt }
sound-tail x (y ∷ before) h = sound-before x y before h

pub sound-behind : (p : Arrived → Bool) (xs ys : List Arrived) → AreSound (filter p (onto xs ys)) → AreSound (filter p ys)
sound-behind p [] ys h = h
sound-behind p (x ∷ xs) ys h = go (p x) (sound-behind p xs (x ∷ ys) h)
  where
    go : (b : Bool) → AreSound (cond b (x ∷ filter p ys) (filter p ys)) → AreSound (filter p ys)
    go true k = sound-tail x (filter p ys) k
    go false k = k

pub room-behind : (limit : ℕ) (xs ys : List Source) → unlisted same_source limit (onto xs ys) ≡ 0 → unlisted same_source limit ys ≡ 0
room-behind limit [] ys h = h
room-behind limit (x ∷ xs) ys h = room-before same_source source-same limit x ys (room-behind limit xs (x ∷ ys) h)

-- ---- a delivery of which some samples have been taken

abbrev pub with_samples : Delivery → List Sample → Delivery
with_samples d samples = record d { datagram = record d.datagram { samples = samples } }

-- the numbers of each of these boots are close
abbrev AreCloseBoots : List (List Delivery) → Type 0
AreCloseBoots bs = AllByRecursion (λ (s : List Delivery). AreClose (numbers_of s)) bs

seen-with : (slack : ℕ) (d : Delivery) (samples : List Sample) (own : List Delivery) → AreSeen slack (d ∷ own)
    → AreSeen slack (with_samples d samples ∷ own)
seen-with slack d samples own h = record {
  numbered = h.numbered;
  close = subst AreCloseBoots (sym (true_stretches-step boot_of (with_samples d samples) own h.numbered))
      (go (true_place boot_of own d) (true_stretches boot_of own)
      (subst AreCloseBoots (true_stretches-step boot_of d own h.numbered) h.close));
  visible = shows own h.visible;
}
  where
    go : (p : StretchPlace) (bs : List (List Delivery)) → AreCloseBoots (placed p d bs) → AreCloseBoots (placed p (with_samples d samples) bs)
    go Current [] k = k
    go Current (b ∷ bs) k = k
    go Next bs k = k
    go Stale bs k = k

    shows : (es : List Delivery) → AreVisible slack (d ∷ es) → AreVisible slack (with_samples d samples ∷ es)
    shows [] v = tt
    shows (e ∷ before) v = v

arrived-last : (boot : ℕ) (n : ℤ) (k i : ℕ) (ss : List Sample) (s : Sample) (rest : List Arrived) → k + length ss ≡ i
    → onto (arrived_from boot n k (ss ++ s ∷ [])) rest
    ≡ record { boot = boot; place = record { datagram = n; index = i }; sample = s } ∷ onto (arrived_from boot n k ss) rest
arrived-last boot n k i [] s rest e =
    ap (λ (j : ℕ). record { boot = boot; place = record { datagram = n; index = j }; sample = s } ∷ rest) (start k i e)
  where
    start : (k i : ℕ) → k + 0 ≡ i → k ≡ i
    start k i e = omega (arith, e)
arrived-last boot n k i (t ∷ ss) s rest e =
    arrived-last boot n (suc k) i ss s
    (record { boot = boot; place = record { datagram = n; index = k }; sample = t } ∷ rest) (omega (arith, e))

mapped-last : {X Y : Type 0} (f : X → Y) (xs : List X) (x : X) (rest : List Y) → onto (map f (xs ++ x ∷ [])) rest ≡ f x ∷ onto (map f xs) rest
mapped-last f [] x rest = refl
mapped-last f (y ∷ xs) x rest = mapped-last f xs x (f y ∷ rest)

pub streams-are : (ds : List Delivery) → streams_of (map item ds) ≡ map (λ (d : Delivery). d.stream) ds
streams-are [] = refl
streams-are (d ∷ before) = ap (λ (r : List Stream). d.stream ∷ r) (streams-are before)

-- ---- what is known of the samples of an agent

flow-of : (s : Setup) → IsSetUp s → (y : Sample) (p : Packet) → IsOwned s y → y.content ≡ Sampled p → y.turn.source.flow ≡ true
flow-of s set_up y p (inl o) e = ap (λ (k : agents.Source). k.flow) o.source ∙ kind-of-flow s set_up o.flow o.there
flow-of s set_up y p (inr o) e = absurd (subst Carries (sym o.content ∙ e) (tt))

known-of : (s : Setup) (y : Sample) → IsOwned s y → IsKnown s (id_in y)
known-of s y (inl o) = OfFlow o.flow o.there (ap id_of o.source)
known-of s y (inr o) = OfCounter o.counter o.there (ap id_of o.source)

-- ---- the samples of a delivery that is the first in time of its datagram

module _ (l : Limits) (d : Delivery) (before : List Delivery) (ready : AreReady l (d ∷ before))
    (now : is_delivered l.datagram_width (deliveries_of d.stream before) d ≡ true) (s : Setup) (set_up : IsSetUp s) where
  abbrev width : ℕ
  width = l.datagram_width

  abbrev own_before : List Delivery
  own_before = deliveries_of d.stream before

  abbrev boot : List Delivery
  boot = stretch_of boot_of d.boot own_before

  abbrev n : ℤ
  n = number_of d

  abbrev c : ℤ
  c = base (numbers_of (d ∷ boot))

  abbrev with : List Sample → Delivery
  with samples = with_samples d samples

  abbrev so_far : List Sample → items.Datagram
  so_far samples = datagram_shown (with samples)

  parts : (not (is_past boot_of own_before d) ≡ true) × (is_first_in_time width boot d ≡ true)
  parts = and-split (not (is_past boot_of own_before d)) (is_first_in_time width boot d) now

  newest : newest_index boot_of own_before ≤ d.boot
  newest = ltb-false d.boot (newest_index boot_of own_before) (not-true (is_past boot_of own_before d) parts.0)
    where
      not-true : (b : Bool) → not b ≡ true → b ≡ false
      not-true true e = let bad : false ≡ true = e in absurd cc
      not-true false e = refl

  seen-now : (samples : List Sample) → AreSeen l.boot_slack (with samples ∷ own_before)
  seen-now samples = seen-with l.boot_slack d samples own_before
      (subst (λ (b : Bool). AreSeen l.boot_slack (cond b (d ∷ own_before) own_before)) (IsSame.self stream-same d.stream) (ready.streams d.stream))

  cur : (samples : List Sample) → HasCurrent boot_of (with samples ∷ own_before)
  cur samples = current boot_of (with samples) own_before (seen-now samples).numbered

  cur-is : (samples : List Sample) → (cur samples).head ∷ (cur samples).tail ≡ with samples ∷ boot
  cur-is samples =
      let top : newest_index boot_of (with samples ∷ own_before) ≡ d.boot = omega (arith, newest) in
      (cur samples).is ∙ ap (λ (i : ℕ). stretch_of boot_of i (with samples ∷ own_before)) top
      ∙ joins boot_of (with samples) own_before newest

  close : AreClose (numbers_of (d ∷ boot))
  close = subst (λ (ds : List Delivery). AreClose (numbers_of ds)) (cur-is []) (subst AreCloseBoots (cur []).are (seen-now []).close).0

  boots-now : (samples : List Sample) → stream_boots l d.stream (item (with samples) ∷ map item before)
      ≡ shown_all (((cur samples).head ∷ (cur samples).tail) ∷ (cur samples).closed)
  boots-now samples =
      ap (boots stamp_of l.boot_slack width)
      (own-are d.stream (with samples ∷ before)
      ∙ ap (λ (b : Bool). map datagram_shown (cond b (with samples ∷ own_before) own_before)) (IsSame.self stream-same d.stream))
      ∙ boots-are l.boot_slack width (with samples ∷ own_before) (seen-now samples)
      ∙ ap shown_all (cur samples).are

  arrived-now : (samples : List Sample) → arrived width (with samples ∷ boot) ≡ onto (arrived_from d.boot n 0 samples) (arrived width boot)
  arrived-now samples = ap (λ (b : Bool). onto (cond b (arrived_from d.boot n 0 samples) []) (arrived width boot)) parts.1

  readings-now : (samples : List Sample) (id : SourceId)
      → current_readings (placed_boots l (record { stream = d.stream; id = id }) (item (with samples) ∷ map item before))
      ≡ map (entered c) (filter (is_of id) (onto (arrived_from d.boot n 0 samples) (arrived width boot)))
  readings-now samples id =
      ap (λ (bs : List (List items.Datagram)). current_readings (map (placed_readings width id) bs)) (boots-now samples)
      ∙ ap (λ (ds : List Delivery). placed_readings width id (map datagram_shown ds)) (cur-is samples)
      ∙ entered-are width id (with samples ∷ boot) close
      ∙ ap (λ (xs : List Arrived). map (entered c) (filter (is_of id) xs)) (arrived-now samples)

  sources-now : (samples : List Sample)
      → sources_of l (map item (with samples ∷ before)) ≡ onto (map (source_in d.stream) samples) (sample_sources width before)
  sources-now samples =
      sources-are l (with samples ∷ before) (record { streams = each; room = ready.room })
      ∙ ap (λ (b : Bool). onto (sources_with b (with samples)) (sample_sources width before)) now
    where
      each : (stream : Stream) → AreSeen l.boot_slack (deliveries_of stream (with samples ∷ before))
      each stream = go (same_stream stream d.stream) (ready.streams stream)
        where
          go : (b : Bool) → AreSeen l.boot_slack (cond b (d ∷ deliveries_of stream before) (deliveries_of stream before))
              → AreSeen l.boot_slack (cond b (with samples ∷ deliveries_of stream before) (deliveries_of stream before))
          go true h = seen-with l.boot_slack d samples (deliveries_of stream before) h
          go false h = h

  number-now : position_or_len (same_stream d.stream) (listed_streams l (item d ∷ map item before)) + 1 ≡ number_shown before d
  number-now = ap (λ (ks : List Stream). position_or_len (same_stream d.stream) ks + 1)
      (all-listed same_stream stream-same l.streams (streams_of (map item (d ∷ before))) ready.room
      ∙ ap (first_arrivals same_stream) (streams-are (d ∷ before)))

  one-more : (pre : List Sample) (y : Sample) → and_sample (so_far pre) (sample_shown y) ≡ so_far (pre ++ y ∷ [])
  one-more pre y = ap (λ (xs : List items.Sample). record (datagram_shown d) { samples = xs }) (sym (map-append sample_shown pre (y ∷ [])))

  -- what holds of each boot holds of the current one
  pub of-current : (P : List Delivery → Type 0) → AllByRecursion P (true_stretches boot_of (d ∷ own_before)) → P (d ∷ boot)
  of-current P h = subst P (cur-is d.datagram.samples) (subst (AllByRecursion P) (cur d.datagram.samples).are h).0

  -- ---- one sample

  module _ (pre : List Sample) (y : Sample) (i : ℕ) (acc : List Arrived) (srcs : List Source)
      (acc-is : acc ≡ onto (arrived_from d.boot n 0 pre) (arrived width boot))
      (srcs-are : srcs ≡ onto (map (source_in d.stream) pre) (sample_sources width before)) where
    abbrev x : Arrived
    x = record { boot = d.boot; place = record { datagram = n; index = i }; sample = y }

    abbrev id : SourceId
    id = id_in y

    abbrev source : Source
    source = source_in d.stream y

    abbrev kept : Bool
    kept = is_in_time l.sample_width (filter (is_of id) acc) x

    answered : AreSound (filter (is_of id) (x ∷ acc))
        → is_first_booked (answer_to l (item (with pre) ∷ map item before) source (entered c x)) ≡ kept
    answered sound =
        ap (λ (rs : List PlacedReading). is_first_booked (booked place_in placed_mark l.sample_width rs (entered c x)))
        (readings-now pre id ∙ ap (λ (xs : List Arrived). map (entered c) (filter (is_of id) xs)) (sym acc-is))
        ∙ booked-in_time c l.sample_width x (filter (is_of id) acc)
        (subst (λ (b : Bool). AreSound (cond b (x ∷ filter (is_of id) acc) (filter (is_of id) acc))) (IsSame.self id-same id) sound)

    is-there : unlisted same_source l.sources (source ∷ srcs) ≡ 0
        → is_listed l (map item before) (and_sample (so_far pre) (sample_shown y)) source ≡ true
    is-there room =
        ap (λ (e : items.Datagram). is_listed l (map item before) e source) (one-more pre y)
        ∙ ap (λ (ks : List Source). among same_source (listed same_source l.sources ks) source)
        (sources-now (pre ++ y ∷ []) ∙ mapped-last (source_in d.stream) pre y (sample_sources width before)
        ∙ ap (λ (ks : List Source). source ∷ ks) (sym srcs-are))
        ∙ latest-listed same_source source-same l.sources source srcs room

    shown-as : (content : Content) → y.content ≡ content → sample_shown y ≡ content_shown id (reading_shown y) content
    shown-as content e = ap (content_shown id (reading_shown y)) e

    none-either : (b : Bool) → [] ≡ cond {A = List FirstHeader} b [] []
    none-either true = refl
    none-either false = refl

    by-content : (content : Content) → y.content ≡ content → AreSound (filter (is_of id) (x ∷ acc))
        → unlisted same_source l.sources (source ∷ srcs) ≡ 0 → IsOwned s y
        → headers_at l (map item before) (so_far pre) (place_less c x) (content_shown id (reading_shown y) content) (content_headers content)
        ≡ cond kept (map (header_from (number_shown before d) id (reading_shown y)) (content_headers content)) []
    by-content (Counted reading) e sound room owned = none-either kept
    by-content (Sampled p) e sound room owned =
        let flow : id.flow ≡ true = flow-of s set_up y p owned e in
        let there : is_listed l (map item before) (and_sample (so_far pre) (Of id (reading_shown y))) source ≡ true =
        ap (λ (k : items.Sample). is_listed l (map item before) (and_sample (so_far pre) k) source) (sym (shown-as (Sampled p) e)) ∙ is-there room in
        let first = answered sound in
        let number = number-now in
        λ j. cond (flow j && (there j && first j)) (map (header_from (number j) id (reading_shown y)) (content_headers (Sampled p))) []

    counted-one : AreSound (filter (is_of id) (x ∷ acc)) → unlisted same_source l.sources (source ∷ srcs) ≡ 0 → IsOwned s y
        → headers_at l (map item before) (so_far pre) (place_less c x) (sample_shown y) (sample_headers y)
        ≡ cond kept (headers_with (number_shown before d) y) []
    counted-one sound room owned = by-content y.content refl sound room owned

  -- ---- all samples, one after the other

  abbrev pub AreSoundEach : List Arrived → Type 0
  AreSoundEach xs = (id : SourceId) → IsKnown s id → AreSound (filter (is_of id) xs)

  walk : (pre post : List Sample) (i : ℕ) (acc : List Arrived) (srcs : List Source) → length pre ≡ i
      → acc ≡ onto (arrived_from d.boot n 0 pre) (arrived width boot)
      → srcs ≡ onto (map (source_in d.stream) pre) (sample_sources width before)
      → AreSoundEach (onto (arrived_from d.boot n i post) acc)
      → unlisted same_source l.sources (onto (map (source_in d.stream) post) srcs) ≡ 0
      → AllByRecursion (IsOwned s) post
      → headers_behind l (map item before) (so_far pre) (placed_from (n -ℤ c) i (map sample_shown post)) (map sample_headers post)
      ≡ headers_each l.sample_width (number_shown before d) acc (arrived_from d.boot n i post)
  walk pre [] i acc srcs count acc-is srcs-are sound room owned = refl
  walk pre (y ∷ post) i acc srcs count acc-is srcs-are sound room owned =
      let z : Arrived = record { boot = d.boot; place = record { datagram = n; index = i }; sample = y } in
      let here = counted-one pre y i acc srcs acc-is srcs-are
      (sound-behind (is_of (id_in y)) (arrived_from d.boot n (suc i) post) (z ∷ acc) (sound (id_in y) (known-of s y owned.0)))
      (room-behind l.sources (map (source_in d.stream) post) (source_in d.stream y ∷ srcs) room) owned.0 in
      let later = ap (λ (e : items.Datagram). headers_behind l (map item before) e (placed_from (n -ℤ c) (suc i) (map sample_shown post)) (map sample_headers post)) (one-more pre y)
      ∙ walk (pre ++ y ∷ []) post (suc i) (z ∷ acc) (source_in d.stream y ∷ srcs) (longer pre y i count)
      (ap (λ (r : List Arrived). z ∷ r) acc-is ∙ sym (arrived-last d.boot n 0 i pre y (arrived width boot) (omega (arith, count))))
      (ap (λ (r : List Source). source_in d.stream y ∷ r) srcs-are ∙ sym (mapped-last (source_in d.stream) pre y (sample_sources width before)))
      sound room owned.1 in
      λ j. here j ++ later j
    where
      longer : (pre : List Sample) (y : Sample) (i : ℕ) → length pre ≡ i → length (pre ++ y ∷ []) ≡ suc i
      longer pre y i e = omega (arith, e, length-append pre (y ∷ []))

  pub headers-taken : AreSoundEach (arrived width (d ∷ boot)) → unlisted same_source l.sources (sample_sources width (d ∷ before)) ≡ 0
      → AllByRecursion (IsOwned s) d.datagram.samples
      → headers_behind l (map item before) (so_far []) (placed_from (n -ℤ c) 0 (map sample_shown d.datagram.samples)) (map sample_headers d.datagram.samples)
      ≡ headers_each l.sample_width (number_shown before d) (arrived width boot) (arrived_from d.boot n 0 d.datagram.samples)
  headers-taken sound room owned =
      walk [] d.datagram.samples 0 (arrived width boot) (sample_sources width before) refl refl refl
      (λ id known. subst (λ (xs : List Arrived). AreSound (filter (is_of id) xs)) (arrived-now d.datagram.samples) (sound id known))
      (subst (λ (b : Bool). unlisted same_source l.sources (onto (sources_with b d) (sample_sources width before)) ≡ 0) now room) owned
