-- What is always so of a collector.
use Rattle.std.proofs.Common.{◌≡◌, ℕ, ◌+◌, ◌*◌, ◌≤◌, Bool, true, false, cond, if◌then◌else◌, Option, Some, None, List, [], ◌∷◌, length, nat_le, not, refl, sym, ap, subst, true≢false, arith}
use Rattle.std.specs.Option.{is_some}
use Rattle.std.specs.List.{count_by}
use Rattle.std.proofs.lemmas.Bool.{leb-true}
use Rattle.std.proofs.lemmas.List.Sums.{count_by-le-length}
use Rattle.count_spec.specs.Boots.{boot_place, boots}
use Rattle.count_spec.specs.Stretches.{placed}
use Rattle.count_spec.specs.declared.stretch_place.StretchPlace.{StretchPlace}
use Rattle.count_spec.specs.declared.stretch_place.StretchPlace.TheVariants.{Current, Next, Stale}
use Rattle.books_spec.specs.Items.{SourceId, Datagram, stamp_of, Item, Got, Malformed, stream_of, Source}
use Rattle.books_spec.specs.SourceViews.{PlacedReading}
use Rattle.books_spec.specs.Listing.{same_stream, same_source, among, listed, unlisted}
use Rattle.books_spec.specs.Books.{is_malformed, streams_of, taken_at, taken_now, entered, Entered, is_other, own, stream_boots, sources_of}
use Rattle.books_spec.specs.PlacedSamples.{placed_boots}
use Rattle.books_spec.specs.declared.taken.Taken.TheVariants.{First}
use Rattle.books_spec.proofs.Keys.{stream-same, and-split}
use Rattle.books_spec.specs.declared.limits.Limits.{Limits}
use Rattle.books_spec.specs.Limits.{is_within, refused_limit}
use Rattle.flow_collector.specs.Collectors.{BooksState, StandsFor, AreFew, AreWithin}
use Rattle.flow_collector.proofs.Entering.{first-in, stale-first}
use Rattle.flow_collector.proofs.Boots.{source-boots-length}
use Rattle.flow_collector.proofs.Counts.{entered-few, sources-few}

-- ---- limits

some-none : {A : Type 0} (n : ℕ) → ◌≡◌ {A = Option ℕ} (Some n) None → A
some-none n e = absurd (true≢false (ap is_some e))

passed : (b : Bool) (rest : Option ℕ) (n : ℕ) → (if b then rest else Some n) ≡ None → (b ≡ true) × (rest ≡ None)
passed true rest n e = (refl, e)
passed false rest n e = some-none n e

range : (n least most : ℕ) → is_within n least most ≡ true → (least ≤ n) × (n ≤ most)
range n least most e =
    let parts = and-split (nat_le least n) (nat_le n most) e in
    (leb-true least n parts.0, leb-true n most parts.1)

pub within-ranges : (l : Limits) → refused_limit l ≡ None → AreWithin l
within-ranges l e =
    let one = passed (is_within l.streams 1 4096) _ 1 e in
    let two = passed (is_within l.sources 1 65536) _ 2 one.1 in
    let three = passed (is_within l.datagram_width 1 8192) _ 3 two.1 in
    let four = passed (is_within l.sample_width 1 8192) _ 4 three.1 in
    let datagrams = range l.datagram_width 1 8192 three.0 in
    let samples = range l.sample_width 1 8192 four.0 in
    record {
      streams = (range l.streams 1 4096 one.0).1;
      datagrams_from = datagrams.0;
      datagrams_to = datagrams.1;
      samples_from = samples.0;
      samples_to = samples.1;
    }

-- ---- no count overflows

pub entries-are : (s : BooksState) (l : Limits) (items : List Item) → StandsFor s l items
    → s.totals.entries ≡ length items
entries-are s l items st = ap (λ t. t.entries) st.totals_are

pub malformed-few : (s : BooksState) (l : Limits) (items : List Item) → StandsFor s l items
    → s.totals.malformed ≤ length items
malformed-few s l items st =
    let is : s.totals.malformed ≡ count_by is_malformed items = ap (λ t. t.malformed) st.totals_are in
    let few = count_by-le-length is_malformed items in
    omega (arith, is, few)

streams-few : (items : List Item) → length (streams_of items) ≤ length items
streams-few [] = omega arith
streams-few (Got d ∷ before) = let later = streams-few before in omega (arith, later)
streams-few (Malformed f ∷ before) = let later = streams-few before in omega (arith, later)

pub unlisted-few : (s : BooksState) (l : Limits) (items : List Item) → StandsFor s l items
    → s.totals.unlisted ≤ length items
unlisted-few s l items st =
    let is : s.totals.unlisted ≡ unlisted same_stream l.streams (streams_of items) = ap (λ t. t.unlisted) st.totals_are in
    let few = count_by-le-length (λ key. not (among same_stream (listed same_stream l.streams (streams_of items)) key))
    (streams_of items) in
    let all = streams-few items in
    omega (arith, is, few, all)

pub unlisted_samples-few : (s : BooksState) (l : Limits) (items : List Item) → StandsFor s l items
    → AreFew items → s.totals.unlisted_samples ≤ 8191 * length items
unlisted_samples-few s l items st few_samples =
    let is : s.totals.unlisted_samples ≡ unlisted same_source l.sources (sources_of l items) =
    ap (λ t. t.unlisted_samples) st.totals_are in
    let few = count_by-le-length (λ key. not (among same_source (listed same_source l.sources (sources_of l items)) key))
    (sources_of l items) in
    let all = sources-few l items few_samples in
    omega (arith, is, few, all)

pub other-few : (s : BooksState) (l : Limits) (items : List Item) → StandsFor s l items
    → AreFew items → s.totals.other ≤ 8191 * length items
other-few s l items st few_samples =
    let is : s.totals.other ≡ count_by (λ (e : Entered). is_other e.sample) (entered l items) =
    ap (λ t. t.other) st.totals_are in
    let few = count_by-le-length (λ (e : Entered). is_other e.sample) (entered l items) in
    let all = entered-few l items few_samples in
    omega (arith, is, few, all)

-- ---- the boot of a datagram whose samples are entered

-- readings stand in a current boot, and there are so many closed ones
pub record HasBoot (boots : List (List PlacedReading)) (number : ℕ) : Type 0 where
  pub current : List PlacedReading
  pub closed : List (List PlacedReading)
  pub boots_are : boots ≡ current ∷ closed
  pub number_is : length closed + 1 ≡ number

some-boot : (bs : List (List PlacedReading)) → 1 ≤ length bs → HasBoot bs (length bs)
some-boot [] none = absurd (omega (arith, none))
some-boot (current ∷ closed) some =
    record { current = current; closed = closed; boots_are = refl; number_is = omega arith }

placed-some : (w : ℕ) (p : StretchPlace) (d : Datagram) (bs : List (List Datagram)) → taken_at w p bs d.head.sequence ≡ First
    → 1 ≤ length (placed p d bs)
placed-some w Current d [] first = omega arith
placed-some w Current d (current ∷ closed) first = omega arith
placed-some w Next d bs first = omega arith
placed-some w Stale d bs first = stale-first (1 ≤ length bs) first

pub boots-some : (l : Limits) (items : List Item) (d : Datagram) → taken_now l items (Got d) ≡ First
    → 1 ≤ length (stream_boots l (stream_of d) (Got d ∷ items))
boots-some l items d first = go (same_stream (stream_of d) (stream_of d)) (stream-same.self (stream_of d))
  where
    go : (b : Bool) → b ≡ true
        → 1 ≤ length (boots stamp_of l.boot_slack l.datagram_width (cond b (d ∷ own (stream_of d) items) (own (stream_of d) items)))
    go false e = absurd (true≢false (sym e))
    go true e =
        let bs : List (List Datagram) = stream_boots l (stream_of d) items in
        placed-some l.datagram_width (boot_place stamp_of l.boot_slack l.datagram_width bs d) d bs (first-in l items d first)

pub has-boot : (l : Limits) (items : List Item) (d : Datagram) (id : SourceId) → taken_now l items (Got d) ≡ First
    → HasBoot (placed_boots l (record { stream = stream_of d; id = id }) (Got d ∷ items))
    (length (stream_boots l (stream_of d) (Got d ∷ items)))
has-boot l items d id first =
    let source : Source = record { stream = stream_of d; id = id } in
    let same = source-boots-length l source (Got d ∷ items) in
    let some = boots-some l items d first in
    let P : ℕ → Type 0 = λ n. HasBoot (placed_boots l source (Got d ∷ items)) n in
    subst P same (some-boot (placed_boots l source (Got d ∷ items)) (omega (arith, same, some)))
