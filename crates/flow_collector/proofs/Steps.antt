-- A collector goes on from the items for which it stands to one more.
use Rattle.std.proofs.Common.{◌≡◌, ℕ, suc, ◌+◌, Bool, true, false, cond, not, ◌||◌, Option, Some, None, List, [], ◌∷◌, ◌++◌, length, ltb, refl, sym, ap, subst, ◌∙◌, arith}
use Rattle.std.specs.List.{count_by, filter_map}
use Rattle.std.proofs.lemmas.Bool.{ltb-true, ltb-false}
use Rattle.std.proofs.lemmas.List.Folds.{list_any-append}
use Rattle.count_spec.specs.Windows.{answer, counted}
use Rattle.count_spec.specs.declared.entered.Entered.{Entered as Answer}
use Rattle.count_spec.specs.declared.entered.Entered.TheVariants as answers
use Rattle.count_spec.specs.Boots.{boot_place, boots, stale_items}
use Rattle.count_spec.specs.Stretches.{placed, with_stale}
use Rattle.count_spec.specs.declared.stretch_place.StretchPlace.{StretchPlace}
use Rattle.count_spec.specs.declared.stretch_place.StretchPlace.TheVariants.{Current, Next, Stale}
use Rattle.count_spec.proofs.Counts.{count_by-cons}
use Rattle.wire_spec.specs.declared.fault.Fault.{Fault}
use Rattle.books_spec.specs.Items.{Sample, Datagram, stamp_of, Item, Got, Malformed, Stream, stream_of}
use Rattle.books_spec.specs.declared.limits.Limits.{Limits}
use Rattle.books_spec.specs.Listing.{same_stream, same_source, among, listed, unlisted}
use Rattle.books_spec.specs.Books.{current_marks, is_malformed, fault_after, first_fault, streams_of, listed_streams, own, stream_boots, taken_of, taken_at, taken_in, taken_now, Entered, source_of, is_other, totals}
use Rattle.books_spec.specs.declared.taken.Taken.TheVariants.{Unlisted}
use Rattle.books_spec.specs.declared.totals.Totals.{Totals}
use Rattle.books_spec.specs.declared.totals.FirstFault.{FirstFault}
use Rattle.books_spec.proofs.Listings.{IsSame, listed-keeps, listed-new, listed-full, unlisted-known, unlisted-room, unlisted-full, unlisted-new}
use Rattle.books_spec.proofs.Keys.{stream-same}
use Rattle.stream_books.specs.Streams.{StreamState, ShowsStream, StandsFor as KeepsStream}
use Rattle.collector_tables.specs.declared.keys.StreamKey.{StreamKey}
use Rattle.collector_tables.specs.Keys.{stream_in}
use Rattle.collector_tables.specs.Listed.{StreamStands, StreamsStand}
use Rattle.collector_tables.proofs.Tables.{each-map}
use Rattle.flow_collector.specs.Steps.{is_first, is_unlisted, with_samples}
use Rattle.flow_collector.proofs.Entering.{place-same}
use Rattle.flow_collector.proofs.Boots.{entered-none, sources-none, entered-not_first}

-- ---- streams

-- what is kept of a stream is the same whatever the samples of its datagrams are
shows-same : (slack : ℕ) (s : StreamState) (d : Datagram) (xs : List Sample) (ds : List Datagram)
    → KeepsStream slack s (d ∷ ds) → KeepsStream slack s (with_samples d xs ∷ ds)
shows-same slack s d xs ds st =
    let w : ℕ = s.ledger.marks.width in
    let bs : List (List Datagram) = boots stamp_of slack w ds in
    let stale : List Datagram = stale_items stamp_of slack w ds in
    let P : StretchPlace → Type 0 = λ p. ShowsStream s (placed p (with_samples d xs) bs) (with_stale p (with_samples d xs) stale) in
    subst P (sym (place-same slack w bs d xs)) (go (boot_place stamp_of slack w bs d) bs stale st)
  where
    go : (p : StretchPlace) (bs : List (List Datagram)) (stale : List Datagram)
        → ShowsStream s (placed p d bs) (with_stale p d stale)
        → ShowsStream s (placed p (with_samples d xs) bs) (with_stale p (with_samples d xs) stale)
    go Current [] stale was = record {
      ledger_stands = was.ledger_stands;
      boots_are = was.boots_are;
      newest_is = was.newest_is;
      stale_are = was.stale_are;
    }
    go Current (current ∷ closed) stale was = record {
      ledger_stands = was.ledger_stands;
      boots_are = was.boots_are;
      newest_is = was.newest_is;
      stale_are = was.stale_are;
    }
    go Next bs stale was = record {
      ledger_stands = was.ledger_stands;
      boots_are = was.boots_are;
      newest_is = was.newest_is;
      stale_are = was.stale_are;
    }
    go Stale bs stale was = record {
      ledger_stands = was.ledger_stands;
      boots_are = was.boots_are;
      newest_is = was.newest_is;
      stale_are = was.stale_are;
    }

pub streams-same : (l : Limits) (entries : List (StreamKey × StreamState)) (items : List Item) (d : Datagram)
    (xs : List Sample) → StreamsStand l entries (Got d ∷ items)
    → StreamsStand l entries (Got (with_samples d xs) ∷ items)
streams-same l entries items d xs st = record {
  keys_are = st.keys_are;
  each = each-map stream_in same_stream (StreamStands l (Got d ∷ items))
      (StreamStands l (Got (with_samples d xs) ∷ items)) entries one st.each;
}
  where
    one : (t : Stream) (s : StreamState) → StreamStands l (Got d ∷ items) t s
        → StreamStands l (Got (with_samples d xs) ∷ items) t s
    one t s was = record {
      width = was.width;
      stands = go (same_stream t (stream_of d)) was.stands;
    }
      where
        go : (b : Bool) → KeepsStream l.boot_slack s (cond b (d ∷ own t items) (own t items))
            → KeepsStream l.boot_slack s (cond b (with_samples d xs ∷ own t items) (own t items))
        go true old = shows-same l.boot_slack s d xs (own t items) old
        go false old = old

pub streams-malformed : (l : Limits) (entries : List (StreamKey × StreamState)) (items : List Item) (f : Fault)
    → StreamsStand l entries items → StreamsStand l entries (Malformed f ∷ items)
streams-malformed l entries items f st = record {
  keys_are = st.keys_are;
  each = each-map stream_in same_stream (StreamStands l items) (StreamStands l (Malformed f ∷ items)) entries
      (λ t s was. record { width = was.width; stands = was.stands }) st.each;
}

-- ---- which are unlisted

module _ {K : Type 0} (same : K → K → Bool) (laws : IsSame same) where
  or-true : (a : Bool) → (a || true) ≡ true
  or-true true = refl
  or-true false = refl

  last-among : (keys : List K) (key : K) → among same (keys ++ key ∷ []) key ≡ true
  last-among keys key =
      list_any-append (same key) keys (key ∷ [])
      ∙ ap (λ b. among same keys key || (b || false)) (laws.self key) ∙ or-true (among same keys key)

  -- one more arrival adds 1 where its key isn't listed
  pub unlisted-step : (limit : ℕ) (arrived : List K) (key : K)
      → unlisted same limit (key ∷ arrived)
      ≡ unlisted same limit arrived + cond (among same (listed same limit (key ∷ arrived)) key) 0 1
  unlisted-step limit arrived key =
      go (among same (listed same limit arrived) key) (ltb (length (listed same limit arrived)) limit) refl refl
    where
      plus-none : (n : ℕ) → n ≡ n + 0
      plus-none n = omega arith

      answered : {b c : Bool} → b ≡ c → unlisted same limit arrived + cond b 0 1 ≡ unlisted same limit arrived + cond c 0 1
      answered e = ap (λ b. unlisted same limit arrived + cond b 0 1) e

      go : (b c : Bool) → among same (listed same limit arrived) key ≡ b → ltb (length (listed same limit arrived)) limit ≡ c
          → unlisted same limit (key ∷ arrived)
          ≡ unlisted same limit arrived + cond (among same (listed same limit (key ∷ arrived)) key) 0 1
      go true c there room =
          let still = listed-keeps same limit arrived key key there in
          let known = unlisted-known same laws limit arrived key there in
          known ∙ plus-none (unlisted same limit arrived) ∙ answered (sym still)
      go false true none room =
          let less = ltb-true (length (listed same limit arrived)) limit room in
          let now : among same (listed same limit (key ∷ arrived)) key ≡ true =
          ap (λ keys. among same keys key) (listed-new same limit arrived key none less)
          ∙ last-among (listed same limit arrived) key in
          let new = unlisted-new same laws limit arrived key none less in
          let old = unlisted-room same laws limit arrived less in
          new ∙ sym old ∙ plus-none (unlisted same limit arrived) ∙ answered (sym now)
      go false false none room =
          let full = ltb-false (length (listed same limit arrived)) limit room in
          let now : among same (listed same limit (key ∷ arrived)) key ≡ false =
          ap (λ keys. among same keys key) (listed-full same limit arrived key full) ∙ none in
          let more = unlisted-full same laws limit arrived key none full in
          more ∙ answered (sym now)

answer-listed : (a : Answer) → is_unlisted (taken_of a) ≡ false
answer-listed (answers.First place n) = refl
answer-listed answers.Repeat = refl
answer-listed answers.Late = refl

pub place-listed : (w : ℕ) (p : StretchPlace) (bs : List (List Datagram)) (sequence : ℕ) → is_unlisted (taken_at w p bs sequence) ≡ false
place-listed w Current bs sequence = answer-listed (answer w (counted w (current_marks bs)) sequence)
place-listed w Next bs sequence = refl
place-listed w Stale bs sequence = refl

-- Unlisted is answered exactly where the stream isn't listed
unlisted-answer : (l : Limits) (items : List Item) (d : Datagram)
    → ◌≡◌ {A = ℕ} (cond (among same_stream (listed_streams l (Got d ∷ items)) (stream_of d)) 0 1)
    (cond (is_unlisted (taken_now l items (Got d))) 1 0)
unlisted-answer l items d = go (among same_stream (listed_streams l (Got d ∷ items)) (stream_of d))
  where
    go : (b : Bool) → ◌≡◌ {A = ℕ} (cond b 0 1)
        (cond (is_unlisted (cond b (taken_in l (stream_boots l (stream_of d) items) d) Unlisted)) 1 0)
    go true = ap (λ b. cond b 1 0) (sym (place-listed l.datagram_width
        (boot_place stamp_of l.boot_slack l.datagram_width (stream_boots l (stream_of d) items) d)
        (stream_boots l (stream_of d) items) d.head.sequence))
    go false = refl

-- ---- the counts

one-more : (n : ℕ) → n + 1 ≡ suc n
one-more n = omega arith

no-fault : (o : Option FirstFault) (n : ℕ) (d : Datagram) → o ≡ fault_after o n (Got d)
no-fault None n d = refl
no-fault (Some x) n d = refl

-- the counts after a fault
abbrev pub with_fault : Totals → Fault → Totals
with_fault t f = record t {
  entries = t.entries + 1;
  malformed = t.malformed + 1;
  first_fault = fault_after t.first_fault t.entries (Malformed f);
}

pub totals-malformed : (l : Limits) (items : List Item) (f : Fault)
    → with_fault (totals l items) f ≡ totals l (Malformed f ∷ items)
totals-malformed l items f =
    let entries = one-more (length items) in
    let count = count_by-cons is_malformed (Malformed f) items in
    let malformed : count_by is_malformed items + 1 ≡ count_by is_malformed (Malformed f ∷ items) = omega (arith, count) in
    let T : ℕ → ℕ → Totals = λ n m. record (totals l (Malformed f ∷ items)) { entries = n; malformed = m } in
    λ j. T (entries j) (malformed j)

-- the counts after a datagram none of whose samples is entered, and so many of streams that aren't listed
abbrev pub with_datagram : Totals → ℕ → Totals
with_datagram t unlisted_now = record t { entries = t.entries + 1; unlisted = unlisted_now }

pub totals-head : (l : Limits) (items : List Item) (d : Datagram)
    → with_datagram (totals l items) ((totals l items).unlisted + cond (is_unlisted (taken_now l items (Got d))) 1 0)
    ≡ totals l (Got (with_samples d []) ∷ items)
totals-head l items d =
    let entries = one-more (length items) in
    let count = count_by-cons is_malformed (Got (with_samples d [])) items in
    let malformed : count_by is_malformed items ≡ count_by is_malformed (Got (with_samples d []) ∷ items) =
    omega (arith, count) in
    let step = unlisted-step same_stream stream-same l.streams (streams_of items) (stream_of d) in
    let unlisted_now = ap (λ n. unlisted same_stream l.streams (streams_of items) + n) (sym (unlisted-answer l items d))
    ∙ sym step in
    let none = entered-none l items d in
    let sources = sources-none l items d in
    let fault = no-fault (first_fault items) (length items) (with_samples d []) in
    λ j. record {
      entries = entries j;
      malformed = malformed j;
      unlisted = unlisted_now j;
      unlisted_samples = unlisted same_source l.sources (sym sources j);
      other = count_by (λ (e : Entered). is_other e.sample) (sym none j);
      first_fault = fault j;
    }

-- the counts do not change where no sample is entered
pub totals-not_first : (l : Limits) (items : List Item) (d : Datagram) → is_first (taken_now l items (Got d)) ≡ false
    → totals l (Got (with_samples d []) ∷ items) ≡ totals l (Got d ∷ items)
totals-not_first l items d not =
    let same = entered-not_first l items d not in
    let count : count_by is_malformed (Got (with_samples d []) ∷ items) ≡ count_by is_malformed (Got d ∷ items) =
    count_by-cons is_malformed (Got (with_samples d [])) items ∙ sym (count_by-cons is_malformed (Got d) items) in
    let fault : fault_after (first_fault items) (length items) (Got (with_samples d []))
    ≡ fault_after (first_fault items) (length items) (Got d) =
    sym (no-fault (first_fault items) (length items) (with_samples d []))
    ∙ no-fault (first_fault items) (length items) d in
    λ j. record (totals l (Got d ∷ items)) {
      malformed = count j;
      unlisted_samples = unlisted same_source l.sources (filter_map source_of (same j));
      other = count_by (λ (e : Entered). is_other e.sample) (same j);
      first_fault = fault j;
    }
