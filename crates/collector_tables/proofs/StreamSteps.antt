-- One more datagram: what stands for the datagrams of the other streams goes on.
use Rattle.std.proofs.Common.{◌≡◌, ℕ, ◌<◌, ◌≤◌, Bool, true, false, cond, ◌||◌, Some, List, [], ◌∷◌, ◌++◌, length, refl, sym, ap, subst, ◌∙◌, true≢false}
use Rattle.std.specs.Prelude.{slice_get}
use Rattle.indexmap.specs.IndexMap.{set_value_at}
use Rattle.count_spec.specs.Boots.{boot_place, boots}
use Rattle.books_spec.specs.Items.{Datagram, stamp_of, Item, Got, Stream, stream_of}
use Rattle.books_spec.specs.declared.limits.Limits.{Limits}
use Rattle.books_spec.specs.Listing.{same_stream, among, AreDistinct, first_arrivals}
use Rattle.books_spec.specs.Books.{streams_of, listed_streams, own, stream_boots, taken_in, taken_now}
use Rattle.books_spec.specs.declared.taken.Taken.TheVariants.{Unlisted}
use Rattle.books_spec.proofs.Listings.{symmetric, listed-known, listed-new, listed-full, listed-all, listed-distinct, first_arrivals-all}
use Rattle.books_spec.proofs.Entered.{own-none}
use Rattle.books_spec.proofs.Keys.{stream-same}
use Rattle.stream_books.specs.Receipts.{receipt_in}
use Rattle.stream_books.specs.Streams.{StreamState, StandsFor, IsAt}
use Rattle.stream_books.proofs.Receipts.{receipt-taken}
use Rattle.stream_books.specs.declared.taken.Receipt.{Receipt}
use Rattle.collector_tables.specs.declared.keys.StreamKey.{StreamKey}
use Rattle.collector_tables.specs.Keys.{stream_in}
use Rattle.collector_tables.specs.Tables.{keys_in}
use Rattle.collector_tables.specs.Takes.{Takes}
use Rattle.collector_tables.specs.Listed.{StreamStands, StreamsStand}
use Rattle.collector_tables.proofs.Tables.{among-at, each-at, each-set, each-others, each-push, keys-length, keys-set, keys-push}

own-other : (d : Datagram) (items : List Item) (t : Stream) → same_stream t (stream_of d) ≡ false
    → own t items ≡ own t (Got d ∷ items)
own-other d items t other = ap (λ b. cond b (d ∷ own t items) (own t items)) (sym other)

own-this : (d : Datagram) (items : List Item) (t : Stream) → t ≡ stream_of d
    → d ∷ own t items ≡ own t (Got d ∷ items)
own-this d items t this =
    let found : same_stream t (stream_of d) ≡ true = ap (same_stream t) (sym this) ∙ stream-same.self t in
    ap (λ b. cond b (d ∷ own t items) (own t items)) (sym found)

module _ (l : Limits) (entries : List (StreamKey × StreamState)) (items : List Item) (d : Datagram) where
  -- a stream goes on for one that isn't its own
  goes-on : (t : Stream) (s : StreamState) → same_stream t (stream_of d) ≡ false
      → StreamStands l items t s → StreamStands l (Got d ∷ items) t s
  goes-on t s other st = record {
    width = st.width;
    stands = let P : List Datagram → Type 0 = λ ds. StandsFor l.boot_slack s ds in
        subst P (own-other d items t other) st.stands;
  }

  listed-at : (place : ℕ) (k : StreamKey) (was : StreamState) → slice_get entries place ≡ Some (k, was)
      → stream_in k ≡ stream_of d → StreamsStand l entries items
      → among same_stream (listed_streams l items) (stream_of d) ≡ true
  listed-at place k was at this st =
      let P : List Stream → Type 0 = λ keys. among same_stream keys (stream_of d) ≡ true in
      subst P st.keys_are
      (ap (among same_stream (keys_in stream_in entries)) (sym this) ∙ among-at stream_in same_stream stream-same entries place k was at)

  -- a datagram of the stream at a place
  pub known-stands : (place : ℕ) (k : StreamKey) (was now : StreamState) (arrival uptime sequence : ℕ) (given : Receipt)
      → slice_get entries place ≡ Some (k, was) → stream_in k ≡ stream_of d → IsAt d arrival uptime sequence
      → Takes l.boot_slack arrival uptime sequence was now given → StreamsStand l entries items
      → StreamsStand l (set_value_at entries place now) (Got d ∷ items)
  known-stands place k was now arrival uptime sequence given at this is takes st =
      let there = listed-at place k was at this st in
      let own_stands = each-at stream_in (StreamStands l items) entries place k was at st.each in
      let D : List Stream → Type 0 = λ keys. AreDistinct same_stream keys in
      let distinct = subst D (sym st.keys_are) (listed-distinct same_stream stream-same l.streams (streams_of items)) in
      record {
        keys_are = keys-set stream_in same_stream entries place now ∙ st.keys_are
            ∙ sym (listed-known same_stream l.streams (streams_of items) (stream_of d) there);
        each = each-set stream_in same_stream stream-same (StreamStands l items) (StreamStands l (Got d ∷ items))
            entries place k was now at distinct
            (λ t s other. goes-on t s
            (symmetric same_stream stream-same (stream_of d) t (ap (λ x. same_stream x t) (sym this) ∙ other)))
            (record {
              width = takes.width ∙ own_stands.width;
              stands = let P : List Datagram → Type 0 = λ ds. StandsFor l.boot_slack now ds in
                  subst P (own-this d items (stream_in k) this)
                  (takes.stands d (own (stream_in k) items) is own_stands.stands);
            })
            st.each;
      }

  pub known-answer : (place : ℕ) (k : StreamKey) (was now : StreamState) (arrival uptime sequence : ℕ) (given : Receipt)
      → slice_get entries place ≡ Some (k, was) → stream_in k ≡ stream_of d → IsAt d arrival uptime sequence
      → Takes l.boot_slack arrival uptime sequence was now given → StreamsStand l entries items
      → (given.taken ≡ taken_now l items (Got d)) × (given.number
      ≡ (receipt_in l.boot_slack l.datagram_width (stream_boots l (stream_of d) items) d).number)
  known-answer place k was now arrival uptime sequence given at this is takes st =
      let there = listed-at place k was at this st in
      let still : among same_stream (listed_streams l (Got d ∷ items)) (stream_of d) ≡ true =
      ap (λ keys. among same_stream keys (stream_of d))
      (listed-known same_stream l.streams (streams_of items) (stream_of d) there) ∙ there in
      let own_stands = each-at stream_in (StreamStands l items) entries place k was at st.each in
      let is_given : given ≡ receipt_in l.boot_slack l.datagram_width (stream_boots l (stream_of d) items) d =
      takes.answered d (own (stream_in k) items) is own_stands.stands
      ∙ (λ j. receipt_in l.boot_slack (own_stands.width j)
      (boots stamp_of l.boot_slack (own_stands.width j) (own (this j) items)) d) in (
        ap (λ (r : Receipt). r.taken) is_given
            ∙ receipt-taken l.datagram_width (boot_place stamp_of l.boot_slack l.datagram_width (stream_boots l (stream_of d) items) d)
            (stream_boots l (stream_of d) items) d.head.sequence
            ∙ ap (λ b. cond b (taken_in l (stream_boots l (stream_of d) items) d) Unlisted) (sym still),
        ap (λ (r : Receipt). r.number) is_given,
      )

  unlisted-in : (k : StreamKey) → among same_stream (keys_in stream_in entries) (stream_in k) ≡ false
      → stream_in k ≡ stream_of d → StreamsStand l entries items
      → among same_stream (listed_streams l items) (stream_of d) ≡ false
  unlisted-in k none this st =
      let P : List Stream → Type 0 = λ keys. among same_stream keys (stream_of d) ≡ false in
      subst P st.keys_are (ap (among same_stream (keys_in stream_in entries)) (sym this) ∙ none)

  length-of : StreamsStand l entries items → length entries ≡ length (listed_streams l items)
  length-of st = sym (keys-length stream_in same_stream entries) ∙ ap length st.keys_are

  nothing-came : (k : StreamKey) → among same_stream (keys_in stream_in entries) (stream_in k) ≡ false
      → stream_in k ≡ stream_of d → length entries < l.streams → StreamsStand l entries items
      → own (stream_in k) items ≡ []
  nothing-came k none this room st =
      let room_there : length (listed_streams l items) < l.streams =
      let P : ℕ → Type 0 = λ n. n < l.streams in subst P (length-of st) room in
      let all = listed-all same_stream l.streams (streams_of items) room_there in
      let P : List Stream → Type 0 = λ keys. among same_stream keys (stream_in k) ≡ false in
      let new : among same_stream (first_arrivals same_stream (streams_of items)) (stream_in k) ≡ false =
      subst P (st.keys_are ∙ all) none in
      own-none (stream_in k) items (absent (among same_stream (streams_of items) (stream_in k)) refl new)
    where
      absent : (b : Bool) → among same_stream (streams_of items) (stream_in k) ≡ b
          → among same_stream (first_arrivals same_stream (streams_of items)) (stream_in k) ≡ false
          → among same_stream (streams_of items) (stream_in k) ≡ false
      absent true h new = absurd (true≢false (
          sym (first_arrivals-all same_stream stream-same (streams_of items) (stream_in k) h) ∙ new))
      absent false h new = h

  -- a datagram of a stream that is listed now
  pub new-stands : (k : StreamKey) (was now : StreamState) (arrival uptime sequence : ℕ) (given : Receipt)
      → among same_stream (keys_in stream_in entries) (stream_in k) ≡ false → length entries < l.streams
      → stream_in k ≡ stream_of d → IsAt d arrival uptime sequence
      → was.ledger.marks.width ≡ l.datagram_width → StandsFor l.boot_slack was []
      → Takes l.boot_slack arrival uptime sequence was now given → StreamsStand l entries items
      → StreamsStand l (entries ++ (k, now) ∷ []) (Got d ∷ items)
  new-stands k was now arrival uptime sequence given none room this is width opened takes st =
      let absent = unlisted-in k none this st in
      let empty = nothing-came k none this room st in
      let room_there : length (listed_streams l items) < l.streams =
      let P : ℕ → Type 0 = λ n. n < l.streams in subst P (length-of st) room in
      let P : List Datagram → Type 0 = λ ds. StandsFor l.boot_slack now ds in
      record {
        keys_are = keys-push stream_in same_stream entries k now
            ∙ (λ j. st.keys_are j ++ this j ∷ [])
            ∙ sym (listed-new same_stream l.streams (streams_of items) (stream_of d) absent room_there);
        each = each-push stream_in same_stream (StreamStands l (Got d ∷ items)) entries k now
            (each-others stream_in same_stream (StreamStands l items) (StreamStands l (Got d ∷ items)) entries
            (stream_in k) none
            (λ t s other. goes-on t s
            (symmetric same_stream stream-same (stream_of d) t (ap (λ x. same_stream x t) (sym this) ∙ other)))
            st.each)
            (record {
              width = takes.width ∙ width;
              stands = subst P (ap (λ ds. d ∷ ds) (sym empty) ∙ own-this d items (stream_in k) this)
                  (takes.stands d [] is opened);
            });
      }

  pub new-answer : (k : StreamKey) (was now : StreamState) (arrival uptime sequence : ℕ) (given : Receipt)
      → among same_stream (keys_in stream_in entries) (stream_in k) ≡ false → length entries < l.streams
      → stream_in k ≡ stream_of d → IsAt d arrival uptime sequence
      → was.ledger.marks.width ≡ l.datagram_width → StandsFor l.boot_slack was []
      → Takes l.boot_slack arrival uptime sequence was now given → StreamsStand l entries items
      → (given.taken ≡ taken_now l items (Got d)) × (given.number
      ≡ (receipt_in l.boot_slack l.datagram_width (stream_boots l (stream_of d) items) d).number)
  new-answer k was now arrival uptime sequence given none room this is width opened takes st =
      let absent = unlisted-in k none this st in
      let empty : own (stream_of d) items ≡ [] =
      ap (λ s. own s items) (sym this) ∙ nothing-came k none this room st in
      let room_there : length (listed_streams l items) < l.streams =
      let P : ℕ → Type 0 = λ n. n < l.streams in subst P (length-of st) room in
      let listed_now : among same_stream (listed_streams l (Got d ∷ items)) (stream_of d) ≡ true =
      ap (λ keys. among same_stream keys (stream_of d))
      (listed-new same_stream l.streams (streams_of items) (stream_of d) absent room_there)
      ∙ last (listed_streams l items) in
      let is_given : given ≡ receipt_in l.boot_slack l.datagram_width (stream_boots l (stream_of d) items) d =
      takes.answered d [] is opened
      ∙ (λ j. receipt_in l.boot_slack (width j) (boots stamp_of l.boot_slack (width j) (sym empty j)) d) in (
        ap (λ (r : Receipt). r.taken) is_given
            ∙ receipt-taken l.datagram_width (boot_place stamp_of l.boot_slack l.datagram_width (stream_boots l (stream_of d) items) d)
            (stream_boots l (stream_of d) items) d.head.sequence
            ∙ ap (λ b. cond b (taken_in l (stream_boots l (stream_of d) items) d) Unlisted) (sym listed_now),
        ap (λ (r : Receipt). r.number) is_given,
      )
    where
      or-true : (b : Bool) → (b || true) ≡ true
      or-true true = refl
      or-true false = refl

      last : (keys : List Stream) → among same_stream (keys ++ stream_of d ∷ []) (stream_of d) ≡ true
      last [] = ap (λ b. b || false) (stream-same.self (stream_of d))
      last (x ∷ more) = ap (λ b. same_stream (stream_of d) x || b) (last more) ∙ or-true (same_stream (stream_of d) x)

  -- a datagram of a stream for which there is no room
  pub full-stands : (k : StreamKey) → among same_stream (keys_in stream_in entries) (stream_in k) ≡ false
      → l.streams ≤ length entries → stream_in k ≡ stream_of d → StreamsStand l entries items
      → StreamsStand l entries (Got d ∷ items)
  full-stands k none full this st =
      let full_there : l.streams ≤ length (listed_streams l items) =
      let P : ℕ → Type 0 = λ n. l.streams ≤ n in subst P (length-of st) full in
      record {
        keys_are = st.keys_are ∙ sym (listed-full same_stream l.streams (streams_of items) (stream_of d) full_there);
        each = each-others stream_in same_stream (StreamStands l items) (StreamStands l (Got d ∷ items)) entries
            (stream_in k) none
            (λ t s other. goes-on t s
            (symmetric same_stream stream-same (stream_of d) t (ap (λ x. same_stream x t) (sym this) ∙ other)))
            st.each;
      }

  pub full-answer : (k : StreamKey) → among same_stream (keys_in stream_in entries) (stream_in k) ≡ false
      → l.streams ≤ length entries → stream_in k ≡ stream_of d → StreamsStand l entries items
      → Unlisted ≡ taken_now l items (Got d)
  full-answer k none full this st =
      let full_there : l.streams ≤ length (listed_streams l items) =
      let P : ℕ → Type 0 = λ n. l.streams ≤ n in subst P (length-of st) full in
      let still : among same_stream (listed_streams l (Got d ∷ items)) (stream_of d) ≡ false =
      ap (λ keys. among same_stream keys (stream_of d))
      (listed-full same_stream l.streams (streams_of items) (stream_of d) full_there)
      ∙ unlisted-in k none this st in
      ap (λ b. cond b (taken_in l (stream_boots l (stream_of d) items) d) Unlisted) (sym still)
