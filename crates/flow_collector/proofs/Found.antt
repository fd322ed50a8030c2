-- The place and the boots of a stream that is listed.
use Rattle.std.proofs.Common.{◌≡◌, ◌∙◌, ℕ, zero, suc, ◌+◌, ◌<◌, ◌≤◌, Bool, true, false, not, ◌||◌, cond, if◌then◌else◌, Option, Some, None, List, [], ◌∷◌, ◌++◌, length, length-append, take, refl, sym, ap, arith}
use Rattle.std.specs.Prelude.{slice_get}
use Rattle.std.specs.List.{position_or_len}
use Rattle.std.specs.Option.{option_map, is_some, IfSome}
use Rattle.std.proofs.lemmas.Option.{slice_get-map, slice_get_within, get_or_from_slice_get}
use Rattle.std.proofs.lemmas.List.{get_or_append_left}
use Rattle.count_spec.specs.Boots.{boot_place, boots}
use Rattle.books_spec.specs.declared.limits.Limits.{Limits}
use Rattle.books_spec.specs.Items.{Datagram, stamp_of, Item, Got, Stream, stream_of}
use Rattle.books_spec.specs.Listing.{same_stream, among, first_arrivals, AreDistinct}
use Rattle.books_spec.specs.Books.{streams_of, listed_streams, own, stream_boots, taken_in, taken_now}
use Rattle.books_spec.specs.declared.taken.Taken.TheVariants.{Unlisted}
use Rattle.books_spec.proofs.Listings.{symmetric, listed-distinct}
use Rattle.books_spec.proofs.Keys.{stream-same}
use Rattle.stream_books.specs.Streams.{StreamState}
use Rattle.stream_books.specs.declared.source.SourceRecord.{SourceRecord}
use Rattle.collector_tables.specs.declared.keys.StreamKey.{StreamKey}
use Rattle.collector_tables.specs.declared.keys.SourceKey.{SourceKey}
use Rattle.collector_tables.specs.Keys.{stream_in, stream_at, id_in, source_in, IsPlaced}
use Rattle.collector_tables.specs.declared.streams.TakenAt.{TakenAt}
use Rattle.collector_tables.specs.Answers.{answer_in_books}
use Rattle.collector_tables.specs.Tables.{keys_in, Each}
use Rattle.collector_tables.specs.Listed.{StreamStands, StreamsStand}
use Rattle.collector_tables.specs.Sources.{ArePlaced}
use Rattle.collector_tables.proofs.Tables.{each-at}
use Rattle.collector_tables.proofs.Placed.{absent-at}
use Rattle.flow_collector.specs.Steps.{is_unlisted, number_in, IsFound}
use Rattle.flow_collector.proofs.Lists.{or-more}
use Rattle.flow_collector.proofs.Steps.{place-listed}

-- the key at a place
pub key-at : {K V S : Type 0} (key : K → S) (entries : List (K × V)) (keys : List S) (place : ℕ) (k : K) (v : V)
    → slice_get entries place ≡ Some (k, v) → keys_in key entries ≡ keys → slice_get keys place ≡ Some (key k)
key-at {K} {V} {S} key entries keys place k v at is =
    let H : Option (K × V) → Option S = option_map (λ (e : K × V). key e.0) in
    ap (λ ks. slice_get ks place) (sym is) ∙ slice_get-map (λ (e : K × V). key e.0) entries place ∙ ap H at

-- the boots of the stream at a place
pub boots-at : (l : Limits) (entries : List (StreamKey × StreamState)) (items : List Item) (place : ℕ) (k : StreamKey)
    (v : StreamState) (stream : Stream) → slice_get entries place ≡ Some (k, v) → stream_in k ≡ stream
    → StreamsStand l entries items → v.ledger.boot ≡ length (stream_boots l stream items)
boots-at l entries items place k v stream at this st =
    let own_stands = each-at stream_in (StreamStands l items) entries place k v at st.each in
    own_stands.stands.boots_are
    ∙ (λ j. length (boots stamp_of l.boot_slack (own_stands.width j) (own (this j) items)))

-- where the table of streams has the stream of a datagram
pub is-found : (l : Limits) (items : List Item) (d : Datagram) (entries : List (StreamKey × StreamState)) (t : TakenAt)
    (k : StreamKey) (v : StreamState) → slice_get entries t.place ≡ Some (k, v) → stream_in k ≡ stream_of d
    → t.boot ≡ v.ledger.boot → t.receipt.number ≡ number_in l items d → StreamsStand l entries (Got d ∷ items)
    → IsFound l items t d
is-found l items d entries t k v at this boot_is number st = record {
  at = key-at stream_in entries (listed_streams l (Got d ∷ items)) t.place k v at st.keys_are ∙ ap Some this;
  boot_is = boot_is ∙ boots-at l entries (Got d ∷ items) t.place k v (stream_of d) at this st;
  number_is = number;
}

pub some-found : (l : Limits) (items : List Item) (d : Datagram) (entries : List (StreamKey × StreamState))
    (key : StreamKey) (found : Option TakenAt)
    → IfSome found (λ t. (k : StreamKey) × (v : StreamState) × (slice_get entries t.place ≡ Some (k, v))
    × (stream_in k ≡ stream_in key) × (t.boot ≡ v.ledger.boot))
    → IfSome found (λ t. t.receipt.number ≡ number_in l items d)
    → stream_in key ≡ stream_of d → StreamsStand l entries (Got d ∷ items) → IfSome found (λ t. IsFound l items t d)
some-found l items d entries key None there number this st = tt
some-found l items d entries key (Some t) there number this st =
    is-found l items d entries t there.0 there.1 there.2 (there.3 ∙ this) there.4 number st

-- the stream at the place of one that was found
pub stream-found : (streams : List Stream) (place : ℕ) (stream : Stream) → slice_get streams place ≡ Some stream
    → stream_at streams place ≡ stream
stream-found streams place stream at = get_or_from_slice_get streams place stream _ at

-- the boots of the stream at a place among those listed
pub boots-at-place : (l : Limits) (entries : List (StreamKey × StreamState)) (items : List Item) (place : ℕ)
    (k : StreamKey) (v : StreamState) → slice_get entries place ≡ Some (k, v) → StreamsStand l entries items
    → v.ledger.boot ≡ length (stream_boots l (stream_at (listed_streams l items) place) items)
boots-at-place l entries items place k v at st =
    boots-at l entries items place k v (stream_at (listed_streams l items) place) at
    (sym (stream-found (listed_streams l items) place (stream_in k)
    (key-at stream_in entries (listed_streams l items) place k v at st.keys_are))) st

pub key-placed : (l : Limits) (items : List Item) (k : SourceKey) (stream : Stream)
    → slice_get (listed_streams l items) k.stream ≡ Some stream → IsPlaced (listed_streams l items) k
key-placed l items k stream at = record {
  distinct = listed-distinct same_stream stream-same l.streams (streams_of items);
  place = slice_get_within (listed_streams l items) k.stream stream at;
}

-- ---- a listed stream keeps its place

take-front : {X : Type 0} (n : ℕ) (xs ys : List X) → (more : List X) × (take n (xs ++ ys) ≡ take n xs ++ more)
take-front zero xs ys = ([], refl)
take-front (suc n) [] ys = (take (suc n) ys, refl)
take-front (suc n) (x ∷ xs) ys =
    let rest = take-front n xs ys in
    (rest.0, ap (λ zs. x ∷ zs) rest.1)

append-none : {X : Type 0} (xs : List X) → xs ≡ xs ++ []
append-none [] = refl
append-none (x ∷ xs) = ap (λ rest. x ∷ rest) (append-none xs)

listed-grows : (l : Limits) (items : List Item) (d : Datagram)
    → (more : List Stream) × (listed_streams l (Got d ∷ items) ≡ listed_streams l items ++ more)
listed-grows l items d = go (among same_stream (first_arrivals same_stream (streams_of items)) (stream_of d))
  where
    go : (b : Bool) → (more : List Stream)
        × (take l.streams (cond b (first_arrivals same_stream (streams_of items))
        (first_arrivals same_stream (streams_of items) ++ stream_of d ∷ [])) ≡ listed_streams l items ++ more)
    go true = ([], append-none (listed_streams l items))
    go false = take-front l.streams (first_arrivals same_stream (streams_of items)) (stream_of d ∷ [])

-- so keys are of the same sources after one datagram more
pub names-stay : (l : Limits) (items : List Item) (d : Datagram) (entries : List (SourceKey × SourceRecord))
    → ArePlaced (length (listed_streams l items)) entries
    → Each (λ (k : SourceKey). k)
    (λ k v. source_in (listed_streams l items) k ≡ source_in (listed_streams l (Got d ∷ items)) k) entries
names-stay l items d [] placed = tt
names-stay l items d (e ∷ more) placed =
    let grown = listed-grows l items d in
    let kept : stream_at (listed_streams l items) e.0.stream
    ≡ stream_at (listed_streams l (Got d ∷ items)) e.0.stream =
    sym (get_or_append_left (listed_streams l items) grown.0 _ e.0.stream placed.0)
    ∙ ap (λ streams. stream_at streams e.0.stream) (sym grown.1) in
    ((λ j. record { stream = kept j; id = id_in e.0 }), names-stay l items d more placed.1)

pub places-stay : (l : Limits) (items : List Item) (d : Datagram) (entries : List (SourceKey × SourceRecord))
    → ArePlaced (length (listed_streams l items)) entries → ArePlaced (length (listed_streams l (Got d ∷ items))) entries
places-stay l items d entries placed =
    let grown = listed-grows l items d in
    let sum = length-append (listed_streams l items) grown.0 in
    let same = ap length grown.1 in
    let most : length (listed_streams l items) ≤ length (listed_streams l (Got d ∷ items)) = omega (arith, sum, same) in
    go most entries placed
  where
    go : {m n : ℕ} → m ≤ n → (es : List (SourceKey × SourceRecord)) → ArePlaced m es → ArePlaced n es
    go most [] all = tt
    go most (e ∷ more) all =
        let here = all.0 in
        (omega (arith, most, here), go most more all.1)

-- ---- the number of a stream

-- the place of what stands at a place
pub place-of-place : (streams : List Stream) (k : SourceKey) → IsPlaced streams k
    → position_or_len (same_stream (stream_at streams k.stream)) streams ≡ k.stream
place-of-place streams k placed = go streams k.stream placed.distinct placed.place
  where
    go : (xs : List Stream) (p : ℕ) → AreDistinct same_stream xs → p < length xs
        → position_or_len (same_stream (stream_at xs p)) xs ≡ p
    go [] p distinct less = absurd (omega (arith, less))
    go (x ∷ more) zero distinct less = ap (λ b. cond (not b) (1 + position_or_len (same_stream x) more) 0) (stream-same.self x)
    go (x ∷ more) (suc p) distinct less =
        let fewer : p < length more = omega (arith, less) in
        let other = symmetric same_stream stream-same x (stream_at more p)
        (absent-at same_stream stream-same _ more x p distinct.0 fewer) in
        let later = go more p distinct.1 fewer in
        ap (λ b. cond (not b) (1 + position_or_len (same_stream (stream_at more p)) more) 0) other
        ∙ (let sum : 1 + position_or_len (same_stream (stream_at more p)) more ≡ suc p = omega (arith, later) in sum)

-- ---- whether a stream was found

among-here : (streams : List Stream) (place : ℕ) (stream : Stream) → slice_get streams place ≡ Some stream
    → among same_stream streams stream ≡ true
among-here [] place stream at = absurd (cc)
among-here (x ∷ more) zero stream at =
    let same : x ≡ stream = cc in
    ap (λ y. same_stream stream y || among same_stream more stream) same
    ∙ ap (λ b. b || among same_stream more stream) (stream-same.self stream)
among-here (x ∷ more) (suc n) stream at =
    or-more (same_stream stream x) (among same_stream more stream) (among-here more n stream at)

-- it isn't exactly where the answer is that it isn't listed
pub none-is-unlisted : (l : Limits) (items : List Item) (d : Datagram) (found : Option TakenAt)
    → answer_in_books found ≡ taken_now l items (Got d) → IfSome found (λ t. IsFound l items t d)
    → ◌≡◌ {A = ℕ} (if is_some found then 0 else 1) (cond (is_unlisted (answer_in_books found)) 1 0)
none-is-unlisted l items d None answer this = refl
none-is-unlisted l items d (Some t) answer this =
    let there = among-here (listed_streams l (Got d ∷ items)) t.place (stream_of d) this.at in
    let bs : List (List Datagram) = stream_boots l (stream_of d) items in
    let listed_answer : is_unlisted t.receipt.taken ≡ false = ap is_unlisted answer
    ∙ ap (λ b. is_unlisted (cond b (taken_in l bs d) Unlisted)) there
    ∙ place-listed l.datagram_width (boot_place stamp_of l.boot_slack l.datagram_width bs d) bs d.head.sequence in
    ap (λ b. cond b 1 0) (sym listed_answer)
