-- A datagram has few headers.
use Rattle.std.proofs.Common.{◌≡◌, ◌∙◌, ℕ, zero, suc, ◌+◌, ◌*◌, ◌≤◌, ◌<◌, ◌^◌, Bool, true, false, cond, if◌then◌else◌, List, [], ◌∷◌, ◌++◌, length, length-append, map, Result, Ok, Err, refl, arith}
use Rattle.std.specs.Prelude.{◌==◌, replicate}
use Rattle.std.specs.Int.{w32, to_be_bytes}
use Rattle.std.proofs.lemmas.List.{length-map}
use Rattle.wire_spec.specs.Bytes.{AreBytes}
use Rattle.wire_spec.specs.declared.fault.Fault.{Fault}
use Rattle.wire_spec.specs.declared.pad.Pad.TheVariants.{Any}
use Rattle.wire_spec.specs.Padding.{padding_of}
use Rattle.wire_spec.specs.Shapes.{word, hyper, fixed, opaque, array, structure, union, Tree, known, other, Trees, none, ◌&◌, count_of}
use Rattle.wire_spec.specs.Spelling.{spell, spell_all, padded}
use Rattle.wire_spec.specs.Whole.{whole_reading, SpellsWhole}
use Rattle.wire_spec.proofs.OneReading.{whole_good}
use Rattle.wire_spec.proofs.Spellings.{spelled_length}
use Rattle.data_format.specs.declared.heads.Form.TheVariants.{Compact, Expanded}
use Rattle.data_format.specs.Values.{members_of, member, values_of, behind_version, samples_behind, flow_records_in}
use Rattle.datagram_core.specs.Tables.{datagram_read}
use Rattle.books_spec.specs.declared.limits.Limits.{Limits}
use Rattle.books_spec.specs.declared.sample_place.SamplePlace.{SamplePlace}
use Rattle.books_spec.specs.Items.{Sample, Of, Carrying, Other, Datagram, Item, Got, Malformed, stream_of}
use Rattle.books_spec.specs.Listing.{same_stream, among}
use Rattle.books_spec.specs.Books.{most_entries, stream_boots, listed_streams, stream_number}
use Rattle.books_spec.specs.PlacedSamples.{PlacedSample, placed_in}
use Rattle.books_spec.specs.SampledHeaders.{SampledHeader, HeaderedItem, items_within, header_from, counts, headers_at, and_sample, headers_behind, headers_now, first_headers}
use Rattle.sample_taps.specs.declared.brief.Brief.{Brief}
use Rattle.sample_taps.specs.BookBriefs.{brief_in, book_briefs, book_classes}
use Rattle.sample_taps.specs.Briefs.{facts_in}
use Rattle.sample_taps.specs.Classes.{headers_counted}
use Rattle.sample_taps.proofs.ClassCounts.{one_kind_each}
use Rattle.flow_collector.specs.Headers.{header_of, header_in, headers_among, headers_with, headers_of, headers_each, headers_in, headers_read, headered_entry, header_count, AreFewHeaders}

-- ---- the bytes of parts are among those of the whole

member-bytes : (k : ℕ) (ts : Trees) → length (spell (member k ts)) ≤ length (spell_all ts)
member-bytes k none = omega arith
member-bytes zero (t & more) = omega (arith, length-append (spell t) (spell_all more))
member-bytes (suc k) (t & more) = omega (arith, length-append (spell t) (spell_all more), member-bytes k more)

members-bytes : (t : Tree) → length (spell_all (members_of t)) ≤ length (spell t)
members-bytes (word n) = omega arith
members-bytes (hyper n) = omega arith
members-bytes (fixed v) = omega arith
members-bytes (opaque v) = omega arith
members-bytes (array ts) = omega arith
members-bytes (structure ts) = omega arith
members-bytes (union k t) = omega arith
members-bytes (known k t tail) = omega arith
members-bytes (other k v) = omega arith

values-bytes : (t : Tree) → length (spell_all (values_of t)) ≤ length (spell t)
values-bytes (word n) = omega arith
values-bytes (hyper n) = omega arith
values-bytes (fixed v) = omega arith
values-bytes (opaque v) = omega arith
values-bytes (array ts) = omega (arith, length-append (to_be_bytes w32 (count_of ts)) (spell_all ts))
values-bytes (structure ts) = omega arith
values-bytes (union k t) = omega arith
values-bytes (known k t tail) = omega arith
values-bytes (other k v) = omega arith

behind-bytes : (t : Tree) → length (spell_all (behind_version t)) ≤ length (spell t)
behind-bytes (word n) = omega arith
behind-bytes (hyper n) = omega arith
behind-bytes (fixed v) = omega arith
behind-bytes (opaque v) = omega arith
behind-bytes (array ts) = omega arith
behind-bytes (structure ts) = omega arith
behind-bytes (union k t) = omega (arith, length-append (to_be_bytes w32 k) (spell t), members-bytes t)
behind-bytes (known k t tail) = omega arith
behind-bytes (other k v) = omega arith

known-bytes : (k : ℕ) (t : Tree) (tail : List ℕ) → 1 + length (spell t) ≤ length (spell (known k t tail))
known-bytes k t tail =
    let body : List ℕ = spell t ++ tail in
    let four : length (to_be_bytes w32 k) ≡ 4 = refl in
    omega (
      arith,
      four,
      length-append (to_be_bytes w32 k) (to_be_bytes w32 (length body) ++ padded body),
      length-append (to_be_bytes w32 (length body)) (padded body),
      length-append body (replicate (padding_of (length body)) 0),
      length-append (spell t) tail,
    )

-- ---- headers are fewer than bytes

header-one : (b : Bool) (h : SampledHeader) → length (if b then h ∷ [] else []) ≤ 1
header-one true h = omega arith
header-one false h = omega arith

header-bytes : (t : Tree) → length (header_in t) ≤ length (spell t)
header-bytes (word n) = omega arith
header-bytes (hyper n) = omega arith
header-bytes (fixed v) = omega arith
header-bytes (opaque v) = omega arith
header-bytes (array ts) = omega arith
header-bytes (structure ts) = omega arith
header-bytes (union k t) = omega arith
header-bytes (known k t tail) = omega (arith, header-one (k == 1) (header_of (members_of t)), known-bytes k t tail)
header-bytes (other k v) = omega arith

among-bytes : (ts : Trees) → length (headers_among ts) ≤ length (spell_all ts)
among-bytes none = omega arith
among-bytes (t & more) = omega (
  arith,
  length-append (header_in t) (headers_among more),
  length-append (spell t) (spell_all more),
  header-bytes t,
  among-bytes more,
)

records-bytes : (n : ℕ) (members : Trees) → length (headers_among (values_of (member n members))) ≤ length (spell_all members)
records-bytes n members =
    omega (arith, among-bytes (values_of (member n members)), values-bytes (member n members), member-bytes n members)

with-bytes : (k : ℕ) (members : Trees) → length (headers_with k members) ≤ length (spell_all members)
with-bytes k members = go (k == 1) (k == 3)
  where
    go : (a b : Bool) → length (if a then headers_among (flow_records_in Compact members) else (
        if b then headers_among (flow_records_in Expanded members) else [])) ≤ length (spell_all members)
    go true b = records-bytes 7 members
    go false true = records-bytes 10 members
    go false false = omega arith

headers-bytes : (t : Tree) → length (headers_of t) ≤ length (spell t)
unfolding headers_of
headers-bytes (word n) = omega arith
headers-bytes (hyper n) = omega arith
headers-bytes (fixed v) = omega arith
headers-bytes (opaque v) = omega arith
headers-bytes (array ts) = omega arith
headers-bytes (structure ts) = omega arith
headers-bytes (union k t) = omega arith
headers-bytes (known k t tail) = omega (arith, with-bytes k (members_of t), members-bytes t, known-bytes k t tail)
headers-bytes (other k v) = omega arith

each-bytes : (ts : Trees) → header_count (headers_each ts) ≤ length (spell_all ts)
each-bytes none = omega arith
each-bytes (t & more) = omega (
  arith,
  length-append (spell t) (spell_all more),
  headers-bytes t,
  each-bytes more,
)

in-bytes : (t : Tree) → header_count (headers_in t) ≤ length (spell t)
in-bytes t = omega (
  arith,
  each-bytes (samples_behind (behind_version t)),
  values-bytes (member 4 (behind_version t)),
  member-bytes 4 (behind_version t),
  behind-bytes t,
)

read-few : (r : Result Tree Fault) (bytes : List ℕ) → ((t : Tree) → r ≡ Ok t → SpellsWhole Any datagram_read bytes t)
    → header_count (headers_read r) ≤ 65535
read-few (Ok t) bytes spelled =
    let whole = spelled t refl in
    omega (arith, whole.0, in-bytes t, spelled_length Any datagram_read t bytes whole.1)
read-few (Err f) bytes spelled = omega arith

pub entry-few : (arrival : ℕ) (bytes : List ℕ) → AreBytes bytes → header_count (headered_entry arrival bytes).headers ≤ 65535
entry-few arrival bytes are =
    read-few (whole_reading Any datagram_read bytes) bytes (λ t is. whole_good Any datagram_read bytes t are is)

-- ---- and those that count are some of them

at-few : (l : Limits) (before : List Item) (d : Datagram) (place : SamplePlace) (x : Sample) (own : List SampledHeader)
    → length (headers_at l before d place x own) ≤ length own
at-few l before d place (Of id reading) own = go (counts l before d place id reading)
  where
    go : (b : Bool) → length (cond b (map (header_from (stream_number l (Got d ∷ before) (stream_of d)) id reading) own) []) ≤ length own
    go true = omega (arith, length-map own (header_from (stream_number l (Got d ∷ before) (stream_of d)) id reading))
    go false = omega arith
at-few l before d place (Carrying id reading counters) own = omega arith
at-few l before d place Other own = omega arith

behind-few : (l : Limits) (before : List Item) (d : Datagram) (ps : List PlacedSample) (hs : List (List SampledHeader))
    → length (headers_behind l before d ps hs) ≤ header_count hs
behind-few l before d [] hs = omega arith
behind-few l before d (p ∷ more) [] = omega arith
behind-few l before d (p ∷ more) (own ∷ hs) = omega (
  arith,
  length-append (headers_at l before d p.place p.sample own) (headers_behind l before (and_sample d p.sample) more hs),
  at-few l before d p.place p.sample own,
  behind-few l before (and_sample d p.sample) more hs,
)

now-few : (l : Limits) (before : List Item) (item : Item) (hs : List (List SampledHeader))
    → length (headers_now l before item hs) ≤ header_count hs
now-few l before (Malformed f) hs = omega arith
now-few l before (Got d) hs = go (among same_stream (listed_streams l (Got d ∷ before)) (stream_of d))
  where
    go : (b : Bool) → length (cond b (headers_behind l before (record d { samples = [] })
        (placed_in l (stream_boots l (stream_of d) before) d) hs) []) ≤ header_count hs
    go true = behind-few l before (record d { samples = [] }) (placed_in l (stream_boots l (stream_of d) before) d) hs
    go false = omega arith

first-few : (l : Limits) (items : List HeaderedItem) → AreFewHeaders items → length (first_headers l items) ≤ 65535 * length items
first-few l [] few = omega arith
first-few l (i ∷ before) few = omega (
  arith,
  length-append (first_headers l before) (headers_now l (items_within before) i.item i.headers),
  now-few l (items_within before) i.item i.headers,
  few.0,
  first-few l before few.1,
)

pub briefs-few : (l : Limits) (items : List HeaderedItem) → AreFewHeaders items → length (book_briefs l items) ≤ 65535 * length items
briefs-few l items few = omega (arith, length-map (first_headers l items) brief_in, first-few l items few)

-- so none of their counts stays at its greatest value
pub classes-exact : (l : Limits) (items : List HeaderedItem) → AreFewHeaders items → length items ≤ most_entries
    → headers_counted (book_classes l items) ≡ length (book_briefs l items)
classes-exact l items few most =
    let all : List Brief = book_briefs l items in
    let same = length-map all facts_in in
    let less : length (map facts_in all) < 2 ^ 64 = omega (arith, same, briefs-few l items few, most) in
    one_kind_each (map facts_in all) less ∙ same
