-- One more reading: what stands for the readings of the other sources goes on.
use Rattle.std.proofs.Common.{◌≡◌, ℕ, zero, suc, ◌+◌, ◌<◌, ◌≤◌, true, false, cond, Some, List, [], ◌∷◌, ◌++◌, length, add-zero, sym, ap, subst, ◌∙◌}
use Rattle.std.specs.Prelude.{slice_get}
use Rattle.indexmap.specs.IndexMap.{set_value_at}
use Rattle.books_spec.specs.declared.booked.Booked.{Booked}
use Rattle.books_spec.specs.Generations.{booked}
use Rattle.books_spec.specs.Items.{Stream, Source}
use Rattle.books_spec.specs.SourceViews.{PlacedReading, place_in, placed_mark}
use Rattle.books_spec.specs.Listing.{same_source, among, listed, unlisted, first_arrivals, AreDistinct}
use Rattle.books_spec.proofs.Listings.{listed-known, listed-new, listed-full, listed-all, listed-distinct, unlisted-known, unlisted-new, unlisted-full, unlisted-room}
use Rattle.books_spec.proofs.Keys.{source-same}
use Rattle.stream_books.specs.Sources.{StandsFor, is_flow, width_of}
use Rattle.stream_books.specs.declared.source.SourceRecord.{SourceRecord}
use Rattle.collector_tables.specs.declared.keys.SourceKey.{SourceKey}
use Rattle.collector_tables.specs.Keys.{source_in, same_key}
use Rattle.collector_tables.specs.Tables.{keys_in}
use Rattle.collector_tables.specs.Enters.{Enters}
use Rattle.collector_tables.specs.Sources.{with_reading, after_reading, SourceStands, ArePlaced, SourcesStand}
use Rattle.collector_tables.proofs.Tables.{among-at, each-at, each-set, each-others, each-push, keys-length, keys-set, keys-push}

-- a further key is placed, and another value changes no key
places-push : (count : ℕ) (entries : List (SourceKey × SourceRecord)) (k : SourceKey) (v : SourceRecord)
    → k.stream < count → ArePlaced count entries → ArePlaced count (entries ++ (k, v) ∷ [])
places-push count entries k v placed all =
    each-push (λ (x : SourceKey). x) same_key (λ x y. x.stream < count) entries k v all placed

places-set : (count : ℕ) (entries : List (SourceKey × SourceRecord)) (place : ℕ) (v : SourceRecord)
    → ArePlaced count entries → ArePlaced count (set_value_at entries place v)
places-set count [] place v all = tt
places-set count (e ∷ more) zero v all = all
places-set count (e ∷ more) (suc n) v all = (all.0, places-set count more n v all.1)

module _ (streams : List Stream) (limit width : ℕ) (entries : List (SourceKey × SourceRecord)) (arrived : List Source)
    (boots_of : Source → List (List PlacedReading)) (source : Source) (r : PlacedReading) where
  goes-on : (t : Source) (s : SourceRecord) → same_source source t ≡ false
      → SourceStands width boots_of t s → SourceStands width (after_reading source r boots_of) t s
  goes-on t s other st = record {
    kind = st.kind;
    width_is = st.width_is;
    stands = let P : List (List PlacedReading) → Type 0 = λ bs. StandsFor s bs in
        subst P (ap (λ b. cond b (with_reading r (boots_of t)) (boots_of t)) (sym other)) st.stands;
  }

  -- what came of the source itself
  this-source : (s : SourceRecord) (current : List PlacedReading) (closed : List (List PlacedReading))
      → boots_of source ≡ current ∷ closed → StandsFor s ((r ∷ current) ∷ closed)
      → StandsFor s (after_reading source r boots_of source)
  this-source s current closed is st =
      let P : List (List PlacedReading) → Type 0 = λ bs. StandsFor s bs in
      subst P (sym (ap (λ b. cond b (with_reading r (boots_of source)) (boots_of source)) (source-same.self source)
      ∙ ap (with_reading r) is)) st

  -- a reading of the source at a place
  pub known-stands : (place : ℕ) (k : SourceKey) (was now : SourceRecord) (given : Booked) (boot : ℕ) (current : List PlacedReading)
      (closed : List (List PlacedReading)) → slice_get entries place ≡ Some (k, was) → source_in streams k ≡ source
      → boots_of source ≡ current ∷ closed → length closed + 1 ≡ boot → Enters boot r was now given
      → SourcesStand streams limit width entries arrived boots_of
      → SourcesStand streams limit width (set_value_at entries place now) (source ∷ arrived) (after_reading source r boots_of)
  known-stands place k was now given boot current closed at this is number enters st =
      let A : List Source → Type 0 = λ keys. among same_source keys source ≡ true in
      let there = subst A st.table.keys_are
      (ap (among same_source (keys_in (source_in streams) entries)) (sym this) ∙ among-at (source_in streams) same_source source-same entries place k was at) in
      let Own : Source → Type 0 = λ x. SourceStands width boots_of x was in
      let own_stands = subst Own this (each-at (source_in streams) (SourceStands width boots_of) entries place k was at st.table.each) in
      let D : List Source → Type 0 = λ keys. AreDistinct same_source keys in
      let distinct = subst D (sym st.table.keys_are) (listed-distinct same_source source-same limit arrived) in
      let B : List (List PlacedReading) → Type 0 = λ bs. StandsFor was bs in
      let New : Source → Type 0 = λ x. SourceStands width (after_reading source r boots_of) x now in
      record {
        placed = places-set (length streams) entries place now st.placed;
        table = record {
          keys_are = keys-set (source_in streams) same_source entries place now ∙ st.table.keys_are
              ∙ sym (listed-known same_source limit arrived source there);
          each = each-set (source_in streams) same_source source-same (SourceStands width boots_of)
              (SourceStands width (after_reading source r boots_of)) entries place k was now at distinct
              (λ t s other. goes-on t s (ap (λ x. same_source x t) (sym this) ∙ other))
              (subst New (sym this) (record {
                kind = enters.kind ∙ own_stands.kind;
                width_is = enters.width ∙ own_stands.width_is;
                stands = this-source now current closed is
                    (enters.stands current closed number (subst B is own_stands.stands));
              }))
              st.table.each;
        };
      }

  unlisted-in : among same_source (keys_in (source_in streams) entries) source ≡ false
      → SourcesStand streams limit width entries arrived boots_of → among same_source (listed same_source limit arrived) source ≡ false
  unlisted-in none st =
      let P : List Source → Type 0 = λ keys. among same_source keys source ≡ false in
      subst P st.table.keys_are none

  length-of : SourcesStand streams limit width entries arrived boots_of
      → length entries ≡ length (listed same_source limit arrived)
  length-of st = sym (keys-length (source_in streams) same_source entries) ∙ ap length st.table.keys_are

  -- a reading of a source that is listed now
  pub new-stands : (k : SourceKey) (was now : SourceRecord) (given : Booked) (boot : ℕ) (current : List PlacedReading)
      (closed : List (List PlacedReading)) → among same_source (keys_in (source_in streams) entries) source ≡ false
      → length entries < limit → source_in streams k ≡ source → boots_of source ≡ current ∷ closed
      → length closed + 1 ≡ boot → is_flow was ≡ source.id.flow → width_of was ≡ width
      → StandsFor was (current ∷ closed) → Enters boot r was now given → k.stream < length streams
      → SourcesStand streams limit width entries arrived boots_of
      → SourcesStand streams limit width (entries ++ (k, now) ∷ []) (source ∷ arrived) (after_reading source r boots_of)
  new-stands k was now given boot current closed none room this is number kind width_is opened enters placed st =
      let absent = unlisted-in none st in
      let L : ℕ → Type 0 = λ n. n < limit in
      let room_there = subst L (length-of st) room in
      let New : Source → Type 0 = λ x. SourceStands width (after_reading source r boots_of) x now in
      record {
        placed = places-push (length streams) entries k now placed st.placed;
        table = record {
          keys_are = keys-push (source_in streams) same_source entries k now
              ∙ (λ j. st.table.keys_are j ++ this j ∷ [])
              ∙ sym (listed-new same_source limit arrived source absent room_there);
          each = each-push (source_in streams) same_source (SourceStands width (after_reading source r boots_of)) entries k now
              (each-others (source_in streams) same_source (SourceStands width boots_of)
              (SourceStands width (after_reading source r boots_of)) entries source none (λ t s other. goes-on t s other)
              st.table.each)
              (subst New (sym this) (record {
                kind = enters.kind ∙ kind;
                width_is = enters.width ∙ width_is;
                stands = this-source now current closed is (enters.stands current closed number opened);
              }));
        };
      }

  -- a reading of a source for which there is no room
  pub full-stands : among same_source (keys_in (source_in streams) entries) source ≡ false → limit ≤ length entries
      → SourcesStand streams limit width entries arrived boots_of
      → SourcesStand streams limit width entries (source ∷ arrived) (after_reading source r boots_of)
  full-stands none full st =
      let L : ℕ → Type 0 = λ n. limit ≤ n in
      record {
        placed = st.placed;
        table = record {
          keys_are = st.table.keys_are
              ∙ sym (listed-full same_source limit arrived source (subst L (length-of st) full));
          each = each-others (source_in streams) same_source (SourceStands width boots_of)
              (SourceStands width (after_reading source r boots_of)) entries source none (λ t s other. goes-on t s other)
              st.table.each;
        };
      }

  -- what is answered to a reading of the source at a place, and of one that is listed now
  pub known-answer : (place : ℕ) (k : SourceKey) (was now : SourceRecord) (given : Booked) (boot : ℕ)
      (current : List PlacedReading) (closed : List (List PlacedReading)) → slice_get entries place ≡ Some (k, was)
      → source_in streams k ≡ source → boots_of source ≡ current ∷ closed → length closed + 1 ≡ boot
      → Enters boot r was now given → SourcesStand streams limit width entries arrived boots_of
      → given ≡ booked place_in placed_mark width current r
  known-answer place k was now given boot current closed at this is number enters st =
      let Own : Source → Type 0 = λ x. SourceStands width boots_of x was in
      let own_stands = subst Own this
      (each-at (source_in streams) (SourceStands width boots_of) entries place k was at st.table.each) in
      let B : List (List PlacedReading) → Type 0 = λ bs. StandsFor was bs in
      enters.answered current closed number (subst B is own_stands.stands)
      ∙ ap (λ w. booked place_in placed_mark w current r) own_stands.width_is

  pub new-answer : (was now : SourceRecord) (given : Booked) (boot : ℕ) (current : List PlacedReading)
      (closed : List (List PlacedReading)) → length closed + 1 ≡ boot → width_of was ≡ width
      → StandsFor was (current ∷ closed) → Enters boot r was now given
      → given ≡ booked place_in placed_mark width current r
  new-answer was now given boot current closed number width_is opened enters =
      enters.answered current closed number opened
      ∙ ap (λ w. booked place_in placed_mark w current r) width_is

  pub known-count : (place : ℕ) (k : SourceKey) (was : SourceRecord) → slice_get entries place ≡ Some (k, was)
      → source_in streams k ≡ source → SourcesStand streams limit width entries arrived boots_of
      → unlisted same_source limit (source ∷ arrived) ≡ unlisted same_source limit arrived + 0
  known-count place k was at this st =
      let A : List Source → Type 0 = λ keys. among same_source keys source ≡ true in
      let there = subst A st.table.keys_are
      (ap (among same_source (keys_in (source_in streams) entries)) (sym this) ∙ among-at (source_in streams) same_source source-same entries place k was at) in
      unlisted-known same_source source-same limit arrived source there
      ∙ sym (add-zero (unlisted same_source limit arrived))

  pub new-count : among same_source (keys_in (source_in streams) entries) source ≡ false → length entries < limit
      → SourcesStand streams limit width entries arrived boots_of
      → unlisted same_source limit (source ∷ arrived) ≡ unlisted same_source limit arrived + 0
  new-count none room st =
      let L : ℕ → Type 0 = λ n. n < limit in
      let room_there = subst L (length-of st) room in
      unlisted-new same_source source-same limit arrived source (unlisted-in none st) room_there
      ∙ sym (unlisted-room same_source source-same limit arrived room_there)
      ∙ sym (add-zero (unlisted same_source limit arrived))

  pub full-count : among same_source (keys_in (source_in streams) entries) source ≡ false → limit ≤ length entries
      → SourcesStand streams limit width entries arrived boots_of
      → unlisted same_source limit (source ∷ arrived) ≡ unlisted same_source limit arrived + 1
  full-count none full st =
      let L : ℕ → Type 0 = λ n. limit ≤ n in
      unlisted-full same_source source-same limit arrived source (unlisted-in none st) (subst L (length-of st) full)

  -- a source that isn't listed though there is room never arrived
  pub never-arrived : among same_source (keys_in (source_in streams) entries) source ≡ false → length entries < limit
      → SourcesStand streams limit width entries arrived boots_of
      → among same_source (first_arrivals same_source arrived) source ≡ false
  never-arrived none room st =
      let L : ℕ → Type 0 = λ n. n < limit in
      let all = listed-all same_source limit arrived (subst L (length-of st) room) in
      let P : List Source → Type 0 = λ keys. among same_source keys source ≡ false in
      subst P (st.table.keys_are ∙ all) none
