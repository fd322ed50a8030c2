-- Equal places are equal streams, so keys by place are the same exactly where their sources are.
use Rattle.std.proofs.Common.{◌≡◌, ◌∙◌, ℕ, zero, suc, ◌<◌, Bool, true, false, ◌||◌, ◌&&◌, List, [], ◌∷◌, length, get_or, ltb, refl, sym, ap, true≢false, arith}
use Rattle.std.specs.Prelude.{◌==◌}
use Rattle.std.proofs.lemmas.Bool.{eqb-true, eq-eqb, ltb-true, ltb-false}
use Rattle.wire_spec.specs.Heads.{unknown}
use Rattle.books_spec.specs.Items.{Stream}
use Rattle.books_spec.specs.Listing.{same_stream, same_id, same_source, among, AreDistinct}
use Rattle.books_spec.proofs.Listings.{IsSame, symmetric}
use Rattle.books_spec.proofs.Keys.{stream-same}
use Rattle.stream_books.specs.declared.source.SourceRecord.{SourceRecord}
use Rattle.collector_tables.specs.declared.keys.SourceKey.{SourceKey}
use Rattle.collector_tables.specs.Keys.{id_in, source_in, same_key, IsPlaced}
use Rattle.collector_tables.specs.Tables.{keys_in}
use Rattle.collector_tables.specs.Sources.{ArePlaced}

or-parts : (a b : Bool) → (a || b) ≡ false → (a ≡ false) × (b ≡ false)
or-parts true b h = absurd (true≢false h)
or-parts false b h = (refl, h)

module _ {S : Type 0} (same : S → S → Bool) (laws : IsSame same) (none : S) where
  -- a key that is none of these differs from that at each place
  pub absent-at : (xs : List S) (x : S) (q : ℕ) → among same xs x ≡ false → q < length xs → same x (get_or xs q none) ≡ false
  absent-at [] x q h less = absurd (omega (arith, less))
  absent-at (y ∷ ys) x zero h less = (or-parts (same x y) (among same ys x) h).0
  absent-at (y ∷ ys) x (suc q) h less =
      let fewer : q < length ys = omega (arith, less) in
      absent-at ys x q (or-parts (same x y) (among same ys x) h).1 fewer

  differ : (xs : List S) (p q : ℕ) → AreDistinct same xs → p < q → q < length xs
      → same (get_or xs p none) (get_or xs q none) ≡ false
  differ [] p q d less there = absurd (omega (arith, there))
  differ (x ∷ xs) p zero d less there = absurd (omega (arith, less))
  differ (x ∷ xs) zero (suc q) d less there =
      let fewer : q < length xs = omega (arith, there) in
      absent-at xs x q d.0 fewer
  differ (x ∷ xs) (suc p) (suc q) d less there =
      let before : p < q = omega (arith, less) in
      let fewer : q < length xs = omega (arith, there) in
      differ xs p q d.1 before fewer

  -- what stands at two places is the same exactly where the places are
  pub place-same : (xs : List S) (p q : ℕ) → AreDistinct same xs → p < length xs → q < length xs
      → same (get_or xs p none) (get_or xs q none) ≡ (p == q)
  place-same xs p q d one two = go (p == q) refl
    where
      sides : (b c : Bool) → ltb p q ≡ b → ltb q p ≡ c → (p == q) ≡ false
          → same (get_or xs p none) (get_or xs q none) ≡ false
      sides true c h k other = differ xs p q d (ltb-true p q h) two
      sides false true h k other =
          symmetric same laws (get_or xs q none) (get_or xs p none) (differ xs q p d (ltb-true q p k) one)
      sides false false h k other =
          let at_most = ltb-false p q h in
          let at_least = ltb-false q p k in
          let equal : p ≡ q = omega (arith, at_most, at_least) in
          absurd (true≢false (sym (eq-eqb p q equal) ∙ other))

      go : (b : Bool) → (p == q) ≡ b → same (get_or xs p none) (get_or xs q none) ≡ (p == q)
      go true e =
          let equal : q ≡ p = sym (eqb-true p q e) in
          ap (λ r. same (get_or xs p none) (get_or xs r none)) equal ∙ laws.self (get_or xs p none) ∙ sym e
      go false e = sides (ltb p q) (ltb q p) refl refl e ∙ sym e

-- a source isn't among those of a table where its key isn't
pub source-absent : (streams : List Stream) (k : SourceKey) (entries : List (SourceKey × SourceRecord))
    → IsPlaced streams k → ArePlaced (length streams) entries
    → among same_key (keys_in (λ (x : SourceKey). x) entries) k ≡ false
    → among same_source (keys_in (source_in streams) entries) (source_in streams k) ≡ false
source-absent streams k entries placed all none = go entries all ∙ none
  where
    go : (es : List (SourceKey × SourceRecord)) → ArePlaced (length streams) es
        → among same_source (keys_in (source_in streams) es) (source_in streams k)
        ≡ among same_key (keys_in (λ (x : SourceKey). x) es) k
    go [] each = refl
    go (e ∷ more) each =
        let here = place-same same_stream stream-same (record { agent = unknown; sub_agent = 0 }) streams k.stream
        e.0.stream placed.distinct placed.place each.0 in
        let later = go more each.1 in
        λ j. (here j && same_id (id_in k) (id_in e.0)) || later j
