-- Keys are compared as streams and sources are.
use Rattle.std.proofs.Common.{◌≡◌, ℕ, Bool, true, false, ◌||◌, Option, Some, None, List, [], ◌∷◌, length, get_or, refl, sym, ap, ◌∙◌, ◌<◌, zero, suc, true≢false, arith}
use Rattle.std.specs.Prelude.{slice_get, position, ◌==◌}
use Rattle.std.specs.List.{list_any}
use Rattle.std.specs.Map.{keys_of}
use Rattle.std.specs.Option.{is_some}
use Rattle.std.proofs.lemmas.Map.Made.{is_some-lookup}
use Rattle.indexmap.specs.IndexMap.{IndexMap, get}
use Rattle.std.proofs.lemmas.List.Quantifiers.{position-Some}
use Rattle.std.proofs.lemmas.Bool.{eqb-true}
use Rattle.data_format.specs.declared.address.Address.{Address}
use Rattle.data_format.specs.declared.address.Address.TheVariants.{Unknown, V4, V6}
use Rattle.data_format.specs.declared.source.SourceId.{SourceId}
use Rattle.books_spec.specs.Listing.{same_stream, same_id, among}
use Rattle.books_spec.proofs.Keys.{and-split, id-same}
use Rattle.collector_tables.specs.declared.keys.StreamKey.{StreamKey}
use Rattle.collector_tables.specs.contracts.keys.StreamKeyPartialEq.TheImpl as stream_eq
use Rattle.collector_tables.specs.declared.keys.SourceKey.{SourceKey}
use Rattle.collector_tables.specs.contracts.keys.SourceKeyPartialEq.TheImpl as source_eq
use Rattle.collector_tables.specs.declared.keys.SampleKind.{SampleKind}
use Rattle.collector_tables.specs.declared.keys.SampleKind.TheVariants.{Flow, Counters}
use Rattle.collector_tables.specs.Kinds.{is_flow_kind}
use Rattle.collector_tables.specs.Keys.{stream_in, id_in, same_key}
use Rattle.collector_tables.specs.Tables.{keys_in}

key-eq : (x y : Address) (m n : ℕ)
    → (stream_eq.eq-value).it (record { agent = x; sub_agent = m }) (record { agent = y; sub_agent = n })
    ≡ same_stream (stream_in (record { agent = x; sub_agent = m })) (stream_in (record { agent = y; sub_agent = n }))
key-eq Unknown Unknown m n = refl
key-eq Unknown (V4 ys) m n = refl
key-eq Unknown (V6 ys) m n = refl
key-eq (V4 xs) Unknown m n = refl
key-eq (V4 xs) (V4 ys) m n = refl
key-eq (V4 xs) (V6 ys) m n = refl
key-eq (V6 xs) Unknown m n = refl
key-eq (V6 xs) (V4 ys) m n = refl
key-eq (V6 xs) (V6 ys) m n = refl

pub stream-eq : (a b : StreamKey) → (stream_eq.eq-value).it a b ≡ same_stream (stream_in a) (stream_in b)
stream-eq a b = key-eq a.agent b.agent a.sub_agent b.sub_agent

nothing : {X : Type 0} (o : Option X) → is_some o ≡ false → o ≡ None
nothing None e = refl
nothing (Some x) e = absurd (true≢false e)

module _ {K V S : Type 0} (eq : K → K → Bool) (key : K → S) (same : S → S → Bool)
    (agree : (a b : K) → eq a b ≡ same (key a) (key b)) where
  -- the key is among those of the table as it is among theirs in the definitions
  pub any-among : (k : K) (entries : List (K × V)) → list_any (eq k) (keys_of entries) ≡ among same (keys_in key entries) (key k)
  any-among k [] = refl
  any-among k (e ∷ more) =
      let here = agree k e.0 in
      let later = any-among k more in
      λ j. here j || later j

  -- an entry at a place below the length
  entry-at : (entries : List (K × V)) (i : ℕ) (d : K) → i < length (keys_of entries)
      → (k : K) × (v : V) × (slice_get entries i ≡ Some (k, v)) × (get_or (keys_of entries) i d ≡ k)
  entry-at [] i d h = absurd (omega arith)
  entry-at (e ∷ more) zero d h = (e.0, e.1, refl, refl)
  entry-at (e ∷ more) (suc i) d h =
      let less : i < length (keys_of more) = omega arith in
      entry-at more i d less

  -- the place at which a key is found has that key
  pub found-at : (k : K) (entries : List (K × V)) (i : ℕ) → position (eq k) (keys_of entries) ≡ Some i
      → (x : K) × (v : V) × (slice_get entries i ≡ Some (x, v)) × (same (key k) (key x) ≡ true)
  found-at k entries i at =
      let p = position-Some (eq k) (keys_of entries) i k at in
      let e = entry-at entries i k p.0 in
      (e.0, e.1, e.2, sym (agree k e.0) ∙ ap (eq k) (sym e.3) ∙ p.1)

-- a stream that isn't among those of a table has no entry there
pub absent-stream : {V R : Type 0} (m : IndexMap StreamKey V R) (k : StreamKey)
    → among same_stream (keys_in stream_in m.entries) (stream_in k) ≡ false → get (stream_eq.eq-value).it m k ≡ None
absent-stream m k none = nothing (get (stream_eq.eq-value).it m k)
    (is_some-lookup ((stream_eq.eq-value).it k) m.entries
    ∙ any-among (stream_eq.eq-value).it stream_in same_stream stream-eq k m.entries
    ∙ none)

source-parts : (m n : ℕ) (p q : SampleKind) (u v : SourceId)
    → (source_eq.eq-value).it (record { stream = m; kind = p; source = u }) (record { stream = n; kind = q; source = v })
    ≡ same_key (record { stream = m; kind = p; source = u }) (record { stream = n; kind = q; source = v })
source-parts m n Flow Flow u v = refl
source-parts m n Flow Counters u v = refl
source-parts m n Counters Flow u v = refl
source-parts m n Counters Counters u v = refl

pub source-eq : (a b : SourceKey) → (source_eq.eq-value).it a b ≡ same_key a b
source-eq a b = source-parts a.stream b.stream a.kind b.kind a.source b.source

kinds-are : (p q : SampleKind) → is_flow_kind p ≡ is_flow_kind q → p ≡ q
kinds-are Flow Flow e = refl
kinds-are Flow Counters e = absurd (true≢false e)
kinds-are Counters Flow e = absurd (true≢false (sym e))
kinds-are Counters Counters e = refl

-- keys that are found the same are the same
pub key-is : (a b : SourceKey) → same_key a b ≡ true → a ≡ b
key-is a b e =
    let parts = and-split (a.stream == b.stream) (same_id (id_in a) (id_in b)) e in
    let places = eqb-true a.stream b.stream parts.0 in
    let ids = id-same.to (id_in a) (id_in b) parts.1 in
    let kinds = kinds-are a.kind b.kind (λ j. (ids j).flow) in
    λ j. record {
      stream = places j;
      kind = kinds j;
      source = record { class = (ids j).class; index = (ids j).index };
    }

-- a source that isn't among those of a table has no entry there
pub absent-source : {V R : Type 0} (m : IndexMap SourceKey V R) (k : SourceKey)
    → among same_key (keys_in (λ (x : SourceKey). x) m.entries) k ≡ false → get (source_eq.eq-value).it m k ≡ None
absent-source m k none = nothing (get (source_eq.eq-value).it m k)
    (is_some-lookup ((source_eq.eq-value).it k) m.entries
    ∙ any-among (source_eq.eq-value).it (λ (x : SourceKey). x) same_key source-eq k m.entries
    ∙ none)
