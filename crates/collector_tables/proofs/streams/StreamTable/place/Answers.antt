use Rattle.std.proofs.Common.{◌≡◌, ◌∙◌, sym, ap, Option, Some, None, false, ℕ, refl}
use Rattle.std.specs.Prelude.{slice_get}
use Rattle.std.specs.Option.{is_some, IfSome, IfNone}
use Rattle.std.proofs.lemmas.Map.Made.{is_some-lookup}
use Rattle.books_spec.specs.Listing.{same_stream, among}
use Rattle.books_spec.proofs.Keys.{stream-same}
use Rattle.stream_books.specs.Streams.{StreamState}
use Rattle.collector_tables.specs.declared.keys.StreamKey.{StreamKey}
use Rattle.collector_tables.specs.contracts.keys.StreamKeyPartialEq.TheImpl as stream_eq
use Rattle.collector_tables.specs.Keys.{stream_in}
use Rattle.collector_tables.specs.Tables.{keys_in}
use Rattle.collector_tables.proofs.KeyTests.{stream-eq, any-among, found-at}
use Rattle.collector_tables.proofs.streams.StreamTable.place.Goals as goal

pub returns-clause-some : goal.returns-clause-some
returns-clause-some c = rw (← c.self.view_is) (by c.get_index_of.result refl)
  where
    by : (r : Option ℕ) → c.get_index_of.result ≡ r → IfSome r (λ p. (k : StreamKey) × (v : StreamState)
        × (slice_get c.self.inside.map.entries p ≡ Some (k, v)) × (stream_in k ≡ stream_in c.args.key.now))
    by None e = tt
    by (Some i) e =
        let f = found-at (stream_eq.eq-value).it stream_in same_stream stream-eq c.args.key.now
        c.self.inside.map.entries i (sym c.get_index_of.ensures.index ∙ e) in
        (f.0, f.1, f.2, sym (stream-same.to (stream_in c.args.key.now) (stream_in f.0) f.3))

pub returns-clause-none : goal.returns-clause-none
returns-clause-none c = rw (← c.self.view_is) (by c.get_index_of.result refl)
  where
    by : (r : Option ℕ) → c.get_index_of.result ≡ r
        → IfNone r (among same_stream (keys_in stream_in c.self.inside.map.entries) (stream_in c.args.key.now) ≡ false)
    by None e =
        sym (any-among (stream_eq.eq-value).it stream_in same_stream stream-eq c.args.key.now c.self.inside.map.entries)
        ∙ sym (is_some-lookup ((stream_eq.eq-value).it c.args.key.now) c.self.inside.map.entries)
        ∙ sym c.get_index_of.ensures.found ∙ ap is_some e
    by (Some i) e = tt
