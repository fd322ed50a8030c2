use Rattle.std.proofs.Common.{◌≡◌, ◌∙◌, sym, ap, subst, Option, Some, None, false, ℕ, refl}
use Rattle.std.specs.Prelude.{slice_get}
use Rattle.std.specs.Option.{is_some, IfSome, IfNone}
use Rattle.std.proofs.lemmas.Map.Made.{is_some-lookup}
use Rattle.books_spec.specs.Listing.{among}
use Rattle.stream_books.specs.declared.source.SourceRecord.{SourceRecord}
use Rattle.collector_tables.specs.declared.keys.SourceKey.{SourceKey}
use Rattle.collector_tables.specs.contracts.keys.SourceKeyPartialEq.TheImpl as source_eq
use Rattle.collector_tables.specs.Keys.{same_key}
use Rattle.collector_tables.specs.Tables.{keys_in}
use Rattle.collector_tables.proofs.KeyTests.{source-eq, key-is, any-among, found-at}
use Rattle.collector_tables.proofs.sources.SourceTable.place.Goals as goal

pub returns-clause-some : goal.returns-clause-some
returns-clause-some c = rw (← c.self.view_is) (by c.get_index_of.result refl)
  where
    by : (r : Option ℕ) → c.get_index_of.result ≡ r → IfSome r (λ p. (v : SourceRecord)
        × (slice_get c.self.inside.map.entries p ≡ Some (c.args.key.now, v)))
    by None e = tt
    by (Some i) e =
        let f = found-at (source_eq.eq-value).it (λ (x : SourceKey). x) same_key source-eq c.args.key.now
        c.self.inside.map.entries i (sym c.get_index_of.ensures.index ∙ e) in
        let At : SourceKey → Type 0 = λ x. slice_get c.self.inside.map.entries i ≡ Some (x, f.1) in
        (f.1, subst At (sym (key-is c.args.key.now f.0 f.3)) f.2)

pub returns-clause-none : goal.returns-clause-none
returns-clause-none c = rw (← c.self.view_is) (by c.get_index_of.result refl)
  where
    by : (r : Option ℕ) → c.get_index_of.result ≡ r
        → IfNone r (among same_key (keys_in (λ (x : SourceKey). x) c.self.inside.map.entries) c.args.key.now ≡ false)
    by None e =
        sym (any-among (source_eq.eq-value).it (λ (x : SourceKey). x) same_key source-eq c.args.key.now
        c.self.inside.map.entries)
        ∙ sym (is_some-lookup ((source_eq.eq-value).it c.args.key.now) c.self.inside.map.entries)
        ∙ sym c.get_index_of.ensures.found ∙ ap is_some e
    by (Some i) e = tt
