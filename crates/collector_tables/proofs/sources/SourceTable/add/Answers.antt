use Rattle.std.proofs.Common.{◌≡◌, false, rules, subst, sym}
use Rattle.books_spec.specs.Listing.{among}
use Rattle.indexmap.proofs.CallerLemmas.{insert_entry-new}
use Rattle.collector_tables.specs.contracts.keys.SourceKeyPartialEq.TheImpl as source_eq
use Rattle.stream_books.specs.declared.source.SourceRecord.{SourceRecord}
use Rattle.collector_tables.specs.declared.keys.SourceKey.{SourceKey}
use Rattle.collector_tables.specs.Keys.{same_key}
use Rattle.collector_tables.specs.Tables.{Table, keys_in}
use Rattle.collector_tables.proofs.KeyTests.{absent-source}
use Rattle.collector_tables.proofs.sources.SourceTable.add.Goals as goal

pub returns-clause-entries : goal.returns-clause-entries
returns-clause-entries c =
    let P : Table SourceKey SourceRecord → Type 0 =
    λ t. among same_key (keys_in (λ (x : SourceKey). x) t.entries) c.args.key ≡ false in
    let none = absent-source c.self.inside.map c.args.key (subst P (sym c.self.view_is) c.requires.new) in
    let new = insert_entry-new (source_eq.eq-value).it c.self.inside.map c.args.key c.args.source none in
    search (rules, new)

pub invariant_of-self : goal.invariant_of-self
invariant_of-self c =
    let P : Table SourceKey SourceRecord → Type 0 =
    λ t. among same_key (keys_in (λ (x : SourceKey). x) t.entries) c.args.key ≡ false in
    let none = absent-source c.self.inside.map c.args.key (subst P (sym c.self.view_is) c.requires.new) in
    search (rules, none)
