use Rattle.std.proofs.Common.{◌≡◌, false, rules, subst, sym}
use Rattle.books_spec.specs.Listing.{same_stream, among}
use Rattle.indexmap.proofs.CallerLemmas.{insert_entry-new}
use Rattle.collector_tables.specs.contracts.keys.StreamKeyPartialEq.TheImpl as stream_eq
use Rattle.stream_books.specs.Streams.{StreamState}
use Rattle.collector_tables.specs.declared.keys.StreamKey.{StreamKey}
use Rattle.collector_tables.specs.Keys.{stream_in}
use Rattle.collector_tables.specs.Tables.{Table, keys_in}
use Rattle.collector_tables.proofs.KeyTests.{absent-stream}
use Rattle.collector_tables.proofs.streams.StreamTable.add.Goals as goal

pub returns-clause-entries : goal.returns-clause-entries
returns-clause-entries c =
    let P : Table StreamKey StreamState → Type 0 =
    λ t. among same_stream (keys_in stream_in t.entries) (stream_in c.args.key) ≡ false in
    let none = absent-stream c.self.inside.map c.args.key (subst P (sym c.self.view_is) c.requires.new) in
    let new = insert_entry-new (stream_eq.eq-value).it c.self.inside.map c.args.key c.args.stream none in
    search (rules, new)

pub invariant_of-self : goal.invariant_of-self
invariant_of-self c =
    let P : Table StreamKey StreamState → Type 0 =
    λ t. among same_stream (keys_in stream_in t.entries) (stream_in c.args.key) ≡ false in
    let none = absent-stream c.self.inside.map c.args.key (subst P (sym c.self.view_is) c.requires.new) in
    search (rules, none)
