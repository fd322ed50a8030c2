use Rattle.std.proofs.Common.{◌∙◌, List, sym, ap, subst, arith}
use Rattle.books_spec.specs.Items.{Source, Stream}
use Rattle.books_spec.specs.Books.{listed_streams, listed_sources}
use Rattle.books_spec.specs.PlacedSamples.{interface_boots}
use Rattle.collector_tables.specs.Keys.{source_in}
use Rattle.if_ledger.specs.Ledgers.{IfState}
use Rattle.if_ledger.specs.Boots.{StandsForBoots}
use Rattle.flow_collector.specs.Collectors.{BooksState, books_state, StandsFor}
use Rattle.flow_collector.specs.Interfaces.{interface_shown_of}
use Rattle.flow_collector.proofs.Found.{key-at}
use Rattle.flow_collector.proofs.Paired.{at-within, one-at, paired-length, paired-at}
use Rattle.flow_collector.proofs.books.Books.interface.Goals as goal

pub returns-in_err-ledger : goal.returns-in_err-ledger
returns-in_err-ledger c = record {
  view = λ l items st.
      let s : BooksState = books_state c.self.inside in
      let P : BooksState → Type 0 = λ t. StandsFor t l items in
      let stands = subst P (sym c.self.view_is) st in
      let streams : List Stream = listed_streams l items in
      let at = key-at (source_in streams) s.sources.entries (listed_sources l items) c.args.place c.in_ok-key.key.now
      c.in_ok-key.field-0-1.now c.in_ok-key.ensures.some stands.sources_stand.table.keys_are in
      let less = at-within (listed_sources l items) c.args.place (source_in streams c.in_ok-key.key.now) at in
      let same = paired-length (λ k t. StandsForBoots l.sample_width t (interface_boots l k items)) (listed_sources l items)
      s.interfaces.ledgers stands.interfaces_stand in
      let past = c.in_err-ledger.ensures.none in
      absurd (omega (arith, less, same, past));
}

pub returns : goal.returns
returns c = record {
  view = λ l items st.
      let s : BooksState = books_state c.self.inside in
      let P : BooksState → Type 0 = λ t. StandsFor t l items in
      let stands = subst P (sym c.self.view_is) st in
      let streams : List Stream = listed_streams l items in
      let source : Source = source_in streams c.in_ok-key.key.now in
      let at = key-at (source_in streams) s.sources.entries (listed_sources l items) c.args.place c.in_ok-key.key.now
      c.in_ok-key.field-0-1.now c.in_ok-key.ensures.some stands.sources_stand.table.keys_are in
      let own = paired-at (λ k t. StandsForBoots l.sample_width t (interface_boots l k items)) (listed_sources l items)
      s.interfaces.ledgers c.args.place source at stands.interfaces_stand in
      let S : IfState → Type 0 = λ t. StandsForBoots l.sample_width t (interface_boots l source items) in
      c.interface_view.ensures l.sample_width (interface_boots l source items)
      (subst S (one-at s.interfaces.ledgers c.args.place own.0 c.in_ok-ledger.ledger.now own.1 c.in_ok-ledger.ensures.some) own.2)
      ∙ ap (interface_shown_of l items) (sym at);
}
