use Rattle.std.proofs.Common.{sym, subst}
use Rattle.flow_collector.specs.Collectors.{BooksState, books_state, StandsFor}
use Rattle.flow_collector.proofs.Shows.{stream-shown}
use Rattle.flow_collector.proofs.books.Books.stream.Goals as goal

pub returns-clause-view : goal.returns-clause-view
returns-clause-view c = λ l items st.
    let s : BooksState = books_state c.self.inside in
    let P : BooksState → Type 0 = λ t. StandsFor t l items in
    let stands = subst P (sym c.self.view_is) st in
    stream-shown l items s.streams.entries c.args.place c.in_ok-key.key.now c.in_ok-key.stream.now c.boots.result
    c.stale.result _ c.in_ok-key.ensures.some c.boots.ensures.boots c.stale.ensures.items c.view.ensures.view
    stands.streams_stand
