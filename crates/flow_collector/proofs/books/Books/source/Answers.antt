use Rattle.std.proofs.Common.{◌∙◌, ◌+◌, Some, length, sym, ap, subst, arith}
use Rattle.books_spec.specs.Listing.{same_stream}
use Rattle.collector_tables.specs.Keys.{stream_in}
use Rattle.collector_tables.proofs.Tables.{keys-length}
use Rattle.flow_collector.specs.Collectors.{BooksState, books_state, StandsFor}
use Rattle.flow_collector.proofs.Counts.{source-kept}
use Rattle.flow_collector.proofs.Found.{boots-at-place}
use Rattle.flow_collector.proofs.Shows.{source-shown, placed-at, place-few}
use Rattle.flow_collector.proofs.books.Books.source.Goals as goal

pub returns-in_err-stream-clause-view : goal.returns-in_err-stream-clause-view
returns-in_err-stream-clause-view c = λ l items st.
    let s : BooksState = books_state c.self.inside in
    let P : BooksState → Type 0 = λ t. StandsFor t l items in
    let stands = subst P (sym c.self.view_is) st in
    let less = placed-at l items s.sources.entries c.args.place c.in_ok-key.key.now c.in_ok-key.source.now
    c.in_ok-key.ensures.some stands.sources_stand in
    let past = c.in_err-stream.ensures.none in
    let same = sym (keys-length stream_in same_stream s.streams.entries) ∙ ap length stands.streams_stand.keys_are in
    absurd (omega (arith, less, past, same))

pub overflow_add-result : goal.overflow_add-result
overflow_add-result c =
    let s : BooksState = books_state c.self.inside in
    let v = c.self.invariant in
    let less = place-few s.limits v.items s.sources.entries c.args.place c.in_ok-key.key.now c.in_ok-key.source.now
    c.in_ok-key.ensures.some v.stands.sources_stand in
    let few = v.within.streams in
    omega (arith, less, few)

pub view-view-requires : goal.view-view-requires
view-view-requires c =
    let s : BooksState = books_state c.self.inside in
    let v = c.self.invariant in
    let kept = source-kept s.limits v.items s.sources.entries c.args.place c.in_ok-key.key.now c.in_ok-key.source.now
    c.in_ok-key.ensures.some v.stands.sources_stand in
    let boot = kept.0 in
    let is = c.boots.ensures.value in
    let own = boots-at-place s.limits s.streams.entries v.items c.in_ok-key.key.now.stream _ _ c.in_ok-stream.ensures.some
    v.stands.streams_stand in
    omega (arith, boot, is, own)

pub returns-clause-view : goal.returns-clause-view
returns-clause-view c = λ l items st.
    let s : BooksState = books_state c.self.inside in
    let P : BooksState → Type 0 = λ t. StandsFor t l items in
    let stands = subst P (sym c.self.view_is) st in
    (λ j. Some (record {
      stream = c.in_ok-key.key.now.stream + 1;
      id = record {
        flow = c.is_flow.ensures j;
        class = c.in_ok-key.key.now.source.class;
        index = c.in_ok-key.key.now.source.index;
      };
      view = c.view-view.result;
    })) ∙ source-shown l items s.sources.entries c.args.place c.in_ok-key.key.now c.in_ok-key.source.now c.boots.result _
    c.in_ok-key.ensures.some
    (c.boots.ensures.value ∙ boots-at-place l s.streams.entries items c.in_ok-key.key.now.stream _ _
    c.in_ok-stream.ensures.some stands.streams_stand)
    c.view-view.ensures.view stands.sources_stand
