use Rattle.std.proofs.Common.{ℕ, ◌<◌, sym, subst, arith}
use Rattle.flow_collector.specs.Collectors.{BooksState, books_state}
use Rattle.flow_collector.specs.Steps.{Midway}
use Rattle.flow_collector.proofs.Firsts.{stream-few, stream-numbered}
use Rattle.flow_collector.proofs.books.Books.stream_number.Goals as goal

pub prove-unreachable-requires : goal.prove-unreachable-requires
prove-unreachable-requires c =
    let s : BooksState = books_state c.self.inside in
    let M : BooksState → Type 0 = λ t. (index : ℕ) × Midway t c.args.found.now index in
    let mid = (subst M (sym c.self.view_is) c.requires).1 in
    let few : c.args.found.now.place < s.limits.streams = stream-few s.limits mid.items mid.datagram c.args.found.now mid.enters.found in
    let more = c.if-prove.true in
    omega (arith, few, more)

pub overflow_add-result : goal.overflow_add-result
overflow_add-result c =
    let s : BooksState = books_state c.self.inside in
    let M : BooksState → Type 0 = λ t. (index : ℕ) × Midway t c.args.found.now index in
    let mid = (subst M (sym c.self.view_is) c.requires).1 in
    let few : c.args.found.now.place < s.limits.streams = stream-few s.limits mid.items mid.datagram c.args.found.now mid.enters.found in
    let most = c.self.invariant.within.streams in
    omega (arith, few, most)

pub returns : goal.returns
returns c = λ l items d enters. stream-numbered l items d c.args.found.now enters.found
