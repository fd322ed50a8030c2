use Rattle.std.proofs.Common.{◌∷◌, sym, subst, arith}
use Rattle.books_spec.specs.Items.{Other, Got}
use Rattle.flow_collector.specs.Collectors.{BooksState, books_state, StandsFor}
use Rattle.flow_collector.specs.Steps.{Midway, with_sample}
use Rattle.flow_collector.proofs.Kept.{other-few}
use Rattle.flow_collector.proofs.Lists.{length-last}
use Rattle.flow_collector.proofs.Moves.{other-stands}
use Rattle.flow_collector.proofs.books.Books.enter_other.Goals as goal

pub overflow_add-self : goal.overflow_add-self
overflow_add-self c =
    let s : BooksState = books_state c.self.inside in
    let v = c.self.invariant in
    let some = other-few s s.limits v.items v.stands v.few_samples in
    let few = v.few_entries in
    omega (arith, some, few)

pub invariant_of-self : goal.invariant_of-self
invariant_of-self c =
    let s : BooksState = books_state c.self.inside in
    let v = c.self.invariant in
    let M : BooksState → Type 0 = λ t. Midway t c.args.found.now c.args.index in
    let mid = subst M (sym c.self.view_is) c.requires.midway in
    let longer = length-last mid.datagram.samples Other in
    let count = mid.index_is in
    let room = mid.few_entries in
    record {
      within = v.within;
      items = Got (with_sample mid.datagram Other) ∷ mid.items;
      stands = other-stands s s.limits mid.items mid.datagram mid.enters.first mid.stands;
      few_samples = (omega (arith, longer, count, c.requires.few), mid.few_samples);
      few_entries = omega (arith, room);
    }

pub returns : goal.returns
returns c = record {
  stands = λ l items d enters same st.
      let s : BooksState = books_state c.self.inside in
      let P : BooksState → Type 0 = λ t. StandsFor t l (Got d ∷ items) in
      other-stands s l items d enters.first (subst P (sym c.self.view_is) st);
}
