use Rattle.std.proofs.Common.{◌∷◌, refl, sym, subst, arith}
use Rattle.books_spec.specs.Items.{Malformed}
use Rattle.flow_collector.specs.Collectors.{BooksState, books_state, StandsFor}
use Rattle.flow_collector.proofs.Kept.{entries-are}
use Rattle.flow_collector.proofs.Moves.{reject-stands}
use Rattle.flow_collector.proofs.books.Books.reject.Goals as goal

pub invariant_of-self : goal.invariant_of-self
invariant_of-self c =
    let s : BooksState = books_state c.self.inside in
    let v = c.self.invariant in
    let number = entries-are s s.limits v.items v.stands in
    let room = c.if-self-ge-MOST_ENTRIES.false in
    record {
      within = v.within;
      items = Malformed c.args.fault.now ∷ v.items;
      stands = reject-stands s s.limits v.items c.args.fault.now _
          (c.first_of-self-inside.ensures c.self.inside.totals.entries refl) v.stands;
      few_samples = v.few_samples;
      few_entries = omega (arith, number, room);
    }

pub returns-clause-stands : goal.returns-clause-stands
returns-clause-stands c = λ l items few st.
    let s : BooksState = books_state c.self.inside in
    let P : BooksState → Type 0 = λ t. StandsFor t l items in
    reject-stands s l items c.args.fault.now _ (c.first_of-self-inside.ensures c.self.inside.totals.entries refl)
    (subst P (sym c.self.view_is) st)
