use Rattle.std.proofs.Common.{◌≡◌, ◌∙◌, cond, refl, sym, to_z, of_z, arith}
use Rattle.std.specs.Int.{w128}
use Rattle.std.proofs.lemmas.Int.{ints}
use Rattle.count_spec.specs.Windows.{is_newest}
use Rattle.stream_books.specs.Streams.{StreamState, stream_state}
use Rattle.stream_books.proofs.Steps.{joins}
use Rattle.stream_books.proofs.stream.StreamRecord.enter.Goals as goal

pub returns-clause-stands : goal.returns-clause-stands
returns-clause-stands c =
    let same : to_z w128 (of_z w128 c.newest_of-self-inside.result) ≡ c.newest_of-self-inside.result =
    omega (arith, ints) in
    let starts : to_z w128 (of_z w128 c.args.start) ≡ c.args.start = omega (arith, ints) in
    let olds : to_z w128 (of_z w128 c.self.inside.newest) ≡ c.self.inside.newest = omega (arith, ints) in
    let new : StreamState = record {
      ledger = c.enter-entered.new.self;
      newest = to_z w128 (of_z w128 c.newest_of-self-inside.result);
      stale = c.self.inside.stale;
    } in
    rw (← c.self.view_is) (λ d current closed stale mark word st.
    joins (stream_state c.self.inside) new d current closed stale c.args.start c.args.sequence
    c.enter-entered.result mark word st
    (λ marks more n old. c.enter-entered.ensures.stands marks more (n ∙ sym c.boot-boot.ensures.value) old)
    (λ marks more n old. c.enter-entered.ensures.answer marks more (n ∙ sym c.boot-boot.ensures.value) old)
    c.enter-entered.ensures.width (c.enter-entered.ensures.boot ∙ c.boot-boot.ensures.value)
    (same ∙ c.newest_of-self-inside.ensures
    ∙ (λ j. cond (is_newest c.enter-entered.result) (starts j) (olds j))) refl)
