use Rattle.std.proofs.Common.{◌≡◌, ◌∙◌, ◌+◌, ℕ, refl, sym, ap, to_z, of_z, arith}
use Rattle.std.specs.Int.{w128}
use Rattle.std.proofs.lemmas.Int.{ints}
use Rattle.stream_books.specs.Streams.{StreamState, stream_state}
use Rattle.stream_books.proofs.Steps.{begins}
use Rattle.stream_books.proofs.stream.StreamRecord.begin.Goals as goal

pub returns-clause-stands : goal.returns-clause-stands
returns-clause-stands c =
    let same : to_z w128 (of_z w128 c.args.start) ≡ c.args.start = omega (arith, ints) in
    let new : StreamState = record {
      ledger = c.enter.new.self;
      newest = to_z w128 (of_z w128 c.args.start);
      stale = c.self.inside.stale;
    } in
    rw (← c.self.view_is) (λ d bs stale mark word st.
    begins (stream_state c.self.inside) new d bs stale c.args.start c.args.sequence mark word st
    (λ current closed n old.
    c.enter.ensures.stands current closed (n ∙ ap (λ (b : ℕ). b + 1) (sym c.boot-boot.ensures.value)) old)
    (c.enter.ensures.boot ∙ ap (λ (b : ℕ). b + 1) c.boot-boot.ensures.value) same refl)
