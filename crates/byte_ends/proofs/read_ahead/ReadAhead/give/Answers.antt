use Rattle.std.proofs.Common.{◌≡◌, ◌≤◌, length, take, slice_range, arith, sym, ap, ◌∙◌}
use Rattle.byte_ends.proofs.Rooms.{given_front}
use Rattle.byte_ends.proofs.read_ahead.ReadAhead.give.Goals as goal

pub returns-clause-bytes : goal.returns-clause-bytes
returns-clause-bytes c =
    let held : slice_range c.deref.result.now c.self.inside.from c.self.inside.to ≡ c.args.self.now =
    ap (λ l. slice_range l c.self.inside.from c.self.inside.to) c.deref.ensures.value ∙ c.self.view_is in
    let fits : c.min-count.result ≤ length c.args.self.now = omega (arith, ap length held, c.min-count.ensures) in
    given_front _ _ _ _ _ _ _ (sym c.self.view_is) c.self.invariant.0
    (c.copy_from_slice.ensures.after ∙ ap (take c.min-count.result) held) fits
