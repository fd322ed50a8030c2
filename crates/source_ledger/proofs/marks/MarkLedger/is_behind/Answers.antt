use Rattle.std.proofs.Common.{ℕ, ◌∙◌, ap}
use Rattle.std.specs.Prelude.{int_le}
use Rattle.count_spec.specs.Windows.{near, greatest, counted}
use Rattle.source_ledger.proofs.marks.MarkLedger.is_behind.Goals as goal

pub returns : goal.returns
returns c = rw (← c.self.view_is) (λ current closed st.
    c.is_behind.ensures current st.window_stands
    ∙ ap (λ (w : ℕ). int_le (near c.args.mark (greatest (counted w current))) (greatest (counted w current))) st.width_is)
