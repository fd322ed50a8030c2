use Rattle.std.proofs.Common.{refl, ◌∙◌, arith}
use Rattle.late_window.proofs.Recent.{recent-held}
use Rattle.late_window.proofs.window.Window.open.Goals as goal

pub returns-clause-stands : goal.returns-clause-stands
returns-clause-stands c = record {
  all_entered = refl;
  shows = record {
    all_received = refl;
    newest_is = refl;
    least_is = refl;
    recent_are = λ k within.
        recent-held (record { width = c.args.width; entered = 0; received = 0; pending = 0; newest = _; span = 0; recent = c.empty.result }) k within
        ∙ c.empty.ensures.none k (omega (arith, c.empty.ensures.room));
  };
}
