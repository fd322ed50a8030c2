use Rattle.std.proofs.Common.{sym, ap}
use Rattle.text_lines.proofs.PageLaws.{prints_same}
use Rattle.show_lines.specs.Shown.{outcome_of, outcome_text}
use Rattle.show_lines.proofs.entry.put_outcome.Goals as goal

pub returns-in-Ok : goal.returns-in-Ok
unfolding outcome_of
returns-in-Ok g c =
    prints_same _ _ _ _ _ _ _ (sym (ap outcome_text c.in-Ok.ensures.exact)) c.put_datagram.ensures

pub returns-in-Err : goal.returns-in-Err
unfolding outcome_of
returns-in-Err g c =
    prints_same _ _ _ _ _ _ _ (sym (ap outcome_text c.in-Err.ensures.exact)) c.put_fault.ensures
