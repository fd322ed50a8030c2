use Rattle.std.proofs.Common.{rules, sym, subst}
use Rattle.byte_ends.specs.Seen.{Gives}
use Rattle.byte_ends.proofs.Prefixes.{gives-trans}
use Rattle.byte_ends.proofs.Rooms.{take-filled}
use Rattle.byte_ends.proofs.read_ahead.ReadAhead.read_most.Goals as goal

pub loop-filled-preserved : goal.loop-filled-preserved
loop-filled-preserved g c =
    let before = c.loop-filled.invariant in
    let read = c.in_ok-count.ensures in
    let joined =
    take-filled c.loop-filled.filled _ c.in_ok-count.count c.loop-filled.room _ before.within read.bound.0 in
    record {
      within = search rules;
      given = subst (Gives _ _) (sym joined) (gives-trans _ _ _ _ _ before.given read.reads.0);
    }
