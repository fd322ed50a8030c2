use Rattle.std.proofs.Common.{refl, ap, ◌∙◌, arith}
use Rattle.sflow_tool.proofs.Items.{none_taken}
use Rattle.sflow_tool.proofs.Turns.{all_turned, no_turns, one_turn, turn_failed}
use Rattle.sflow_tool.proofs.collect.receive_turns.Goals as goal

pub loop-count-init : goal.loop-count-init
loop-count-init g c = record {
  far = no_turns _ _ (none_taken _ _ _ _ _ _ c.requires.stands c.requires.classes);
  few = refl;
  within = omega arith;
  room = c.requires.room;
}

pub loop-count-preserved : goal.loop-count-preserved
loop-count-preserved g c =
    let before = c.loop-count.invariant in
    record {
      far = one_turn _ _ _ _ _ _ _ _ _ _ _ _ _ _ _ _ (omega (arith, before.within)) before.far c.in-Ok.ensures.turn
          c.in-Ok.ensures.moves;
      few = c.in-Ok.ensures.ended ∙ before.few;
      within = omega arith;
      room = omega (arith, before.room);
    }

pub receive_one-requires-clause-few : goal.receive_one-requires-clause-few
receive_one-requires-clause-few g c = omega (arith, c.loop-count.invariant.few, c.requires.few)

pub returns-clause-took : goal.returns-clause-took
returns-clause-took g c =
    all_turned _ _ _ _ _ (omega (arith, c.loop-count.invariant.within)) c.loop-count.invariant.far

pub returns-in_default-clause-took : goal.returns-in_default-clause-took
returns-in_default-clause-took g c =
    turn_failed _ _ _ _ _ _ _ _ _ _ _ _ _ _ _ _ (omega arith) c.loop-count.invariant.far c.in_default.ensures.moves
    c.in_default.ensures.failed.0 (ap (λ t. t.held.items) c.in_default.ensures.failed.1) c.in_default.ensures.ended
