use Rattle.std.proofs.Common.{refl, ap, ◌∙◌, arith}
use Rattle.sflow_tool.proofs.Items.{none_taken}
use Rattle.sflow_tool.proofs.RelayRuns.{few_gone, one_relayed, relay_failed}
use Rattle.sflow_tool.proofs.Turns.{all_turned, no_turns}
use Rattle.sflow_tool.proofs.relay.relay_turns.Goals as goal

pub loop-count-init : goal.loop-count-init
loop-count-init g c = record {
  far = no_turns _ _ (none_taken _ _ _ _ _ _ c.requires.stands c.requires.classes, c.aim.ensures.begins);
  few = refl;
  within = omega arith;
  room = c.requires.room;
  many = omega (arith, c.aim.ensures.begins.many, c.aim.new.self.held.ok.0, c.args.receivers.now.held.ok.0);
}

pub loop-count-preserved : goal.loop-count-preserved
loop-count-preserved g c =
    let before = c.loop-count.invariant in
    record {
      far = one_relayed _ _ _ _ _ _ _ _ _ _ _ _ _ _ _ _ _ _ _ _ _ _ (omega (arith, before.within)) before.far c.in-Ok.ensures.turn
          c.in-Ok.ensures.moves;
      few = c.in-Ok.ensures.ended ∙ before.few;
      within = omega arith;
      room = omega (arith, before.room);
      many = c.in-Ok.ensures.many ∙ before.many;
    }

pub relay_one-requires-clause-few : goal.relay_one-requires-clause-few
relay_one-requires-clause-few g c = omega (arith, c.loop-count.invariant.few, c.requires.few)

pub leave_room-requires : goal.leave_room-requires
leave_room-requires g c = omega (arith, c.loop-count.invariant.many, c.requires.enough)

pub relay_one-requires-clause-enough : goal.relay_one-requires-clause-enough
relay_one-requires-clause-enough g c = omega (arith, c.loop-count.invariant.many, c.requires.enough)

pub relay_one-requires-clause-counts : goal.relay_one-requires-clause-counts
relay_one-requires-clause-counts g c =
    let before = c.loop-count.invariant in
    c.leave_room.ensures _ _ before.far.were.1
    (omega (arith, few_gone _ _ _ _ _ _ _ _ _ _ _ _ _ _ _ _ (omega (arith, before.within)) before.far))

pub returns-clause-took : goal.returns-clause-took
returns-clause-took g c =
    all_turned _ _ _ _ _ (omega (arith, c.loop-count.invariant.within)) c.loop-count.invariant.far

pub returns-in_default-clause-took : goal.returns-in_default-clause-took
returns-in_default-clause-took g c =
    relay_failed _ _ _ _ _ _ _ _ _ _ _ _ _ _ _ _ _ _ _ _ _ _ _ (omega arith) c.loop-count.invariant.far c.in_default.ensures.moves
    c.in_default.ensures.failed.0 (ap (λ t. t.held.items) c.in_default.ensures.failed.1) c.in_default.ensures.ended
    (ap (λ r. r.held.items) c.in_default.ensures.failed.2) (ap (λ r. r.progress) c.in_default.ensures.failed.2)

pub returns-clause-many : goal.returns-clause-many
returns-clause-many g c = c.loop-count.invariant.many

pub returns-in_default-clause-many : goal.returns-in_default-clause-many
returns-in_default-clause-many g c = c.in_default.ensures.many ∙ c.loop-count.invariant.many
