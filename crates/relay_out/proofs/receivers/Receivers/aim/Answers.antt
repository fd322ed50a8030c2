use Rattle.std.proofs.Common.{rules, refl, arith, length, ◌<◌}
use Rattle.relay_out.proofs.Steps.{none_aimed, aim_next, all_aimed}
use Rattle.relay_out.proofs.Served.{begins}
use Rattle.relay_out.proofs.receivers.Receivers.aim.Goals as goal

pub loop-at-init : goal.loop-at-init
loop-at-init g c =
    record { fits = search rules; places = refl; done = none_aimed _ c.args.routes.now _ _ c.start-self.result c.start-self.ensures }

pub loop-at-preserved : goal.loop-at-preserved
loop-at-preserved g c =
    let below = c.loop-at-test.true in
    let count = c.len-at-end.ensures.count in
    let most = c.len-at-end.ensures.most in
    let fits = c.loop-at.invariant.fits in
    let places = c.loop-at.invariant.places in
    let in_routes : c.loop-at.at < length c.args.routes.now = omega arith in
    let inside : c.loop-at.at < length c.loop-at.self.held.items = omega (arith, c.loop-at.self.held.ok.0) in
    let counted : c.loop-at.at < length c.loop-at.self.progress = omega arith in
    record {
      fits = search rules;
      places = search rules;
      done = aim_next _ c.args.routes.now _ _ c.loop-at.self.held.items c.loop-at.self.progress c.loop-at.at
          c.index_mut.result.now c.aim_one.new.receiver c.aim_one.result in_routes inside counted c.index_mut.ensures.value
          c.place.result.now c.place.ensures c.loop-at.invariant.done c.aim_one.ensures;
    }

pub returns-clause-aimed : goal.returns-clause-aimed
returns-clause-aimed g c =
    let past = c.loop-at-test.false in
    all_aimed _ c.args.routes.now _ _ c.loop-at.at _ _ (omega (arith, c.len-at-end.ensures.count)) c.loop-at.invariant.done

pub returns-clause-begins : goal.returns-clause-begins
returns-clause-begins g c =
    let past = c.loop-at-test.false in
    begins _ c.args.routes.now _ _ _ _
    (all_aimed _ c.args.routes.now _ _ c.loop-at.at _ _ (omega (arith, c.len-at-end.ensures.count)) c.loop-at.invariant.done)
