use Rattle.std.proofs.Common.{rules, refl, sym, subst, arith, length, ◌<◌}
use Rattle.relay_out.specs.declared.progress.Progress.{Progress}
use Rattle.relay_out.specs.Relays.{progress_at}
use Rattle.relay_out.proofs.Steps.{not_passed_yet, pass_next, all_passed}
use Rattle.relay_out.proofs.Followed.{follows}
use Rattle.relay_out.proofs.Served.{serves}
use Rattle.relay_out.proofs.receivers.Receivers.pass.Goals as goal

pub pass_one-requires : goal.pass_one-requires
pass_one-requires g c =
    let below = c.loop-at-test.true in
    let count = c.len-at-end.ensures.count in
    let fits = c.requires.fits in
    let in_routes : c.loop-at.at < length c.args.routes.now = omega arith in
    let there : c.loop-at.at < length c.args.self.now.held.items = omega (arith, c.args.self.now.held.ok.0) in
    subst (λ (p : Progress). p.passed < 18446744073709551615)
    (sym (not_passed_yet _ c.args.routes.now _ _ _ _ c.loop-at.at _ c.loop-at.invariant.done there))
    (c.requires.counts c.loop-at.at in_routes)

pub loop-at-preserved : goal.loop-at-preserved
loop-at-preserved g c =
    let below = c.loop-at-test.true in
    let count = c.len-at-end.ensures.count in
    let most = c.len-at-end.ensures.most in
    let fits = c.loop-at.invariant.fits in
    let places = c.loop-at.invariant.places in
    let in_routes : c.loop-at.at < length c.args.routes.now = omega arith in
    let inside : c.loop-at.at < length c.loop-at.self.held.items = omega (arith, c.loop-at.self.held.ok.0) in
    let counted : c.loop-at.at < length c.loop-at.self.progress = omega arith in
    record {
      fits = search rules;
      places = search rules;
      done = pass_next _ c.args.routes.now _ _ c.loop-at.self.held.items c.loop-at.self.progress c.loop-at.at
          c.index_mut.result.now c.pass_one.new.receiver c.pass_one.result in_routes inside counted c.index_mut.ensures.value
          _ (progress_at c.loop-at.self.progress c.loop-at.at) c.takes-takes.result c.goes_on-goes.result refl
          c.takes-takes.ensures c.goes_on-goes.ensures c.loop-at.invariant.done c.pass_one.ensures;
    }

pub returns-clause-passed : goal.returns-clause-passed
returns-clause-passed g c =
    let past = c.loop-at-test.false in
    all_passed _ c.args.routes.now _ _ _ c.loop-at.at _ _ (omega (arith, c.len-at-end.ensures.count)) c.loop-at.invariant.done

pub returns-clause-follows : goal.returns-clause-follows
returns-clause-follows g c =
    let past = c.loop-at-test.false in
    λ before xs was rel. follows _ c.args.routes.now xs was _ _ _ _ before _ rel
    (all_passed _ c.args.routes.now _ _ _ c.loop-at.at _ _ (omega (arith, c.len-at-end.ensures.count)) c.loop-at.invariant.done)

pub returns-clause-serves : goal.returns-clause-serves
returns-clause-serves g c =
    let past = c.loop-at-test.false in
    λ before xs run. serves _ c.args.routes.now xs before _ _ _ _ _ run
    (all_passed _ c.args.routes.now _ _ _ c.loop-at.at _ _ (omega (arith, c.len-at-end.ensures.count)) c.loop-at.invariant.done)
