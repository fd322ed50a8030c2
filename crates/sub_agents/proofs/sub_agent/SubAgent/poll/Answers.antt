use Rattle.std.proofs.Common.{◌≡◌, ◌∙◌, ◌<◌, true, length, sym, subst, arith}
use Rattle.agent_spec.specs.Counting.{next_count}
use Rattle.sub_agents.specs.Polls.{is_due_at, Polled, PolledOne}
use Rattle.sub_agents.specs.SubAgents.{SubAgentState}
use Rattle.sub_agents.proofs.PollRuns.{some-get, when-err, when-ok, polling-start, polling-full, polling-later, polling-step, polling-stands, polling-all}
use Rattle.sub_agents.proofs.sub_agent.SubAgent.poll.Goals as goal

pub loop-place-init : goal.loop-place-init
loop-place-init g c = record {
  polling = polling-start g.M.Meter.gives g.M.Meter.faults c.args.self.now c.args.uptime c.args.meter.now;
  within = omega arith;
  few = omega arith;
}

pub loop-place-preserved-then-count-places : goal.loop-place-preserved-then-count-places
loop-place-preserved-then-count-places g c =
    let s : SubAgentState = c.args.self.now in
    let h = c.loop-place.invariant in
    record {
      polling = polling-full g.M.Meter.gives g.M.Meter.faults s c.loop-place.self c.args.uptime c.loop-place.place c.loop-place.count
          c.args.meter.now c.loop-place.meter h.polling (omega (arith, c.if-count-places.true, c.places-places.ensures.value))
          (omega (arith, c.loop-place-test.true, c.sources_polled-place-end.ensures));
      within = omega (arith, h.within);
      few = h.few;
    }

pub loop-place-preserved-then-not-is_due : goal.loop-place-preserved-then-not-is_due
loop-place-preserved-then-not-is_due g c =
    let s : SubAgentState = c.args.self.now in
    let v : SubAgentState = c.loop-place.self in
    let h = c.loop-place.invariant in
    let within : c.loop-place.place < length v.pollers =
    omega (arith, c.loop-place-test.true, c.sources_polled-place-end.ensures, h.polling.many) in
    let some = some-get v.pollers c.loop-place.place within in
    record {
      polling = polling-later g.M.Meter.gives g.M.Meter.faults s v c.args.uptime c.loop-place.place c.loop-place.count
          c.args.meter.now c.loop-place.meter some.0 h.polling some.1 (sym (c.is_due.ensures some.0 some.1) ∙ c.if-not-is_due.true);
      within = omega (arith, h.within);
      few = h.few;
    }

pub loop-place-preserved : goal.loop-place-preserved
loop-place-preserved g c =
    let s : SubAgentState = c.args.self.now in
    let v : SubAgentState = c.loop-place.self in
    let h = c.loop-place.invariant in
    let one : PolledOne g.M.Meter.gives g.M.Meter.faults v c.poll_at.new.self c.loop-place.place c.args.uptime
    c.loop-place.meter c.poll_at.new.meter =
    when-ok c.poll_at.result c.is_err.result c.is_err.ensures.value c.if-is_err.false c.poll_at.ensures.polled in
    let due_now : is_due_at c.args.uptime one.old ≡ true =
    sym (c.is_due.ensures one.old one.at) ∙ c.if-not-is_due.false in
    record {
      polling = polling-step g.M.Meter.gives g.M.Meter.faults s v c.poll_at.new.self c.args.uptime c.loop-place.place c.loop-place.count
          c.args.meter.now c.loop-place.meter c.poll_at.new.meter h.polling one
          (omega (arith, c.if-count-places.false, c.places-places.ensures.value)) due_now;
      within = omega (arith, h.within);
      few = omega (arith, c.if-count-places.false);
    }

pub returns-then-is_err-clause-polls : goal.returns-then-is_err-clause-polls
returns-then-is_err-clause-polls g c = λ b st fits.
    let s : SubAgentState = c.args.self.now in
    let v : SubAgentState = c.loop-place.self in
    let same : c.poll_at.new.self ≡ v =
    when-err c.poll_at.result c.is_err.result c.is_err.ensures.value c.if-is_err.true c.poll_at.ensures.unchanged in
    let failed : g.M.Meter.faults c.poll_at.new.meter ≡ next_count (g.M.Meter.faults c.loop-place.meter) =
    when-err c.poll_at.result c.is_err.result c.is_err.ensures.value c.if-is_err.true c.poll_at.ensures.failed in
    let stands : Polled g.M.Meter.gives g.M.Meter.faults s v b c.args.uptime c.args.meter.now c.loop-place.meter =
    (polling-stands g.M.Meter.gives g.M.Meter.faults s v c.args.uptime c.loop-place.place c.loop-place.count c.args.meter.now
    c.loop-place.meter c.loop-place.invariant.polling c.places-places.ensures.within b st).0 in (
      c.loop-place.meter,
      subst (λ (k : SubAgentState). Polled g.M.Meter.gives g.M.Meter.faults s k b c.args.uptime c.args.meter.now c.loop-place.meter)
          (sym same) stands,
      failed,
    )

pub returns-clause-polls : goal.returns-clause-polls
returns-clause-polls g c = λ b st fits.
    let s : SubAgentState = c.args.self.now in
    let h = c.loop-place.invariant.polling in
    let done = polling-stands g.M.Meter.gives g.M.Meter.faults s c.loop-place.self c.args.uptime c.loop-place.place
    c.loop-place.count c.args.meter.now c.loop-place.meter h c.places-places.ensures.within b st in
    let all = polling-all g.M.Meter.gives g.M.Meter.faults s c.loop-place.self c.args.uptime c.loop-place.place c.loop-place.count
    c.args.meter.now c.loop-place.meter h (omega (arith, c.loop-place-test.false, c.sources_polled-place-end.ensures)) in
    (done.0, done.1, all)
