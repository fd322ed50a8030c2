use Rattle.std.proofs.Common.{◌≡◌, ◌∙◌, [], ◌∷◌, refl, ap, arith}
use Rattle.agent_spec.specs.Counting.{next_count}
use Rattle.agent_outlets.specs.Outlets.{Took}
use Rattle.sub_agents.specs.Sent.{next_put}
use Rattle.sub_agents.specs.SubAgents.{SubAgentState}
use Rattle.sub_agents.proofs.PollRuns.{when-err, when-ok}
use Rattle.sub_agents.proofs.Sends.{numbers-less}
use Rattle.sub_agents.proofs.SendRuns.{run-start, run-idle, run-step, run-end, run-failed}
use Rattle.sub_agents.proofs.sub_agent.SubAgent.send.Goals as goal

pub loop-turn-init : goal.loop-turn-init
loop-turn-init g c = record {
  run = run-start c.args.self.now (g.O.Outlet.taken c.args.outlet.now) c.args.uptime;
  kept = refl;
}

pub loop-turn-preserved-then-waiting-eq0 : goal.loop-turn-preserved-then-waiting-eq0
loop-turn-preserved-then-waiting-eq0 g c =
    let h = c.loop-turn.invariant in
    record {
      run = run-idle c.args.self.now c.loop-turn.self (g.O.Outlet.taken c.args.outlet.now) (g.O.Outlet.taken c.loop-turn.outlet)
          c.args.uptime c.loop-turn.turn c.loop-turn.count h.run
          (omega (arith, c.waiting.ensures.value, c.if-waiting-eq0.true));
      kept = h.kept;
    }

pub loop-turn-preserved : goal.loop-turn-preserved
loop-turn-preserved g c =
    let h = c.loop-turn.invariant in
    let v : SubAgentState = c.loop-turn.self in
    let took : Took (g.O.Outlet.taken c.loop-turn.outlet) (g.O.Outlet.taken c.put_next.new.outlet) (next_put v c.args.uptime ∷ []) =
    when-ok c.put_next.result c.is_err.result c.is_err.ensures.value c.if-is_err.false c.put_next.ensures.taken in
    let kept : g.O.Outlet.faults c.put_next.new.outlet ≡ g.O.Outlet.faults c.loop-turn.outlet =
    when-ok c.put_next.result c.is_err.result c.is_err.ensures.value c.if-is_err.false c.put_next.ensures.kept in
    record {
      run = run-step c.args.self.now v c.put_next.new.self (g.O.Outlet.taken c.args.outlet.now) (g.O.Outlet.taken c.loop-turn.outlet)
          (g.O.Outlet.taken c.put_next.new.outlet) c.args.uptime c.loop-turn.turn c.loop-turn.count h.run
          (omega (arith, c.waiting.ensures.value, c.if-waiting-eq0.false)) c.put_next.ensures.after took;
      kept = kept ∙ h.kept;
    }

pub put_next-requires-clause-numbered : goal.put_next-requires-clause-numbered
put_next-requires-clause-numbered g c =
    let h = c.loop-turn.invariant in
    omega (
      arith,
      c.requires,
      numbers-less c.args.self.now c.loop-turn.self h.run.sending.done h.run.sending.left,
      h.run.sending.counted,
      h.run.within,
      c.loop-turn-test.true,
      c.waiting-turn-end.ensures.most,
    )

pub returns-then-is_err-clause-sends : goal.returns-then-is_err-clause-sends
returns-then-is_err-clause-sends g c = λ b st.
    let h = c.loop-turn.invariant in
    let same : g.O.Outlet.taken c.put_next.new.outlet ≡ g.O.Outlet.taken c.loop-turn.outlet =
    when-err c.put_next.result c.is_err.result c.is_err.ensures.value c.if-is_err.true c.put_next.ensures.unchanged in
    run-failed c.args.self.now c.loop-turn.self c.put_next.new.self b (g.O.Outlet.taken c.args.outlet.now)
    (g.O.Outlet.taken c.loop-turn.outlet) (g.O.Outlet.taken c.put_next.new.outlet) c.args.uptime c.loop-turn.turn c.loop-turn.count
    st h.run (omega (arith, c.waiting.ensures.value, c.if-waiting-eq0.false)) c.put_next.ensures.after same

pub returns-then-is_err-clause-failed : goal.returns-then-is_err-clause-failed
returns-then-is_err-clause-failed g c =
    let failed : g.O.Outlet.faults c.put_next.new.outlet ≡ next_count (g.O.Outlet.faults c.loop-turn.outlet) =
    when-err c.put_next.result c.is_err.result c.is_err.ensures.value c.if-is_err.true c.put_next.ensures.failed in
    failed ∙ ap next_count c.loop-turn.invariant.kept

pub overflow_add-count : goal.overflow_add-count
overflow_add-count g c =
    omega (arith, c.loop-turn.invariant.run.within, c.loop-turn-test.true, c.waiting-turn-end.ensures.most)

pub returns-clause-sends : goal.returns-clause-sends
returns-clause-sends g c = λ b st.
    run-end c.args.self.now c.loop-turn.self b (g.O.Outlet.taken c.args.outlet.now) (g.O.Outlet.taken c.loop-turn.outlet)
    c.args.uptime c.loop-turn.turn c.loop-turn.count st c.loop-turn.invariant.run
    (omega (arith, c.loop-turn-test.false, c.waiting-turn-end.ensures.value))

pub returns-clause-kept : goal.returns-clause-kept
returns-clause-kept g c = c.loop-turn.invariant.kept
