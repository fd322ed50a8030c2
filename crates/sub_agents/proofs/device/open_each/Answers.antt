use Rattle.std.proofs.Common.{◌≡◌, List, [], ◌∷◌, ◌++◌, sym, subst}
use Rattle.std.specs.declared.option.Option.TheVariants.{None}
use Rattle.std.specs.Vec.Iter.{into_iter_items}
use Rattle.agent_setups.specs.Faults.{setup_fault}
use Rattle.sub_agents.specs.SubAgents.{SubAgentState}
use Rattle.sub_agents.proofs.OpenRuns.{AreOpened, opened-step, sound, pushed-items, all-next}
use Rattle.sub_agents.proofs.device.open_each.Goals as goal

pub loop-setup-preserved : goal.loop-setup-preserved
loop-setup-preserved c =
    let s : SubAgentState = c.in-Ok-open.sub_agent in
    let none : setup_fault c.args.form c.in-Some.setup ≡ None =
    sound (setup_fault c.args.form c.in-Some.setup) c.open.result s c.in-Ok-open.is c.open.ensures.bad in
    record {
      opened = subst (λ (l : List SubAgentState). AreOpened c.args.form l (c.loop-setup.yielded ++ c.in-Some.setup ∷ []))
          (sym (pushed-items c.push.result c.is_err.result c.push.new.self.items (c.loop-setup.subs.items ++ s ∷ [])
          c.loop-setup.subs.items c.is_err.ensures.value c.if-is_err.false c.push.ensures.items))
          (opened-step c.args.form c.loop-setup.subs.items c.loop-setup.yielded s c.in-Some.setup
          c.loop-setup.invariant.opened c.in-Ok-open.ensures.stands none);
      all = all-next c.loop-setup.yielded c.in-Some.setup (into_iter_items c.loop-setup.setup-iterator) (into_iter_items c.next.new.self)
          c.args.setups.items c.loop-setup.invariant.all c.in-Some.ensures.steps.0;
    }
