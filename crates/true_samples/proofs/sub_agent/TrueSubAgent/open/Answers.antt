use Rattle.std.proofs.Common.{◌∙◌, map, sym, ap}
use Rattle.true_samples.proofs.Resets.{opened}
use Rattle.true_samples.proofs.sub_agent.TrueSubAgent.open.Goals as goal

pub returns : goal.returns
returns c = λ sender s up first sampled polled.
    opened sender s _ c.args.setup.now.flows.items c.args.setup.now.counters.items up (sym first) sampled polled
    (c.in_ok-flow_ids.ensures ∙ ap (map _) c.deref.ensures.value) (c.in_ok-counter_ids.ensures ∙ ap (map _) c.deref-2.ensures.value)
    (c.in_ok-new_flows.ensures ∙ ap (map _) c.deref-3.ensures.value)
    (c.in_ok-new_counters.ensures ∙ ap (map _) c.deref-4.ensures.value) c.new.ensures.items c.new-2.ensures c.new-3.ensures.items
