use Rattle.std.proofs.Common.{◌≡◌, ℕ, ◌∷◌, ap, sym, subst}
use Rattle.agent_spec.specs.Sources.{Source}
use Rattle.script_spec.specs.Lines.{FlowLine, CounterLine}
use Rattle.script_spec.specs.Agents.{Owned}
use Rattle.script_tables.specs.Tables.{TablesState, Tells}
use Rattle.script_tables.proofs.GoesOn.{flow_goes_on, counter_goes_on}
use Rattle.script_tables.proofs.SetRows.{on_ok}
use Rattle.script_tables.proofs.tables.ScriptTables.add_source.Goals as goal

of_source : (id : ℕ) (a b : Source) → a ≡ b → ◌≡◌ {A = Owned} (record { owner = id; source = b }) (record { owner = id; source = a })
of_source id a b e = ap (λ (s : Source). record { owner = id; source = s }) (sym e)

pub returns-clause-flow : goal.returns-clause-flow
returns-clause-flow c = on_ok c.push_source.result (λ is. λ lines f lawful source tells.
    subst (λ (t : TablesState). Tells t (FlowLine c.args.id f ∷ lines)) (sym is)
    (flow_goes_on c.args.self.now lines tells c.args.id f _ (of_source c.args.id _ _ source) lawful))
    c.push_source.ensures.added

pub returns-clause-counter : goal.returns-clause-counter
returns-clause-counter c = on_ok c.push_source.result (λ is. λ lines f lawful source tells.
    subst (λ (t : TablesState). Tells t (CounterLine c.args.id f ∷ lines)) (sym is)
    (counter_goes_on c.args.self.now lines tells c.args.id f _ (of_source c.args.id _ _ source) lawful))
    c.push_source.ensures.added
