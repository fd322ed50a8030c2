use Rattle.std.proofs.Common.{◌≡◌, ◌∙◌, ℕ, sym, ap, subst}
use Rattle.trial_spec.specs.Made.{Made, next_state, drawn, decided_by, boot_number}
use Rattle.made_runs.specs.Runs.{RunState, IsHeld, Goes, arrived}
use Rattle.made_runs.proofs.run.MadeRun.decide.Goals as goal

pub returns : goal.returns
returns c = λ names m d short named st.
    let n : Made = record m { state = next_state m.state } in
    let state : c.self.inside.draws.state ≡ m.state = ap (λ (r : RunState). r.state) c.self.view_is ∙ st.state_is in
    let choice : c.below-choice.result ≡ drawn 16 (next_state m.state) =
    c.below-choice.ensures.number ∙ ap (λ x. drawn 16 (next_state x)) state in
    let P : ℕ → Type 0 = λ k.
    Goes names (arrived c.decide_by.result) c.decide_by.new.self n (decided_by k (boot_number m, d) n) in
    let g = subst P choice (c.decide_by.ensures names n d
    (record { packets = short.packets; base = short.base; boots = short.boots }) named
    (record {
      state_is = c.below-choice.ensures.state ∙ ap next_state state;
      base_is = ap (λ (r : RunState). r.base) c.self.view_is ∙ st.base_is;
      packets_are = ap (λ (r : RunState). r.packets) c.self.view_is ∙ st.packets_are;
      boot_is = ap (λ (r : RunState). r.boot) c.self.view_is ∙ st.boot_is;
      held_is =
          subst (λ h. IsHeld names (boot_number m) h m.held) (sym (ap (λ (r : RunState). r.held) c.self.view_is)) st.held_is;
    })) in
    record { stands = g.stands; adds = g.adds }
