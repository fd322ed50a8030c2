use Rattle.std.proofs.Common.{◌≡◌, ◌∙◌, ℕ, ◌+◌, [], ◌++◌, ap, subst}
use Rattle.std.proofs.lemmas.List.{append-nil}
use Rattle.trial_spec.specs.Made.{next_state, drawn, all_drawn, state_after}
use Rattle.trial_spec.specs.MadeRows.{packet_of}
use Rattle.made_runs.specs.Runs.{RunState}
use Rattle.made_runs.proofs.run.MadeRun.draw_packet.Goals as goal

pub returns-clause-packet : goal.returns-clause-packet
returns-clause-packet c =
    let x : ℕ = c.args.self.now.state in
    let was : c.self.inside.draws.state ≡ x = ap (λ (r : RunState). r.state) c.self.view_is in
    let length : c.below-length.result ≡ drawn 1455 (next_state x) =
    c.below-length.ensures.number ∙ ap (λ s. drawn 1455 (next_state s)) was in
    let state : c.below-length.new.self.state ≡ next_state x = c.below-length.ensures.state ∙ ap next_state was in
    let bytes : c.fill.new.bytes ++ [] ≡ all_drawn 32 256 (next_state x) =
    append-nil c.fill.new.bytes ∙ c.fill.ensures.bytes ∙ ap (all_drawn 32 256) state in
    ap (λ l. packet_of (64 + l) (c.fill.new.bytes ++ [])) length ∙ ap (packet_of (64 + drawn 1455 (next_state x))) bytes

pub returns-clause-state : goal.returns-clause-state
returns-clause-state c =
    let was : RunState = record {
      state = c.self.inside.draws.state;
      base = c.self.inside.base;
      packets = c.self.inside.packets;
      boot = c.self.inside.boot;
      held = c.self.inside.held;
    } in
    let P : RunState → Type 0 = λ r. record was { state = c.fill.new.self.state } ≡ record r { state = state_after 33 r.state } in
    subst P c.self.view_is
    (ap (λ s. record was { state = s }) (c.fill.ensures.state ∙ ap (state_after 32) c.below-length.ensures.state))
