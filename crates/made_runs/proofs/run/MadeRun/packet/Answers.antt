use Rattle.std.proofs.Common.{◌≡◌, ◌∙◌, ◌+◌, ◌%◌, ◌^◌, sym, ap, subst, arith}
use Rattle.std.proofs.Math.Nat.{mod-eq_of_lt}
use Rattle.trial_spec.specs.Made.{made_packet, state_after, observed, boot_number}
use Rattle.made_runs.specs.Runs.{RunState, StandsFor, IsHeld}
use Rattle.made_runs.proofs.run.MadeRun.packet.Goals as goal

pub returns-clause-packet : goal.returns-clause-packet
returns-clause-packet c = λ names m st.
    c.draw_packet.ensures.packet ∙ ap made_packet (ap (λ (r : RunState). r.state) c.self.view_is ∙ st.state_is)

pub returns-clause-stands : goal.returns-clause-stands
returns-clause-stands c = λ names m seed short st.
    let packets : c.self.inside.packets ≡ m.packets = ap (λ (r : RunState). r.packets) c.self.view_is ∙ st.packets_are in
    let few : (c.self.inside.packets + 1) % 2 ^ 32 ≡ c.self.inside.packets + 1 =
    mod-eq_of_lt (omega (arith, packets, short.packets)) in
    subst (λ r. StandsFor names r (observed seed m)) (sym c.draw_packet.ensures.state) (record {
      state_is = ap (λ (r : RunState). state_after 33 r.state) c.self.view_is ∙ ap (state_after 33) st.state_is;
      base_is = ap (λ (r : RunState). r.base) c.self.view_is ∙ st.base_is;
      packets_are = few ∙ ap (λ n. n + 1) packets;
      boot_is = ap (λ (r : RunState). r.boot) c.self.view_is ∙ st.boot_is;
      held_is =
          subst (λ h. IsHeld names (boot_number m) h m.held) (sym (ap (λ (r : RunState). r.held) c.self.view_is)) st.held_is;
    })
