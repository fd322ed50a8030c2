-- A send, datagram by datagram.
use Rattle.std.proofs.Common.{◌≡◌, ℕ, ◌+◌, ◌-◌, ◌≤◌, List, [], ◌∷◌, ◌++◌, length, refl, sym, subst, arith, length-append, length-drop}
use Rattle.std.specs.declared.option.Option.{Option}
use Rattle.wire_spec.specs.Shapes.{Tree}
use Rattle.agent_spec.specs.Events.{Send}
use Rattle.agent_spec.specs.Boots.{packed}
use Rattle.agent_spec.proofs.Prefixes.{longest-some}
use Rattle.agent_outlets.specs.Outlets.{PutView, Took}
use Rattle.sub_agents.specs.declared.staged.Staged.{Staged}
use Rattle.sub_agents.specs.Outlets.{puts_of}
use Rattle.sub_agents.specs.Sent.{staged_values, next_size, next_put, after_one}
use Rattle.sub_agents.specs.SubAgents.{SubAgentState, BootSoFar, with_event, so_far, StandsFor, trees_fit}
use Rattle.sub_agents.proofs.Sends.{IsSending, sending-start, sending-step, next_values, left-step, no-more, all-sent, puts-of, sent}

-- after so many turns so many datagrams were put, and fewer samples wait
pub record IsSendRun (s v : SubAgentState) (old new : Option (List PutView)) (uptime turn count : ℕ) : Type 0 where
  pub sending : IsSending s v old new uptime count
  pub fewer : length v.stage.items ≤ length s.stage.items - turn
  pub within : count ≤ turn

pub run-start : (s : SubAgentState) (old : Option (List PutView)) (uptime : ℕ) → IsSendRun s s old old uptime 0 0
run-start s old uptime = record {
  sending = sending-start s old uptime;
  fewer = omega arith;
  within = omega arith;
}

pub run-idle : (s v : SubAgentState) (old new : Option (List PutView)) (uptime turn count : ℕ)
    → IsSendRun s v old new uptime turn count → length v.stage.items ≡ 0 → IsSendRun s v old new uptime (turn + 1) count
run-idle s v old new uptime turn count h none = record {
  sending = h.sending;
  fewer = omega (arith, none);
  within = omega (arith, h.within);
}

pub run-step : (s v new : SubAgentState) (old mid then : Option (List PutView)) (uptime turn count : ℕ)
    → IsSendRun s v old mid uptime turn count → 1 ≤ length v.stage.items → new ≡ after_one v
    → Took mid then (next_put v uptime ∷ []) → IsSendRun s new old then uptime (turn + 1) (count + 1)
run-step s v new old mid then uptime turn count h some e took =
    let size : 1 ≤ next_size v = longest-some (trees_fit v) (staged_values v) (length v.stage.items) in
    let left : length (after_one v).stage.items ≡ length v.stage.items - next_size v =
    length-drop (next_size v) v.stage.items in
    subst (λ (k : SubAgentState). IsSendRun s k old then uptime (turn + 1) (count + 1)) (sym e) (record {
      sending = sending-step s v old mid then uptime count h.sending some took;
      fewer = omega (arith, left, size, h.fewer, some);
      within = omega (arith, h.within);
    })

-- nothing waits any more
pub run-end : (s v : SubAgentState) (b : BootSoFar) (old new : Option (List PutView)) (uptime turn count : ℕ)
    → StandsFor s b → IsSendRun s v old new uptime turn count → length s.stage.items ≤ turn
    → (count ≡ length (packed b.setup (so_far b))) × Took old new (puts_of b uptime count)
    × StandsFor v (with_event (Send uptime count) b)
run-end s v b old new uptime turn count st h end =
    let none : v.stage.items ≡ [] = no-items v.stage.items (omega (arith, h.fewer, end)) in
    let g = h.sending in
    subst (λ (n : ℕ). (n ≡ length (packed b.setup (so_far b))) × Took old new (puts_of b uptime n)
    × StandsFor v (with_event (Send uptime n) b)) g.counted (
      all-sent s v b g.done st g.left none,
      subst (λ (ps : List PutView). Took old new ps) (puts-of s v b g.done st g.left uptime) g.took,
      sent s v b g.done st g.left uptime,
    )
  where
    no-items : (xs : List Staged) → length xs ≤ 0 → xs ≡ []
    no-items [] e = refl
    no-items (x ∷ more) e = absurd (omega (arith, e))

-- the outlet refused a datagram
pub run-failed : (s v new : SubAgentState) (b : BootSoFar) (old mid then : Option (List PutView)) (uptime turn count : ℕ)
    → StandsFor s b → IsSendRun s v old mid uptime turn count → 1 ≤ length v.stage.items → new ≡ after_one v → then ≡ mid
    → (n : ℕ) × (n + 1 ≤ length (packed b.setup (so_far b))) × Took old then (puts_of b uptime n)
    × StandsFor new (with_event (Send uptime (n + 1)) b)
run-failed s v new b old mid then uptime turn count st h some e same =
    let g = h.sending in
    let d : List Tree = next_values v in
    let left = left-step s v g.done g.left some in
    let more : length (g.done ++ d ∷ []) ≡ length g.done + 1 = length-append g.done (d ∷ []) in (
      length g.done,
      subst (λ (n : ℕ). n ≤ length (packed b.setup (so_far b))) more (no-more s (after_one v) b (g.done ++ d ∷ []) st left),
      subst (λ (o : Option (List PutView)). Took old o (puts_of b uptime (length g.done))) (sym same)
          (subst (λ (ps : List PutView). Took old mid ps) (puts-of s v b g.done st g.left uptime) g.took),
      subst (λ (k : SubAgentState). StandsFor k (with_event (Send uptime (length g.done + 1)) b)) (sym e)
          (subst (λ (n : ℕ). StandsFor (after_one v) (with_event (Send uptime n) b)) more
          (sent s (after_one v) b (g.done ++ d ∷ []) st left uptime)),
    )
