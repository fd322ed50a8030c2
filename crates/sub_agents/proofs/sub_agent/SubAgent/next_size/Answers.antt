use Rattle.std.proofs.Common.{◌≡◌, ◌∙◌, ◌<◌, ℕ, length, ap, arith}
use Rattle.sub_agents.specs.SubAgents.{SubAgentState}
use Rattle.sub_agents.proofs.PollRuns.{some-get}
use Rattle.sub_agents.proofs.NextSizes.{front-step, size-at, size-all, kept-in}
use Rattle.sub_agents.proofs.sub_agent.SubAgent.next_size.Goals as goal

pub returns-then-size-self : goal.returns-then-size-self
returns-then-size-self c =
    let s : SubAgentState = c.args.self.now in
    let i : ℕ = c.loop-place.place in
    let h = c.loop-place.invariant in
    let items : c.self.inside.stage.items ≡ s.stage.items = ap (λ (k : SubAgentState). k.stage.items) c.self.view_is in
    let most : c.self.inside.max_datagram ≡ s.max_datagram = ap (λ (k : SubAgentState). k.max_datagram) c.self.view_is in
    let within : i < length s.stage.items = omega (arith, ap length items, c.loop-place-test.true, c.len-place-end.ensures.len) in
    let x = some-get s.stage.items i within in
    size-at s i x.0 (kept-in c.self.inside s c.self.view_is c.self.invariant) x.1 within (omega (arith, h.size_is, h.fits))
    (omega (arith, h.size_is, front-step s i x.0 x.1, c.size_at-size.ensures.size x.0 x.1, most, c.if-size-self.true))

pub loop-place-preserved : goal.loop-place-preserved
loop-place-preserved c =
    let s : SubAgentState = c.args.self.now in
    let i : ℕ = c.loop-place.place in
    let h = c.loop-place.invariant in
    let items : c.self.inside.stage.items ≡ s.stage.items = ap (λ (k : SubAgentState). k.stage.items) c.self.view_is in
    let most : c.self.inside.max_datagram ≡ s.max_datagram = ap (λ (k : SubAgentState). k.max_datagram) c.self.view_is in
    let within : i < length s.stage.items = omega (arith, ap length items, c.loop-place-test.true, c.len-place-end.ensures.len) in
    let x = some-get s.stage.items i within in
    record {
      size_is = omega (arith, h.size_is, front-step s i x.0 x.1, c.size_at-size.ensures.size x.0 x.1);
      fits = omega (arith, most, c.if-size-self.false);
    }

pub returns : goal.returns
returns c =
    let s : SubAgentState = c.args.self.now in
    let i : ℕ = c.loop-place.place in
    let h = c.loop-place.invariant in
    let items : c.self.inside.stage.items ≡ s.stage.items = ap (λ (k : SubAgentState). k.stage.items) c.self.view_is in
    let end : i ≡ length s.stage.items =
    omega (arith, ap length items, c.loop-place-test.false, c.len-place-end.ensures.len, c.loop-place.auto.place-end) in
    let last : c.len.result ≡ i = omega (arith, ap length items, c.len.ensures.len, end) in
    last ∙ size-all s i c.requires end (omega (arith, h.size_is, h.fits))
