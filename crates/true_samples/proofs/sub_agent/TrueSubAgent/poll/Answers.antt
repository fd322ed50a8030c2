use Rattle.std.proofs.Common.{◌≡◌, ◌∙◌, ◌+◌, ◌-◌, ◌<◌, ◌≤◌, ℕ, suc, true, false, ◌∷◌, length, sym, ap, subst, arith, length-set}
use Rattle.agent_spec.specs.Events.{Poll}
use Rattle.agent_spec.specs.Boots.{happened, is_due}
use Rattle.true_samples.specs.Counts.{counter_counts}
use Rattle.true_samples.specs.Moves.{with_poll_at}
use Rattle.true_samples.specs.States.{TrueState}
use Rattle.true_samples.proofs.Polls.{IsPolling, counts-at, counter-in, polling-none, polling-later, polling-step, polling-less, poll-stands}
use Rattle.true_samples.proofs.Lists.{map-length}
use Rattle.true_samples.proofs.sub_agent.TrueSubAgent.poll.Goals as goal

pub loop-place-preserved-then-left-eq0 : goal.loop-place-preserved-then-left-eq0
loop-place-preserved-then-left-eq0 c =
    let t : TrueState = c.loop-place.self in
    let p : ℕ = c.loop-place.place in
    let next : suc p ≡ p + 1 = omega arith in
    let shown : length c.self.inside.counters.items ≡ length c.args.self.now.counters =
    ap (λ (k : TrueState). length k.counters) c.self.view_is in
    let within : p < length t.counters =
    omega (arith, c.loop-place-test.true, c.len-place-end.ensures, shown, c.loop-place.invariant.many) in
    record {
      earlier = c.loop-place.invariant.earlier;
      many = c.loop-place.invariant.many;
      polling = λ sender s events before readings count short st.
          let h = c.loop-place.invariant.polling sender s events before readings count short st in
          let here = counter-in sender s t events h.b p h.follows within in
          subst (λ (n : ℕ). IsPolling sender s c.args.uptime events (happened s (Poll c.args.uptime readings ∷ events)) n
          c.loop-place.left t) next
          (polling-none sender s c.args.uptime events (happened s (Poll c.args.uptime readings ∷ events)) p c.loop-place.left t
          here.0 here.1 h (omega (arith, c.if-left-eq0.true)));
    }

pub loop-place-preserved-then-not-is_due : goal.loop-place-preserved-then-not-is_due
loop-place-preserved-then-not-is_due c =
    let t : TrueState = c.loop-place.self in
    let p : ℕ = c.loop-place.place in
    let next : suc p ≡ p + 1 = omega arith in
    let shown : length c.self.inside.counters.items ≡ length c.args.self.now.counters =
    ap (λ (k : TrueState). length k.counters) c.self.view_is in
    let within : p < length t.counters =
    omega (arith, c.loop-place-test.true, c.len-place-end.ensures, shown, c.loop-place.invariant.many) in
    record {
      earlier = c.loop-place.invariant.earlier;
      many = c.loop-place.invariant.many;
      polling = λ sender s events before readings count short st.
          let h = c.loop-place.invariant.polling sender s events before readings count short st in
          let here = counter-in sender s t events h.b p h.follows within in
          let later : is_due c.args.uptime events h.b here.0 ≡ false =
          sym (c.is_due.ensures (counter_counts events h.b here.0) here.2) ∙ c.if-not-is_due.true in
          subst (λ (n : ℕ). IsPolling sender s c.args.uptime events (happened s (Poll c.args.uptime readings ∷ events)) n
          c.loop-place.left t) next
          (polling-later sender s c.args.uptime events (happened s (Poll c.args.uptime readings ∷ events)) p c.loop-place.left t
          here.0 here.1 h later);
    }

pub loop-place-preserved : goal.loop-place-preserved
loop-place-preserved c =
    let t : TrueState = c.loop-place.self in
    let p : ℕ = c.loop-place.place in
    let next : suc p ≡ p + 1 = omega arith in
    let shown : length c.self.inside.counters.items ≡ length c.args.self.now.counters =
    ap (λ (k : TrueState). length k.counters) c.self.view_is in
    let within : p < length t.counters =
    omega (arith, c.loop-place-test.true, c.len-place-end.ensures, shown, c.loop-place.invariant.many) in
    let k = counts-at t p within in
    let is : c.poll_at.new.self ≡ with_poll_at p k.0 c.args.uptime t = c.in_ok-poll_at.ensures k.0 k.1 in
    let one : c.loop-place.left ≡ suc (c.loop-place.left - 1) = omega (arith, c.if-left-eq0.false) in
    record {
      earlier = ap (λ (x : TrueState). x.earlier) is ∙ c.loop-place.invariant.earlier;
      many = ap (λ (x : TrueState). length x.counters) is ∙ length-set t.counters p _ ∙ c.loop-place.invariant.many;
      polling = λ sender s events before readings count short st.
          let h = c.loop-place.invariant.polling sender s events before readings count short st in
          let here = counter-in sender s t events h.b p h.follows within in
          let due : is_due c.args.uptime events h.b here.0 ≡ true =
          sym (c.is_due.ensures (counter_counts events h.b here.0) here.2) ∙ c.if-not-is_due.false in
          let same : c.poll_at.new.self ≡ with_poll_at p (counter_counts events h.b here.0) c.args.uptime t =
          c.in_ok-poll_at.ensures (counter_counts events h.b here.0) here.2 in
          let many : length t.counters ≡ length s.counters =
          ap length h.follows.counters_are ∙ map-length (counter_counts events h.b) s.counters in
          subst (λ (x : TrueState). IsPolling sender s c.args.uptime events (happened s (Poll c.args.uptime readings ∷ events)) (p + 1)
          (c.loop-place.left - 1) x) (sym same)
          (subst (λ (n : ℕ). IsPolling sender s c.args.uptime events (happened s (Poll c.args.uptime readings ∷ events)) n
          (c.loop-place.left - 1) (with_poll_at p (counter_counts events h.b here.0) c.args.uptime t)) next
          (polling-step sender s c.args.uptime events (happened s (Poll c.args.uptime readings ∷ events)) p c.loop-place.left t
          here.0 here.1 h (c.loop-place.left - 1) one due
          (polling-less sender s c.args.uptime events readings (happened s (Poll c.args.uptime readings ∷ events)) p c.loop-place.left t
          short (omega (arith, within, many)) h)));
    }

pub returns : goal.returns
returns c = λ sender s events earlier readings count short st.
    let t : TrueState = c.loop-place.self in
    let h = c.loop-place.invariant.polling sender s events earlier readings count short st in
    let shown : length c.self.inside.counters.items ≡ length c.args.self.now.counters =
    ap (λ (k : TrueState). length k.counters) c.self.view_is in
    let many : length t.counters ≡ length s.counters =
    ap length h.follows.counters_are ∙ map-length (counter_counts events h.b) s.counters in
    let end : length s.counters ≤ c.loop-place.place =
    omega (arith, many, shown, c.loop-place.invariant.many, c.loop-place-test.false, c.len-place-end.ensures) in
    poll-stands sender s c.args.self.now t c.args.uptime events earlier readings c.loop-place.place c.loop-place.left st
    c.loop-place.invariant.earlier end h
