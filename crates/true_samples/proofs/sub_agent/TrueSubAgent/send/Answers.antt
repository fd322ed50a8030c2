use Rattle.std.proofs.Common.{◌≡◌, ◌∙◌, ◌+◌, List, [], ◌∷◌, drop, refl, sym, ap, subst, ℕ, arith}
use Rattle.std.proofs.lemmas.List.{drop_all}
use Rattle.agent_spec.specs.Boots.{happened}
use Rattle.agent_outlets.specs.declared.list_outlet.Put.{Put}
use Rattle.true_samples.specs.States.{TrueState}
use Rattle.true_samples.specs.Sends.{bytes_of, leaving, after_all}
use Rattle.true_samples.specs.Moves.{with_datagram}
use Rattle.true_samples.proofs.Lists.{drop-next}
use Rattle.true_samples.proofs.Sends.{IsSending, sending-start, sending-step, send-stands}
use Rattle.true_samples.proofs.sub_agent.TrueSubAgent.send.Goals as goal

pub loop-put-init : goal.loop-put-init
loop-put-init c = record {
  earlier = refl;
  sending = λ sender s events before has bytes few may st.
      sending-start sender s c.args.uptime events c.args.puts.now c.args.self.now st.set_up st.follows bytes few may;
}

pub loop-put-preserved : goal.loop-put-preserved
loop-put-preserved c =
    let i = c.loop-put.put-index in
    let puts : List Put = c.args.puts.now in
    let p : Put = c.put-item.result in
    let t : TrueState = c.loop-put.self in
    let is : c.send_one.new.self ≡ with_datagram c.args.uptime (bytes_of p) t =
    c.in_ok-send_one.ensures ∙ ap (λ (bytes : List ℕ). with_datagram c.args.uptime bytes t) c.deref.ensures.value in
    let next : drop i puts ≡ p ∷ drop (i + 1) puts = drop-next puts i p (omega (arith, c.loop-put-test.true)) c.put-item.is in
    record {
      earlier = ap (λ (k : TrueState). k.earlier) is ∙ c.loop-put.invariant.earlier;
      sending = λ sender s events before has bytes few may st.
          subst (IsSending sender s c.args.uptime events
          (after_all (leaving s c.args.uptime (happened s events)) (happened s events)) (drop (i + 1) puts)) (sym is)
          (sending-step sender s c.args.uptime events
          (after_all (leaving s c.args.uptime (happened s events)) (happened s events)) p (drop (i + 1) puts) t has
          (subst (λ (l : List Put). IsSending sender s c.args.uptime events
          (after_all (leaving s c.args.uptime (happened s events)) (happened s events)) l t) next
          (c.loop-put.invariant.sending sender s events before has bytes few may st)));
    }

pub returns : goal.returns
returns c = λ sender s events earlier has bytes few may st.
    let i = c.loop-put.put-index in
    let puts : List Put = c.args.puts.now in
    let none : drop i puts ≡ [] = drop_all i puts (omega (arith, c.loop-put-test.false)) in
    send-stands sender s c.args.self.now c.loop-put.self c.args.uptime events earlier puts bytes st c.loop-put.invariant.earlier
    (subst (λ (l : List Put). IsSending sender s c.args.uptime events
    (after_all (leaving s c.args.uptime (happened s events)) (happened s events)) l c.loop-put.self) none
    (c.loop-put.invariant.sending sender s events earlier has bytes few may st))
