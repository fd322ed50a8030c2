-- Which line says what: a sub-agent, a source, the most bytes or a delivery.
use Rattle.std.proofs.Common.{◌≡◌, ◌==◌, ℕ, Bool, true, false, Some, None, refl, ap, if◌then◌else◌}
use Rattle.std.proofs.lemmas.Bool.{eqb-true}
use Rattle.std.proofs.lemmas.Option.{same_Some}
use Rattle.agent_spec.specs.Sources.{FlowSetup, CounterSetup}
use Rattle.script_spec.specs.Lines.{Line, MaxLine, SubLine, FlowLine, CounterLine, PacketLine, PollLine, SendLine, RestartLine, ResetLine, DeliverLine, SubAgent, Delivery}
use Rattle.script_spec.specs.Agents.{sub_in, flow_in, counter_in, max_in}
use Rattle.script_spec.specs.Sent.{delivery_in}

pub sub_line : (line : Line) (s : SubAgent) → sub_in line ≡ Some s → line ≡ SubLine s
sub_line (MaxLine n) s e = absurd cc
sub_line (SubLine t) s e = ap SubLine (same_Some _ _ e)
sub_line (FlowLine owner f) s e = absurd cc
sub_line (CounterLine owner c) s e = absurd cc
sub_line (PacketLine p k) s e = absurd cc
sub_line (PollLine owner now) s e = absurd cc
sub_line (SendLine owner now) s e = absurd cc
sub_line (RestartLine owner at) s e = absurd cc
sub_line (ResetLine t) s e = absurd cc
sub_line (DeliverLine d) s e = absurd cc

pub delivery_line : (line : Line) (d : Delivery) → delivery_in line ≡ Some d → line ≡ DeliverLine d
delivery_line (MaxLine n) d e = absurd cc
delivery_line (SubLine t) d e = absurd cc
delivery_line (FlowLine owner f) d e = absurd cc
delivery_line (CounterLine owner c) d e = absurd cc
delivery_line (PacketLine p k) d e = absurd cc
delivery_line (PollLine owner now) d e = absurd cc
delivery_line (SendLine owner now) d e = absurd cc
delivery_line (RestartLine owner at) d e = absurd cc
delivery_line (ResetLine t) d e = absurd cc
delivery_line (DeliverLine other) d e = ap DeliverLine (same_Some _ _ e)

pub flow_line : (id : ℕ) (line : Line) (f : FlowSetup) → flow_in id line ≡ Some f → line ≡ FlowLine id f
flow_line id (MaxLine n) f e = absurd cc
flow_line id (SubLine t) f e = absurd cc
flow_line id (FlowLine owner g) f e = go (owner == id) refl e
  where
    go : (b : Bool) → (owner == id) ≡ b → (if b then Some g else None) ≡ Some f → FlowLine owner g ≡ FlowLine id f
    go true own is =
        let i : owner ≡ id = eqb-true owner id own in
        let same : g ≡ f = same_Some _ _ is in
        λ j. FlowLine (i j) (same j)
    go false own is = absurd cc
flow_line id (CounterLine owner c) f e = absurd cc
flow_line id (PacketLine p k) f e = absurd cc
flow_line id (PollLine owner now) f e = absurd cc
flow_line id (SendLine owner now) f e = absurd cc
flow_line id (RestartLine owner at) f e = absurd cc
flow_line id (ResetLine t) f e = absurd cc
flow_line id (DeliverLine d) f e = absurd cc

pub counter_line : (id : ℕ) (line : Line) (c : CounterSetup) → counter_in id line ≡ Some c → line ≡ CounterLine id c
counter_line id (MaxLine n) c e = absurd cc
counter_line id (SubLine t) c e = absurd cc
counter_line id (FlowLine owner f) c e = absurd cc
counter_line id (CounterLine owner d) c e = go (owner == id) refl e
  where
    go : (b : Bool) → (owner == id) ≡ b → (if b then Some d else None) ≡ Some c → CounterLine owner d ≡ CounterLine id c
    go true own is =
        let i : owner ≡ id = eqb-true owner id own in
        let same : d ≡ c = same_Some _ _ is in
        λ j. CounterLine (i j) (same j)
    go false own is = absurd cc
counter_line id (PacketLine p k) c e = absurd cc
counter_line id (PollLine owner now) c e = absurd cc
counter_line id (SendLine owner now) c e = absurd cc
counter_line id (RestartLine owner at) c e = absurd cc
counter_line id (ResetLine t) c e = absurd cc
counter_line id (DeliverLine d) c e = absurd cc

pub max_line : (line : Line) (n : ℕ) → max_in line ≡ Some n → line ≡ MaxLine n
max_line (MaxLine m) n e = ap MaxLine (same_Some _ _ e)
max_line (SubLine t) n e = absurd cc
max_line (FlowLine owner f) n e = absurd cc
max_line (CounterLine owner c) n e = absurd cc
max_line (PacketLine p k) n e = absurd cc
max_line (PollLine owner now) n e = absurd cc
max_line (SendLine owner now) n e = absurd cc
max_line (RestartLine owner at) n e = absurd cc
max_line (ResetLine t) n e = absurd cc
max_line (DeliverLine d) n e = absurd cc
