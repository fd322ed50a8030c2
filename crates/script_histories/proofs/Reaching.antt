-- A delivery names a datagram that is there and stays there, and its sub-agent.
use Rattle.std.proofs.Common.{◌≡◌, ◌∙◌, false, List, ◌∷◌, Some, refl, ap, sym, option_map, option_and_then}
use Rattle.wire_spec.specs.Captures.{Entry}
use Rattle.agent_spec.specs.Samples.{Datagram}
use Rattle.agent_spec.specs.Spelled.{Sender, sent_bytes}
use Rattle.account_spec.specs.Deliveries.{Delivery}
use Rattle.script_spec.specs.Lines as script
use Rattle.script_spec.specs.Lines.{Line, MaxLine, SubLine, FlowLine, CounterLine, PacketLine, PollLine, SendLine, RestartLine, ResetLine, DeliverLine}
use Rattle.script_spec.specs.Agents.{sub_of, sender_of, delivered, delivered_of}
use Rattle.script_spec.specs.Rules.{sets_up}
use Rattle.script_spec.specs.Sent.{delivered_entry}
use Rattle.script_histories.specs.Histories.{arrival_of, delivery_at}
use Rattle.script_histories.proofs.Stays.{IsNamed, named, delivered_stays, of_stays, same_sub}

-- the datagram that a delivery names, and its sub-agent
pub record Reaches (lines : List Line) (d : script.Delivery) : Type 0 where
  pub datagram : Datagram
  pub sub : script.SubAgent
  pub there : delivered lines d ≡ Some datagram
  pub found_sub : sub_of d.id lines ≡ Some sub
  pub of_sub : delivered_of lines sub d ≡ Some datagram

abbrev pub named_delivery : (lines : List Line) (d : script.Delivery) → Reaches lines d → Delivery
named_delivery lines d r = arrival_of d r.sub r.datagram

abbrev pub named_entry : (lines : List Line) (d : script.Delivery) → Reaches lines d → Entry
named_entry lines d r = record { arrival = d.at; bytes = sent_bytes (sender_of lines r.sub) r.datagram }

pub reached : (lines : List Line) (d : script.Delivery) (x : Datagram) → delivered lines d ≡ Some x → Reaches lines d
reached lines d x e =
    let n : IsNamed lines d x = named lines d x e in
    record { datagram = x; sub = n.sub; there = e; found_sub = n.found_sub; of_sub = n.of_sub }

abbrev pub reach_stays : (line : Line) (lines : List Line) (d : script.Delivery) → sets_up line ≡ false → Reaches lines d
    → Reaches (line ∷ lines) d
reach_stays line lines d sets r = record {
  datagram = r.datagram;
  sub = r.sub;
  there = delivered_stays line lines d r.datagram sets r.there;
  found_sub = same_sub line lines d.id sets ∙ r.found_sub;
  of_sub = of_stays line lines r.sub d r.datagram sets r.of_sub;
}

pub delivery_is : (lines : List Line) (d : script.Delivery) (r : Reaches lines d)
    → delivery_at lines d ≡ Some (named_delivery lines d r)
delivery_is lines d r =
    ap (option_and_then (λ (s : script.SubAgent). option_map (arrival_of d s) (delivered lines d))) r.found_sub
    ∙ ap (option_map (arrival_of d r.sub)) r.there

abbrev pub arrives : List Line → script.Delivery → script.SubAgent → Datagram → Entry
arrives lines d s x = record { arrival = d.at; bytes = sent_bytes (sender_of lines s) x }

pub entry_is : (lines : List Line) (d : script.Delivery) (r : Reaches lines d)
    → delivered_entry lines d ≡ Some (named_entry lines d r)
entry_is lines d r =
    ap (option_and_then (λ (s : script.SubAgent). option_map (arrives lines d s) (delivered lines d))) r.found_sub
    ∙ ap (option_map (arrives lines d r.sub)) r.there

pub same_sender : (line : Line) (lines : List Line) (s : script.SubAgent) → sets_up line ≡ false
    → sender_of (line ∷ lines) s ≡ sender_of lines s
same_sender (MaxLine n) lines s e = absurd cc
same_sender (SubLine t) lines s e = absurd cc
same_sender (FlowLine owner f) lines s e = absurd cc
same_sender (CounterLine owner c) lines s e = absurd cc
same_sender (PacketLine p k) lines s e = refl
same_sender (PollLine owner now) lines s e = refl
same_sender (SendLine owner now) lines s e = refl
same_sender (RestartLine owner at) lines s e = refl
same_sender (ResetLine t) lines s e = refl
same_sender (DeliverLine d) lines s e = refl

pub entry_stays : (line : Line) (lines : List Line) (d : script.Delivery) → sets_up line ≡ false → Reaches lines d
    → delivered_entry (line ∷ lines) d ≡ delivered_entry lines d
entry_stays line lines d sets r =
    entry_is (line ∷ lines) d (reach_stays line lines d sets r)
    ∙ ap (λ (s : Sender). Some (record { arrival = d.at; bytes = sent_bytes s r.datagram })) (same_sender line lines r.sub sets)
    ∙ sym (entry_is lines d r)
