-- What a delivery says of the sub-agent at a place.
use Rattle.std.proofs.Common.{◌≡◌, ◌∙◌, ℕ, List, reverse, Some, ap, option_map, option_and_then, slice_get}
use Rattle.agent_spec.specs.Samples.{Datagram}
use Rattle.script_spec.specs.Lines.{Line, SubAgent, Delivery}
use Rattle.script_spec.specs.Agents.{subs_in, sub_of, delivered}
use Rattle.script_spec.specs.Sent.{delivered_entry}
use Rattle.script_laws.specs.Lawful.{AreLawful}
use Rattle.script_histories.specs.Histories.{arrival_of, delivery_at}
use Rattle.script_histories.proofs.Histories.{sub_at}
use Rattle.script_histories.proofs.Reaching.{arrives}

sub_named : (lines : List Line) (place : ℕ) (s : SubAgent) (d : Delivery) → AreLawful lines
    → slice_get (reverse (subs_in lines)) place ≡ Some s → d.id ≡ s.id → sub_of d.id lines ≡ Some s
sub_named lines place s d l there own = ap (λ (id : ℕ). sub_of id lines) own ∙ sub_at lines place s l there

pub delivery_named : (lines : List Line) (place : ℕ) (s : SubAgent) (d : Delivery) (x : Datagram) → AreLawful lines
    → slice_get (reverse (subs_in lines)) place ≡ Some s → d.id ≡ s.id → delivered lines d ≡ Some x
    → delivery_at lines d ≡ Some (arrival_of d s x)
delivery_named lines place s d x l there own e =
    ap (option_and_then (λ (t : SubAgent). option_map (arrival_of d t) (delivered lines d)))
    (sub_named lines place s d l there own)
    ∙ ap (option_map (arrival_of d s)) e

pub entry_named : (lines : List Line) (place : ℕ) (s : SubAgent) (d : Delivery) (x : Datagram) → AreLawful lines
    → slice_get (reverse (subs_in lines)) place ≡ Some s → d.id ≡ s.id → delivered lines d ≡ Some x
    → delivered_entry lines d ≡ Some (arrives lines d s x)
entry_named lines place s d x l there own e =
    ap (option_and_then (λ (t : SubAgent). option_map (arrives lines d t) (delivered lines d)))
    (sub_named lines place s d l there own)
    ∙ ap (option_map (arrives lines d s)) e
