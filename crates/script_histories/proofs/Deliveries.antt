-- What lawful lines deliver was sent, and gives what arrives.
use Rattle.std.proofs.Common.{◌≡◌, ◌∙◌, ◌-◌, ◌&&◌, ℕ, zero, suc, Bool, true, false, List, [], ◌∷◌, map, reverse, filter_map, Option, Some, None, refl, ap, sym, subst, arith, slice_get, option_and_then}
use Rattle.std.specs.List.{cons_option, list_all}
use Rattle.std.proofs.lemmas.Bool.{and_parts}
use Rattle.std.proofs.lemmas.Option.{same_Some}
use Rattle.std.proofs.lemmas.List.{reverse-reverse}
use Rattle.wire_spec.specs.Captures.{Entry}
use Rattle.agent_spec.specs.Samples.{Datagram, Setup}
use Rattle.agent_spec.specs.Events.{Event}
use Rattle.agent_spec.specs.Boots.{happened, IsAmong}
use Rattle.agent_spec.specs.Spelled.{sent_bytes}
use Rattle.account_spec.specs.Histories.{agent_of, events_of, sent_in}
use Rattle.account_spec.specs.Histories as account
use Rattle.account_spec.specs.Deliveries.{Delivery, AreSent, Delivers, entry_of}
use Rattle.script_spec.specs.Lines as script
use Rattle.script_spec.specs.Lines.{Line, MaxLine, SubLine, FlowLine, CounterLine, PacketLine, PollLine, SendLine, RestartLine, ResetLine, DeliverLine}
use Rattle.script_spec.specs.Agents.{AgentBoot, setup_of, boots_of, delivered, delivered_of, numbered}
use Rattle.script_spec.specs.Rules.{sets_up, may_follow}
use Rattle.script_spec.specs.Sent.{delivery_in, delivered_entry, all_delivered}
use Rattle.script_laws.specs.Lawful.{AreLawful}
use Rattle.script_laws.proofs.Happens.{in_order}
use Rattle.script_histories.specs.Histories.{agent_in, deliveries_of, delivery_at, history_of, stream_of}
use Rattle.script_histories.proofs.Lists.{among_at, Found, found, some_item, filter_map_turned, numbered_at}
use Rattle.script_histories.proofs.LineKinds.{delivery_line}
use Rattle.script_histories.proofs.SetUps.{rules_met}
use Rattle.script_histories.proofs.Histories.{agent_found, among_turned}
use Rattle.script_histories.proofs.Reaching.{Reaches, delivery_is, entry_is, named_delivery, reach_stays, reached}

-- ---- all deliveries

abbrev pub Said : List Line → List script.Delivery
Said lines = filter_map delivery_in lines

-- a delivery of the lines, and the same of the history
pub record Pair (lines : List Line) (d : script.Delivery) (e : Delivery) : Type 0 where
  pub reaches : Reaches lines d
  pub is : e ≡ named_delivery lines d reaches

abbrev pub Pairs : List Line → List script.Delivery → List Delivery → Type 0
Pairs lines [] [] = Unit {0}
Pairs lines [] (e ∷ es) = ⊥
Pairs lines (d ∷ ds) [] = ⊥
Pairs lines (d ∷ ds) (e ∷ es) = Pair lines d e × Pairs lines ds es

pairs_stay : (line : Line) (lines : List Line) (ds : List script.Delivery) (es : List Delivery) → sets_up line ≡ false
    → Pairs lines ds es → Pairs (line ∷ lines) ds es
pairs_stay line lines [] [] sets h = tt
pairs_stay line lines [] (e ∷ es) sets h = absurd h
pairs_stay line lines (d ∷ ds) [] sets h = absurd h
pairs_stay line lines (d ∷ ds) (e ∷ es) sets h =
    (record { reaches = reach_stays line lines d sets h.0.reaches; is = h.0.is }, pairs_stay line lines ds es sets h.1)

-- lines that set up deliver nothing
no_delivery : (line : Line) → sets_up line ≡ true → delivery_in line ≡ None
no_delivery (MaxLine n) e = refl
no_delivery (SubLine t) e = refl
no_delivery (FlowLine owner f) e = refl
no_delivery (CounterLine owner c) e = refl
no_delivery (PacketLine p k) e = refl
no_delivery (PollLine owner now) e = refl
no_delivery (SendLine owner now) e = refl
no_delivery (RestartLine owner at) e = refl
no_delivery (ResetLine t) e = refl
no_delivery (DeliverLine d) e = absurd cc

pub none_said : (lines : List Line) → list_all sets_up lines ≡ true → Said lines ≡ []
none_said [] e = refl
none_said (line ∷ before) e =
    let parts = and_parts (sets_up line) (list_all sets_up before) e in
    ap (λ (o : Option script.Delivery). cons_option o (Said before)) (no_delivery line parts.0) ∙ none_said before parts.1

pub none_delivered : (lines : List Line) → list_all sets_up lines ≡ true → deliveries_of lines ≡ []
none_delivered [] e = refl
none_delivered (line ∷ before) e =
    let parts = and_parts (sets_up line) (list_all sets_up before) e in
    ap (λ (o : Option script.Delivery). cons_option (option_and_then (delivery_at before) o) (deliveries_of before))
    (no_delivery line parts.0)
    ∙ none_delivered before parts.1

pub all_set_up : (line : Line) (before : List Line) → AreLawful (line ∷ before) → sets_up line ≡ true
    → list_all sets_up (line ∷ before) ≡ true
all_set_up line before l sets = ap (λ (b : Bool). b && list_all sets_up before) sets ∙ in_order line before l.1 sets

-- a line that delivers names a datagram that is there
pub line_reaches : (line : Line) (before : List Line) (d : script.Delivery) → delivery_in line ≡ Some d
    → may_follow before line ≡ true → Reaches before d
line_reaches line before d e may =
    let rules = rules_met (DeliverLine d) before
    (subst (λ (l : Line). may_follow before l ≡ true) (delivery_line line d e) may) in
    let x = some_item (delivered before d) rules in
    reached before d x.0 x.1

pub pairs : (lines : List Line) → AreLawful lines → Pairs lines (Said lines) (deliveries_of lines)
pairs [] l = tt
pairs (line ∷ before) l = go (sets_up line) refl (pairs before l.2)
  where
    one : (o : Option script.Delivery) → delivery_in line ≡ o → sets_up line ≡ false
        → Pairs before (Said before) (deliveries_of before)
        → Pairs (line ∷ before) (cons_option o (Said before))
        (cons_option (option_and_then (delivery_at before) o) (deliveries_of before))
    one None is sets h = pairs_stay line before (Said before) (deliveries_of before) sets h
    one (Some d) is sets h =
        let r : Reaches before d = line_reaches line before d is l.1 in
        subst (λ (o : Option Delivery). Pairs (line ∷ before) (d ∷ Said before) (cons_option o (deliveries_of before)))
        (sym (delivery_is before d r)) (
          record { reaches = reach_stays line before d sets r; is = refl },
          pairs_stay line before (Said before) (deliveries_of before) sets h,
        )

    go : (b : Bool) → sets_up line ≡ b → Pairs before (Said before) (deliveries_of before)
        → Pairs (line ∷ before) (Said (line ∷ before)) (deliveries_of (line ∷ before))
    go true sets h =
        let all : list_all sets_up (line ∷ before) ≡ true = all_set_up line before l sets in
        subst (λ (ds : List script.Delivery). Pairs (line ∷ before) ds (deliveries_of (line ∷ before)))
        (sym (none_said (line ∷ before) all))
        (subst (λ (es : List Delivery). Pairs (line ∷ before) [] es) (sym (none_delivered (line ∷ before) all)) tt)
    go false sets h = one (delivery_in line) refl sets h

-- ---- what is delivered was sent

abbrev boot_events : AgentBoot → List Event
boot_events b = b.events

events_at : (bs : List AgentBoot) (k : ℕ) (b : AgentBoot) → slice_get bs k ≡ Some b
    → events_of (map boot_events bs) (suc k) ≡ b.events
events_at [] k b e = absurd cc
events_at (c ∷ more) zero b e = ap boot_events (same_Some _ _ e)
events_at (c ∷ more) (suc k) b e = events_at more k b e

numbered_events : (bs : List AgentBoot) (n : ℕ) (b : AgentBoot) → numbered bs n ≡ Some b
    → events_of (map boot_events bs) n ≡ b.events
numbered_events bs zero b e = absurd cc
numbered_events bs (suc k) b e =
    let place : suc k - 1 ≡ k = omega arith in
    events_at bs k b (subst (λ (m : ℕ). slice_get bs m ≡ Some b) place (numbered_at bs (suc k) b e))

numbered_among : {X : Type 0} (xs : List X) (n : ℕ) (x : X) → numbered (reverse xs) n ≡ Some x → IsAmong x xs
numbered_among xs n x e =
    subst (IsAmong x) (reverse-reverse xs)
    (among_turned x (reverse xs) (among_at (reverse xs) (n - 1) x (numbered_at (reverse xs) n x e)))

sent_of : (lines : List Line) (d : script.Delivery) (s : script.SubAgent) (x : Datagram) → delivered_of lines s d ≡ Some x
    → IsAmong x (sent_in (agent_in lines s) d.boot)
sent_of lines d s x e =
    let setup : Setup = setup_of lines s in
    let bs : List AgentBoot = reverse (boots_of lines s) in
    let of : AgentBoot → Option Datagram = λ b. numbered (reverse (happened setup b.events).sent) d.number in
    let f : Found of (numbered bs d.boot) x = found of (numbered bs d.boot) x e in
    subst (λ (events : List Event). IsAmong x (happened setup events).sent)
    (sym (numbered_events bs d.boot f.item f.there))
    (numbered_among (happened setup f.item.events).sent d.number x f.gives)

pair_sent : (lines : List Line) (d : script.Delivery) (e : Delivery) → AreLawful lines → Pair lines d e
    → IsAmong e.datagram (sent_in (agent_of (history_of lines) e.stream) e.boot)
pair_sent lines d e l p =
    let r : Reaches lines d = p.reaches in
    let same : agent_of (history_of lines) (stream_of r.sub) ≡ agent_in lines r.sub =
    agent_found lines d.id r.sub l r.found_sub in
    subst (λ (x : Delivery). IsAmong x.datagram (sent_in (agent_of (history_of lines) x.stream) x.boot)) (sym p.is)
    (subst (λ (a : account.SubAgent). IsAmong r.datagram (sent_in a d.boot)) (sym same)
    (sent_of lines d r.sub r.datagram r.of_sub))

all_sent : (lines : List Line) (ds : List script.Delivery) (es : List Delivery) → AreLawful lines → Pairs lines ds es
    → AreSent (history_of lines) es
all_sent lines [] [] l h = tt
all_sent lines [] (e ∷ es) l h = absurd h
all_sent lines (d ∷ ds) [] l h = absurd h
all_sent lines (d ∷ ds) (e ∷ es) l h = (pair_sent lines d e l h.0, all_sent lines ds es l h.1)

pub are_sent : (lines : List Line) → AreLawful lines → AreSent (history_of lines) (deliveries_of lines)
are_sent lines l = all_sent lines (Said lines) (deliveries_of lines) l (pairs lines l)

-- ---- what arrives

pair_entry : (lines : List Line) (d : script.Delivery) (e : Delivery) → AreLawful lines → Pair lines d e
    → delivered_entry lines d ≡ Some (entry_of (history_of lines) e)
pair_entry lines d e l p =
    let r : Reaches lines d = p.reaches in
    entry_is lines d r
    ∙ ap (λ (a : account.SubAgent). Some (record { arrival = d.at; bytes = sent_bytes a.sender r.datagram }))
    (sym (agent_found lines d.id r.sub l r.found_sub))
    ∙ ap (λ (x : Delivery). Some (entry_of (history_of lines) x)) (sym p.is)

pair_entries : (lines : List Line) (ds : List script.Delivery) (es : List Delivery) → AreLawful lines → Pairs lines ds es
    → filter_map (delivered_entry lines) ds ≡ map (entry_of (history_of lines)) es
pair_entries lines [] [] l h = refl
pair_entries lines [] (e ∷ es) l h = absurd h
pair_entries lines (d ∷ ds) [] l h = absurd h
pair_entries lines (d ∷ ds) (e ∷ es) l h =
    ap (λ (o : Option Entry). cons_option o (filter_map (delivered_entry lines) ds)) (pair_entry lines d e l h.0)
    ∙ ap (λ (xs : List Entry). entry_of (history_of lines) e ∷ xs) (pair_entries lines ds es l h.1)

all_turned_back : (lines : List Line) → reverse (all_delivered lines) ≡ filter_map (delivered_entry lines) (Said lines)
unfolding all_delivered
all_turned_back lines =
    ap reverse (filter_map_turned (delivered_entry lines) (Said lines))
    ∙ reverse-reverse (filter_map (delivered_entry lines) (Said lines))

pub delivers : (lines : List Line) → AreLawful lines
    → Delivers (history_of lines) (deliveries_of lines) (reverse (all_delivered lines))
delivers lines l = record {
  sent = are_sent lines l;
  entries_are = all_turned_back lines ∙ pair_entries lines (Said lines) (deliveries_of lines) l (pairs lines l);
}
