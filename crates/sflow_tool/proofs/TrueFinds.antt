-- What is found of a datagram that is delivered.
use Rattle.std.proofs.Common.{◌≡◌, ◌∙◌, ◌-◌, ◌==◌, ℕ, Bool, true, false, List, ◌∷◌, map, reverse, Option, Some, None, refl, ap, sym, subst, is_some, option_map, slice_get, if◌then◌else◌}
use Rattle.std.specs.Prelude.{option_and_then, IfSome, IfNone}
use Rattle.std.proofs.lemmas.Option.{same_Some, slice_get-map}
use Rattle.agent_spec.specs.Samples.{Datagram, Setup}
use Rattle.agent_spec.specs.Events.{Event}
use Rattle.agent_spec.specs.Boots.{happened}
use Rattle.script_spec.specs.Lines.{Line, DeliverLine, Delivery, SubAgent}
use Rattle.script_spec.specs.Agents.{AgentBoot, boots_of, delivered, delivered_of, numbered, sender_of, setup_of, subs_in}
use Rattle.script_laws.specs.Lawful.{AreLawful}
use Rattle.script_tables.specs.Tables.{newest}
use Rattle.script_tables.proofs.Owners.{rules_met}
use Rattle.true_samples.specs.States.{SentState, TrueState}
use Rattle.true_samples.specs.Standing.{AreSame, sent_at}
use Rattle.sflow_tool.specs.Steps.{ArrivesFrom}
use Rattle.sflow_tool.specs.Trues.{Finds, TrueOf, events_behind, events_in}
use Rattle.sflow_tool.proofs.Items.{map_reverse}
use Rattle.sflow_tool.proofs.SendLines.{among_subs, sub_found}
use Rattle.sflow_tool.proofs.TrueStands.{StandsIn, all_boots, true_of_sub}

pub if_some : {T : Type 0} {P Q : T → Type 0} (r : Option T) → ((x : T) → P x → Q x) → IfSome r P → IfSome r Q
if_some None f h = tt
if_some (Some x) f h = f x h

pub if_none : {T : Type 0} {A B : Type 0} (r : Option T) → (A → B) → IfNone r A → IfNone r B
if_none None f h = f h
if_none (Some x) f h = tt

-- ---- datagrams by their numbers

numbered_map : {X Y : Type 0} (f : X → Y) (xs : List X) (n : ℕ) → numbered (map f xs) n ≡ option_map f (numbered xs n)
numbered_map f xs n = go (n == 0)
  where
    go : (b : Bool) → (if b then None else slice_get (map f xs) (n - 1)) ≡ option_map f (if b then None else slice_get xs (n - 1))
    go true = refl
    go false = slice_get-map f xs (n - 1)

then_map : {X Y Z : Type 0} (f : X → Y) (g : Y → Option Z) (o : Option X)
    → option_and_then g (option_map f o) ≡ option_and_then (λ (x : X). g (f x)) o
then_map f g None = refl
then_map f g (Some x) = refl

sent_by_boots : (setup : Setup) (boots : List AgentBoot) (boot number : ℕ)
    → sent_at setup (map events_in boots) boot number
    ≡ option_and_then (λ (b : AgentBoot). numbered (reverse (happened setup b.events).sent) number)
    (numbered (reverse boots) boot)
sent_by_boots setup boots boot number =
    let g : List Event → Option Datagram = λ events. numbered (reverse (happened setup events).sent) number in
    ap (λ (l : List (List Event)). option_and_then g (numbered l boot)) (sym (map_reverse events_in boots))
    ∙ ap (option_and_then g) (numbered_map events_in (reverse boots) boot)
    ∙ then_map events_in g (numbered (reverse boots) boot)

module _ (lines : List Line) (line : Line) (place boot number at : ℕ) (lawful : AreLawful (line ∷ lines))
    (x : ArrivesFrom lines line place boot number at) where
  abbrev d : Delivery
  d = record { id = x.sub.id; boot = boot; number = number; at = at }

  abbrev all : List (List Event)
  all = (newest (boots_of lines x.sub)).events ∷ events_behind (boots_of lines x.sub)

  of_sub : delivered lines d ≡ delivered_of lines x.sub d
  unfolding delivered
  of_sub =
      ap (option_and_then (λ (s : SubAgent). delivered_of lines s d))
      (sub_found lines x.sub.id x.sub lawful.2 (among_subs lines place x.sub x.there) refl)

  same_sent : sent_at (setup_of lines x.sub) all boot number ≡ delivered lines d
  same_sent =
      ap (λ (l : List (List Event)). sent_at (setup_of lines x.sub) l boot number) (all_boots lines x.sub)
      ∙ sent_by_boots (setup_of lines x.sub) (boots_of lines x.sub) boot number
      ∙ sym of_sub

  was_sent : is_some (delivered lines d) ≡ true
  was_sent =
      let may : AreLawful (DeliverLine d ∷ lines) = subst (λ (l : Line). AreLawful (l ∷ lines)) x.line_is lawful in
      rules_met (DeliverLine d) lines may.1

  -- where it stands, and for what
  pub stands : (trues : List TrueState) → TrueOf trues lines
      → (t : TrueState) × (slice_get trues place ≡ Some t) × StandsIn lines t x.sub
  stands trues h = true_of_sub lines trues (reverse (subs_in lines)) place x.sub h x.there

  pub stands_so : (trues : List TrueState) (t : TrueState) → TrueOf trues lines → slice_get trues place ≡ Some t
      → StandsIn lines t x.sub
  stands_so trues t h there =
      let s = stands trues h in
      subst (λ (v : TrueState). StandsIn lines v x.sub) (same_Some _ _ (sym s.1 ∙ there)) s.2

  found_as : (t : SentState) (o : Option Datagram) → delivered lines d ≡ o
      → AreSame (sender_of lines x.sub) (setup_of lines x.sub) (Some t) o → Finds lines place boot number at t
  found_as t None is h = absurd h
  found_as t (Some datagram) is h = record { sub = x.sub; there = x.there; datagram = datagram; is = is; sent = h }

  pub finds : (t : SentState)
      → AreSame (sender_of lines x.sub) (setup_of lines x.sub) (Some t) (sent_at (setup_of lines x.sub) all boot number)
      → Finds lines place boot number at t
  finds t h =
      found_as t (delivered lines d) refl
      (subst (AreSame (sender_of lines x.sub) (setup_of lines x.sub) (Some t)) same_sent h)

  none_as : (o : Option Datagram) → is_some o ≡ true → AreSame (sender_of lines x.sub) (setup_of lines x.sub) None o → ⊥
  none_as None is h = absurd cc
  none_as (Some datagram) is h = h

  pub finds_it : AreSame (sender_of lines x.sub) (setup_of lines x.sub) None (sent_at (setup_of lines x.sub) all boot number) → ⊥
  finds_it h =
      none_as (delivered lines d) was_sent (subst (AreSame (sender_of lines x.sub) (setup_of lines x.sub) None) same_sent h)
