-- Set-ups of one line more.
use Rattle.std.proofs.Common.{◌≡◌, ◌∙◌, ◌==◌, ◌<◌, ◌++◌, arith, ℕ, Bool, true, false, cond, List, [], ◌∷◌, length, map, reverse, set, get_or, find, filter_map, is_some, Option, Some, None, refl, ap, sym, slice_get, option_map, if◌then◌else◌}
use Rattle.std.specs.List.{AllByRecursion, list_any, cons_option}
use Rattle.std.proofs.lemmas.Bool.{and_parts, eqb-true, eq-eqb, true≢false}
use Rattle.std.proofs.lemmas.List.{map-append, map-set}
use Rattle.std.proofs.lemmas.Option.{same_Some, slice_get-map, slice_get-get_or}
use Rattle.wire_spec.specs.Heads.{AgentAddress}
use Rattle.agent_spec.specs.Sources as spec
use Rattle.agent_setups.specs.declared.setup.Setup.{Setup}
use Rattle.script_spec.specs.Lines.{Line, MaxLine, SubLine, FlowLine, CounterLine, PacketLine, PollLine, SendLine, RestartLine, ResetLine, DeliverLine, SubAgent}
use Rattle.script_spec.specs.Agents.{subs_in, is_of, flow_in, flows_of, counter_in, counters_of, max_of}
use Rattle.script_spec.specs.Rules.{is_known}
use Rattle.script_laws.specs.Lawful.{AreLawful}
use Rattle.script_tables.specs.Said.{Said, setup_said, said_of, SetupsState, SetsUp, names, with_flow, with_counter, IsSaidAt}
use Rattle.script_tables.proofs.ListTests.{any_map, not-false, turned}
use Rattle.script_tables.proofs.Owners.{rules_met}
use Rattle.script_tables.proofs.OfLines.{subs_are}
use Rattle.script_tables.proofs.Steps.{set_at}
use Rattle.script_tables.proofs.Forms.{any_reverse, known_any}

-- ---- an unknown ID has no sources

unknown_before : (id : ℕ) (t : SubAgent) (before : List Line) → is_known id (SubLine t ∷ before) ≡ false → is_known id before ≡ false
unknown_before id t before e = go (is_of id t) e
  where
    go : (b : Bool) → is_some (cond b (Some t) (find (is_of id) (subs_in before))) ≡ false → is_known id before ≡ false
    go true h = absurd cc
    go false h = h

no_flows : (id : ℕ) (lines : List Line) → AreLawful lines → is_known id lines ≡ false → filter_map (flow_in id) lines ≡ []
no_flows id [] l e = refl
no_flows id (FlowLine owner f ∷ before) l e = go (owner == id) refl (no_flows id before l.2 e)
  where
    known : is_known owner before ≡ true
    known = (and_parts (is_known owner before) _ (rules_met (FlowLine owner f) before l.1)).0

    go : (b : Bool) → (owner == id) ≡ b → filter_map (flow_in id) before ≡ []
        → cons_option (if b then Some f else None) (filter_map (flow_in id) before) ≡ []
    go true is h = absurd (true≢false (sym known ∙ ap (λ (n : ℕ). is_known n before) (eqb-true owner id is) ∙ e))
    go false is h = h
no_flows id (SubLine t ∷ before) l e = no_flows id before l.2 (unknown_before id t before e)
no_flows id (CounterLine owner c ∷ before) l e = no_flows id before l.2 e
no_flows id (MaxLine n ∷ before) l e = no_flows id before l.2 e
no_flows id (PacketLine p k ∷ before) l e = no_flows id before l.2 e
no_flows id (PollLine owner now ∷ before) l e = no_flows id before l.2 e
no_flows id (SendLine owner now ∷ before) l e = no_flows id before l.2 e
no_flows id (RestartLine owner at ∷ before) l e = no_flows id before l.2 e
no_flows id (ResetLine s ∷ before) l e = no_flows id before l.2 e
no_flows id (DeliverLine d ∷ before) l e = no_flows id before l.2 e

no_counters : (id : ℕ) (lines : List Line) → AreLawful lines → is_known id lines ≡ false → filter_map (counter_in id) lines ≡ []
no_counters id [] l e = refl
no_counters id (CounterLine owner c ∷ before) l e = go (owner == id) refl (no_counters id before l.2 e)
  where
    known : is_known owner before ≡ true
    known = (and_parts (is_known owner before) _ (rules_met (CounterLine owner c) before l.1)).0

    go : (b : Bool) → (owner == id) ≡ b → filter_map (counter_in id) before ≡ []
        → cons_option (if b then Some c else None) (filter_map (counter_in id) before) ≡ []
    go true is h = absurd (true≢false (sym known ∙ ap (λ (n : ℕ). is_known n before) (eqb-true owner id is) ∙ e))
    go false is h = h
no_counters id (SubLine t ∷ before) l e = no_counters id before l.2 (unknown_before id t before e)
no_counters id (FlowLine owner f ∷ before) l e = no_counters id before l.2 e
no_counters id (MaxLine n ∷ before) l e = no_counters id before l.2 e
no_counters id (PacketLine p k ∷ before) l e = no_counters id before l.2 e
no_counters id (PollLine owner now ∷ before) l e = no_counters id before l.2 e
no_counters id (SendLine owner now ∷ before) l e = no_counters id before l.2 e
no_counters id (RestartLine owner at ∷ before) l e = no_counters id before l.2 e
no_counters id (ResetLine s ∷ before) l e = no_counters id before l.2 e
no_counters id (DeliverLine d ∷ before) l e = no_counters id before l.2 e

-- ---- one line more

no_items : {X : Type 0} (xs : List X) → (length xs == 0) ≡ true → xs ≡ []
no_items [] e = refl
no_items (x ∷ xs) e = let none : length (x ∷ xs) ≡ 0 = eqb-true (length (x ∷ xs)) 0 e in absurd (omega (arith, none))

module _ (t : SetupsState) (lines : List Line) (tells : SetsUp t lines) where
  pub max_up : (bytes : ℕ) → AreLawful (MaxLine bytes ∷ lines) → SetsUp (record t { max = bytes }) (MaxLine bytes ∷ lines)
  max_up bytes lawful =
      let none : subs_in lines ≡ [] = no_items (subs_in lines) (and_parts _ _ (rules_met (MaxLine bytes) lines lawful.1)).1 in
      record {
        max = refl;
        setups =
            tells.setups ∙ ap (λ (ss : List SubAgent). map (said_of lines) (reverse ss)) none
            ∙ sym (ap (λ (ss : List SubAgent). map (said_of (MaxLine bytes ∷ lines)) (reverse ss)) none);
      }

  pub sub_up : (s : SubAgent) (u : Setup) (agent : AgentAddress) (id first stage most : ℕ) → most ≡ t.max → s.id ≡ id
      → s.address ≡ agent
      → s.first ≡ first → s.stage ≡ stage
      → setup_said u ≡ record {
        agent = agent;
        sub_agent = id;
        max_datagram = most;
        stage = stage;
        first = first;
        flows = [];
        counters = [];
      }
      → AreLawful (SubLine s ∷ lines) → SetsUp (record t { setups = t.setups ++ u ∷ [] }) (SubLine s ∷ lines)
  sub_up s u agent id first stage most is_most is_id is_agent is_first is_stage says lawful =
      let new : is_known s.id lines ≡ false = not-false _ (and_parts _ _ (rules_met (SubLine s) lines lawful.1)).0 in
      let a : agent ≡ s.address = sym is_agent in
      let b : id ≡ s.id = sym is_id in
      let c : first ≡ s.first = sym is_first in
      let d : stage ≡ s.stage = sym is_stage in
      let m : most ≡ max_of lines = is_most ∙ tells.max in
      let e : [] ≡ flows_of s.id lines = sym (ap reverse (no_flows s.id lines lawful.2 new)) in
      let f : [] ≡ counters_of s.id lines = sym (ap reverse (no_counters s.id lines lawful.2 new)) in
      let own : ◌≡◌ {A = Said}
      (record { agent = agent; sub_agent = id; max_datagram = most; stage = stage; first = first; flows = []; counters = [] })
      (said_of (SubLine s ∷ lines) s) =
      λ j. record {
        agent = a j;
        sub_agent = b j;
        max_datagram = m j;
        stage = d j;
        first = c j;
        flows = e j;
        counters = f j;
      } in
      record {
        max = tells.max;
        setups =
            map-append setup_said t.setups (u ∷ []) ∙ ap (λ (vs : List Said). vs ++ setup_said u ∷ []) tells.setups
            ∙ ap (λ (v : Said). map (said_of lines) (reverse (subs_in lines)) ++ v ∷ []) (says ∙ own)
            ∙ sym (map-append (said_of (SubLine s ∷ lines)) (reverse (subs_in lines)) (s ∷ []))
            ∙ ap (map (said_of (SubLine s ∷ lines))) (sym (turned s (subs_in lines)));
      }

  pub flow_up : (id : ℕ) (f : spec.FlowSetup) (setups : List Setup) (k : ℕ) (v : Said) → AreLawful (FlowLine id f ∷ lines)
      → slice_get (map setup_said t.setups) k ≡ Some v → v.sub_agent ≡ id
      → map setup_said setups ≡ set (map setup_said t.setups) k (with_flow f v)
      → SetsUp (record t { setups = setups }) (FlowLine id f ∷ lines)
  flow_up id f setups k v lawful there is made = record {
    max = tells.max;
    setups =
        made ∙ ap (λ (vs : List Said). set vs k (with_flow f v)) tells.setups
        ∙ set_at (λ (v : Said). v.sub_agent) (said_of lines) (said_of (FlowLine id f ∷ lines)) id (with_flow f) (λ s. refl) others
        (reverse (subs_in lines)) k v (subs_are lines lawful.2).apart (all_of (reverse (subs_in lines)))
        (ap (λ (vs : List Said). slice_get vs k) (sym tells.setups) ∙ there) is;
  }
    where
      by : SubAgent → Bool → Said
      by s b = record (said_of lines s) { flows = reverse (cons_option (if b then Some f else None) (filter_map (flow_in s.id) lines)) }

      others : (s : SubAgent) → (id == s.id) ≡ false → said_of (FlowLine id f ∷ lines) s ≡ said_of lines s
      others s e = ap (by s) e

      own : (s : SubAgent) → s.id ≡ id → with_flow f (said_of lines s) ≡ said_of (FlowLine id f ∷ lines) s
      own s e =
          sym (ap (by s) (eq-eqb id s.id (sym e))
          ∙ ap (λ (fs : List spec.FlowSetup). record (said_of lines s) { flows = fs }) (turned f (filter_map (flow_in s.id) lines)))

      all_of : (xs : List SubAgent)
          → AllByRecursion (λ (s : SubAgent). s.id ≡ id → with_flow f (said_of lines s) ≡ said_of (FlowLine id f ∷ lines) s) xs
      all_of [] = tt
      all_of (s ∷ more) = (own s, all_of more)

  pub counter_up : (id : ℕ) (c : spec.CounterSetup) (setups : List Setup) (k : ℕ) (v : Said) → AreLawful (CounterLine id c ∷ lines)
      → slice_get (map setup_said t.setups) k ≡ Some v → v.sub_agent ≡ id
      → map setup_said setups ≡ set (map setup_said t.setups) k (with_counter c v)
      → SetsUp (record t { setups = setups }) (CounterLine id c ∷ lines)
  counter_up id c setups k v lawful there is made = record {
    max = tells.max;
    setups =
        made ∙ ap (λ (vs : List Said). set vs k (with_counter c v)) tells.setups
        ∙ set_at (λ (v : Said). v.sub_agent) (said_of lines) (said_of (CounterLine id c ∷ lines)) id (with_counter c) (λ s. refl) others
        (reverse (subs_in lines)) k v (subs_are lines lawful.2).apart (all_of (reverse (subs_in lines)))
        (ap (λ (vs : List Said). slice_get vs k) (sym tells.setups) ∙ there) is;
  }
    where
      by : SubAgent → Bool → Said
      by s b =
          record (said_of lines s) { counters = reverse (cons_option (if b then Some c else None) (filter_map (counter_in s.id) lines)) }

      others : (s : SubAgent) → (id == s.id) ≡ false → said_of (CounterLine id c ∷ lines) s ≡ said_of lines s
      others s e = ap (by s) e

      own : (s : SubAgent) → s.id ≡ id → with_counter c (said_of lines s) ≡ said_of (CounterLine id c ∷ lines) s
      own s e =
          sym (ap (by s) (eq-eqb id s.id (sym e))
          ∙ ap (λ (cs : List spec.CounterSetup). record (said_of lines s) { counters = cs }) (turned c (filter_map (counter_in s.id) lines)))

      all_of : (xs : List SubAgent)
          → AllByRecursion (λ (s : SubAgent). s.id ≡ id → with_counter c (said_of lines s) ≡ said_of (CounterLine id c ∷ lines) s) xs
      all_of [] = tt
      all_of (s ∷ more) = (own s, all_of more)

-- ---- an ID of which there is a line has a set-up

same_names : (t : SetupsState) (lines : List Line) → SetsUp t lines → (id : ℕ) → names id t.setups ≡ list_any (is_of id) (subs_in lines)
same_names t lines tells id =
    any_map (λ (v : Said). v.sub_agent == id) setup_said t.setups ∙ ap (list_any (λ (v : Said). v.sub_agent == id)) tells.setups
    ∙ sym (any_map (λ (v : Said). v.sub_agent == id) (said_of lines) (reverse (subs_in lines)))
    ∙ any_reverse (is_of id) (subs_in lines)

unnamed : (t : SetupsState) (lines : List Line) → SetsUp t lines → (id : ℕ) → is_known id lines ≡ true
    → names id t.setups ≡ false → ⊥
unnamed t lines tells id known none =
    true≢false (sym (known_any id (subs_in lines) known) ∙ sym (same_names t lines tells id) ∙ none)

pub unnamed_flow : (t : SetupsState) (lines : List Line) → SetsUp t lines → (id : ℕ) (f : spec.FlowSetup)
    → AreLawful (FlowLine id f ∷ lines) → names id t.setups ≡ false → ⊥
unnamed_flow t lines tells id f lawful none =
    unnamed t lines tells id (and_parts (is_known id lines) _ (rules_met (FlowLine id f) lines lawful.1)).0 none

pub unnamed_counter : (t : SetupsState) (lines : List Line) → SetsUp t lines → (id : ℕ) (c : spec.CounterSetup)
    → AreLawful (CounterLine id c ∷ lines) → names id t.setups ≡ false → ⊥
unnamed_counter t lines tells id c lawful none =
    unnamed t lines tells id (and_parts (is_known id lines) _ (rules_met (CounterLine id c) lines lawful.1)).0 none

-- ---- places

pub said_place : (with : Said → Said) (xs : List Setup) (i : ℕ) (d y : Setup) → i < length xs
    → setup_said y ≡ with (setup_said (get_or xs i d)) → IsSaidAt with i xs (set xs i y)
said_place with xs i d y within says = record {
  said = setup_said (get_or xs i d);
  there = slice_get-map setup_said xs i ∙ ap (option_map setup_said) (slice_get-get_or xs i d within);
  made = map-set setup_said xs i y ∙ ap (λ (v : Said). set (map setup_said xs) i v) says;
}

pub found_name : (id : ℕ) (setups : List Setup) (k : ℕ) (v : Said) → slice_get (map setup_said setups) k ≡ Some v
    → ((u : Setup) → slice_get setups k ≡ Some u → u.sub_agent ≡ id) → v.sub_agent ≡ id
found_name id setups k v there here = go (slice_get setups k) refl (sym (slice_get-map setup_said setups k) ∙ there)
  where
    go : (o : Option Setup) → slice_get setups k ≡ o → option_map setup_said o ≡ Some v → v.sub_agent ≡ id
    go None is e = absurd cc
    go (Some u) is e = sym (ap (λ (x : Said). x.sub_agent) (same_Some _ _ e)) ∙ here u is
