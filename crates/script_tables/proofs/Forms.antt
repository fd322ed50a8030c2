-- The form of all samples is that of the lines.
use Rattle.std.proofs.Common.{◌≡◌, ◌∙◌, ◌==◌, ◌||◌, ◌⊎◌, inl, inr, ℕ, Bool, true, false, cond, List, [], ◌∷◌, map, reverse, find, filter_map, is_some, Some, None, refl, ap, sym, subst, if◌then◌else◌}
use Rattle.std.specs.Prelude.{nat_le}
use Rattle.std.specs.List.{list_any, cons_option}
use Rattle.std.proofs.lemmas.Bool.{and_parts, eqb-true, eq-eqb, or_left, or_right}
use Rattle.std.proofs.lemmas.List.Sorted.{list_any-IsPermutation, IsPermutation-reverse}
use Rattle.data_format.specs.declared.heads.Form.TheVariants.{Compact, Expanded}
use Rattle.agent_spec.specs.Sources as spec
use Rattle.agent_spec.specs.Spelled as spelled
use Rattle.agent_setups.specs.declared.setup.FlowSetup.{FlowSetup}
use Rattle.agent_setups.specs.declared.setup.CounterSetup.{CounterSetup}
use Rattle.agent_setups.specs.declared.setup.Setup.{Setup}
use Rattle.agent_setups.specs.Ids.{has_great_index}
use Rattle.agent_setups.specs.Faults.{sampled_ids, polled_ids}
use Rattle.agent_setups.specs.Lists.{needs_words, form_for}
use Rattle.script_spec.specs.Lines.{Line, MaxLine, SubLine, FlowLine, CounterLine, PacketLine, PollLine, SendLine, RestartLine, ResetLine, DeliverLine, SubAgent}
use Rattle.script_spec.specs.Agents.{sources_in, subs_in, is_of, flow_in, counter_in, is_wide, form_of}
use Rattle.script_spec.specs.Rules.{is_known}
use Rattle.script_laws.specs.Lawful.{AreLawful}
use Rattle.script_tables.specs.Said.{flow_said, counter_said, setup_said, said_of, AreSetUp, form_said}
use Rattle.script_tables.proofs.ListTests.{either, any_implies, any_later}
use Rattle.script_tables.proofs.Owners.{rules_met}
use Rattle.script_tables.proofs.Accepted.{head_is, tail_is}

pub any_reverse : {X : Type 0} (q : X → Bool) (xs : List X) → list_any q (reverse xs) ≡ list_any q xs
any_reverse q xs = sym (list_any-IsPermutation q xs (reverse xs) (IsPermutation-reverse xs))

abbrev wide_flow : spec.FlowSetup → Bool
wide_flow f = nat_le 16777216 f.source.index

abbrev wide_counter : spec.CounterSetup → Bool
wide_counter c = nat_le 16777216 c.source.index

-- some source of this sub-agent needs the expanded form
abbrev wide_in : List Line → ℕ → Bool
wide_in lines id = list_any wide_flow (filter_map (flow_in id) lines) || list_any wide_counter (filter_map (counter_in id) lines)

-- ---- from set-ups to lines

great_flows : (fs : List FlowSetup) → has_great_index (sampled_ids fs) ≡ list_any wide_flow (map flow_said fs)
great_flows [] = refl
great_flows (f ∷ more) = ap (λ (b : Bool). nat_le 16777216 f.source.index || b) (great_flows more)

great_counters : (cs : List CounterSetup) → has_great_index (polled_ids cs) ≡ list_any wide_counter (map counter_said cs)
great_counters [] = refl
great_counters (c ∷ more) = ap (λ (b : Bool). nat_le 16777216 c.source.index || b) (great_counters more)

needs_is : (lines : List Line) (u : Setup) (s : SubAgent) → setup_said u ≡ said_of lines s → needs_words u ≡ wide_in lines s.id
needs_is lines u s said =
    ap (λ (b : Bool). b || has_great_index (polled_ids u.counters.items))
    (great_flows u.flows.items ∙ ap (λ v. list_any wide_flow v.flows) said ∙ any_reverse wide_flow (filter_map (flow_in s.id) lines))
    ∙ ap (λ (b : Bool). list_any wide_flow (filter_map (flow_in s.id) lines) || b)
    (great_counters u.counters.items ∙ ap (λ v. list_any wide_counter v.counters) said
    ∙ any_reverse wide_counter (filter_map (counter_in s.id) lines))

all_needs : (lines : List Line) (setups : List Setup) (subs : List SubAgent) → map setup_said setups ≡ map (said_of lines) subs
    → list_any needs_words setups ≡ list_any (λ (s : SubAgent). wide_in lines s.id) subs
all_needs lines [] [] m = refl
all_needs lines [] (s ∷ subs) m = absurd cc
all_needs lines (u ∷ more) [] m = absurd cc
all_needs lines (u ∷ more) (s ∷ subs) m =
    ap (λ (b : Bool). b || list_any needs_words more) (needs_is lines u s (head_is _ _ _ _ m))
    ∙ ap (λ (b : Bool). wide_in lines s.id || b) (all_needs lines more subs (tail_is _ _ _ _ m))

-- ---- a wide source of a sub-agent is a wide source

flow_wide : (id : ℕ) (lines : List Line) → list_any wide_flow (filter_map (flow_in id) lines) ≡ true
    → list_any is_wide (sources_in lines) ≡ true
flow_wide id [] e = absurd cc
flow_wide id (FlowLine owner f ∷ before) e = go (owner == id) e (flow_wide id before)
  where
    go : (b : Bool) → list_any wide_flow (cons_option (if b then Some f else None) (filter_map (flow_in id) before)) ≡ true
        → (list_any wide_flow (filter_map (flow_in id) before) ≡ true → list_any is_wide (sources_in before) ≡ true)
        → (wide_flow f || list_any is_wide (sources_in before)) ≡ true
    go true h others = elim (either (wide_flow f) _ h) [ inl x ↦ or_left _ _ x | inr y ↦ or_right (wide_flow f) _ (others y) ]
    go false h others = or_right (wide_flow f) _ (others h)
flow_wide id (CounterLine owner c ∷ before) e = or_right (wide_counter c) _ (flow_wide id before e)
flow_wide id (MaxLine n ∷ before) e = flow_wide id before e
flow_wide id (SubLine s ∷ before) e = flow_wide id before e
flow_wide id (PacketLine p k ∷ before) e = flow_wide id before e
flow_wide id (PollLine owner now ∷ before) e = flow_wide id before e
flow_wide id (SendLine owner now ∷ before) e = flow_wide id before e
flow_wide id (RestartLine owner at ∷ before) e = flow_wide id before e
flow_wide id (ResetLine s ∷ before) e = flow_wide id before e
flow_wide id (DeliverLine d ∷ before) e = flow_wide id before e

counter_wide : (id : ℕ) (lines : List Line) → list_any wide_counter (filter_map (counter_in id) lines) ≡ true
    → list_any is_wide (sources_in lines) ≡ true
counter_wide id [] e = absurd cc
counter_wide id (CounterLine owner c ∷ before) e = go (owner == id) e (counter_wide id before)
  where
    go : (b : Bool) → list_any wide_counter (cons_option (if b then Some c else None) (filter_map (counter_in id) before)) ≡ true
        → (list_any wide_counter (filter_map (counter_in id) before) ≡ true → list_any is_wide (sources_in before) ≡ true)
        → (wide_counter c || list_any is_wide (sources_in before)) ≡ true
    go true h others = elim (either (wide_counter c) _ h) [ inl x ↦ or_left _ _ x | inr y ↦ or_right (wide_counter c) _ (others y) ]
    go false h others = or_right (wide_counter c) _ (others h)
counter_wide id (FlowLine owner f ∷ before) e = or_right (wide_flow f) _ (counter_wide id before e)
counter_wide id (MaxLine n ∷ before) e = counter_wide id before e
counter_wide id (SubLine s ∷ before) e = counter_wide id before e
counter_wide id (PacketLine p k ∷ before) e = counter_wide id before e
counter_wide id (PollLine owner now ∷ before) e = counter_wide id before e
counter_wide id (SendLine owner now ∷ before) e = counter_wide id before e
counter_wide id (RestartLine owner at ∷ before) e = counter_wide id before e
counter_wide id (ResetLine s ∷ before) e = counter_wide id before e
counter_wide id (DeliverLine d ∷ before) e = counter_wide id before e

sub_wide : (lines : List Line) (subs : List SubAgent) → list_any (λ (s : SubAgent). wide_in lines s.id) subs ≡ true
    → list_any is_wide (sources_in lines) ≡ true
sub_wide lines [] e = absurd cc
sub_wide lines (s ∷ subs) e = go (either (wide_in lines s.id) _ e) (sub_wide lines subs)
  where
    go : (wide_in lines s.id ≡ true) ⊎ (list_any (λ (t : SubAgent). wide_in lines t.id) subs ≡ true)
        → (list_any (λ (t : SubAgent). wide_in lines t.id) subs ≡ true → list_any is_wide (sources_in lines) ≡ true)
        → list_any is_wide (sources_in lines) ≡ true
    go (inl h) others =
        elim (either (list_any wide_flow (filter_map (flow_in s.id) lines)) _ h) [
          | inl x ↦ flow_wide s.id lines x
          | inr y ↦ counter_wide s.id lines y
        ]
    go (inr h) others = others h

-- ---- a wide source is one of a sub-agent

pub known_any : (id : ℕ) (xs : List SubAgent) → is_some (find (is_of id) xs) ≡ true → list_any (is_of id) xs ≡ true
known_any id [] e = absurd cc
known_any id (x ∷ more) e = go (is_of id x) e (known_any id more)
  where
    go : (b : Bool) → is_some (cond b (Some x) (find (is_of id) more)) ≡ true
        → (is_some (find (is_of id) more) ≡ true → list_any (is_of id) more ≡ true) → (b || list_any (is_of id) more) ≡ true
    go true h others = refl
    go false h others = others h

-- one line more leaves what was wide
still_wide : (line : Line) (before : List Line) (id : ℕ) → wide_in before id ≡ true → wide_in (line ∷ before) id ≡ true
still_wide line before id e =
    elim (either (list_any wide_flow (filter_map (flow_in id) before)) _ e) [
      | inl x ↦ or_left _ _ (any_later wide_flow (flow_in id line) (filter_map (flow_in id) before) x)
      | inr y ↦
          or_right (list_any wide_flow (filter_map (flow_in id) (line ∷ before))) _
          (any_later wide_counter (counter_in id line) (filter_map (counter_in id) before) y)
    ]

still_some : (line : Line) (before : List Line) → list_any (λ (s : SubAgent). wide_in before s.id) (subs_in before) ≡ true
    → list_any (λ (s : SubAgent). wide_in (line ∷ before) s.id) (subs_in before) ≡ true
still_some line before =
    any_implies (λ (s : SubAgent). wide_in before s.id) (λ (s : SubAgent). wide_in (line ∷ before) s.id)
    (λ s. still_wide line before s.id) (subs_in before)

own_flow : (id : ℕ) (f : spec.FlowSetup) (before : List Line) (i : ℕ) → i ≡ id → wide_flow f ≡ true
    → wide_in (FlowLine id f ∷ before) i ≡ true
own_flow id f before i is wide =
    or_left _ _ (subst (λ (b : Bool). list_any wide_flow (cons_option (if b then Some f else None) (filter_map (flow_in i) before)) ≡ true)
    (sym (eq-eqb id i (sym is))) (or_left (wide_flow f) _ wide))

own_counter : (id : ℕ) (c : spec.CounterSetup) (before : List Line) (i : ℕ) → i ≡ id → wide_counter c ≡ true
    → wide_in (CounterLine id c ∷ before) i ≡ true
own_counter id c before i is wide =
    or_right (list_any wide_flow (filter_map (flow_in i) (CounterLine id c ∷ before))) _
    (subst (λ (b : Bool). list_any wide_counter (cons_option (if b then Some c else None) (filter_map (counter_in i) before)) ≡ true)
    (sym (eq-eqb id i (sym is))) (or_left (wide_counter c) _ wide))

abbrev SomeWide : List Line → Type 0
SomeWide lines = list_any (λ (s : SubAgent). wide_in lines s.id) (subs_in lines) ≡ true

wide_owned : (lines : List Line) → AreLawful lines → list_any is_wide (sources_in lines) ≡ true → SomeWide lines
wide_owned [] l e = absurd cc
wide_owned (FlowLine id f ∷ before) l e = go (either (wide_flow f) _ e) (wide_owned before l.2)
  where
    go : (wide_flow f ≡ true) ⊎ (list_any is_wide (sources_in before) ≡ true)
        → (list_any is_wide (sources_in before) ≡ true → SomeWide before) → SomeWide (FlowLine id f ∷ before)
    go (inl h) others =
        any_implies (is_of id) (λ (s : SubAgent). wide_in (FlowLine id f ∷ before) s.id)
        (λ s same. own_flow id f before s.id (eqb-true s.id id same) h) (subs_in before)
        (known_any id (subs_in before) (and_parts (is_known id before) _ (rules_met (FlowLine id f) before l.1)).0)
    go (inr h) others = still_some (FlowLine id f) before (others h)
wide_owned (CounterLine id c ∷ before) l e = go (either (wide_counter c) _ e) (wide_owned before l.2)
  where
    go : (wide_counter c ≡ true) ⊎ (list_any is_wide (sources_in before) ≡ true)
        → (list_any is_wide (sources_in before) ≡ true → SomeWide before) → SomeWide (CounterLine id c ∷ before)
    go (inl h) others =
        any_implies (is_of id) (λ (s : SubAgent). wide_in (CounterLine id c ∷ before) s.id)
        (λ s same. own_counter id c before s.id (eqb-true s.id id same) h) (subs_in before)
        (known_any id (subs_in before) (and_parts (is_known id before) _ (rules_met (CounterLine id c) before l.1)).0)
    go (inr h) others = still_some (CounterLine id c) before (others h)
wide_owned (SubLine s ∷ before) l e = or_right (wide_in (SubLine s ∷ before) s.id) _ (wide_owned before l.2 e)
wide_owned (MaxLine n ∷ before) l e = wide_owned before l.2 e
wide_owned (PacketLine p k ∷ before) l e = wide_owned before l.2 e
wide_owned (PollLine owner now ∷ before) l e = wide_owned before l.2 e
wide_owned (SendLine owner now ∷ before) l e = wide_owned before l.2 e
wide_owned (RestartLine owner at ∷ before) l e = wide_owned before l.2 e
wide_owned (ResetLine s ∷ before) l e = wide_owned before l.2 e
wide_owned (DeliverLine d ∷ before) l e = wide_owned before l.2 e

-- ---- both

same_tests : (a b : Bool) → (a ≡ true → b ≡ true) → (b ≡ true → a ≡ true) → a ≡ b
same_tests true b f g = sym (f refl)
same_tests false true f g = g refl
same_tests false false f g = refl

forms : (b : Bool) → form_said (cond b Expanded Compact) ≡ (if b then spelled.Expanded else spelled.Compact)
forms true = refl
forms false = refl

pub one_form : (lines : List Line) (setups : List Setup) → AreLawful lines → AreSetUp lines setups
    → form_said (form_for setups) ≡ form_of lines
one_form lines setups lawful m =
    let needs = all_needs lines setups (reverse (subs_in lines)) m in
    let turned = any_reverse (λ (s : SubAgent). wide_in lines s.id) (subs_in lines) in
    let same : list_any needs_words setups ≡ list_any is_wide (sources_in lines) =
    needs ∙ turned ∙ same_tests _ _ (sub_wide lines (subs_in lines)) (wide_owned lines lawful) in
    forms (list_any needs_words setups) ∙ ap (λ (b : Bool). if b then spelled.Expanded else spelled.Compact) same
