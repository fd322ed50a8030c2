-- The set-ups of lawful lines break no rule.
use Rattle.std.proofs.Common.{◌≡◌, ◌∙◌, ◌≤◌, ◌<◌, ◌==◌, ◌&&◌, ◌||◌, inl, inr, ℕ, Bool, true, false, cond, List, [], ◌∷◌, length, map, reverse, filter_map, Option, None, refl, ap, sym, arith}
use Rattle.std.specs.Prelude.{nat_lt}
use Rattle.std.specs.List.{AllByRecursion, list_any}
use Rattle.std.proofs.lemmas.Bool.{and_parts, and_right, or_parts, or_from, ltb-true, eqb-true, eq-eqb, false_from_ne_true, true≢false}
use Rattle.std.proofs.lemmas.List.{length-map, length-reverse}
use Rattle.data_format.specs.declared.source.SourceId.{SourceId}
use Rattle.data_format.specs.declared.heads.Form.{Form}
use Rattle.data_format.specs.declared.heads.Form.TheVariants.{Compact, Expanded}
use Rattle.agent_spec.specs.Sources as spec
use Rattle.agent_setups.specs.declared.setup.FlowSetup.{FlowSetup}
use Rattle.agent_setups.specs.declared.setup.CounterSetup.{CounterSetup}
use Rattle.agent_setups.specs.declared.setup.Setup.{Setup}
use Rattle.agent_setups.specs.Ids.{same_id, is_among, has_twice, has_great_class}
use Rattle.agent_setups.specs.Faults.{sampled_ids, polled_ids, has_zero_rate, has_zero_time, is_compact, setup_fault}
use Rattle.agent_setups.specs.Lists.{needs_words, form_for, same_address, has_same_name, has_source, shares_source, some_two, list_fault, first_or, first_fault, device_fault}
use Rattle.script_spec.specs.Values.{Place}
use Rattle.script_spec.specs.Lines.{Line, SubAgent, place_of}
use Rattle.script_spec.specs.Agents.{Owned, sources_in, subs_in, flow_in, counter_in, flows_of, counters_of, max_of}
use Rattle.agent_spec.specs.Sources.{same_kind}
use Rattle.script_laws.specs.Lawful.{AreLawful}
use Rattle.script_tables.specs.Said.{flow_said, counter_said, setup_said, said_of, AreSetUp}
use Rattle.script_tables.proofs.ListTests.{either, none_then, any_implies, none_turned, any_turned, any_map, found_in, same_at, same_at-self, is_one, some_twice}
use Rattle.script_tables.proofs.Owners.{owns, one_owner}
use Rattle.script_tables.proofs.OfKind.{owns_kind, each_of, is_owned, none_twice, few, classes}
use Rattle.script_tables.proofs.OfLines.{flow_told, flow_rate, counter_told, counter_time, IsStage, AreApart, subs_are, max_is}
use Rattle.script_tables.proofs.ListTests.{none_of, one_any}

-- ---- tests over the sources of a set-up

abbrev id_place : SourceId → Place
id_place id = record { class = id.class; index = id.index }

module _ {C S : Type 0} (id_of : C → SourceId) (of : S → spec.Source) (said : C → S)
    (same : (c : C) → place_of (of (said c)) ≡ id_place (id_of c)) where
  abbrev ids : List C → List SourceId
  ids cs = map id_of cs

  abbrev places_in : List S → List Place
  places_in xs = map (λ (s : S). place_of (of s)) xs

  among : (id : SourceId) (cs : List C) → is_among id (ids cs) ≡ is_one (id_place id) (places_in (map said cs))
  among id [] = refl
  among id (c ∷ more) =
      ap (λ (b : Bool). same_id (id_of c) id || b) (among id more)
      ∙ ap (λ (p : Place). same_at p (id_place id) || is_one (id_place id) (places_in (map said more))) (sym (same c))

  twice : (cs : List C) → has_twice (ids cs) ≡ some_twice (places_in (map said cs))
  twice [] = refl
  twice (c ∷ more) =
      ap (λ (b : Bool). b || has_twice (ids more)) (among (id_of c) more)
      ∙ ap (λ (b : Bool). is_one (id_place (id_of c)) (places_in (map said more)) || b) (twice more)
      ∙ ap (λ (p : Place). is_one p (places_in (map said more)) || some_twice (places_in (map said more))) (sym (same c))

  great : (cs : List C) → has_great_class (ids cs) ≡ list_any (λ (s : S). nat_lt 255 (of s).class) (map said cs)
  great [] = refl
  great (c ∷ more) =
      ap (λ (b : Bool). nat_lt 255 (id_of c).class || b) (great more)
      ∙ ap (λ (p : Place). nat_lt 255 p.class || list_any (λ (s : S). nat_lt 255 (of s).class) (map said more)) (sym (same c))

  long : (cs : List C) → length (ids cs) ≡ length (map said cs)
  long cs = length-map cs id_of ∙ sym (length-map cs said)

  one_turned : (p : Place) (raw : List S) → is_one p (places_in (reverse raw)) ≡ true
      → list_any (λ (s : S). same_at (place_of (of s)) p) raw ≡ true
  one_turned p raw e =
      any_turned (λ (s : S). same_at (place_of (of s)) p) raw (sym (one_any (λ (s : S). place_of (of s)) p (reverse raw)) ∙ e)

-- ---- one set-up

-- these set-ups are those of these sub-agents
abbrev Match : List Line → List Setup → List SubAgent → Type 0
Match lines setups subs = map setup_said setups ≡ map (said_of lines) subs

module _ (lines : List Line) (lawful : AreLawful lines) (u : Setup) (s : SubAgent) (said : setup_said u ≡ said_of lines s) where
  abbrev flows_are : map flow_said u.flows.items ≡ flows_of s.id lines
  flows_are = ap (λ v. v.flows) said

  abbrev counters_are : map counter_said u.counters.items ≡ counters_of s.id lines
  counters_are = ap (λ v. v.counters) said

  max_fits : (nat_lt u.max_datagram 64 || nat_lt 65535 u.max_datagram) ≡ false
  max_fits =
      let m = max_is lines lawful in
      let is : u.max_datagram ≡ max_of lines = ap (λ v. v.max_datagram) said in
      or_from _ _ (ap (λ (n : ℕ). nat_lt n 64) is ∙ m.least) (ap (λ (n : ℕ). nat_lt 65535 n) is ∙ m.most)

  stage_fits : IsStage s → ((u.stage == 0) || nat_lt 1024 u.stage) ≡ false
  stage_fits h =
      let is : u.stage ≡ s.stage = ap (λ v. v.stage) said in
      or_from _ _ (ap (λ (n : ℕ). n == 0) is ∙ h.some) (ap (λ (n : ℕ). nat_lt 1024 n) is ∙ h.most)

  not_over : (n : ℕ) → n ≤ 1024 → nat_lt 1024 n ≡ false
  not_over n h = false_from_ne_true (nat_lt 1024 n) (λ e. let over : 1024 < n = ltb-true 1024 n e in omega (arith, h, over))

  lists_fit : (nat_lt 1024 (length (sampled_ids u.flows.items)) || nat_lt 1024 (length (polled_ids u.counters.items))) ≡ false
  lists_fit =
      let a : length (sampled_ids u.flows.items) ≡ length (flows_of s.id lines) =
      long (λ (f : FlowSetup). f.source) (λ (f : spec.FlowSetup). f.source) flow_said (λ c. refl) u.flows.items ∙ ap length flows_are in
      let b : length (polled_ids u.counters.items) ≡ length (counters_of s.id lines) =
      long (λ (c : CounterSetup). c.source) (λ (c : spec.CounterSetup). c.source) counter_said (λ c. refl) u.counters.items
      ∙ ap length counters_are in
      or_from _ _
      (ap (λ (n : ℕ). nat_lt 1024 n) a ∙ not_over _ (few (λ (f : spec.FlowSetup). f.source) true flow_in flow_told s.id lines lawful))
      (ap (λ (n : ℕ). nat_lt 1024 n) b
      ∙ not_over _ (few (λ (c : spec.CounterSetup). c.source) false counter_in counter_told s.id lines lawful))

  none_stands_twice : (has_twice (sampled_ids u.flows.items) || has_twice (polled_ids u.counters.items)) ≡ false
  none_stands_twice =
      or_from _ _
      (twice (λ (f : FlowSetup). f.source) (λ (f : spec.FlowSetup). f.source) flow_said (λ c. refl) u.flows.items
      ∙ ap (λ (xs : List spec.FlowSetup). some_twice (map (λ (f : spec.FlowSetup). place_of f.source) xs)) flows_are
      ∙ none_twice (λ (f : spec.FlowSetup). f.source) true flow_in flow_told s.id lines lawful)
      (twice (λ (c : CounterSetup). c.source) (λ (c : spec.CounterSetup). c.source) counter_said (λ c. refl) u.counters.items
      ∙ ap (λ (xs : List spec.CounterSetup). some_twice (map (λ (c : spec.CounterSetup). place_of c.source) xs)) counters_are
      ∙ none_twice (λ (c : spec.CounterSetup). c.source) false counter_in counter_told s.id lines lawful)

  no_zeros : (has_zero_rate u.flows.items || has_zero_time u.counters.items) ≡ false
  no_zeros =
      or_from _ _
      (any_map (λ (f : spec.FlowSetup). f.rate == 0) flow_said u.flows.items
      ∙ ap (list_any (λ (f : spec.FlowSetup). f.rate == 0)) flows_are
      ∙ none_turned (λ (f : spec.FlowSetup). f.rate == 0) (filter_map (flow_in s.id) lines)
      (none_of _ _ (each_of (λ (f : spec.FlowSetup). f.source) true flow_in flow_told (λ (f : spec.FlowSetup). (f.rate == 0) ≡ false) s.id
      (λ line f. flow_rate s.id line f) lines lawful)))
      (any_map (λ (c : spec.CounterSetup). c.every == 0) counter_said u.counters.items
      ∙ ap (list_any (λ (c : spec.CounterSetup). c.every == 0)) counters_are
      ∙ none_turned (λ (c : spec.CounterSetup). c.every == 0) (filter_map (counter_in s.id) lines)
      (none_of _ _ (each_of (λ (c : spec.CounterSetup). c.source) false counter_in counter_told
      (λ (c : spec.CounterSetup). (c.every == 0) ≡ false) s.id (λ line c. counter_time s.id line c) lines lawful)))

  no_great_class : (has_great_class (sampled_ids u.flows.items) || has_great_class (polled_ids u.counters.items)) ≡ false
  no_great_class =
      or_from _ _
      (great (λ (f : FlowSetup). f.source) (λ (f : spec.FlowSetup). f.source) flow_said (λ c. refl) u.flows.items
      ∙ ap (list_any (λ (f : spec.FlowSetup). nat_lt 255 f.source.class)) flows_are
      ∙ none_turned (λ (f : spec.FlowSetup). nat_lt 255 f.source.class) (filter_map (flow_in s.id) lines)
      (classes (λ (f : spec.FlowSetup). f.source) true flow_in flow_told s.id lines lawful))
      (great (λ (c : CounterSetup). c.source) (λ (c : spec.CounterSetup). c.source) counter_said (λ c. refl) u.counters.items
      ∙ ap (list_any (λ (c : spec.CounterSetup). nat_lt 255 c.source.class)) counters_are
      ∙ none_turned (λ (c : spec.CounterSetup). nat_lt 255 c.source.class) (filter_map (counter_in s.id) lines)
      (classes (λ (c : spec.CounterSetup). c.source) false counter_in counter_told s.id lines lawful))

  setup_fits : (form : Form) → IsStage s → (is_compact form && needs_words u) ≡ false → setup_fault form u ≡ None
  setup_fits form stage words =
      none_then _ _ _ max_fits (none_then _ _ _ (stage_fits stage) (none_then _ _ _ lists_fit
      (none_then _ _ _ none_stands_twice (none_then _ _ _ no_zeros (none_then _ _ _ no_great_class
      (none_then _ _ _ words refl))))))

  -- a source of the set-up is the sub-agent's
  flow_owned : (id : SourceId) → is_among id (sampled_ids u.flows.items) ≡ true
      → list_any (owns s.id (id_place id)) (sources_in lines) ≡ true
  flow_owned id e =
      let there = sym (among (λ (f : FlowSetup). f.source) (λ (f : spec.FlowSetup). f.source) flow_said (λ c. refl) id u.flows.items
      ∙ ap (λ (xs : List spec.FlowSetup). is_one (id_place id) (map (λ (f : spec.FlowSetup). place_of f.source) xs)) flows_are) ∙ e in
      any_implies (owns_kind true s.id (id_place id)) (owns s.id (id_place id))
      (λ (o : Owned) h. (and_parts (same_kind true o.source.flow) (owns s.id (id_place id) o) h).1) (sources_in lines)
      (is_owned (λ (f : spec.FlowSetup). f.source) true flow_in flow_told s.id (id_place id) lines lawful
      (one_turned (λ (f : FlowSetup). f.source) (λ (f : spec.FlowSetup). f.source) flow_said (λ c. refl) (id_place id)
      (filter_map (flow_in s.id) lines) there))

  counter_owned : (id : SourceId) → is_among id (polled_ids u.counters.items) ≡ true
      → list_any (owns s.id (id_place id)) (sources_in lines) ≡ true
  counter_owned id e =
      let there = sym (among (λ (c : CounterSetup). c.source) (λ (c : spec.CounterSetup). c.source) counter_said (λ c. refl) id
      u.counters.items
      ∙ ap (λ (xs : List spec.CounterSetup). is_one (id_place id) (map (λ (c : spec.CounterSetup). place_of c.source) xs)) counters_are) ∙ e in
      any_implies (owns_kind false s.id (id_place id)) (owns s.id (id_place id))
      (λ (o : Owned) h. (and_parts (same_kind false o.source.flow) (owns s.id (id_place id) o) h).1) (sources_in lines)
      (is_owned (λ (c : spec.CounterSetup). c.source) false counter_in counter_told s.id (id_place id) lines lawful
      (one_turned (λ (c : CounterSetup). c.source) (λ (c : spec.CounterSetup). c.source) counter_said (λ c. refl) (id_place id)
      (filter_map (counter_in s.id) lines) there))

  has_owned : (id : SourceId) → has_source id u ≡ true → list_any (owns s.id (id_place id)) (sources_in lines) ≡ true
  has_owned id e = elim (either (is_among id (sampled_ids u.flows.items)) _ e) [
    | inl h ↦ flow_owned id h
    | inr h ↦ counter_owned id h
  ]

-- ---- two set-ups

own_among : {C : Type 0} (id_of : C → SourceId) (id : SourceId) (cs : List C)
    → list_any (λ (c : C). same_id (id_of c) id) cs ≡ true → is_among id (map id_of cs) ≡ true
own_among id_of id [] e = absurd cc
own_among id_of id (c ∷ more) e = go (same_id (id_of c) id) (own_among id_of id more) e
  where
    go : (b : Bool) → (list_any (λ (c : _). same_id (id_of c) id) more ≡ true → is_among id (map id_of more) ≡ true)
        → (b || list_any (λ (c : _). same_id (id_of c) id) more) ≡ true → (b || is_among id (map id_of more)) ≡ true
    go true others h = refl
    go false others h = others h

same_self : (id : SourceId) → same_id id id ≡ true
same_self id = same_at-self (id_place id) (id_place id) refl

module _ (lines : List Line) (lawful : AreLawful lines) (u t : Setup) (s r : SubAgent) (said : setup_said u ≡ said_of lines s)
    (other : setup_said t ≡ said_of lines r) (apart : (s.id == r.id) ≡ false) where
  names_differ : has_same_name u t ≡ false
  names_differ =
      let mine : u.sub_agent ≡ s.id = ap (λ v. v.sub_agent) said in
      let its : t.sub_agent ≡ r.id = ap (λ v. v.sub_agent) other in
      and_right (same_address u.agent t.agent) _
      (ap (λ (n : ℕ). n == t.sub_agent) mine ∙ ap (λ (n : ℕ). s.id == n) its ∙ apart)

  two_owners : (id : SourceId) → list_any (owns s.id (id_place id)) (sources_in lines) ≡ true → has_source id t ≡ true → ⊥
  two_owners id mine its =
      let same = one_owner s.id r.id (id_place id) lines lawful mine (has_owned lines lawful t r other id its) in
      true≢false (sym (eq-eqb s.id r.id same) ∙ apart)

  none_shared : shares_source u t ≡ false
  none_shared =
      or_from _ _
      (false_from_ne_true _ (λ h.
      let f = found_in (λ (f : FlowSetup). has_source f.source t) u.flows.items h in
      two_owners f.item.source (flow_owned lines lawful u s said f.item.source
      (own_among (λ (f : FlowSetup). f.source) f.item.source u.flows.items
      (f.there (λ (g : FlowSetup). same_id g.source f.item.source) (same_self f.item.source)))) f.holds))
      (false_from_ne_true _ (λ h.
      let f = found_in (λ (c : CounterSetup). has_source c.source t) u.counters.items h in
      two_owners f.item.source (counter_owned lines lawful u s said f.item.source
      (own_among (λ (c : CounterSetup). c.source) f.item.source u.counters.items
      (f.there (λ (g : CounterSetup). same_id g.source f.item.source) (same_self f.item.source)))) f.holds))

-- ---- all set-ups

pub head_is : {X : Type 0} (x y : X) (xs ys : List X) → x ∷ xs ≡ y ∷ ys → x ≡ y
head_is x y xs ys e = cc

pub tail_is : {X : Type 0} (x y : X) (xs ys : List X) → x ∷ xs ≡ y ∷ ys → xs ≡ ys
tail_is x y xs ys e = cc

module _ (lines : List Line) (lawful : AreLawful lines) where
  each_fits : (form : Form) (setups : List Setup) (subs : List SubAgent) → Match lines setups subs
      → AllByRecursion IsStage subs → (is_compact form && list_any needs_words setups) ≡ false
      → first_fault form setups ≡ None
  each_fits form [] subs m stages words = refl
  each_fits form (u ∷ more) [] m stages words = absurd cc
  each_fits form (u ∷ more) (s ∷ subs) m stages words =
      let said = head_is _ _ _ _ m in
      let rest = tail_is _ _ _ _ m in
      let both = split (is_compact form) (needs_words u) (list_any needs_words more) words in
      ap (λ (o : Option ℕ). first_or o (first_fault form more)) (setup_fits lines lawful u s said form stages.0 both.0)
      ∙ each_fits form more subs rest stages.1 both.1
    where
      split : (a b c : Bool) → (a && (b || c)) ≡ false → ((a && b) ≡ false) × ((a && c) ≡ false)
      split true b c e = or_parts b c e
      split false b c e = (refl, refl)

  module _ (so : Setup → Setup → Bool)
      (never : (u t : Setup) (s r : SubAgent) → setup_said u ≡ said_of lines s → setup_said t ≡ said_of lines r
      → (s.id == r.id) ≡ false → so u t ≡ false) where
    none_behind : (u : Setup) (s : SubAgent) → setup_said u ≡ said_of lines s → (setups : List Setup) (subs : List SubAgent)
        → Match lines setups subs → AllByRecursion (λ (r : SubAgent). (s.id == r.id) ≡ false) subs
        → list_any (so u) setups ≡ false
    none_behind u s said [] subs m apart = refl
    none_behind u s said (t ∷ more) [] m apart = absurd cc
    none_behind u s said (t ∷ more) (r ∷ subs) m apart =
        or_from _ _ (never u t s r said (head_is _ _ _ _ m) apart.0)
        (none_behind u s said more subs (tail_is _ _ _ _ m) apart.1)

    no_two : (setups : List Setup) (subs : List SubAgent) → Match lines setups subs → AreApart subs → some_two so setups ≡ false
    no_two [] subs m apart = refl
    no_two (u ∷ more) [] m apart = absurd cc
    no_two (u ∷ more) (s ∷ subs) m apart =
        or_from _ _ (none_behind u s (head_is _ _ _ _ m) more subs (tail_is _ _ _ _ m) apart.0)
        (no_two more subs (tail_is _ _ _ _ m) apart.1)

form_fits : (b : Bool) → (is_compact (cond b Expanded Compact) && b) ≡ false
form_fits true = refl
form_fits false = refl

some_and_few : (n : ℕ) → 1 ≤ n → n ≤ 64 → ((n == 0) || nat_lt 64 n) ≡ false
some_and_few n low high =
    or_from _ _ (false_from_ne_true (n == 0) (λ e. let zero : n ≡ 0 = eqb-true n 0 e in omega (arith, low, zero)))
    (false_from_ne_true (nat_lt 64 n) (λ e. let over : 64 < n = ltb-true 64 n e in omega (arith, high, over)))

pub accepted : (lines : List Line) (setups : List Setup) → AreLawful lines → AreSetUp lines setups → 1 ≤ length setups
    → device_fault setups ≡ None
accepted lines setups lawful m some =
    let subs : List SubAgent = reverse (subs_in lines) in
    let are = subs_are lines lawful in
    let long : length setups ≡ length (subs_in lines) =
    sym (length-map setups setup_said) ∙ ap length m ∙ length-map subs (said_of lines) ∙ length-reverse (subs_in lines) in
    let few : length (subs_in lines) ≤ 64 = are.few in
    let first : first_fault (form_for setups) setups ≡ None =
    each_fits lines lawful (form_for setups) setups subs m are.stages (form_fits (list_any needs_words setups)) in
    let names = no_two lines lawful has_same_name (names_differ lines lawful) setups subs m are.apart in
    let shared = no_two lines lawful shares_source (none_shared lines lawful) setups subs m are.apart in
    let count : length setups ≤ 64 = omega (arith, long, few) in
    ap (λ (o : Option ℕ). first_or o (list_fault setups)) first
    ∙ none_then _ _ _ (some_and_few (length setups) some count) (none_then _ _ _ names (none_then _ _ _ shared refl))
