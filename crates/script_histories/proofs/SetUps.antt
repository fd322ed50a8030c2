-- What lawful lines set up: flow sources and counter sources, none of them twice.
use Rattle.std.proofs.Common.{◌≡◌, ◌∙◌, ◌==◌, ◌&&◌, ◌||◌, ℕ, Bool, true, false, not, List, [], ◌∷◌, map, reverse, filter_map, Option, Some, None, refl, ap, sym, subst}
use Rattle.std.specs.List.{AllByRecursion, list_any, cons_option}
use Rattle.std.proofs.lemmas.Bool.{and_from, and_parts, false_from_ne_true, or_left, or_parts, true≢false, eq-eqb}
use Rattle.books_spec.specs.Listing.{AreDistinct}
use Rattle.agent_spec.specs.Sources.{Source, same_kind, same_source, FlowSetup, CounterSetup}
use Rattle.agent_spec.proofs.Keys.{source-eq}
use Rattle.account_spec.specs.Histories.{IsSetUp}
use Rattle.script_spec.specs.Lines.{Line, FlowLine, CounterLine, SubAgent, place_of}
use Rattle.script_spec.specs.Agents.{Owned, owned_in, sources_in, flow_in, counter_in, setup_of, same_place}
use Rattle.script_spec.specs.Rules.{stands_in_order, meets_rules, may_follow, is_in_the_way, is_free}
use Rattle.script_laws.specs.Written.{may_be_written}
use Rattle.script_laws.specs.Lawful.{AreLawful}
use Rattle.script_histories.proofs.Lists.{all_later, all_turned, distinct_turned}
use Rattle.script_histories.proofs.LineKinds.{flow_line, counter_line}

pub rules_met : (line : Line) (before : List Line) → may_follow before line ≡ true → meets_rules before line ≡ true
unfolding may_follow
rules_met line before may = (and_parts (stands_in_order before line) (meets_rules before line) may).1

pub not_true : (b : Bool) → not b ≡ true → b ≡ false
not_true true e = absurd cc
not_true false e = refl

-- ---- free sources

kind_self : (b : Bool) → same_kind b b ≡ true
kind_self true = refl
kind_self false = refl

-- a source that is there is in the way of another of the same kind and place
same_in_way : (id : ℕ) (s : Source) (o : Owned) → s ≡ o.source → is_in_the_way id s o ≡ true
same_in_way id s o e =
    subst (λ (t : Source). (same_place (place_of s) t && (same_kind s.flow t.flow || not (o.owner == id))) ≡ true) e
    (and_from _ _ (and_from _ _ (eq-eqb s.class s.class refl) (eq-eqb s.index s.index refl)) (or_left _ _ (kind_self s.flow)))

not_same : (id : ℕ) (s : Source) (o : Owned) → is_in_the_way id s o ≡ false → same_source o.source s ≡ false
not_same id s o free =
    false_from_ne_true (same_source o.source s)
    (λ e. true≢false (sym (same_in_way id s o (sym (source-eq o.source s e))) ∙ free))

free_of : (id : ℕ) (s : Source) (os : List Owned) → list_any (is_in_the_way id s) os ≡ false
    → AllByRecursion (λ (o : Owned). same_source o.source s ≡ false) os
free_of id s [] e = tt
free_of id s (o ∷ more) e =
    let parts = or_parts (is_in_the_way id s o) (list_any (is_in_the_way id s) more) e in
    (not_same id s o parts.0, free_of id s more parts.1)

-- ---- the sources of one kind

-- what lines say of this kind is a source that is set up
module _ {X : Type 0} (read : Line → Option X) (source : X → Source)
    (owned : (line : Line) (x : X) → read line ≡ Some x → (o : Owned) × (owned_in line ≡ Some o) × (o.source ≡ source x)) where
  abbrev Said : List Line → List X
  Said lines = filter_map read lines

  pub all_said : (P : Source → Type 0) (lines : List Line) → AllByRecursion (λ (o : Owned). P o.source) (sources_in lines)
      → AllByRecursion (λ (x : X). P (source x)) (Said lines)
  all_said P [] h = tt
  all_said P (line ∷ before) h =
      go (read line) refl (all_said P before (all_later (λ (o : Owned). P o.source) (owned_in line) (sources_in before) h))
    where
      go : (r : Option X) → read line ≡ r → AllByRecursion (λ (x : X). P (source x)) (Said before)
          → AllByRecursion (λ (x : X). P (source x)) (cons_option r (Said before))
      go None is all = all
      go (Some x) is all =
          let o = owned line x is in
          let there : AllByRecursion (λ (p : Owned). P p.source) (cons_option (Some o.0) (sources_in before)) =
          subst (λ (r : Option Owned). AllByRecursion (λ (p : Owned). P p.source) (cons_option r (sources_in before))) o.1 h in
          (subst P o.2 there.0, all)

  -- each source is free when it is set up
  module _ (new : (line : Line) (before : List Line) (x : X) → read line ≡ Some x → may_follow before line ≡ true
      → (id : ℕ) × (is_free id (source x) before ≡ true)) where
    pub all_once : (lines : List Line) → AreLawful lines → AreDistinct same_source (map source (reverse (Said lines)))
    all_once [] l = tt
    all_once (line ∷ before) l = go (read line) refl (all_once before l.2)
      where
        go : (r : Option X) → read line ≡ r → AreDistinct same_source (map source (reverse (Said before)))
            → AreDistinct same_source (map source (reverse (cons_option r (Said before))))
        go None is once = once
        go (Some x) is once =
            let free = new line before x is l.1 in
            distinct_turned same_source source x (Said before) once
            (all_said (λ (s : Source). same_source s (source x) ≡ false) before
            (free_of free.0 (source x) (sources_in before) (not_true _ free.1)))

  -- each is of this kind
  module _ (flow : Bool) (kind : (line : Line) (x : X) → read line ≡ Some x → may_be_written line ≡ true
      → (source x).flow ≡ flow) where
    pub all_of_kind : (lines : List Line) → AreLawful lines → AllByRecursion (λ (x : X). (source x).flow ≡ flow) (Said lines)
    all_of_kind [] l = tt
    all_of_kind (line ∷ before) l = go (read line) refl (all_of_kind before l.2)
      where
        go : (r : Option X) → read line ≡ r → AllByRecursion (λ (x : X). (source x).flow ≡ flow) (Said before)
            → AllByRecursion (λ (x : X). (source x).flow ≡ flow) (cons_option r (Said before))
        go None is all = all
        go (Some x) is all = (kind line x is l.0, all)

-- ---- flow sources

abbrev flow_source : FlowSetup → Source
flow_source f = f.source

pub flow_owned : (id : ℕ) (line : Line) (f : FlowSetup) → flow_in id line ≡ Some f
    → (o : Owned) × (owned_in line ≡ Some o) × (o.source ≡ flow_source f)
flow_owned id line f e = (record { owner = id; source = f.source }, ap owned_in (flow_line id line f e), refl)

flow_new : (id : ℕ) (line : Line) (before : List Line) (f : FlowSetup) → flow_in id line ≡ Some f
    → may_follow before line ≡ true → (owner : ℕ) × (is_free owner (flow_source f) before ≡ true)
flow_new id line before f e may =
    let rules = rules_met (FlowLine id f) before
    (subst (λ (l : Line). may_follow before l ≡ true) (flow_line id line f e) may) in
    (id, (and_parts _ _ (and_parts _ _ rules).1).0)

flow_kind : (id : ℕ) (line : Line) (f : FlowSetup) → flow_in id line ≡ Some f → may_be_written line ≡ true
    → (flow_source f).flow ≡ true
flow_kind id line f e written =
    (and_parts f.source.flow _ (subst (λ (l : Line). may_be_written l ≡ true) (flow_line id line f e) written)).0

-- ---- counter sources

abbrev counter_source : CounterSetup → Source
counter_source c = c.source

pub counter_owned : (id : ℕ) (line : Line) (c : CounterSetup) → counter_in id line ≡ Some c
    → (o : Owned) × (owned_in line ≡ Some o) × (o.source ≡ counter_source c)
counter_owned id line c e = (record { owner = id; source = c.source }, ap owned_in (counter_line id line c e), refl)

counter_new : (id : ℕ) (line : Line) (before : List Line) (c : CounterSetup) → counter_in id line ≡ Some c
    → may_follow before line ≡ true → (owner : ℕ) × (is_free owner (counter_source c) before ≡ true)
counter_new id line before c e may =
    let rules = rules_met (CounterLine id c) before
    (subst (λ (l : Line). may_follow before l ≡ true) (counter_line id line c e) may) in
    (id, (and_parts _ _ (and_parts _ _ rules).1).0)

counter_kind : (id : ℕ) (line : Line) (c : CounterSetup) → counter_in id line ≡ Some c → may_be_written line ≡ true
    → (counter_source c).flow ≡ false
counter_kind id line c e written =
    not_true c.source.flow
    (and_parts (not c.source.flow) _ (subst (λ (l : Line). may_be_written l ≡ true) (counter_line id line c e) written)).0

-- ---- both

pub set_up : (lines : List Line) (s : SubAgent) → AreLawful lines → IsSetUp (setup_of lines s)
unfolding setup_of
set_up lines s l = record {
  flows = all_turned (λ (f : FlowSetup). f.source.flow ≡ true) (filter_map (flow_in s.id) lines)
      (all_of_kind (flow_in s.id) flow_source (flow_owned s.id) true (flow_kind s.id) lines l);
  counters = all_turned (λ (c : CounterSetup). c.source.flow ≡ false) (filter_map (counter_in s.id) lines)
      (all_of_kind (counter_in s.id) counter_source (counter_owned s.id) false (counter_kind s.id) lines l);
  flows_once = all_once (flow_in s.id) flow_source (flow_owned s.id) (flow_new s.id) lines l;
  counters_once = all_once (counter_in s.id) counter_source (counter_owned s.id) (counter_new s.id) lines l;
}
