-- A source of lawful lines has one home: of the sub-agents only its own has it.
use Rattle.std.proofs.Common.{◌≡◌, ◌∙◌, ◌==◌, ◌||◌, ◌++◌, ◌⊎◌, inl, inr, cond, ℕ, Bool, true, false, List, [], ◌∷◌, map, filter_map, Option, Some, None, refl, ap, sym}
use Rattle.std.specs.Prelude.{find}
use Rattle.std.specs.List.{list_any}
use Rattle.std.proofs.lemmas.Bool.{and_parts, eq-eqb, or_parts, or_right, true≢false}
use Rattle.agent_spec.specs.Sources.{Source, same_source, same_kind, FlowSetup, CounterSetup}
use Rattle.agent_spec.specs.Samples.{Setup}
use Rattle.agent_spec.specs.Boots.{IsAmong, HasSource}
use Rattle.agent_spec.proofs.Keys.{source-eq, source-self}
use Rattle.script_spec.specs.Values.{Place}
use Rattle.script_spec.specs.Lines.{Line, SubAgent, flow_at, place_of}
use Rattle.script_spec.specs.Agents.{Owned, sources_in, flow_in, counter_in, flows_of, counters_of, flow_of, has_source, setup_of}
use Rattle.script_laws.specs.Lawful.{AreLawful}
use Rattle.script_tables.proofs.ListTests.{either, any_implies, any_turned, same_at, same_at-self, is_one, some_twice}
use Rattle.script_tables.proofs.Owners.{owns, one_owner}
use Rattle.script_tables.proofs.OfKind.{owns_kind, is_owned, none_twice}
use Rattle.script_tables.proofs.OfLines.{flow_told, counter_told}

-- ---- whose a source is

module _ {S : Type 0} (of : S → Source) where
  pub any_among : (source : Source) (x : S) (xs : List S) → IsAmong x xs → of x ≡ source
      → list_any (λ (s : S). same_source source (of s)) xs ≡ true
  any_among source x [] h is = absurd h
  any_among source x (y ∷ more) (inl e) is =
      let here : same_source source (of y) ≡ true = ap (λ (t : Source). same_source source t) (ap of (sym e) ∙ is) ∙ source-self source in
      ap (λ (b : Bool). b || list_any (λ (s : S). same_source source (of s)) more) here
  any_among source x (y ∷ more) (inr h) is =
      or_right (same_source source (of y)) _ (any_among source x more h is)

  at_place : (source : Source) (xs : List S) → list_any (λ (s : S). same_source source (of s)) xs ≡ true
      → list_any (λ (s : S). same_at (place_of (of s)) (place_of source)) xs ≡ true
  at_place source xs e =
      any_implies (λ (s : S). same_source source (of s)) (λ (s : S). same_at (place_of (of s)) (place_of source))
      (λ (s : S) h. same_at-self (place_of (of s)) (place_of source) (ap place_of (sym (source-eq source (of s) h)))) xs e

pub flow_owned : (id : ℕ) (source : Source) (lines : List Line) → AreLawful lines
    → list_any (λ (f : FlowSetup). same_source source f.source) (flows_of id lines) ≡ true
    → list_any (owns id (place_of source)) (sources_in lines) ≡ true
flow_owned id source lines lawful e =
    any_implies (owns_kind true id (place_of source)) (owns id (place_of source))
    (λ (o : Owned) h. (and_parts (same_kind true o.source.flow) (owns id (place_of source) o) h).1) (sources_in lines)
    (is_owned (λ (f : FlowSetup). f.source) true flow_in flow_told id (place_of source) lines lawful
    (any_turned (λ (f : FlowSetup). same_at (place_of f.source) (place_of source)) (filter_map (flow_in id) lines)
    (at_place (λ (f : FlowSetup). f.source) source (flows_of id lines) e)))

pub counter_owned : (id : ℕ) (source : Source) (lines : List Line) → AreLawful lines
    → list_any (λ (c : CounterSetup). same_source source c.source) (counters_of id lines) ≡ true
    → list_any (owns id (place_of source)) (sources_in lines) ≡ true
counter_owned id source lines lawful e =
    any_implies (owns_kind false id (place_of source)) (owns id (place_of source))
    (λ (o : Owned) h. (and_parts (same_kind false o.source.flow) (owns id (place_of source) o) h).1) (sources_in lines)
    (is_owned (λ (c : CounterSetup). c.source) false counter_in counter_told id (place_of source) lines lawful
    (any_turned (λ (c : CounterSetup). same_at (place_of c.source) (place_of source)) (filter_map (counter_in id) lines)
    (at_place (λ (c : CounterSetup). c.source) source (counters_of id lines) e)))

pub has_owned : (lines : List Line) (s : SubAgent) (source : Source) → AreLawful lines
    → has_source (setup_of lines s) source ≡ true → list_any (owns s.id (place_of source)) (sources_in lines) ≡ true
unfolding setup_of
has_owned lines s source lawful e =
    elim (either (list_any (λ (f : FlowSetup). same_source source f.source) (flows_of s.id lines)) _ e) [
      | inl h ↦ flow_owned s.id source lines lawful h
      | inr h ↦ counter_owned s.id source lines lawful h
    ]

-- ---- packets

found_any : (q : FlowSetup → Bool) (xs : List FlowSetup) (f : FlowSetup) → find q xs ≡ Some f → list_any q xs ≡ true
found_any q [] f e = absurd cc
found_any q (g ∷ more) f e = go (q g) (found_any q more f) e
  where
    go : (b : Bool) → (find q more ≡ Some f → list_any q more ≡ true) → cond b (Some g) (find q more) ≡ Some f
        → (b || list_any q more) ≡ true
    go true others is = refl
    go false others is = others is

-- another sub-agent doesn't have the source
pub flow_elsewhere : (lines : List Line) (s : SubAgent) (id : ℕ) (p : Place) → AreLawful lines
    → list_any (owns id p) (sources_in lines) ≡ true → (id == s.id) ≡ false → flow_of (setup_of lines s) p ≡ None
unfolding setup_of
flow_elsewhere lines s id p lawful own other =
    go (find (λ (f : FlowSetup). same_source (flow_at p) f.source) (flows_of s.id lines)) refl
  where
    go : (o : Option FlowSetup) → find (λ (f : FlowSetup). same_source (flow_at p) f.source) (flows_of s.id lines) ≡ o
        → o ≡ None
    go None is = refl
    go (Some f) is =
        let had = flow_owned s.id (flow_at p) lines lawful (found_any _ (flows_of s.id lines) f is) in
        absurd (true≢false (sym (eq-eqb id s.id (one_owner id s.id p lines lawful own had)) ∙ other))

pub has_elsewhere : (lines : List Line) (s : SubAgent) (id : ℕ) (source : Source) → AreLawful lines
    → list_any (owns id (place_of source)) (sources_in lines) ≡ true → (id == s.id) ≡ false
    → has_source (setup_of lines s) source ≡ false
has_elsewhere lines s id source lawful own other = go (has_source (setup_of lines s) source) refl
  where
    go : (b : Bool) → has_source (setup_of lines s) source ≡ b → b ≡ false
    go false is = refl
    go true is =
        let had = has_owned lines s source lawful is in
        absurd (true≢false (sym (eq-eqb id s.id (one_owner id s.id (place_of source) lines lawful own had)) ∙ other))

one_among : (f : FlowSetup) (p : Place) (flows : List FlowSetup) → IsAmong f flows → place_of f.source ≡ p
    → is_one p (map (λ (g : FlowSetup). place_of g.source) flows) ≡ true
one_among f p [] h is = absurd h
one_among f p (g ∷ more) (inl e) is =
    ap (λ (b : Bool). b || is_one p (map (λ (g : FlowSetup). place_of g.source) more))
    (same_at-self (place_of g.source) p (ap (λ (x : FlowSetup). place_of x.source) (sym e) ∙ is))
one_among f p (g ∷ more) (inr h) is = or_right (same_at (place_of g.source) p) _ (one_among f p more h is)

find_only : (f : FlowSetup) (source : Source) (flows : List FlowSetup)
    → some_twice (map (λ (g : FlowSetup). place_of g.source) flows) ≡ false → IsAmong f flows → f.source ≡ source
    → find (λ (g : FlowSetup). same_source source g.source) flows ≡ Some f
find_only f source [] once h is = absurd h
find_only f source (g ∷ more) once (inl e) is =
    let here : same_source source g.source ≡ true =
    ap (λ (t : Source). same_source source t) (ap (λ (x : FlowSetup). x.source) (sym e) ∙ is) ∙ source-self source in
    ap (λ (b : Bool). cond b (Some g) (find (λ (g : FlowSetup). same_source source g.source) more)) here ∙ ap (λ (x : FlowSetup). Some x) (sym e)
find_only f source (g ∷ more) once (inr h) is = go (same_source source g.source) refl (find_only f source more parts.1 h is)
  where
    parts : (is_one (place_of g.source) (map (λ (g : FlowSetup). place_of g.source) more) ≡ false)
        × (some_twice (map (λ (g : FlowSetup). place_of g.source) more) ≡ false)
    parts = or_parts _ _ once

    go : (b : Bool) → same_source source g.source ≡ b
        → find (λ (g : FlowSetup). same_source source g.source) more ≡ Some f
        → cond b (Some g) (find (λ (g : FlowSetup). same_source source g.source) more) ≡ Some f
    go true e others =
        let place : place_of f.source ≡ place_of g.source = ap place_of (is ∙ source-eq source g.source e) in
        absurd (true≢false (sym (one_among f (place_of g.source) more h place) ∙ parts.0))
    go false e others = others

-- its own finds it
pub flow_here : (lines : List Line) (s : SubAgent) (f : FlowSetup) (p : Place) → AreLawful lines
    → IsAmong f (setup_of lines s).flows → f.source ≡ flow_at p → flow_of (setup_of lines s) p ≡ Some f
unfolding setup_of
flow_here lines s f p lawful among is =
    find_only f (flow_at p) (flows_of s.id lines)
    (none_twice (λ (f : FlowSetup). f.source) true flow_in flow_told s.id lines lawful) among is

pub among_owned : (lines : List Line) (s : SubAgent) (f : FlowSetup) (p : Place) → AreLawful lines
    → IsAmong f (setup_of lines s).flows → f.source ≡ flow_at p → list_any (owns s.id p) (sources_in lines) ≡ true
unfolding setup_of
among_owned lines s f p lawful among is =
    flow_owned s.id (flow_at p) lines lawful (any_among (λ (f : FlowSetup). f.source) (flow_at p) f (flows_of s.id lines) among is)

-- ---- resets

had_any : {S : Type 0} (of : S → Source) (source : Source) (xs : List S) → IsAmong source (map of xs)
    → list_any (λ (s : S). same_source source (of s)) xs ≡ true
had_any of source [] h = absurd h
had_any {S} of source (x ∷ more) (inl e) =
    ap (λ (b : Bool). b || list_any (λ (s : S). same_source source (of s)) more)
    (ap (λ (t : Source). same_source source t) (sym e) ∙ source-self source)
had_any of source (x ∷ more) (inr h) = or_right (same_source source (of x)) _ (had_any of source more h)

among_either : (source : Source) (xs ys : List Source) → IsAmong source (xs ++ ys)
    → IsAmong source xs ⊎ IsAmong source ys
among_either source [] ys h = inr h
among_either source (x ∷ xs) ys (inl e) = inl (inl e)
among_either source (x ∷ xs) ys (inr h) = elim (among_either source xs ys h) [ inl a ↦ inl (inr a) | inr b ↦ inr b ]

-- the test finds a source that the set-up has
pub source_here : (setup : Setup) (source : Source) → HasSource setup source → has_source setup source ≡ true
source_here setup source h =
    elim (among_either source (map (λ (f : FlowSetup). f.source) setup.flows) (map (λ (c : CounterSetup). c.source) setup.counters) h) [
      | inl a ↦ ap (λ (b : Bool). b || list_any (λ (c : CounterSetup). same_source source c.source) setup.counters)
          (had_any (λ (f : FlowSetup). f.source) source setup.flows a)
      | inr b ↦ or_right (list_any (λ (f : FlowSetup). same_source source f.source) setup.flows) _
          (had_any (λ (c : CounterSetup). c.source) source setup.counters b)
    ]
