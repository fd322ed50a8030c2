-- A place of lawful lines has one owner.
use Rattle.std.proofs.Common.{◌≡◌, ◌∙◌, ◌==◌, ◌&&◌, ◌⊎◌, inl, inr, ℕ, Bool, true, false, not, List, [], ◌∷◌, refl, ap, sym}
use Rattle.std.specs.List.{list_any}
use Rattle.std.proofs.lemmas.Bool.{eqb-true, and_from, and_parts, or_right, true≢false}
use Rattle.agent_spec.specs.Sources.{Source, same_kind}
use Rattle.script_spec.specs.Values.{Place}
use Rattle.script_spec.specs.Lines.{Line, MaxLine, SubLine, FlowLine, CounterLine, PacketLine, PollLine, SendLine, RestartLine, ResetLine, DeliverLine, place_of}
use Rattle.script_spec.specs.Agents.{Owned, sources_in, same_place}
use Rattle.script_spec.specs.Rules.{stands_in_order, meets_rules, may_follow, is_in_the_way, is_free}
use Rattle.script_laws.specs.Lawful.{AreLawful}
use Rattle.script_tables.proofs.ListTests.{either, not-false, any_implies, same_at-eq, same_at-self}

-- the place is one of a source of this sub-agent
abbrev pub owns : ℕ → Place → Owned → Bool
owns id p o = (o.owner == id) && same_place p o.source

pub rules_met : (line : Line) (before : List Line) → may_follow before line ≡ true → meets_rules before line ≡ true
unfolding may_follow
rules_met line before may = (and_parts (stands_in_order before line) (meets_rules before line) may).1

-- a free source has no place that is another sub-agent's
pub only_owner : (id j : ℕ) (source : Source) (p : Place) (before : List Line) → is_free id source before ≡ true
    → same_place p source ≡ true → list_any (owns j p) (sources_in before) ≡ true → j ≡ id
only_owner id j source p before free here had = go (j == id) refl
  where
    go : (b : Bool) → (j == id) ≡ b → j ≡ id
    go true e = eqb-true j id e
    go false e =
        let way = any_implies (owns j p) (is_in_the_way id source) (λ (o : Owned) h.
        let parts = and_parts (o.owner == j) (same_place p o.source) h in
        let own : o.owner ≡ j = eqb-true o.owner j parts.0 in
        let place : place_of source ≡ place_of o.source = sym (same_at-eq p (place_of source) here) ∙ same_at-eq p (place_of o.source) parts.1 in
        let other : not (o.owner == id) ≡ true = ap (λ (n : ℕ). not (n == id)) own ∙ ap not e in
        and_from _ _ (same_at-self (place_of source) (place_of o.source) place)
        (or_right (same_kind source.flow o.source.flow) (not (o.owner == id)) other)) (sources_in before) had in
        absurd (true≢false (sym way ∙ not-false _ free))

new_source : (id i j : ℕ) (source : Source) (p : Place) (before : List Line) → is_free id source before ≡ true
    → (list_any (owns i p) (sources_in before) ≡ true → list_any (owns j p) (sources_in before) ≡ true → i ≡ j)
    → list_any (owns i p) (record { owner = id; source = source } ∷ sources_in before) ≡ true
    → list_any (owns j p) (record { owner = id; source = source } ∷ sources_in before) ≡ true → i ≡ j
new_source id i j source p before free old one other =
    go (either (owns i p new) _ one) (either (owns j p new) _ other)
  where
    new : Owned
    new = record { owner = id; source = source }

    go : (owns i p new ≡ true) ⊎ (list_any (owns i p) (sources_in before) ≡ true)
        → (owns j p new ≡ true) ⊎ (list_any (owns j p) (sources_in before) ≡ true) → i ≡ j
    go (inl x) (inl y) =
        sym (eqb-true id i (and_parts (id == i) (same_place p source) x).0) ∙ eqb-true id j (and_parts (id == j) (same_place p source) y).0
    go (inl x) (inr y) =
        let parts = and_parts (id == i) (same_place p source) x in
        sym (eqb-true id i parts.0) ∙ sym (only_owner id j source p before free parts.1 y)
    go (inr x) (inl y) =
        let parts = and_parts (id == j) (same_place p source) y in
        only_owner id i source p before free parts.1 x ∙ eqb-true id j parts.0
    go (inr x) (inr y) = old x y

pub one_owner : (i j : ℕ) (p : Place) (lines : List Line) → AreLawful lines → list_any (owns i p) (sources_in lines) ≡ true
    → list_any (owns j p) (sources_in lines) ≡ true → i ≡ j
one_owner i j p [] l x y = absurd cc
one_owner i j p (MaxLine n ∷ before) l x y = one_owner i j p before l.2 x y
one_owner i j p (SubLine s ∷ before) l x y = one_owner i j p before l.2 x y
one_owner i j p (FlowLine id f ∷ before) l x y =
    let rules = rules_met (FlowLine id f) before l.1 in
    new_source id i j f.source p before (and_parts _ _ (and_parts _ _ rules).1).0 (one_owner i j p before l.2) x y
one_owner i j p (CounterLine id c ∷ before) l x y =
    let rules = rules_met (CounterLine id c) before l.1 in
    new_source id i j c.source p before (and_parts _ _ (and_parts _ _ rules).1).0 (one_owner i j p before l.2) x y
one_owner i j p (PacketLine q k ∷ before) l x y = one_owner i j p before l.2 x y
one_owner i j p (PollLine id now ∷ before) l x y = one_owner i j p before l.2 x y
one_owner i j p (SendLine id now ∷ before) l x y = one_owner i j p before l.2 x y
one_owner i j p (RestartLine id at ∷ before) l x y = one_owner i j p before l.2 x y
one_owner i j p (ResetLine s ∷ before) l x y = one_owner i j p before l.2 x y
one_owner i j p (DeliverLine d ∷ before) l x y = one_owner i j p before l.2 x y
