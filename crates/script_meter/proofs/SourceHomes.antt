-- The sub-agent that has a source of lawful lines.
use Rattle.std.proofs.Common.{◌≡◌, ◌∙◌, ◌||◌, ◌++◌, ◌⊎◌, inl, inr, cond, not, ℕ, zero, suc, Bool, true, false, List, [], ◌∷◌, reverse, find, filter_map, is_some, Option, Some, None, refl, ap, sym, subst, if◌then◌else◌, slice_get}
use Rattle.std.specs.List.{cons_option, list_any}
use Rattle.std.proofs.lemmas.Bool.{and_parts, eq-eqb, eqb-true, or_right}
use Rattle.std.proofs.lemmas.List.Sorted.{list_any-IsPermutation, IsPermutation-reverse}
use Rattle.agent_spec.specs.Sources.{Source, same_source, FlowSetup, CounterSetup}
use Rattle.agent_spec.specs.Boots.{IsAmong}
use Rattle.agent_spec.proofs.Keys.{source-eq, source-self}
use Rattle.script_spec.specs.Lines.{Line, MaxLine, SubLine, FlowLine, CounterLine, PacketLine, PollLine, SendLine, RestartLine, ResetLine, DeliverLine, SubAgent}
use Rattle.script_spec.specs.Agents.{Owned, sources_in, subs_in, is_of, flow_in, counter_in, flows_of, counters_of}
use Rattle.script_spec.specs.Rules.{is_known}
use Rattle.script_laws.specs.Lawful.{AreLawful}
use Rattle.script_tables.proofs.ListTests.{either, not-false, turned}
use Rattle.script_tables.proofs.Owners.{rules_met}

pub any_back : {X : Type 0} (q : X → Bool) (xs : List X) → list_any q (reverse xs) ≡ list_any q xs
any_back q xs = sym (list_any-IsPermutation q xs (reverse xs) (IsPermutation-reverse xs))

-- the sub-agent of this ID has the source
abbrev pub kind_had : Bool → Source → ℕ → List Line → Bool
kind_had true source id lines = list_any (λ (f : FlowSetup). same_source source f.source) (flows_of id lines)
kind_had false source id lines = list_any (λ (c : CounterSetup). same_source source c.source) (counters_of id lines)

record Owner (source : Source) (lines : List Line) : Type 0 where
  pub id : ℕ
  pub known : is_known id lines ≡ true
  pub has : kind_had source.flow source id lines ≡ true

later : {X : Type 0} (q : X → Bool) (o : Option X) (rest : List X) → list_any q (reverse rest) ≡ true
    → list_any q (reverse (cons_option o rest)) ≡ true
later q None rest h = h
later q (Some x) rest h = any_back q (x ∷ rest) ∙ or_right (q x) (list_any q rest) (sym (any_back q rest) ∙ h)

more_had : (flow : Bool) (source : Source) (id : ℕ) (line : Line) (before : List Line) → kind_had flow source id before ≡ true
    → kind_had flow source id (line ∷ before) ≡ true
more_had true source id line before h = later _ (flow_in id line) (filter_map (flow_in id) before) h
more_had false source id line before h = later _ (counter_in id line) (filter_map (counter_in id) before) h

more_known : (id : ℕ) (s : SubAgent) (before : List Line) → is_known id before ≡ true → is_known id (SubLine s ∷ before) ≡ true
more_known id s before h = go (is_of id s) h
  where
    go : (b : Bool) → is_some (find (is_of id) (subs_in before)) ≡ true
        → is_some (cond b (Some s) (find (is_of id) (subs_in before))) ≡ true
    go true k = refl
    go false k = k

flow_first : (id : ℕ) (f : FlowSetup) (source : Source) (before : List Line) → source ≡ f.source → f.source.flow ≡ true
    → kind_had source.flow source id (FlowLine id f ∷ before) ≡ true
flow_first id f source before is kind =
    subst (λ (b : Bool). kind_had b source id (FlowLine id f ∷ before) ≡ true) (sym (ap (λ (s : Source). s.flow) is ∙ kind))
    (ap (λ (b : Bool). list_any (λ (g : FlowSetup). same_source source g.source)
    (reverse (cons_option (if b then Some f else None) (filter_map (flow_in id) before)))) (eq-eqb id id refl)
    ∙ any_back (λ (g : FlowSetup). same_source source g.source) (f ∷ filter_map (flow_in id) before)
    ∙ ap (λ (b : Bool). b || list_any (λ (g : FlowSetup). same_source source g.source) (filter_map (flow_in id) before))
    (ap (λ (s : Source). same_source s f.source) is ∙ source-self f.source))

counter_first : (id : ℕ) (c : CounterSetup) (source : Source) (before : List Line) → source ≡ c.source → c.source.flow ≡ false
    → kind_had source.flow source id (CounterLine id c ∷ before) ≡ true
counter_first id c source before is kind =
    subst (λ (b : Bool). kind_had b source id (CounterLine id c ∷ before) ≡ true) (sym (ap (λ (s : Source). s.flow) is ∙ kind))
    (ap (λ (b : Bool). list_any (λ (g : CounterSetup). same_source source g.source)
    (reverse (cons_option (if b then Some c else None) (filter_map (counter_in id) before)))) (eq-eqb id id refl)
    ∙ any_back (λ (g : CounterSetup). same_source source g.source) (c ∷ filter_map (counter_in id) before)
    ∙ ap (λ (b : Bool). b || list_any (λ (g : CounterSetup). same_source source g.source) (filter_map (counter_in id) before))
    (ap (λ (s : Source). same_source s c.source) is ∙ source-self c.source))

abbrev passed : (source : Source) (line : Line) (before : List Line) → subs_in (line ∷ before) ≡ subs_in before → Owner source before
    → Owner source (line ∷ before)
passed source line before same o = record {
  id = o.id;
  known = ap (λ (xs : List SubAgent). is_some (find (is_of o.id) xs)) same ∙ o.known;
  has = more_had source.flow source o.id line before o.has;
}

owner_of : (source : Source) (lines : List Line) → AreLawful lines
    → list_any (λ (o : Owned). same_source source o.source) (sources_in lines) ≡ true → Owner source lines
owner_of source [] l e = absurd cc
owner_of source (FlowLine id f ∷ before) l e = go (either (same_source source f.source) _ e) (owner_of source before l.2)
  where
    go : (same_source source f.source ≡ true) ⊎ (list_any (λ (o : Owned). same_source source o.source) (sources_in before) ≡ true)
        → (list_any (λ (o : Owned). same_source source o.source) (sources_in before) ≡ true → Owner source before)
        → Owner source (FlowLine id f ∷ before)
    go (inl here) others = record {
      id = id;
      known = (and_parts (is_known id before) _ (rules_met (FlowLine id f) before l.1)).0;
      has = flow_first id f source before (source-eq source f.source here) (and_parts f.source.flow _ l.0).0;
    }
    go (inr old) others = passed source (FlowLine id f) before refl (others old)
owner_of source (CounterLine id c ∷ before) l e = go (either (same_source source c.source) _ e) (owner_of source before l.2)
  where
    go : (same_source source c.source ≡ true) ⊎ (list_any (λ (o : Owned). same_source source o.source) (sources_in before) ≡ true)
        → (list_any (λ (o : Owned). same_source source o.source) (sources_in before) ≡ true → Owner source before)
        → Owner source (CounterLine id c ∷ before)
    go (inl here) others = record {
      id = id;
      known = (and_parts (is_known id before) _ (rules_met (CounterLine id c) before l.1)).0;
      has = counter_first id c source before (source-eq source c.source here) (not-false _ (and_parts (not c.source.flow) _ l.0).0);
    }
    go (inr old) others = passed source (CounterLine id c) before refl (others old)
owner_of source (SubLine s ∷ before) l e =
    let o = owner_of source before l.2 e in
    record {
      id = o.id;
      known = more_known o.id s before o.known;
      has = more_had source.flow source o.id (SubLine s) before o.has;
    }
owner_of source (MaxLine n ∷ before) l e = passed source (MaxLine n) before refl (owner_of source before l.2 e)
owner_of source (PacketLine p k ∷ before) l e = passed source (PacketLine p k) before refl (owner_of source before l.2 e)
owner_of source (PollLine id now ∷ before) l e = passed source (PollLine id now) before refl (owner_of source before l.2 e)
owner_of source (SendLine id now ∷ before) l e = passed source (SendLine id now) before refl (owner_of source before l.2 e)
owner_of source (RestartLine id at ∷ before) l e = passed source (RestartLine id at) before refl (owner_of source before l.2 e)
owner_of source (ResetLine s ∷ before) l e = passed source (ResetLine s) before refl (owner_of source before l.2 e)
owner_of source (DeliverLine d ∷ before) l e = passed source (DeliverLine d) before refl (owner_of source before l.2 e)

-- ---- where a sub-agent stands

found_known : (id : ℕ) (xs : List SubAgent) → is_some (find (is_of id) xs) ≡ true
    → (s : SubAgent) × IsAmong s xs × (s.id ≡ id)
found_known id [] e = absurd cc
found_known id (x ∷ more) e = go (is_of id x) refl (found_known id more) e
  where
    go : (b : Bool) → is_of id x ≡ b
        → (is_some (find (is_of id) more) ≡ true → (s : SubAgent) × IsAmong s more × (s.id ≡ id))
        → is_some (cond b (Some x) (find (is_of id) more)) ≡ true → (s : SubAgent) × IsAmong s (x ∷ more) × (s.id ≡ id)
    go true is others h = (x, inl refl, eqb-true x.id id is)
    go false is others h = let f = others h in (f.0, inr f.1, f.2)

among_front : {X : Type 0} (x : X) (xs ys : List X) → IsAmong x xs → IsAmong x (xs ++ ys)
among_front x [] ys h = absurd h
among_front x (y ∷ more) ys (inl e) = inl e
among_front x (y ∷ more) ys (inr h) = inr (among_front x more ys h)

among_last : {X : Type 0} (x y : X) (xs : List X) → x ≡ y → IsAmong x (xs ++ y ∷ [])
among_last x y [] e = inl e
among_last x y (z ∷ more) e = inr (among_last x y more e)

pub among_turned : {X : Type 0} (x : X) (xs : List X) → IsAmong x xs → IsAmong x (reverse xs)
among_turned x [] h = absurd h
among_turned x (y ∷ more) (inl e) = subst (IsAmong x) (sym (turned y more)) (among_last x y (reverse more) e)
among_turned x (y ∷ more) (inr h) =
    subst (IsAmong x) (sym (turned y more)) (among_front x (reverse more) (y ∷ []) (among_turned x more h))

pub among_place : {X : Type 0} (x : X) (xs : List X) → IsAmong x xs → (k : ℕ) × (slice_get xs k ≡ Some x)
among_place x [] h = absurd h
among_place x (y ∷ more) (inl e) = (zero, ap (λ z. Some z) (sym e))
among_place x (y ∷ more) (inr h) = let p = among_place x more h in (suc p.0, p.1)

-- it has the source, and stands at this place
pub record Home (source : Source) (lines : List Line) : Type 0 where
  pub sub : SubAgent
  pub place : ℕ
  pub there : slice_get (reverse (subs_in lines)) place ≡ Some sub
  pub has : kind_had source.flow source sub.id lines ≡ true

pub home_of : (source : Source) (lines : List Line) → AreLawful lines
    → list_any (λ (o : Owned). same_source source o.source) (sources_in lines) ≡ true → Home source lines
home_of source lines l e =
    let o = owner_of source lines l e in
    let f = found_known o.id (subs_in lines) o.known in
    let p = among_place f.0 (reverse (subs_in lines)) (among_turned f.0 (subs_in lines) f.1) in
    record {
      sub = f.0;
      place = p.0;
      there = p.1;
      has = ap (λ (n : ℕ). kind_had source.flow source n lines) f.2 ∙ o.has;
    }
