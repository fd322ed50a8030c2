-- The sources of one kind of a sub-agent of lawful lines.
use Rattle.std.proofs.Common.{◌≡◌, ◌∙◌, ◌+◌, ◌≤◌, ◌<◌, ◌==◌, ◌&&◌, ◌||◌, ◌++◌, ◌⊎◌, inl, inr, ℕ, Bool, true, false, not, List, [], ◌∷◌, length, map, reverse, filter_map, Option, Some, None, refl, ap, sym, subst, arith}
use Rattle.std.specs.Prelude.{nat_lt}
use Rattle.std.specs.List.{cons_option}
use Rattle.std.specs.List.{AllByRecursion, list_any}
use Rattle.std.proofs.lemmas.Bool.{and_from, and_parts, or_from, ltb-true, false_from_ne_true, true≢false, eq-eqb}
use Rattle.std.proofs.lemmas.List.{length-append, map-append}
use Rattle.agent_spec.specs.Sources.{Source, same_kind}
use Rattle.script_spec.specs.Values.{Place}
use Rattle.script_spec.specs.Lines.{Line, place_of}
use Rattle.script_spec.specs.Agents.{Owned, owned_in, sources_in, same_place}
use Rattle.script_spec.specs.Rules.{is_in_the_way, is_free, may_follow}
use Rattle.script_laws.specs.Written.{may_be_written}
use Rattle.script_laws.specs.Lawful.{AreLawful}
use Rattle.script_tables.proofs.ListTests.{either, not-false, any_implies, any_later, none_turned, turned, same_at, same_at-eq, same_at-self, is_one, some_twice, twice_end, one_any}
use Rattle.script_tables.proofs.Owners.{owns}

-- what a line that sets a source of this kind up tells of it
pub record Tells (flow : Bool) (id : ℕ) (source : Source) (count : ℕ) (line : Line) (before : List Line) : Type 0 where
  pub kind : source.flow ≡ flow
  pub owned : owned_in line ≡ Some (record { owner = id; source = source })
  pub free : is_free id source before ≡ true
  pub class : nat_lt 255 source.class ≡ false
  pub room : nat_lt count 1024 ≡ true

pub kinds_agree : (a b : Bool) → a ≡ b → same_kind a b ≡ true
kinds_agree true true e = refl
kinds_agree true false e = absurd cc
kinds_agree false true e = absurd cc
kinds_agree false false e = refl

-- the place is one of a source of this kind and sub-agent
abbrev pub owns_kind : Bool → ℕ → Place → Owned → Bool
owns_kind flow id p o = same_kind flow o.source.flow && owns id p o

module _ {S : Type 0} (of : S → Source) (flow : Bool) (pick : ℕ → Line → Option S)
    (tells : (id : ℕ) (line : Line) (before : List Line) (s : S) → pick id line ≡ Some s → may_be_written line ≡ true
    → may_follow before line ≡ true → Tells flow id (of s) (length (reverse (filter_map (pick id) before))) line before) where
  abbrev of_kind : ℕ → List Line → List S
  of_kind id lines = reverse (filter_map (pick id) lines)

  abbrev places : ℕ → List Line → List Place
  places id lines = map (λ (s : S). place_of (of s)) (of_kind id lines)

  -- ---- one line more

  passed : (id : ℕ) (line : Line) (before : List Line) → pick id line ≡ None → of_kind id (line ∷ before) ≡ of_kind id before
  passed id line before e = ap (λ (o : Option S). reverse (cons_option o (filter_map (pick id) before))) e

  added : (id : ℕ) (line : Line) (before : List Line) (s : S) → pick id line ≡ Some s
      → of_kind id (line ∷ before) ≡ of_kind id before ++ s ∷ []
  added id line before s e =
      ap (λ (o : Option S). reverse (cons_option o (filter_map (pick id) before))) e
      ∙ turned s (filter_map (pick id) before)

  -- ---- each of them

  pub each_of : (P : S → Type 0) (id : ℕ)
      → ((line : Line) (s : S) → may_be_written line ≡ true → pick id line ≡ Some s → P s)
      → (lines : List Line) → AreLawful lines → AllByRecursion P (filter_map (pick id) lines)
  each_of P id told [] l = tt
  each_of P id told (line ∷ before) l = go (pick id line) refl (each_of P id told before l.2)
    where
      go : (o : Option S) → pick id line ≡ o → AllByRecursion P (filter_map (pick id) before)
          → AllByRecursion P (cons_option o (filter_map (pick id) before))
      go None is h = h
      go (Some s) is h = (told line s l.0 is, h)

  -- ---- whose they are

  pub is_owned : (id : ℕ) (p : Place) (lines : List Line) → AreLawful lines
      → list_any (λ (s : S). same_at (place_of (of s)) p) (filter_map (pick id) lines) ≡ true
      → list_any (owns_kind flow id p) (sources_in lines) ≡ true
  is_owned id p [] l e = absurd cc
  is_owned id p (line ∷ before) l e = go (pick id line) refl (is_owned id p before l.2) e
    where
      here_or_later : (s : S) → Tells flow id (of s) (length (of_kind id before)) line before
          → (same_at (place_of (of s)) p ≡ true) ⊎ (list_any (owns_kind flow id p) (sources_in before) ≡ true)
          → list_any (owns_kind flow id p) (sources_in (line ∷ before)) ≡ true
      here_or_later s t (inl here) =
          let kind : same_kind flow (of s).flow ≡ true = kinds_agree flow (of s).flow (sym t.kind) in
          let place : same_at p (place_of (of s)) ≡ true = same_at-self p (place_of (of s)) (sym (same_at-eq (place_of (of s)) p here)) in
          let own : (id == id) ≡ true = eq-eqb id id refl in
          subst (λ (o : Option Owned). list_any (owns_kind flow id p) (cons_option o (sources_in before)) ≡ true) (sym t.owned)
          (ap (λ (b : Bool). b || list_any (owns_kind flow id p) (sources_in before)) (and_from _ _ kind (and_from _ _ own place)))
      here_or_later s t (inr old) = any_later (owns_kind flow id p) (owned_in line) (sources_in before) old

      go : (o : Option S) → pick id line ≡ o
          → (list_any (λ (s : S). same_at (place_of (of s)) p) (filter_map (pick id) before) ≡ true
          → list_any (owns_kind flow id p) (sources_in before) ≡ true)
          → list_any (λ (s : S). same_at (place_of (of s)) p) (cons_option o (filter_map (pick id) before)) ≡ true
          → list_any (owns_kind flow id p) (sources_in (line ∷ before)) ≡ true
      go None is others h = any_later (owns_kind flow id p) (owned_in line) (sources_in before) (others h)
      go (Some s) is others h =
          here_or_later s (tells id line before s is l.0 l.1)
          (elim (either (same_at (place_of (of s)) p) _ h) [ inl x ↦ inl x | inr y ↦ inr (others y) ])

  -- ---- no two have one place

  free_place : (id : ℕ) (source : Source) (before : List Line) → AreLawful before → source.flow ≡ flow
      → is_free id source before ≡ true → is_one (place_of source) (places id before) ≡ false
  free_place id source before l kind free =
      one_any (λ (s : S). place_of (of s)) (place_of source) (of_kind id before)
      ∙ none_turned (λ (s : S). same_at (place_of (of s)) (place_of source)) (filter_map (pick id) before)
      (false_from_ne_true _ (λ had.
      let way = any_implies (owns_kind flow id (place_of source)) (is_in_the_way id source) (λ (o : Owned) h.
      let parts = and_parts (same_kind flow o.source.flow) (owns id (place_of source) o) h in
      let at = and_parts (o.owner == id) (same_place (place_of source) o.source) parts.1 in
      let same : same_kind source.flow o.source.flow ≡ true =
      subst (λ (b : Bool). same_kind b o.source.flow ≡ true) (sym kind) parts.0 in
      and_from _ _ at.1 (ap (λ (b : Bool). b || not (o.owner == id)) same)) (sources_in before) (is_owned id (place_of source) before l had) in
      true≢false (sym way ∙ not-false _ free)))

  pub none_twice : (id : ℕ) (lines : List Line) → AreLawful lines → some_twice (places id lines) ≡ false
  none_twice id [] l = refl
  none_twice id (line ∷ before) l = go (pick id line) refl (none_twice id before l.2)
    where
      go : (o : Option S) → pick id line ≡ o → some_twice (places id before) ≡ false
          → some_twice (places id (line ∷ before)) ≡ false
      go None is h =
          ap (λ (xs : List S). some_twice (map (λ (s : S). place_of (of s)) xs)) (passed id line before is) ∙ h
      go (Some s) is h =
          let t = tells id line before s is l.0 l.1 in
          ap (λ (xs : List S). some_twice (map (λ (s : S). place_of (of s)) xs)) (added id line before s is)
          ∙ ap some_twice (map-append (λ (s : S). place_of (of s)) (of_kind id before) (s ∷ []))
          ∙ twice_end (places id before) (place_of (of s)) h (free_place id (of s) before l.2 t.kind t.free)

  -- ---- how many they are

  pub few : (id : ℕ) (lines : List Line) → AreLawful lines → length (of_kind id lines) ≤ 1024
  few id [] l = omega arith
  few id (line ∷ before) l = go (pick id line) refl (few id before l.2)
    where
      go : (o : Option S) → pick id line ≡ o → length (of_kind id before) ≤ 1024 → length (of_kind id (line ∷ before)) ≤ 1024
      go None is h = subst (λ (xs : List S). length xs ≤ 1024) (sym (passed id line before is)) h
      go (Some s) is h =
          let t = tells id line before s is l.0 l.1 in
          let room : length (of_kind id before) < 1024 = ltb-true _ _ t.room in
          let long : length (of_kind id before ++ s ∷ []) ≡ length (of_kind id before) + 1 = length-append (of_kind id before) (s ∷ []) in
          subst (λ (xs : List S). length xs ≤ 1024) (sym (added id line before s is)) (omega (arith, room, long))

  pub classes : (id : ℕ) (lines : List Line) → AreLawful lines
      → list_any (λ (s : S). nat_lt 255 (of s).class) (filter_map (pick id) lines) ≡ false
  classes id [] l = refl
  classes id (line ∷ before) l = go (pick id line) refl (classes id before l.2)
    where
      go : (o : Option S) → pick id line ≡ o
          → list_any (λ (s : S). nat_lt 255 (of s).class) (filter_map (pick id) before) ≡ false
          → list_any (λ (s : S). nat_lt 255 (of s).class) (cons_option o (filter_map (pick id) before)) ≡ false
      go None is h = h
      go (Some s) is h = or_from _ _ (tells id line before s is l.0 l.1).class h
