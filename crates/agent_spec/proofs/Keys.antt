-- Two sources or turns that the test takes for the same are one.
use Rattle.std.proofs.Common.{◌≡◌, Bool, true, false, inl, inr, refl, sym, ◌∙◌}
use Rattle.std.specs.Prelude.{◌==◌, ◌&&◌}
use Rattle.std.proofs.lemmas.Bool.{cases_Bool, eqb-true, eq-eqb, true≢false}
use Rattle.agent_spec.specs.Sources.{Source, same_kind, same_source, Turn, same_turn}

pub both : (a b : Bool) → (a && b) ≡ true → (a ≡ true) × (b ≡ true)
both true b e = (refl, e)
both false b e = absurd (true≢false (sym e))

kind-eq : (a b : Bool) → same_kind a b ≡ true → a ≡ b
kind-eq true true e = refl
kind-eq true false e = absurd (true≢false (sym e))
kind-eq false true e = absurd (true≢false (sym e))
kind-eq false false e = refl

pub source-eq : (s t : Source) → same_source s t ≡ true → s ≡ t
source-eq s t e =
    let parts = both (same_kind s.flow t.flow && (s.class == t.class)) (s.index == t.index) e in
    let front = both (same_kind s.flow t.flow) (s.class == t.class) parts.0 in
    let a : s.flow ≡ t.flow = kind-eq s.flow t.flow front.0 in
    let b : s.class ≡ t.class = eqb-true s.class t.class front.1 in
    let c : s.index ≡ t.index = eqb-true s.index t.index parts.1 in
    λ i. record { flow = a i; class = b i; index = c i }

pub turn-source : (t u : Turn) → same_turn t u ≡ true → same_source t.source u.source ≡ true
turn-source t u e = (both (same_source t.source u.source) _ e).0

pub turn-eq : (t u : Turn) → same_turn t u ≡ true → t ≡ u
turn-eq t u e =
    let parts = both (same_source t.source u.source) (t.generation == u.generation) e in
    let a : t.source ≡ u.source = source-eq t.source u.source parts.0 in
    let b : t.generation ≡ u.generation = eqb-true t.generation u.generation parts.1 in
    λ i. record { source = a i; generation = b i }

-- ---- a source and a turn are the same as themselves

kind-self : (b : Bool) → same_kind b b ≡ true
kind-self true = refl
kind-self false = refl

and-yes : (a b : Bool) → a ≡ true → b ≡ true → (a && b) ≡ true
and-yes a b e f = rw (e, f) refl

pub source-self : (s : Source) → same_source s s ≡ true
source-self s = and-yes (same_kind s.flow s.flow && (s.class == s.class)) (s.index == s.index)
    (and-yes (same_kind s.flow s.flow) (s.class == s.class) (kind-self s.flow) (eq-eqb s.class s.class refl))
    (eq-eqb s.index s.index refl)

pub turn-self : (t : Turn) → same_turn t t ≡ true
turn-self t = and-yes (same_source t.source t.source) (t.generation == t.generation) (source-self t.source)
    (eq-eqb t.generation t.generation refl)

-- a turn of another source
pub other-turn : (t own : Turn) → same_source t.source own.source ≡ false → same_turn t own ≡ false
other-turn t own e = elim (cases_Bool (same_turn t own)) [
  | inl same ↦ absurd (true≢false (sym (turn-source t own same) ∙ e))
  | inr other ↦ other
]
