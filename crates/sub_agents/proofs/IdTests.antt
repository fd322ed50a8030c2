-- Lists of sources, and the tests of them.
use Rattle.std.proofs.Common.{◌≡◌, ◌≢◌, ◌<◌, ◌≤◌, Bool, true, false, List, [], ◌∷◌, refl, sym, ap, ◌∙◌, arith}
use Rattle.std.specs.Prelude.{◌==◌, ◌&&◌, ◌||◌, nat_lt, nat_le}
use Rattle.std.specs.List.{AllByRecursion}
use Rattle.std.proofs.lemmas.Bool.{true≢false, eq-eqb, ltb-false, leb-false}
use Rattle.data_format.specs.declared.source.SourceId.{SourceId}
use Rattle.data_format.specs.declared.heads.Form.{Form}
use Rattle.data_format.specs.declared.heads.Form.TheVariants.{Compact, Expanded}
use Rattle.sub_agents.specs.Setups.{IsSourceIn}
use Rattle.agent_setups.specs.Faults.{is_compact}
use Rattle.agent_setups.specs.Ids.{same_id, is_among, has_twice, AreDistinct, has_great_class, has_great_index}

pub neither : (a b : Bool) → (a || b) ≡ false → (a ≡ false) × (b ≡ false)
neither true b e = absurd (true≢false e)
neither false b e = (refl, e)

and-true : (a b : Bool) → a ≡ true → b ≡ true → (a && b) ≡ true
and-true a b e f = rw (e, f) refl

pub same-self : (x y : SourceId) → x ≡ y → same_id y x ≡ true
same-self x y e = and-true (y.class == x.class) (y.index == x.index)
    (eq-eqb y.class x.class (ap (λ (z : SourceId). z.class) (sym e)))
    (eq-eqb y.index x.index (ap (λ (z : SourceId). z.index) (sym e)))

apart : (x : SourceId) (more : List SourceId) → is_among x more ≡ false → AllByRecursion (λ (y : SourceId). x ≢ y) more
apart x [] h = tt
apart x (y ∷ more) h =
    let parts = neither (same_id y x) (is_among x more) h in
    (λ e. true≢false (sym (same-self x y e) ∙ parts.0), apart x more parts.1)

-- where none stands twice they are distinct
pub distinct : (ids : List SourceId) → has_twice ids ≡ false → AreDistinct ids
distinct [] h = tt
distinct (x ∷ more) h =
    let parts = neither (is_among x more) (has_twice more) h in
    (apart x more parts.0, distinct more parts.1)

-- where no class and no index is too great they can be said in the form
pub in-form : (form : Form) (ids : List SourceId) → has_great_class ids ≡ false
    → (is_compact form && has_great_index ids) ≡ false → AllByRecursion (IsSourceIn form) ids
in-form form [] classes indexes = tt
in-form Expanded (x ∷ more) classes indexes =
    (tt, in-form Expanded more (neither (nat_lt 255 x.class) (has_great_class more) classes).1 refl)
in-form Compact (x ∷ more) classes indexes =
    let c = neither (nat_lt 255 x.class) (has_great_class more) classes in
    let i = neither (nat_le 16777216 x.index) (has_great_index more) indexes in
    let class : x.class ≤ 255 = ltb-false 255 x.class c.0 in
    let index : x.index < 16777216 = leb-false 16777216 x.index i.0 in
    ((omega (arith, class), omega (arith, index)), in-form Compact more c.1 i.1)
