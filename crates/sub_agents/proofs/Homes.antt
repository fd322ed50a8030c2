-- The sub-agents of a device, by their places.
use Rattle.std.proofs.Common.{slice_index_or, ◌≡◌, ℕ, zero, suc, ◌+◌, ◌<◌, inl, inr, Bool, true, false, cond, ◌||◌, rules, List, [], ◌∷◌, length, set, refl, sym, ap, subst, ◌∙◌, arith}
use Rattle.std.specs.Prelude.{slice_get, Result, ◌↔◌, Ok, Err, IsOk, IsErr, IfOk, OnOk, OnErr}
use Rattle.std.specs.declared.option.Option.TheVariants.{Some, None}
use Rattle.std.proofs.lemmas.Bool.{cases_Bool}
use Rattle.data_format.specs.declared.source.SourceId.{SourceId}
use Rattle.agent_setups.specs.Ids.{is_among}
use Rattle.sub_agents.specs.declared.packet.Packet.{Packet}
use Rattle.sub_agents.specs.declared.packet.ObserveRefusal.TheVariants.{NoSource}
use Rattle.sub_agents.specs.SubAgents.{SubAgentState, BootSoFar, StandsFor}
use Rattle.sub_agents.specs.Answers.{refusal, sources_of_kind}
use Rattle.sub_agents.specs.Devices.{DeviceState, StandForEach, home_from, home_of, device_refusal, has_kind}
use Rattle.sub_agents.proofs.Lists.{some-eq, none-some, read-get}

-- ---- boots

pub boot-at : (subs : List SubAgentState) (boots : List BootSoFar) (i : ℕ) (s : SubAgentState) → StandForEach subs boots
    → slice_get subs i ≡ Some s → (b : BootSoFar) × (slice_get boots i ≡ Some b) × StandsFor s b
boot-at [] boots i s h e = none-some s e
boot-at (z ∷ more) [] i s h e = absurd h
boot-at (z ∷ more) (b ∷ boots) zero s h e =
    (b, refl, subst (λ (k : SubAgentState). StandsFor k b) (some-eq z s e) h.0)
boot-at (z ∷ more) (b ∷ boots) (suc i) s h e = boot-at more boots i s h.1 e

-- another sub-agent at a place, in another boot
pub stand-set : (subs : List SubAgentState) (boots : List BootSoFar) (i : ℕ) (s : SubAgentState) (b : BootSoFar)
    → StandForEach subs boots → StandsFor s b → StandForEach (set subs i s) (set boots i b)
stand-set [] [] i s b h g = tt
stand-set [] (c ∷ boots) i s b h g = absurd h
stand-set (z ∷ more) [] i s b h g = absurd h
stand-set (z ∷ more) (c ∷ boots) zero s b h g = (g, h.1)
stand-set (z ∷ more) (c ∷ boots) (suc i) s b h g = (h.0, stand-set more boots i s b h.1 g)

-- the same one again
pub set-same : (subs : List SubAgentState) (i : ℕ) (s : SubAgentState) → slice_get subs i ≡ Some s → set subs i s ≡ subs
set-same [] i s e = refl
set-same (z ∷ more) zero s e = ap (λ (k : SubAgentState). k ∷ more) (sym (some-eq z s e))
set-same (z ∷ more) (suc i) s e = ap (λ (l : List SubAgentState). z ∷ l) (set-same more i s e)

-- ---- the one that has a source

-- it stands at this place, and is the first that has it
pub record IsHome (flow : Bool) (id : SourceId) (subs : List SubAgentState) (i : ℕ) : Type 0 where
  pub sub : SubAgentState
  pub at : slice_get subs i ≡ Some sub
  pub has : is_among id (sources_of_kind flow sub) ≡ true
  pub among : has_kind flow id subs ≡ true
  pub refuses : (p : Packet) → flow ≡ true → device_refusal id p subs ≡ refusal sub id p

go-on : (flow : Bool) (id : SourceId) (z : SubAgentState) (more : List SubAgentState) (i : ℕ)
    → is_among id (sources_of_kind flow z) ≡ false → IsHome flow id more i → IsHome flow id (z ∷ more) (suc i)
go-on flow id z more i other h = record {
  sub = h.sub;
  at = h.at;
  has = h.has;
  among = ap (λ (b : Bool). b || has_kind flow id more) other ∙ h.among;
  refuses = λ p e.
      ap (λ (b : Bool). cond b (refusal z id p) (device_refusal id p more))
      (subst (λ (k : Bool). is_among id (sources_of_kind k z) ≡ false) e other) ∙ h.refuses p e;
}

found-first : (flow : Bool) (id : SourceId) (z : SubAgentState) (more : List SubAgentState)
    → is_among id (sources_of_kind flow z) ≡ true → IsHome flow id (z ∷ more) 0
found-first flow id z more here = record {
  sub = z;
  at = refl;
  has = here;
  among = ap (λ (b : Bool). b || has_kind flow id more) here;
  refuses = λ p e.
      ap (λ (b : Bool). cond b (refusal z id p) (device_refusal id p more))
      (subst (λ (k : Bool). is_among id (sources_of_kind k z) ≡ true) e here);
}

found-from : (n : ℕ) (flow : Bool) (id : SourceId) (subs : List SubAgentState) (p : ℕ)
    → home_from n flow id subs ≡ Some p → (i : ℕ) × (p ≡ n + i) × IsHome flow id subs i
found-from n flow id [] p e = none-some p e
found-from n flow id (z ∷ more) p e = elim (cases_Bool (is_among id (sources_of_kind flow z))) [
  | inl here ↦
      let now : Some n ≡ Some p =
      sym (ap (λ (b : Bool). cond b (Some n) (home_from (n + 1) flow id more)) here) ∙ e in
      (0, omega (arith, some-eq n p now), found-first flow id z more here)
  | inr other ↦
      let later : home_from (n + 1) flow id more ≡ Some p =
      sym (ap (λ (b : Bool). cond b (Some n) (home_from (n + 1) flow id more)) other) ∙ e in
      let rest = found-from (n + 1) flow id more p later in
      (suc rest.0, omega (arith, rest.1), go-on flow id z more rest.0 other rest.2)
]

pub found : (flow : Bool) (id : SourceId) (subs : List SubAgentState) (p : ℕ) → home_of flow id subs ≡ Some p
    → IsHome flow id subs p
found flow id subs p e =
    let h = found-from 0 flow id subs p e in
    let same : h.0 ≡ p = omega (arith, h.1) in
    subst (λ (i : ℕ). IsHome flow id subs i) same h.2

-- none has it
pub record HasNone (flow : Bool) (id : SourceId) (subs : List SubAgentState) : Type 0 where
  pub none : has_kind flow id subs ≡ false
  pub refuses : (p : Packet) → flow ≡ true → device_refusal id p subs ≡ Some NoSource

none-from : (n : ℕ) (flow : Bool) (id : SourceId) (subs : List SubAgentState) → home_from n flow id subs ≡ None
    → HasNone flow id subs
none-from n flow id [] e = record { none = refl; refuses = λ p k. refl }
none-from n flow id (z ∷ more) e = elim (cases_Bool (is_among id (sources_of_kind flow z))) [
  | inl here ↦
      let bad : Some n ≡ None =
      sym (ap (λ (b : Bool). cond b (Some n) (home_from (n + 1) flow id more)) here) ∙ e in
      absurd cc
  | inr other ↦
      let later : home_from (n + 1) flow id more ≡ None =
      sym (ap (λ (b : Bool). cond b (Some n) (home_from (n + 1) flow id more)) other) ∙ e in
      let rest = none-from (n + 1) flow id more later in
      record {
        none = ap (λ (b : Bool). b || has_kind flow id more) other ∙ rest.none;
        refuses = λ p k.
            ap (λ (b : Bool). cond b (refusal z id p) (device_refusal id p more))
            (subst (λ (f : Bool). is_among id (sources_of_kind f z) ≡ false) k other) ∙ rest.refuses p k;
      }
]

pub found-none : (flow : Bool) (id : SourceId) (subs : List SubAgentState) → home_of flow id subs ≡ None
    → HasNone flow id subs
found-none flow id subs e = none-from 0 flow id subs e

-- ---- what a call of one sub-agent says of the device

pub within-get : {X : Type 0} (xs : List X) (i : ℕ) (x : X) → slice_get xs i ≡ Some x → i < length xs
within-get [] i x e = none-some x e
within-get (z ∷ more) zero x e = omega arith
within-get (z ∷ more) (suc i) x e = omega (arith, within-get more i x e)

pub on-err : {T E A B : Type 0} (r : Result T E) → (A → B) → OnErr r A → OnErr r B
on-err (Ok x) f h = tt
on-err (Err e) f h = f h

pub on-ok : {T E A B : Type 0} (r : Result T E) → (A → B) → OnOk r A → OnOk r B
on-ok (Ok x) f h = f h
on-ok (Err e) f h = tt

-- a call that is refused exactly where none has the source
pub err-none : (b : Bool) → b ≡ false → (true ≡ true → b ≡ false) × (b ≡ false → true ≡ true)
err-none b e = (λ k. e, λ k. refl)

pub err-some : {T E : Type 0} (r : Result T E) (b : Bool) → IsOk r → b ≡ true
    → (IsErr r → b ≡ false) × (b ≡ false → IsErr r)
err-some (Ok x) b k e = (
  λ bad. absurd (search rules),
  λ no. let bad : true ≡ false = sym e ∙ no in absurd cc,
)
err-some (Err x) b k e = absurd (search rules)

pub isnt-err : {T E : Type 0} (r : Result T E) (b : Bool) → b ≡ true → (IsErr r ↔ (b ≡ false)) → IsOk r
isnt-err (Ok x) b e h = search rules
isnt-err (Err x) b e h = let bad : true ≡ false = sym e ∙ h.0 (search rules) in absurd cc

pub if-ok : {T E : Type 0} {P Q : T → Type 0} (r : Result T E) → ((x : T) → P x → Q x) → IfOk r P → IfOk r Q
if-ok (Ok x) f h = f x h
if-ok (Err e) f h = tt

-- the sub-agent at a place, by what a program read there
pub sub-at : (d : DeviceState) (subs : List SubAgentState) (i : ℕ) (s : SubAgentState) → subs ≡ d.subs
    → i < length d.subs → s ≡ slice_index_or subs i s → slice_get d.subs i ≡ Some s
sub-at d subs i s view within read =
    subst (λ (l : List SubAgentState). slice_get l i ≡ Some s) view
    (read-get subs i s (subst (λ (l : List SubAgentState). i < length l) (sym view) within) read)

-- what was read there is the one that stands there
pub read-is : (d : DeviceState) (subs : List SubAgentState) (i : ℕ) (s r : SubAgentState) → subs ≡ d.subs
    → slice_get d.subs i ≡ Some s → r ≡ slice_index_or subs i r → r ≡ s
read-is d subs i s r view at read =
    some-eq r s (sym (sub-at d subs i r view (within-get d.subs i s at) read) ∙ at)
