-- Tests over lists.
use Rattle.std.proofs.Common.{◌≡◌, ◌∙◌, cond, not, ◌==◌, ◌&&◌, ◌||◌, ◌++◌, ◌⊎◌, inl, inr, ℕ, Bool, true, false, List, [], ◌∷◌, map, reverse, Option, Some, None, refl, ap, sym, subst}
use Rattle.std.specs.List.{cons_option}
use Rattle.std.specs.List.{AllByRecursion, list_any}
use Rattle.std.proofs.lemmas.Bool.{eqb-true, eq-eqb, or_parts, or_from, or_right, and_from, and_parts, false_from_ne_true, true≢false}
use Rattle.std.proofs.lemmas.List.{reverse-append}
use Rattle.script_spec.specs.Values.{Place}

pub either : (a b : Bool) → (a || b) ≡ true → (a ≡ true) ⊎ (b ≡ true)
either true b e = inl refl
either false b e = inr e

pub none_then : (b : Bool) (n : ℕ) (rest : Option ℕ) → b ≡ false → rest ≡ None → cond b (Some n) rest ≡ None
none_then true n rest e h = absurd (true≢false e)
none_then false n rest e h = h

pub not-false : (b : Bool) → not b ≡ true → b ≡ false
not-false true e = absurd cc
not-false false e = refl

pub any_implies : {X : Type 0} (q r : X → Bool) → ((x : X) → q x ≡ true → r x ≡ true) → (xs : List X)
    → list_any q xs ≡ true → list_any r xs ≡ true
any_implies q r h [] e = e
any_implies {X} q r h (x ∷ more) e = go (either (q x) (list_any q more) e) (any_implies q r h more)
  where
    go : (q x ≡ true) ⊎ (list_any q more ≡ true) → (list_any q more ≡ true → list_any r more ≡ true)
        → (r x || list_any r more) ≡ true
    go (inl here) others = ap (λ (b : Bool). b || list_any r more) (h x here)
    go (inr later) others = or_right (r x) (list_any r more) (others later)

pub none_of : {X : Type 0} (q : X → Bool) (xs : List X) → AllByRecursion (λ (x : X). q x ≡ false) xs → list_any q xs ≡ false
none_of q [] h = refl
none_of q (x ∷ more) h = or_from (q x) (list_any q more) h.0 (none_of q more h.1)

pub all_none : {X : Type 0} (q : X → Bool) (xs : List X) → list_any q xs ≡ false → AllByRecursion (λ (x : X). q x ≡ false) xs
all_none q [] e = tt
all_none q (x ∷ more) e = let p = or_parts (q x) (list_any q more) e in (p.0, all_none q more p.1)

pub any_map : {X Y : Type 0} (q : Y → Bool) (to : X → Y) (xs : List X) → list_any (λ (x : X). q (to x)) xs ≡ list_any q (map to xs)
any_map q to [] = refl
any_map q to (x ∷ more) = ap (λ (b : Bool). q (to x) || b) (any_map q to more)

-- ---- the end of a list

pub all_end : {X : Type 0} (P : X → Type 0) (xs : List X) (y : X) → AllByRecursion P xs → P y
    → AllByRecursion P (xs ++ y ∷ [])
all_end P [] y h p = (p, tt)
all_end P (x ∷ more) y h p = (h.0, all_end P more y h.1 p)

pub turned : {X : Type 0} (x : X) (xs : List X) → reverse (x ∷ xs) ≡ reverse xs ++ x ∷ []
turned x xs = reverse-append (x ∷ []) xs

pub all_turned : {X : Type 0} (P : X → Type 0) (xs : List X) → AllByRecursion P xs → AllByRecursion P (reverse xs)
all_turned P [] h = tt
all_turned P (x ∷ more) h =
    subst (AllByRecursion P) (sym (turned x more)) (all_end P (reverse more) x (all_turned P more h.1) h.0)

pub all_imply : {X : Type 0} (P Q : X → Type 0) → ((x : X) → P x → Q x) → (xs : List X) → AllByRecursion P xs → AllByRecursion Q xs
all_imply P Q h [] a = tt
all_imply P Q h (x ∷ more) a = (h x a.0, all_imply P Q h more a.1)

-- ---- places

pub eq_sym : (a b : ℕ) → (a == b) ≡ false → (b == a) ≡ false
eq_sym a b e = false_from_ne_true (b == a) (λ h. true≢false (sym (eq-eqb a b (sym (eqb-true b a h))) ∙ e))

abbrev pub same_at : Place → Place → Bool
same_at p q = (p.class == q.class) && (p.index == q.index)

pub same_at-eq : (p q : Place) → same_at p q ≡ true → p ≡ q
same_at-eq p q e =
    let parts = and_parts (p.class == q.class) (p.index == q.index) e in
    let a : p.class ≡ q.class = eqb-true p.class q.class parts.0 in
    let b : p.index ≡ q.index = eqb-true p.index q.index parts.1 in
    λ i. record { class = a i; index = b i }

pub same_at-self : (p q : Place) → p ≡ q → same_at p q ≡ true
same_at-self p q e = and_from _ _ (eq-eqb p.class q.class (ap (λ (x : Place). x.class) e)) (eq-eqb p.index q.index (ap (λ (x : Place). x.index) e))

pub same_at-sym : (p q : Place) → same_at p q ≡ false → same_at q p ≡ false
same_at-sym p q e = false_from_ne_true (same_at q p) (λ h. true≢false (sym (same_at-self p q (sym (same_at-eq q p h))) ∙ e))

-- the place is one of these; and some place stands twice
abbrev pub is_one : Place → List Place → Bool
is_one p [] = false
is_one p (q ∷ more) = same_at q p || is_one p more

abbrev pub some_twice : List Place → Bool
some_twice [] = false
some_twice (p ∷ more) = is_one p more || some_twice more

one_end : (p : Place) (ps : List Place) (q : Place) → is_one p ps ≡ false → same_at q p ≡ false → is_one p (ps ++ q ∷ []) ≡ false
one_end p [] q h e = or_from _ _ e refl
one_end p (x ∷ more) q h e =
    let parts = or_parts (same_at x p) (is_one p more) h in
    or_from _ _ parts.0 (one_end p more q parts.1 e)

pub twice_end : (ps : List Place) (q : Place) → some_twice ps ≡ false → is_one q ps ≡ false → some_twice (ps ++ q ∷ []) ≡ false
twice_end [] q h e = refl
twice_end (p ∷ more) q h e =
    let old = or_parts (is_one p more) (some_twice more) h in
    let new = or_parts (same_at p q) (is_one q more) e in
    or_from _ _ (one_end p more q old.0 (same_at-sym p q new.0)) (twice_end more q old.1 new.1)

pub one_any : {X : Type 0} (to : X → Place) (p : Place) (xs : List X)
    → is_one p (map to xs) ≡ list_any (λ (x : X). same_at (to x) p) xs
one_any to p [] = refl
one_any to p (x ∷ more) = ap (λ (b : Bool). same_at (to x) p || b) (one_any to p more)

pub any_later : {X : Type 0} (r : X → Bool) (o : Option X) (rest : List X) → list_any r rest ≡ true
    → list_any r (cons_option o rest) ≡ true
any_later r None rest h = h
any_later r (Some x) rest h = or_right (r x) (list_any r rest) h

pub none_turned : {X : Type 0} (q : X → Bool) (xs : List X) → list_any q xs ≡ false → list_any q (reverse xs) ≡ false
none_turned q xs e = none_of q (reverse xs) (all_turned _ xs (all_none q xs e))

pub any_turned : {X : Type 0} (q : X → Bool) (xs : List X) → list_any q (reverse xs) ≡ true → list_any q xs ≡ true
any_turned q xs e = go (list_any q xs) refl
  where
    go : (b : Bool) → list_any q xs ≡ b → list_any q xs ≡ true
    go true is = is
    go false is = absurd (true≢false (sym e ∙ none_turned q xs is))

-- one for which the test holds
pub record Found {X : Type 0} (q : X → Bool) (xs : List X) : Type 1 where
  pub item : X
  pub holds : q item ≡ true
  pub there : (r : X → Bool) → r item ≡ true → list_any r xs ≡ true

pub found_in : {X : Type 0} (q : X → Bool) (xs : List X) → list_any q xs ≡ true → Found q xs
found_in q [] e = absurd cc
found_in {X} q (x ∷ more) e = go (either (q x) (list_any q more) e) (found_in q more)
  where
    go : (q x ≡ true) ⊎ (list_any q more ≡ true) → (list_any q more ≡ true → Found q more) → Found q (x ∷ more)
    go (inl here) others = record { item = x; holds = here; there = λ r h. ap (λ (b : Bool). b || list_any r more) h }
    go (inr later) others =
        let f = others later in
        record { item = f.item; holds = f.holds; there = λ r h. or_right (r x) (list_any r more) (f.there r h) }
