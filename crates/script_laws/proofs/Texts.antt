-- Words between separators, joined and split again.
use Rattle.std.proofs.Common.{◌≡◌, ◌∙◌, ◌==◌, ◌||◌, ◌&&◌, ℕ, Bool, true, false, cond, List, [], ◌∷◌, ◌++◌, Option, Some, None, refl, ap, arith, if◌then◌else◌}
use Rattle.std.specs.Prelude.{option_map, option_and_then}
use Rattle.std.specs.List.{list_any, AllByRecursion, onto_first, join_with_byte}
use Rattle.std.proofs.lemmas.Bool.Decides.{nat_tests}
use Rattle.std.proofs.lemmas.List.Folds.{list_any-append}
use Rattle.script_spec.specs.Words.{Text}
use Rattle.script_spec.specs.Parts.{split_at}

-- ---- tests

pub both_true : (a b : Bool) → (a && b) ≡ true → (a ≡ true) × (b ≡ true)
both_true true b e = (refl, e)
both_true false b e = absurd cc

pub and_true : (a b : Bool) → a ≡ true → b ≡ true → (a && b) ≡ true
and_true true b ea eb = eb
and_true false b ea eb = absurd cc

falses : (a b : Bool) → (a || b) ≡ false → (a ≡ false) × (b ≡ false)
falses true b e = absurd cc
falses false b e = (refl, e)

-- a choice that gives something gives it by its test
pub chosen : {A : Type 0} (b : Bool) (x y : Option A) (a : A) (P : Type 0) → (if b then x else y) ≡ Some a
    → (b ≡ true → x ≡ Some a → P) → (b ≡ false → y ≡ Some a → P) → P
chosen true x y a P e yes_case no_case = yes_case refl e
chosen false x y a P e yes_case no_case = no_case refl e

pub record Mapped {A B : Type 0} (f : A → B) (o : Option A) (b : B) : Type 0 where
  pub a : A
  pub is : o ≡ Some a
  pub to : f a ≡ b

same : {A : Type 0} (x y : A) → Some x ≡ Some y → x ≡ y
same x y e = cc

pub mapped : {A B : Type 0} (f : A → B) (o : Option A) (b : B) → option_map f o ≡ Some b → Mapped f o b
mapped f None b e = absurd cc
mapped f (Some a) b e = record { a = a; is = refl; to = same (f a) b e }

pub record Bound {A B : Type 0} (f : A → Option B) (o : Option A) (b : B) : Type 0 where
  pub a : A
  pub is : o ≡ Some a
  pub to : f a ≡ Some b

pub bound : {A B : Type 0} (f : A → Option B) (o : Option A) (b : B) → option_and_then f o ≡ Some b → Bound f o b
bound f None b e = absurd cc
bound f (Some a) b e = record { a = a; is = refl; to = e }

-- ---- separators

abbrev pub Lacks : ℕ → Text → Type 0
Lacks c text = list_any (λ b. b == c) text ≡ false

split_before : (c : ℕ) (text rest : Text) → Lacks c text → split_at c (text ++ c ∷ rest) ≡ text ∷ split_at c rest
split_before c [] rest none =
    let is : (c == c) ≡ true = grind (arith, nat_tests) in
    ap (λ (b : Bool). cond b ([] ∷ split_at c rest) (onto_first c (split_at c rest))) is
split_before c (b ∷ text) rest none =
    let parts = falses (b == c) _ none in
    ap (λ (x : Bool). cond x ([] ∷ split_at c (text ++ c ∷ rest)) (onto_first b (split_at c (text ++ c ∷ rest)))) parts.0
    ∙ ap (onto_first b) (split_before c text rest parts.1)

split_one : (c : ℕ) (text : Text) → Lacks c text → split_at c text ≡ text ∷ []
split_one c [] none = refl
split_one c (b ∷ text) none =
    let parts = falses (b == c) _ none in
    ap (λ (x : Bool). cond x ([] ∷ split_at c text) (onto_first b (split_at c text))) parts.0
    ∙ ap (onto_first b) (split_one c text parts.1)

abbrev pub AllLack : ℕ → List Text → Type 0
AllLack c words = AllByRecursion (Lacks c) words

-- words that have no separator are the words of their text
pub split_joined : (c : ℕ) (word : Text) (more : List Text) → AllLack c (word ∷ more)
    → split_at c (join_with_byte c (word ∷ more)) ≡ word ∷ more
split_joined c word [] lack = split_one c word lack.0
split_joined c word (next ∷ more) lack =
    split_before c word (join_with_byte c (next ∷ more)) lack.0
    ∙ ap (λ (l : List Text). word ∷ l) (split_joined c next more lack.1)

pub all_lack-append : (c : ℕ) (xs ys : List Text) → AllLack c xs → AllLack c ys → AllLack c (xs ++ ys)
all_lack-append c [] ys lack others = others
all_lack-append c (x ∷ xs) ys lack others = (lack.0, all_lack-append c xs ys lack.1 others)

pub lacks-append : (c : ℕ) (xs ys : Text) → Lacks c xs → Lacks c ys → Lacks c (xs ++ ys)
lacks-append c xs ys lack others = list_any-append (λ (b : ℕ). b == c) xs ys ∙ rw (lack, others) refl

-- words joined by one separator lack another that the words lack
pub lacks-joined : (c d : ℕ) (words : List Text) → (c == d) ≡ false → AllLack d words → Lacks d (join_with_byte c words)
lacks-joined c d [] other lack = refl
lacks-joined c d (word ∷ []) other lack = lack.0
lacks-joined c d (word ∷ next ∷ more) other lack =
    lacks-append d word (c ∷ join_with_byte c (next ∷ more)) lack.0
    (ap (λ (b : Bool). b || list_any (λ (x : ℕ). x == d) (join_with_byte c (next ∷ more))) other
    ∙ lacks-joined c d (next ∷ more) other lack.1)
