-- Lists of bytes, and lists that begin alike.
use Rattle.std.proofs.Common.{◌≡◌, ℕ, zero, suc, ◌+◌, ◌<◌, ◌≤◌, true, nat_lt, inl, inr, List, [], ◌∷◌, ◌++◌, length, take, drop, refl, sym, ap, subst, ◌∙◌, arith, take_at, drop_at, take-append-drop, length-take, get_or-drop}
use Rattle.std.specs.List.{list_all}
use Rattle.std.proofs.lemmas.Bool.{cases_lt, and_parts, ltb-true}
use Rattle.std.proofs.lemmas.List.{get_or-take, get_or_past, get_or-append-add, take-append-le, drop-append-le}
use Rattle.wire_spec.specs.Bytes.{AreBytes}

pub drop_bytes : (n : ℕ) (bytes : List ℕ) → AreBytes bytes → AreBytes (drop n bytes)
drop_bytes n bytes h i = rw get_or-drop (h (n + i))

pub take_bytes : (n : ℕ) (bytes : List ℕ) → AreBytes bytes → AreBytes (take n bytes)
take_bytes n bytes h i =
    elim (cases_lt i n) [
      | inl lt ↦ rw (get_or-take n bytes i 0 lt) (h i)
      | inr le ↦ rw (get_or_past (take n bytes) i 0 (omega (arith, length-take n bytes))) (omega arith)
    ]

-- what follows a front of bytes
pub rest_bytes : (front rest : List ℕ) → AreBytes (front ++ rest) → AreBytes rest
rest_bytes front rest h i =
    subst (λ (n : ℕ). n < 256) (get_or-append-add front rest i 0) (h (length front + i))

-- each is below 256 where a test of each says so
pub tested_bytes : (bytes : List ℕ) → list_all (λ b. nat_lt b 256) bytes ≡ true → AreBytes bytes
tested_bytes [] e i = omega arith
tested_bytes (b ∷ bs) e zero = ltb-true b 256 (and_parts (nat_lt b 256) (list_all (λ b. nat_lt b 256) bs) e).0
tested_bytes (b ∷ bs) e (suc i) =
    tested_bytes bs (and_parts (nat_lt b 256) (list_all (λ b. nat_lt b 256) bs) e).1 i

-- of two fronts of one list the shorter begins the longer
pub split_append : (x y a b : List ℕ) → x ++ y ≡ a ++ b → length x ≤ length a
    → (c : List ℕ) × (a ≡ x ++ c) × (y ≡ c ++ b)
split_append x y a b e le =
    let n = length x in
    let front : take n a ≡ x = sym (take-append-le n a b le) ∙ ap (take n) (sym e) ∙ take_at x y n refl in
    let whole : a ≡ x ++ drop n a = sym (take-append-drop n a) ∙ ap (λ l. l ++ drop n a) front in
    let back : y ≡ drop n a ++ b = sym (drop_at x y n refl) ∙ ap (drop n) e ∙ drop-append-le n a b le in
    (drop n a, whole, back)
