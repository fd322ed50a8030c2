-- The headers held, as they are put into the places of a batch.
use Rattle.std.proofs.Common.{◌≡◌, ℕ, suc, ◌+◌, ◌-◌, ◌<◌, ◌≤◌, List, [], ◌∷◌, ◌++◌, sym, ap, ap₂, ◌∙◌, arith, map, length, take, set, replicate, get_or}
use Rattle.std.proofs.lemmas.List.{map-set, length-map, take_more, length-take-le, append_assoc}
use Rattle.std.proofs.Math.Seq.{take-suc-set, set-append_seam}

-- one more is put behind those held
pub one_more : {A B : Type 0} (f : A → B) (xs : List A) (held : ℕ) (a : A) → held < length xs
    → take (held + 1) (map f (set xs held a)) ≡ take held (map f xs) ++ f a ∷ []
one_more f xs held a lt =
    let next : held + 1 ≡ suc held = omega arith in
    ap (take (held + 1)) (map-set f xs held a) ∙ ap (λ n. take n (set (map f xs) held (f a))) next
    ∙ take-suc-set (map f xs) held (f a) (omega (arith, lt, length-map xs f))

-- one more of the first so many is written over a blank
pub one_written : {B : Type 0} (ys : List B) (k most : ℕ) (blank y d : B) → k < length ys → k < most → get_or ys k d ≡ y
    → set (take k ys ++ replicate (most - k) blank) k y ≡ take (k + 1) ys ++ replicate (most - (k + 1)) blank
one_written ys k most blank y d inside room is =
    let fewer : most - k ≡ suc (most - (k + 1)) = omega (arith, room) in
    let front : length (take k ys) ≡ k = length-take-le k ys (omega (arith, inside)) in
    let rest = replicate (most - (k + 1)) blank in
    ap₂ (λ n i. set (take k ys ++ replicate n blank) i y) fewer (sym front)
    ∙ set-append_seam (take k ys) blank rest y
    ∙ ap (λ z. take k ys ++ z ∷ rest) (sym is)
    ∙ sym (append_assoc (take k ys) (get_or ys k d ∷ []) rest)
    ∙ ap (λ l. l ++ rest) (sym (take_more ys k d inside))

-- as many are held as are counted
pub all_held : {A B : Type 0} (f : A → B) (xs : List A) (held : ℕ) → held ≤ length xs → length (take held (map f xs)) ≡ held
all_held f xs held le = length-take-le held (map f xs) (omega (arith, le, length-map xs f))
