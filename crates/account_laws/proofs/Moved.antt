-- Numbers that are less by one constant, as by a multiple of 2^32.
use Rattle.std.proofs.Common.{◌≡◌, ℕ, ◌+◌, ◌*◌, inl, inr, Bool, true, false, ◌||◌, List, [], ◌∷◌, map, ℤ, pos, ◌+ℤ◌, ◌-ℤ◌, ◌≤ℤ◌, ◌<ℤ◌, arith, refl, sym, ap, ◌∙◌}
use Rattle.std.specs.Prelude.{int_lt, int_le, unsigned_abs}
use Rattle.std.specs.Ordering.{int_eq}
use Rattle.std.specs.Int.{int_max, int_min, int_rem_euclid}
use Rattle.std.proofs.lemmas.Int.{ints, clamps}
use Rattle.std.proofs.lemmas.Bool.{cases_Bool}
use Rattle.count_spec.specs.Windows.{near, mark_of, greatest, least, has}
use Rattle.count_spec.proofs.Integers.{remainder_is, HasRemainder, has_remainder, int_lt-true, int_lt-false, int_le-true, int_le-false, int_eq-same, int_eq-other, int_eq-is, int_eq-is_not}
use Rattle.count_spec.proofs.Near.{near-mark_of}

-- ---- multiples of 2^32

pub record IsMultiple (c : ℤ) : Type 0 where
  pub up : ℕ
  pub down : ℕ
  pub sums : (c +ℤ pos (4294967296 * up)) ≡ pos (4294967296 * down)

pub near-moved : (mark : ℕ) (top c : ℤ) → IsMultiple c → near mark (top -ℤ c) ≡ (near mark top -ℤ c)
near-moved mark top c m =
    let r : HasRemainder (pos mark -ℤ (top -ℤ pos 2147483648)) = has_remainder (pos mark -ℤ (top -ℤ pos 2147483648)) in
    let s : (pos mark -ℤ (top -ℤ pos 2147483648) +ℤ pos (4294967296 * r.up))
    ≡ (pos r.rest +ℤ pos (4294967296 * r.down)) = r.sums in
    let t : (c +ℤ pos (4294967296 * m.up)) ≡ pos (4294967296 * m.down) = m.sums in
    let e : int_rem_euclid (pos mark -ℤ ((top -ℤ c) -ℤ pos 2147483648)) (pos 4294967296) ≡ pos r.rest =
    remainder_is (pos mark -ℤ ((top -ℤ c) -ℤ pos 2147483648)) r.rest (r.up + m.up) (r.down + m.down) r.below
    (omega (arith, ints)) in
    rw (r.is, e) (omega (arith, ints))

-- a number near the top is found again, less by the multiple
pub near-true : (n top c : ℤ) → IsMultiple c → n <ℤ (top +ℤ pos 2147483648) → top <ℤ (n +ℤ pos 2147483648)
    → near (mark_of n) (top -ℤ c) ≡ (n -ℤ c)
near-true n top c m below above =
    near-moved (mark_of n) top c m ∙ ap (λ (k : ℤ). k -ℤ c) (near-mark_of n top (omega (arith, ints)) below)

-- the first of these numbers, which is counted as its mark
abbrev pub first_number : List ℤ → ℤ
first_number [] = pos 0
first_number (n ∷ []) = n
first_number (n ∷ m ∷ before) = first_number (m ∷ before)

-- by how much what is counted is less
abbrev pub base : List ℤ → ℤ
base ns = first_number ns -ℤ pos (mark_of (first_number ns))

pub base-multiple : (ns : List ℤ) → IsMultiple (base ns)
base-multiple ns = of (first_number ns)
  where
    of : (n : ℤ) → IsMultiple (n -ℤ pos (mark_of n))
    of n =
        let r : HasRemainder n = has_remainder n in
        let s : (n +ℤ pos (4294967296 * r.up)) ≡ (pos r.rest +ℤ pos (4294967296 * r.down)) = r.sums in
        let e : mark_of n ≡ r.rest = ap unsigned_abs r.is in
        record { up = r.up; down = r.down; sums = rw e (omega (arith, ints)) }

-- ---- numbers that are less by the same

abbrev pub moved : ℤ → ℤ → ℤ
moved c n = n -ℤ c

pub back : (n m : ℤ) → m ≡ (n -ℤ (n -ℤ m))
back n m = omega (arith, ints)

pub max-moved : (a b c : ℤ) → int_max (a -ℤ c) (b -ℤ c) ≡ (int_max a b -ℤ c)
max-moved a b c = omega (arith, ints, clamps)

pub min-moved : (a b c : ℤ) → int_min (a -ℤ c) (b -ℤ c) ≡ (int_min a b -ℤ c)
min-moved a b c = omega (arith, ints, clamps)

pub lower : (a b c : ℤ) → a <ℤ b → (a -ℤ c) <ℤ (b -ℤ c)
lower a b c h = omega (arith, ints)

pub lower-most : (a b c : ℤ) → a ≤ℤ b → (a -ℤ c) ≤ℤ (b -ℤ c)
lower-most a b c h = omega (arith, ints)

pub less-than : (a b : ℤ) → int_lt a b ≡ true → a <ℤ b
less-than a b e = omega (arith, ints)

pub not-less : (a b : ℤ) → int_lt a b ≡ false → b ≤ℤ a
not-less a b e = omega (arith, ints)

pub at-most : (a b : ℤ) → int_le a b ≡ true → a ≤ℤ b
at-most a b e = omega (arith, ints)

pub not-most : (a b : ℤ) → int_le a b ≡ false → b <ℤ a
not-most a b e = omega (arith, ints)

pub lt-moved : (a b c : ℤ) → int_lt (a -ℤ c) (b -ℤ c) ≡ int_lt a b
lt-moved a b c = elim (cases_Bool (int_lt a b)) [
  | inl e ↦ int_lt-true (a -ℤ c) (b -ℤ c) (lower a b c (less-than a b e)) ∙ sym e
  | inr e ↦ int_lt-false (a -ℤ c) (b -ℤ c) (lower-most b a c (not-less a b e)) ∙ sym e
]

pub le-moved : (a b c : ℤ) → int_le (a -ℤ c) (b -ℤ c) ≡ int_le a b
le-moved a b c = elim (cases_Bool (int_le a b)) [
  | inl e ↦ int_le-true (a -ℤ c) (b -ℤ c) (lower-most a b c (at-most a b e)) ∙ sym e
  | inr e ↦ int_le-false (a -ℤ c) (b -ℤ c) (lower b a c (not-most a b e)) ∙ sym e
]

pub eq-moved : (a b c : ℤ) → int_eq (a -ℤ c) (b -ℤ c) ≡ int_eq a b
eq-moved a b c = elim (cases_Bool (int_eq a b)) [
  | inl e ↦ ap (λ (k : ℤ). int_eq (k -ℤ c) (b -ℤ c)) (int_eq-is a b e) ∙ int_eq-same (b -ℤ c) ∙ sym e
  | inr e ↦ int_eq-other (a -ℤ c) (b -ℤ c) (λ q. int_eq-is_not a b e (raise a b c q)) ∙ sym e
]
  where
    raise : (a b c : ℤ) → (a -ℤ c) ≡ (b -ℤ c) → a ≡ b
    raise a b c q = omega (arith, ints)

pub has-moved : (c : ℤ) (set : List ℤ) (n : ℤ) → has (map (moved c) set) (n -ℤ c) ≡ has set n
has-moved c [] n = refl
has-moved c (m ∷ more) n =
    ap (λ (b : Bool). b || has (map (moved c) more) (n -ℤ c)) (eq-moved m n c)
    ∙ ap (λ (b : Bool). int_eq m n || b) (has-moved c more n)

pub greatest-moved : (c n : ℤ) (more : List ℤ) → greatest (map (moved c) (n ∷ more)) ≡ (greatest (n ∷ more) -ℤ c)
greatest-moved c n [] = refl
greatest-moved c n (m ∷ more) = ap (int_max (n -ℤ c)) (greatest-moved c m more) ∙ max-moved n (greatest (m ∷ more)) c

pub least-moved : (c n : ℤ) (more : List ℤ) → least (map (moved c) (n ∷ more)) ≡ (least (n ∷ more) -ℤ c)
least-moved c n [] = refl
least-moved c n (m ∷ more) = ap (int_min (n -ℤ c)) (least-moved c m more) ∙ min-moved n (least (m ∷ more)) c
