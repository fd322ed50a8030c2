-- Zero bytes, and the first byte that isn't zero.
use Rattle.std.proofs.Common.{◌≡◌, ◌≢◌, ◌⊎◌, ℕ, zero, suc, ◌+◌, ◌-◌, ◌<◌, ◌≤◌, Bool, true, false, cond, not, ◌==◌, inl, inr, List, [], ◌∷◌, ◌++◌, length, take, replicate, Option, Some, None, refl, sym, ap, subst, ◌∙◌, arith, take_at, length-append}
use Rattle.std.specs.List.{position_from}
use Rattle.std.proofs.lemmas.Bool.{eqb-true, eqb-false, ne_eqb}
use Rattle.std.proofs.lemmas.List.{length-replicate, replicate-append-replicate, take-replicate}
use Rattle.std.proofs.lemmas.Iterator.Adapters.{position_from-zero}
use Rattle.wire_spec.specs.CaptureReading.{first_nonzero}

pub length_zeros : (n : ℕ) → length {A = ℕ} (replicate n 0) ≡ n
length_zeros n = length-replicate {A = ℕ} n 0

-- some zeros, filled up to n
pub zeros_filled : (n : ℕ) (part : List ℕ) → part ≡ replicate (length part) 0 → length part ≤ n
    → replicate n 0 ≡ part ++ replicate (n - length part) 0
zeros_filled n part e le =
    let number : length part + (n - length part) ≡ n = omega (arith, le) in
    sym (ap (λ k. replicate k 0) number) ∙ sym (replicate-append-replicate (length part) (n - length part) 0)
    ∙ sym (ap (λ l. l ++ replicate (n - length part) 0) e)

-- the search as a recursion down the list
from_start : (bytes : List ℕ) → first_nonzero bytes ≡ position_from (λ b. not (b == 0)) 0 bytes
from_start bytes = position_from-zero (λ b. not (b == 0)) bytes

found_from : (start zeros stray : ℕ) (more : List ℕ) → stray ≢ 0
    → position_from (λ b. not (b == 0)) start (replicate zeros 0 ++ stray ∷ more) ≡ Some (start + zeros)
found_from start zero stray more h =
    let e : (stray == 0) ≡ false = ne_eqb stray 0 h in
    let n : start ≡ start + 0 = omega arith in rw e (ap (λ k. Some k) n)
found_from start (suc zeros) stray more h =
    let n : start + 1 + zeros ≡ start + suc zeros = omega arith in
    found_from (start + 1) zeros stray more h ∙ ap (λ k. Some k) n

none_from : (start zeros : ℕ) → position_from (λ b. not (b == 0)) start (replicate zeros 0) ≡ None
none_from start zero = refl
none_from start (suc zeros) = none_from (start + 1) zeros

-- zeros, and then a byte that isn't zero
pub found_after_zeros : (zeros stray : ℕ) (more : List ℕ) → stray ≢ 0
    → first_nonzero (replicate zeros 0 ++ stray ∷ more) ≡ Some zeros
found_after_zeros zeros stray more h =
    let n : 0 + zeros ≡ zeros = omega arith in
    from_start (replicate zeros 0 ++ stray ∷ more) ∙ found_from 0 zeros stray more h ∙ ap (λ k. Some k) n

pub none_in_zeros : (zeros : ℕ) → first_nonzero (replicate zeros 0) ≡ None
none_in_zeros zeros = from_start (replicate zeros 0) ∙ none_from 0 zeros

-- a test that passed over an element, and one that stopped at it
passed : (zero_byte : Bool) (k : ℕ) (later : Option ℕ) → cond (not zero_byte) (Some k) later ≡ None
    → (zero_byte ≡ true) × (later ≡ None)
passed true k later e = (refl, e)
passed false k later e = absurd cc

stopped : (zero_byte : Bool) (k found : ℕ) (later : Option ℕ)
    → cond (not zero_byte) (Some k) later ≡ Some found
    → ((zero_byte ≡ true) × (later ≡ Some found)) ⊎ ((zero_byte ≡ false) × (k ≡ found))
stopped true k found later e = inl (refl, e)
stopped false k found later e = inr (refl, cc)

all_from : (bytes : List ℕ) (start : ℕ) → position_from (λ b. not (b == 0)) start bytes ≡ None
    → bytes ≡ replicate (length bytes) 0
all_from [] start e = refl
all_from (b ∷ bs) start e =
    let p = passed (b == 0) start (position_from (λ b. not (b == 0)) (start + 1) bs) e in
    let is : b ≡ 0 = eqb-true b 0 p.0 in
    ap (λ k. k ∷ bs) is ∙ ap (λ l. 0 ∷ l) (all_from bs (start + 1) p.1)

-- zero bytes, so many, and then a byte that isn't zero
pub record HasStray (bytes : List ℕ) (zeros : ℕ) : Type 0 where
  pub stray : ℕ
  pub more : List ℕ
  pub not_zero : stray ≢ 0
  pub whole : bytes ≡ replicate zeros 0 ++ stray ∷ more

stray_from : (bytes : List ℕ) (start found : ℕ) → position_from (λ b. not (b == 0)) start bytes ≡ Some found
    → (zeros : ℕ) × (found ≡ start + zeros) × HasStray bytes zeros
stray_from [] start found e = absurd cc
stray_from (b ∷ bs) start found e =
    elim (stopped (b == 0) start found (position_from (λ b. not (b == 0)) (start + 1) bs) e) [
      | inl p ↦
          let is : b ≡ 0 = eqb-true b 0 p.0 in
          let later = stray_from bs (start + 1) found p.1 in
          let n : found ≡ start + suc later.0 = omega (arith, later.1) in (
            suc later.0,
            n,
            record {
              stray = later.2.stray;
              more = later.2.more;
              not_zero = later.2.not_zero;
              whole = ap (λ k. k ∷ bs) is ∙ ap (λ l. 0 ∷ l) later.2.whole;
            },
          )
      | inr p ↦
          let n : found ≡ start + 0 = omega (arith, p.1) in
          (0, n, record { stray = b; more = bs; not_zero = eqb-false b 0 p.0; whole = refl })
    ]

pub zeros_from_none : (bytes : List ℕ) → first_nonzero bytes ≡ None → bytes ≡ replicate (length bytes) 0
zeros_from_none bytes e = all_from bytes 0 (sym (from_start bytes) ∙ e)

pub stray_from_some : (bytes : List ℕ) (found : ℕ) → first_nonzero bytes ≡ Some found → HasStray bytes found
stray_from_some bytes found e =
    let p = stray_from bytes 0 found (sym (from_start bytes) ∙ e) in
    let n : p.0 ≡ found = omega (arith, p.1) in
    subst (HasStray bytes) n p.2

-- the front of some zeros, and what they are split into
pub zeros_split : (n : ℕ) (a b : List ℕ) → replicate n 0 ≡ a ++ b
    → (a ≡ replicate (length a) 0) × (length a + length b ≡ n)
zeros_split n a b e =
    let long : length a + length b ≡ n = omega (arith, length-append a b, ap length e, length_zeros n) in
    let front : a ≡ take (length a) (replicate n 0) =
    sym (take_at a b (length a) refl) ∙ ap (take (length a)) (sym e) in
    let less : length a ≤ n = omega (arith, long) in
    (front ∙ take-replicate (length a) n 0 less, long)

-- a stray byte stays within a longer front
pub take_stray : (zeros n stray : ℕ) (more : List ℕ) → zeros < n
    → (fewer : List ℕ) × (take n (replicate zeros 0 ++ stray ∷ more) ≡ replicate zeros 0 ++ stray ∷ fewer)
take_stray k zero stray more lt = absurd (omega arith)
take_stray zero (suc n) stray more lt = (take n more, refl)
take_stray (suc zeros) (suc n) stray more lt =
    let p = take_stray zeros n stray more (omega arith) in (p.0, ap (λ l. 0 ∷ l) p.1)
