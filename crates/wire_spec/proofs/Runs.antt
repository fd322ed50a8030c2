-- Values that are read one after the other, as a loop reads them.
use Rattle.std.proofs.Common.{◌≡◌, ℕ, zero, suc, ◌+◌, ◌-◌, ◌<◌, ◌≤◌, List, [], ◌∷◌, ◌++◌, Result, Ok, Err, refl, sym, ap, ◌∙◌, append_assoc, arith}
use Rattle.std.proofs.lemmas.List.{append-nil}
use Rattle.wire_spec.specs.declared.fault.Fault.{Fault}
use Rattle.wire_spec.specs.Fails.{Remaining}
use Rattle.wire_spec.specs.Reading.{◌>>=◌}
use Rattle.wire_spec.specs.Bodies.{items_at}

-- where two steps gave a value, the first gave one, and the second another of it
pub first_step : {A B : Type 0} (r : Result A Fault) (next : A → Result B Fault) (y : B) → (r >>= next) ≡ Ok y
    → (x : A) × (r ≡ Ok x) × (next x ≡ Ok y)
first_step (Ok x) next y e = (x, refl, e)
first_step (Err f) next y e = absurd cc

-- one value and no other
pub same_value : {A : Type 0} (x y : A) → (let r : Result A Fault = Ok x in r) ≡ Ok y → x ≡ y
same_value x y e = cc

-- values in front of those that are still to be read
abbrev pub behind_these : {A : Type 0} → List A → Result (List A × Remaining) Fault → Result (List A × Remaining) Fault
behind_these these (Ok x) = Ok (these ++ x.0, x.1)
behind_these these (Err f) = Err f

-- some values were read, n more are to be read from b on, and all of them are the outcome
abbrev pub IsUnderWay : {A : Type 0} → (Remaining → Result (A × Remaining) Fault) → ℕ → Remaining
    → Result (List A × Remaining) Fault → Type 0
IsUnderWay {A} each n b outcome = (these : List A) × (behind_these these (items_at each n b) ≡ outcome)

pub sets_out : {A : Type 0} (each : Remaining → Result (A × Remaining) Fault) (n : ℕ) (b : Remaining)
    → IsUnderWay each n b (items_at each n b)
sets_out {A} each n b = ([], nothing (items_at each n b))
  where
    nothing : (r : Result (List A × Remaining) Fault) → behind_these [] r ≡ r
    nothing (Ok x) = refl
    nothing (Err f) = refl

one_joins : {A : Type 0} (these : List A) (x : A) (r : Result (List A × Remaining) Fault)
    → behind_these these (r >>= λ xs. Ok (x ∷ xs.0, xs.1)) ≡ behind_these (these ++ x ∷ []) r
one_joins {A} these x (Ok xs) =
    let with_rest : List A → Result (List A × Remaining) Fault = λ l. Ok (l, xs.1) in
    ap with_rest (simp append_assoc)
one_joins these x (Err f) = refl

pub goes_on : {A : Type 0} (each : Remaining → Result (A × Remaining) Fault) (count i : ℕ) (b : Remaining)
    (outcome : Result (List A × Remaining) Fault) (x : A) (c : Remaining) → i < count → each b ≡ Ok (x, c)
    → IsUnderWay each (count - i) b outcome → IsUnderWay each (count - (i + 1)) c outcome
goes_on {A} each count i b outcome x c less e way =
    let one_less : count - i ≡ suc (count - (i + 1)) = omega arith in
    let joined : behind_these way.0 (items_at each (count - i) b)
    ≡ behind_these (way.0 ++ x ∷ []) (items_at each (count - (i + 1)) c) =
    rw (one_less, e) (one_joins way.0 x (items_at each (count - (i + 1)) c)) in
    (way.0 ++ x ∷ [], sym joined ∙ way.1)

pub breaks_off : {A : Type 0} (each : Remaining → Result (A × Remaining) Fault) (count i : ℕ) (b : Remaining)
    (outcome : Result (List A × Remaining) Fault) (f : Fault) → i < count → each b ≡ Err f
    → IsUnderWay each (count - i) b outcome → outcome ≡ Err f
breaks_off {A} each count i b outcome f less e way =
    let one_less : count - i ≡ suc (count - (i + 1)) = omega arith in
    let broken : behind_these way.0 (items_at each (count - i) b) ≡ Err f = rw (one_less, e) refl in
    sym way.1 ∙ broken

pub arrives : {A : Type 0} (each : Remaining → Result (A × Remaining) Fault) (count i : ℕ) (b : Remaining)
    (outcome : Result (List A × Remaining) Fault) → count ≤ i → IsUnderWay each (count - i) b outcome
    → (xs : List A) × (outcome ≡ Ok (xs, b))
arrives {A} each count i b outcome most way =
    let none_left : count - i ≡ 0 = omega arith in
    let with_rest : List A → Result (List A × Remaining) Fault = λ l. Ok (l, b) in
    let all : behind_these way.0 (items_at each (count - i) b) ≡ Ok (way.0, b) =
    rw none_left (ap with_rest (append-nil way.0)) in
    (way.0, sym way.1 ∙ all)

-- a reader that takes whatever another one takes does so for n values
pub all_kept : {A : Type 0} (each other : Remaining → Result (A × Remaining) Fault)
    → ((b : Remaining) (x : A × Remaining) → each b ≡ Ok x → other b ≡ Ok x)
    → (n : ℕ) (b : Remaining) (x : List A × Remaining) → items_at each n b ≡ Ok x → items_at other n b ≡ Ok x
all_kept each other keeps zero b x e = e
all_kept {A} each other keeps (suc n) b x e =
    let others : A × Remaining → Result (List A × Remaining) Fault =
    λ y. items_at each n y.1 >>= λ xs. Ok (y.0 ∷ xs.0, xs.1) in
    let one = first_step (each b) others x e in
    let last : List A × Remaining → Result (List A × Remaining) Fault = λ xs. Ok (one.0.0 ∷ xs.0, xs.1) in
    let two = first_step (items_at each n one.0.1) last x one.2 in
    rw (keeps b one.0 one.1, all_kept each other keeps n one.0.1 two.0 two.1) two.2
