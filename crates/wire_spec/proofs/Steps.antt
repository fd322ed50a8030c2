-- Readers that agree with the grammar, and how such readers are put together.
use Rattle.std.proofs.Common.{◌≡◌, ℕ, ◌+◌, ◌⊎◌, List, ◌++◌, length, Result, Ok, Err, refl, sym, ap, subst, ◌∙◌, append_assoc, arith, inl, inr}
use Rattle.std.proofs.lemmas.List.{length-append}
use Rattle.wire_spec.specs.declared.fault.Fault.{Fault}
use Rattle.wire_spec.specs.Bytes.{AreBytes}
use Rattle.wire_spec.specs.Spells.{Joined}
use Rattle.wire_spec.specs.Fails.{Remaining, past, After}
use Rattle.wire_spec.specs.Reading.{◌>>=◌}
use Rattle.wire_spec.proofs.ByteLists.{rest_bytes}

-- what is left behind the first of two parts, and behind both
pub past-past : (b : Remaining) (a d rest more : List ℕ) → past (past b a more) d rest ≡ past b (a ++ d) rest
past-past b a d rest more =
    let at : ℕ → Remaining = λ k. record { at = k; bytes = rest } in
    let same : (b.at + length a) + length d ≡ b.at + length (a ++ d) = omega (arith, length-append a d) in
    ap at same

-- ---- a reader's answer, and the whole of its answers

-- the bytes that were taken are Good for the value, or what is left is Bad for the fault
abbrev pub IsSo : {A : Type 0} → Remaining → (A → List ℕ → Type 0) → (Remaining → Fault → Type 0)
    → Result (A × Remaining) Fault → Type 0
IsSo b Good Bad (Ok x) = (a : List ℕ) × Good x.0 a × (b.bytes ≡ a ++ x.1.bytes) × (x.1.at ≡ b.at + length a)
IsSo b Good Bad (Err f) = Bad b f

-- each answer is so, and whatever is so is the answer
pub record Agrees {A : Type 0} (Good : A → List ℕ → Type 0) (Bad : Remaining → Fault → Type 0)
    (r : Remaining → Result (A × Remaining) Fault) : Type 0 where
  pub so : (b : Remaining) → AreBytes b.bytes → IsSo b Good Bad (r b)
  pub takes : (b : Remaining) (x : A) (a rest : List ℕ) → Good x a → b.bytes ≡ a ++ rest → r b ≡ Ok (x, past b a rest)
  pub refuses : (b : Remaining) (f : Fault) → Bad b f → r b ≡ Err f

-- the same answers, said in other words
pub said_as : {A : Type 0} (G H : A → List ℕ → Type 0) (B C : Remaining → Fault → Type 0)
    (r : Remaining → Result (A × Remaining) Fault)
    → ((x : A) (a : List ℕ) → G x a → H x a) → ((x : A) (a : List ℕ) → H x a → G x a)
    → ((b : Remaining) (f : Fault) → B b f → C b f) → ((b : Remaining) (f : Fault) → C b f → B b f)
    → Agrees G B r → Agrees H C r
said_as {A} G H B C r good good' bad bad' old = record {
  so = λ b fits. go b (r b) (old.so b fits);
  takes = λ b x a rest h e. old.takes b x a rest (good' x a h) e;
  refuses = λ b f h. old.refuses b f (bad' b f h);
}
  where
    go : (b : Remaining) (x : Result (A × Remaining) Fault) → IsSo b G B x → IsSo b H C x
    go b (Ok x) o = (o.0, good x.0 o.0 o.1, o.2, o.3)
    go b (Err f) o = bad b f o

-- the value is seen through a function
abbrev pub Seen : {A C : Type 0} → (A → C) → (A → List ℕ → Type 0) → C → List ℕ → Type 0
Seen {A} view Good z a = (x : A) × (z ≡ view x) × Good x a

pub seen : {A C : Type 0} (view : A → C) (G : A → List ℕ → Type 0) (B : Remaining → Fault → Type 0)
    (r : Remaining → Result (A × Remaining) Fault)
    → Agrees G B r → Agrees (Seen view G) B (λ b. r b >>= λ x. Ok (view x.0, x.1))
seen {A} {C} view G B r old = record {
  so = λ b fits. go b (r b) (old.so b fits);
  takes = λ b z a rest h e. ap step (old.takes b h.0 a rest h.2 e)
      ∙ ap (λ (y : C). let o : Result (C × Remaining) Fault = Ok (y, past b a rest) in o) (sym h.1);
  refuses = λ b f h. ap step (old.refuses b f h);
}
  where
    step : Result (A × Remaining) Fault → Result (C × Remaining) Fault
    step r = r >>= λ x. Ok (view x.0, x.1)

    go : (b : Remaining) (x : Result (A × Remaining) Fault) → IsSo b G B x
        → IsSo b (Seen view G) B (x >>= λ y. Ok (view y.0, y.1))
    go b (Ok x) o = (o.0, (x.0, refl, o.1), o.2, o.3)
    go b (Err f) o = o

-- ---- two readers, one after the other; the second knows what the first read, and where

abbrev pub Both : {A B : Type 0} → (A → List ℕ → Type 0) → (A → B → List ℕ → Type 0) → B → List ℕ → Type 0
Both {A} First Second y bytes = (x : A) × Joined (First x) (Second x y) bytes

abbrev pub Either : {A : Type 0} → (A → List ℕ → Type 0) → (Remaining → Fault → Type 0)
    → (ℕ → A → Remaining → Fault → Type 0) → Remaining → Fault → Type 0
Either {A} First Bad Bad' b f = Bad b f ⊎ ((x : A) × After (First x) (Bad' b.at x) b f)

module _ {A B : Type 0} (GA : A → List ℕ → Type 0) (GB : A → B → List ℕ → Type 0)
    (BA : Remaining → Fault → Type 0) (BB : ℕ → A → Remaining → Fault → Type 0)
    (r : Remaining → Result (A × Remaining) Fault) (s : ℕ → A × Remaining → Result (B × Remaining) Fault)
    (first : Agrees GA BA r) (second : (at : ℕ) (x : A) → Agrees (GB x) (BB at x) (λ c. s at (x, c))) where
  second_so : (b : Remaining) (x : A) (c : Remaining) (a : List ℕ) (y : Result (B × Remaining) Fault)
      → GA x a → b.bytes ≡ a ++ c.bytes → c.at ≡ b.at + length a
      → IsSo c (GB x) (BB b.at x) y → IsSo b (Both GA GB) (Either GA BA BB) y
  second_so b x c a (Ok y) good parts place (d, good', parts', place') = (
    a ++ d,
    (x, (a, d, good, good', refl)),
    (parts ∙ ap (λ (t : List ℕ). a ++ t) parts' ∙ sym (append_assoc a d y.1.bytes)),
    omega (arith, place, place', length-append a d),
  )
  second_so b x c a (Err f) good parts place bad =
      let there : ℕ → Remaining = λ n. record { at = n; bytes = c.bytes } in
      inr (x, (a, c.bytes, good, parts, subst (λ (n : ℕ). BB b.at x (there n) f) place bad))

  first_so : (b : Remaining) (x : Result (A × Remaining) Fault) → AreBytes b.bytes → IsSo b GA BA x
      → IsSo b (Both GA GB) (Either GA BA BB) (x >>= s b.at)
  first_so b (Ok x) fits (a, good, parts, place) =
      let P : List ℕ → Type 0 = AreBytes in
      second_so b x.0 x.1 a (s b.at (x.0, x.1)) good parts place
      ((second b.at x.0).so x.1 (rest_bytes a x.1.bytes (subst P parts fits)))
  first_so b (Err f) fits bad = inl bad

  both_take : (b : Remaining) (y : B) (bytes rest : List ℕ) → Both GA GB y bytes → b.bytes ≡ bytes ++ rest
      → (r b >>= s b.at) ≡ Ok (y, past b bytes rest)
  both_take b y bytes rest (x, (a, d, one, two, e)) parts =
      let whole : b.bytes ≡ a ++ (d ++ rest) = parts ∙ ap (λ (t : List ℕ). t ++ rest) e ∙ append_assoc a d rest in
      let step : Result (A × Remaining) Fault → Result (B × Remaining) Fault = λ r. r >>= s b.at in
      let answer : Remaining → Result (B × Remaining) Fault = λ c. Ok (y, c) in
      ap step (first.takes b x a (d ++ rest) one whole)
      ∙ (second b.at x).takes (past b a (d ++ rest)) y d rest two refl
      ∙ ap answer (past-past b a d rest (d ++ rest)) ∙ ap (λ (t : List ℕ). answer (past b t rest)) (sym e)

  both_refuse : (b : Remaining) (f : Fault) → Either GA BA BB b f → (r b >>= s b.at) ≡ Err f
  both_refuse b f (inl h) =
      let step : Result (A × Remaining) Fault → Result (B × Remaining) Fault = λ r. r >>= s b.at in
      ap step (first.refuses b f h)
  both_refuse b f (inr (x, (a, rest, one, parts, h))) =
      let step : Result (A × Remaining) Fault → Result (B × Remaining) Fault = λ r. r >>= s b.at in
      ap step (first.takes b x a rest one parts) ∙ (second b.at x).refuses (past b a rest) f h

  pub both : Agrees (Both GA GB) (Either GA BA BB) (λ b. r b >>= s b.at)
  both = record {
    so = λ b fits. first_so b (r b) fits (first.so b fits);
    takes = both_take;
    refuses = both_refuse;
  }
