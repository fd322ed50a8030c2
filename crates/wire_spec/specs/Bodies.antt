-- A length word and its body, the padding behind a body, and values of any kind one after the other.
use Rattle.std.specs.Prelude.{◌≡◌, ℕ, zero, suc, ◌+◌, ◌⊎◌, List, [], ◌∷◌, length, Result, Ok}
use Rattle.wire_spec.specs.declared.pad.Pad.{Pad}
use Rattle.wire_spec.specs.declared.fault.Fault.{Fault}
use Rattle.wire_spec.specs.Padding.{padding_of}
use Rattle.wire_spec.specs.Spells.{Joined, IsWord, MayPad}
use Rattle.wire_spec.specs.Fails.{Remaining, After, FailsItem}
use Rattle.wire_spec.specs.Reading.{◌>>=◌, word_at, body_at}

-- a length word, and then these bytes without their padding
abbrev pub IsCounted : List ℕ → List ℕ → Type 0
IsCounted v bytes = Joined (IsWord (length v)) (λ a. a ≡ v) bytes

-- the length word isn't there, or the bytes behind it aren't there with their padding
abbrev pub FailsCounted : Remaining → Fault → Type 0
FailsCounted b f = FailsItem 4 b f ⊎ ((n : ℕ) × After (IsWord n) (FailsItem (n + padding_of n)) b f)

-- the padding of a body of n bytes
abbrev pub IsPaddingOf : Pad → ℕ → List ℕ → Type 0
IsPaddingOf p n bytes = (length bytes ≡ padding_of n) × MayPad p bytes

-- ---- the same as functions

-- the body behind a length word, which is there with its padding, and what is left behind the body
abbrev pub counted_body_at : Remaining → Result (Remaining × Remaining) Fault
counted_body_at b = word_at b >>= λ n. body_at n.0 n.1

-- n values of any kind, one after the other
abbrev pub items_at : {A : Type 0} → (Remaining → Result (A × Remaining) Fault) → ℕ → Remaining
    → Result (List A × Remaining) Fault
items_at each zero b = Ok ([], b)
items_at each (suc n) b = each b >>= λ x. items_at each n x.1 >>= λ xs. Ok (x.0 ∷ xs.0, xs.1)
