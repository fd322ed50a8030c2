-- What calls over words answer, in the words of scripts.
use Rattle.std.specs.Prelude.{◌≡◌, ℕ, true, false, List, [], ◌∷◌, Option, Some, None, bytes_eq, ◌^◌, nat_lt, if◌then◌else◌}
use Rattle.std.specs.Str.Parse.{digits_value}
use Rattle.script_spec.specs.Words.{Text, WordForm}
use Rattle.script_spec.specs.Parts.{Part, split_at}

-- the number that a numeral writes, where it has 64 bits
abbrev pub value64 : Text → Option ℕ
value64 text = if nat_lt (digits_value 10 text) (2 ^ 64) then Some (digits_value 10 text) else None

-- the words of a text, or none where there is no text
abbrev pub words_in : ℕ → Option Text → List Text
words_in c None = []
words_in c (Some text) = split_at c text

-- what a word says in this form
abbrev pub Reads : {X Y : Type 0} → (X → Y) → WordForm Y → Text → Option X → Type 0
Reads value form word None = form.read word ≡ None
Reads value form word (Some x) = form.read word ≡ Some (value x)

-- what the first words say in this part, and the words behind them
abbrev pub Takes : {X Y : Type 0} → (X → Y) → Part Y → List Text → List Text → Option X → Type 0
Takes value part old new None = part.read old ≡ None
Takes value part old new (Some x) = part.read old ≡ Some (value x, new)

-- this name stands first, and the words behind it are left
pub record Passes (name : Text) (old new : List Text) : Type 0 where
  pub word : Text
  pub first : old ≡ word ∷ new
  pub same : bytes_eq word name ≡ true

-- another word stands first
pub record StopsAt (name : Text) (old : List Text) : Type 0 where
  pub word : Text
  pub more : List Text
  pub first : old ≡ word ∷ more
  pub other : bytes_eq word name ≡ false
