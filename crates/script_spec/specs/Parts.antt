-- The parts of a text between separators: how the words are read from the first one on, and how they are written.
use Rattle.std.specs.Prelude.{ℕ, ◌==◌, ◌&&◌, Bool, List, [], ◌∷◌, ◌++◌, Option, Some, None, if◌then◌else◌, option_map, option_and_then, bytes_eq}
use Rattle.std.specs.List.{slice_split, join_with_byte}
use Rattle.script_spec.specs.Words.{Text, WordForm}

-- a part of a text: what the first words say, with the words behind them; which of that they may say; and the words
-- that say it
pub record Part (A : Type 0) : Type 0 where
  pub read : List Text → Option (A × List Text)
  pub may : A → Bool
  pub words : A → List Text

-- one word of this form
abbrev pub first_word : {A : Type 0} → WordForm A → List Text → Option (A × List Text)
first_word form [] = None
first_word form (word ∷ more) = option_map (λ a. (a, more)) (form.read word)

abbrev pub one : {A : Type 0} → WordForm A → Part A
one form = record { read = first_word form; may = form.may; words = λ a. form.write a ∷ [] }

-- the words behind this one
abbrev pub behind : {A : Type 0} → Text → (List Text → Option A) → List Text → Option A
behind name read [] = None
behind name read (word ∷ more) = if bytes_eq word name then read more else None

-- a name, and then this part
abbrev pub named : {A : Type 0} → Text → Part A → Part A
named name part = record { read = behind name part.read; may = part.may; words = λ a. name ∷ part.words a }

-- one part, and then another
abbrev pub both : {A B : Type 0} → Part A → Part B → Part (A × B)
both first second = record {
  read = λ words. option_and_then (λ x. option_map (λ y. ((x.0, y.0), y.1)) (second.read x.1)) (first.read words);
  may = λ x. first.may x.0 && second.may x.1;
  words = λ x. first.words x.0 ++ second.words x.1;
}

-- what the words say, where none are left behind it
abbrev pub at_end : {A : Type 0} → A × List Text → Option A
at_end (a, []) = Some a
at_end (a, word ∷ more) = None

abbrev pub whole : {A : Type 0} → Part A → List Text → Option A
whole part words = option_and_then at_end (part.read words)

-- ---- texts

-- what stands between the bytes c of a text
abbrev pub split_at : ℕ → Text → List Text
split_at c text = slice_split (λ b. b == c) text

-- the words of a part as one word, with c between each two
abbrev pub joined : {A : Type 0} → ℕ → Part A → WordForm A
joined c part = record {
  read = λ text. whole part (split_at c text);
  may = part.may;
  write = λ a. join_with_byte c (part.words a);
}
