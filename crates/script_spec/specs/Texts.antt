-- The lines of a script as texts: where each ends, which are skipped, and what each of the others must be.
use Rattle.std.specs.Prelude.{ℕ, ◌==◌, ◌&&◌, Bool, true, false, List, [], ◌∷◌, length, nat_le, Option, Some, None, if◌then◌else◌, codes, bytes_eq}
use Rattle.script_spec.specs.Words.{Text}
use Rattle.script_spec.specs.Parts.{split_at}
use Rattle.script_spec.specs.Lines.{Line}
use Rattle.script_spec.specs.Forms.{line_in}

-- without an empty text at the end, since behind a last line feed no line begins
abbrev pub without_empty_end : List Text → List Text
without_empty_end [] = []
without_empty_end ([] ∷ []) = []
without_empty_end ((b ∷ more) ∷ []) = (b ∷ more) ∷ []
without_empty_end (text ∷ next ∷ more) = text ∷ without_empty_end (next ∷ more)

-- the lines of the bytes; each but the last ends with a line feed, 10, and the last may
unfoldable pub texts_in : List ℕ → List Text
texts_in bytes = without_empty_end (split_at 10 bytes)

-- what a line is: one that is skipped, the line that a script begins with, a line that says something, or none of these
pub data Shape : Type 0 where
  Skipped : Shape
  Heading : Shape
  Says : Line → Shape
  Shapeless : Shape

-- no bytes, or a number sign, 35, first
abbrev pub is_skipped : Text → Bool
is_skipped [] = true
is_skipped (first ∷ more) = first == 35

abbrev pub heading : Text
heading = codes "sflow-script 1"

-- a line has at most 16,384 bytes, and a number of 32 bits
abbrev pub is_in_bounds : ℕ → Text → Bool
is_in_bounds number text = nat_le (length text) 16384 && nat_le number 4294967295

abbrev pub said : Option Line → Shape
said None = Shapeless
said (Some line) = Says line

-- a line that isn't skipped, by whether the heading stands before it
abbrev pub unskipped_shape : Bool → Text → Shape
unskipped_shape false text = if bytes_eq text heading then Heading else Shapeless
unskipped_shape true text = said (line_in text)

-- what the line of this number is
unfoldable pub shape_of : Bool → ℕ → Text → Shape
shape_of begun number text =
    if is_in_bounds number text then (if is_skipped text then Skipped else unskipped_shape begun text) else Shapeless
