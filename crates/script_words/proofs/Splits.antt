-- The words of a text between separators.
use Rattle.std.proofs.Common.{◌≡◌, ◌∙◌, ◌<◌, ◌≤◌, ◌+◌, ◌==◌, ℕ, Bool, List, [], ◌∷◌, length, take, drop, ap, sym, arith}
use Rattle.std.specs.List.{position_or_len, slice_split}
use Rattle.std.proofs.lemmas.List.Sums.{fails_before_first}
use Rattle.std.proofs.lemmas.List.Splits.{slice_split_first, slice_split_none}
use Rattle.script_spec.specs.Parts.{split_at}

-- the first word, and the words behind it
pub split_first : (c at : ℕ) (text : List ℕ) → at ≡ position_or_len (λ b. b == c) text → at < length text
    → split_at c text ≡ take at text ∷ split_at c (drop (at + 1) text)
split_first c at text is inside =
    let p : ℕ → Bool = λ b. b == c in
    let within : position_or_len p text < length text = omega arith in
    slice_split_first p text 0 within
    ∙ ap (λ k. take k text ∷ slice_split p (drop (k + 1) text)) (sym is)

pub split_last : (c at : ℕ) (text : List ℕ) → at ≡ position_or_len (λ b. b == c) text → length text ≤ at
    → split_at c text ≡ text ∷ []
split_last c at text is all =
    slice_split_none (λ b. b == c) text
    (λ k d inside. fails_before_first (λ b. b == c) text k d (omega arith))
