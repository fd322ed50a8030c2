-- The first eight bytes of a list.
use Rattle.std.proofs.Common.{◌≡◌, ℕ, ◌≤◌, List, [], ◌∷◌, ◌++◌, get_or, length, drop, slice_range, refl, sym, ap, ◌∙◌, arith, take_all, length-drop}
use Rattle.std.proofs.lemmas.List.{nil_from_length}
use Rattle.wire_spec.specs.Texts.{hex}

-- the bytes at the first eight places
abbrev pub first_eight : List ℕ → List ℕ
first_eight xs = get_or xs 0 0 ∷ get_or xs 1 0 ∷ get_or xs 2 0 ∷ get_or xs 3 0 ∷ get_or xs 4 0 ∷ get_or xs 5 0
    ∷ get_or xs 6 0 ∷ get_or xs 7 0 ∷ []

split_eight : (xs : List ℕ) → 8 ≤ length xs → xs ≡ first_eight xs ++ drop 8 xs
split_eight [] fits = absurd (omega (arith, fits))
split_eight (a ∷ []) fits = absurd (omega (arith, fits))
split_eight (a ∷ b ∷ []) fits = absurd (omega (arith, fits))
split_eight (a ∷ b ∷ c ∷ []) fits = absurd (omega (arith, fits))
split_eight (a ∷ b ∷ c ∷ d ∷ []) fits = absurd (omega (arith, fits))
split_eight (a ∷ b ∷ c ∷ d ∷ e ∷ []) fits = absurd (omega (arith, fits))
split_eight (a ∷ b ∷ c ∷ d ∷ e ∷ f ∷ []) fits = absurd (omega (arith, fits))
split_eight (a ∷ b ∷ c ∷ d ∷ e ∷ f ∷ g ∷ []) fits = absurd (omega (arith, fits))
split_eight (a ∷ b ∷ c ∷ d ∷ e ∷ f ∷ g ∷ h ∷ more) fits = refl

hex_both : (xs more : List ℕ) → hex (first_eight xs ++ more) ≡ hex (first_eight xs) ++ hex more
hex_both xs more = refl

-- the text of eight bytes, and then of the others
pub hex_eight : (xs : List ℕ) → 8 ≤ length xs
    → hex xs ≡ hex (first_eight xs) ++ hex (slice_range xs 8 (length xs))
hex_eight xs fits =
    let back : slice_range xs 8 (length xs) ≡ drop 8 xs = take_all _ (drop 8 xs) (omega (arith, length-drop 8 xs)) in
    ap hex (split_eight xs fits) ∙ hex_both xs (drop 8 xs) ∙ ap (λ l. hex (first_eight xs) ++ hex l) (sym back)

-- eight bytes are those at the first eight places
pub only_eight : (xs : List ℕ) → length xs ≡ 8 → first_eight xs ≡ xs
only_eight xs long =
    let none : drop 8 xs ≡ [] = nil_from_length (drop 8 xs) (omega (arith, length-drop 8 xs, long)) in
    sym (split_eight xs (omega (arith, long)) ∙ ap (λ l. first_eight xs ++ l) none)
