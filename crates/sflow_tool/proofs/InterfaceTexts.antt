-- The lines of more and more interfaces, which are put one after the other.
use Rattle.std.proofs.Common.{◌≡◌, ◌∙◌, ℕ, ◌+◌, ◌<◌, List, [], ◌∷◌, ◌++◌, length, take, drop, flat_map, inl, inr, Option, Some, None, Result, IsErrAnd, refl, sym, ap, subst, append_assoc, append-nil, arith, take-append-drop}
use Rattle.std.specs.Prelude.{slice_get}
use Rattle.std.specs.List.{filter_map, cons_option}
use Rattle.std.proofs.lemmas.Grind.{flat_map-append}
use Rattle.std.proofs.lemmas.List.{take_more}
use Rattle.std.proofs.lemmas.Option.{get_or_from_slice_get, slice_get_cases, slice_get_within}
use Rattle.byte_ends.specs.Seen.{Seen, TakesPart}
use Rattle.books_spec.specs.Items.{Source}
use Rattle.books_spec.specs.WholeBooks.{InterfaceLine}
use Rattle.text_lines.specs.Pages.{Puts, Prints}
use Rattle.text_lines.proofs.PageLaws.{puts_both, puts_fails, prints_err}
use Rattle.report_lines.specs.InterfaceLines.{line_text, interface_text, interface_texts}

-- what stands at a place within a list
pub stands_at : {X : Type 0} (xs : List X) (i n : ℕ) → i < n → n ≡ length xs → (x : X) × (slice_get xs i ≡ Some x)
stands_at xs i n within is =
    elim (slice_get_cases xs i).1 [
      | inl found ↦ (found.0, found.2)
      | inr past ↦ absurd (omega (arith, within, is, past.0))
    ]

-- the lines of the sources that show one
pub lines-of : (f : Source → Option InterfaceLine) (ks : List Source)
    → flat_map (λ k. line_text (f k)) ks ≡ interface_texts (filter_map f ks)
lines-of f [] = refl
lines-of f (k ∷ more) = go (f k) (lines-of f more)
  where
    go : (o : Option InterfaceLine) → flat_map (λ x. line_text (f x)) more ≡ interface_texts (filter_map f more)
        → line_text o ++ flat_map (λ x. line_text (f x)) more ≡ interface_texts (cons_option o (filter_map f more))
    go None later = later
    go (Some i) later = ap (λ rest. interface_text i ++ rest) later

module _ {X : Type 0} (text : X → List ℕ) (a b c : Seen) (p q r : List ℕ) (xs : List X) (i : ℕ) (x : X)
    (there : slice_get xs i ≡ Some x) (first : Puts a b p q (flat_map text (take i xs))) where
  next_text : flat_map text (take (i + 1) xs) ≡ flat_map text (take i xs) ++ text x
  next_text =
      ap (flat_map text) (take_more xs i x (slice_get_within xs i x there)
      ∙ ap (λ y. take i xs ++ y ∷ []) (get_or_from_slice_get xs i x x there))
      ∙ flat_map-append text (take i xs) (x ∷ [])
      ∙ ap (λ l. flat_map text (take i xs) ++ l) (append-nil (text x))

  -- the line of the next one was put
  pub next_put : Puts b c q r (text x) → Puts a c p r (flat_map text (take (i + 1) xs))
  next_put second = subst (Puts a c p r) (sym next_text) (puts_both a b c p q r _ (text x) first second)

  -- it doesn't go out
  pub next_fails : {T E : Type 0} (Q : E → Type 0) (result : Result T E) → IsErrAnd result Q
      → TakesPart b c (q ++ text x) → Prints a c p r result (flat_map text xs)
  next_fails Q result failed part =
      let rest : List ℕ = flat_map text (drop (i + 1) xs) in
      let whole : flat_map text xs ≡ flat_map text (take i xs) ++ (text x ++ rest) =
      ap (flat_map text) (sym (take-append-drop (i + 1) xs))
      ∙ flat_map-append text (take (i + 1) xs) (drop (i + 1) xs)
      ∙ ap (λ l. l ++ rest) next_text ∙ append_assoc (flat_map text (take i xs)) (text x) rest in
      prints_err Q result a c p r (flat_map text xs) failed
      (puts_fails a b c p q (flat_map text (take i xs)) (text x) rest (flat_map text xs) whole first part)
