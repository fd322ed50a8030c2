-- The lines of more and more streams and sources, which are put one after the other.
use Rattle.std.proofs.Common.{◌≡◌, ℕ, ◌+◌, ◌<◌, List, [], ◌∷◌, ◌++◌, length, take, drop, inl, inr, Some, None, Result, IsErrAnd, sym, ap, subst, ◌∙◌, append_assoc, arith, length-take-le, take-append-drop}
use Rattle.std.specs.Prelude.{slice_get}
use Rattle.std.proofs.lemmas.List.{take_more}
use Rattle.std.proofs.lemmas.Option.{get_or_from_slice_get, slice_get_cases, slice_get_within}
use Rattle.byte_ends.specs.Seen.{Seen, TakesPart}
use Rattle.books_spec.specs.Books.{StreamBooks}
use Rattle.books_spec.specs.WholeBooks.{SourceLine}
use Rattle.text_lines.specs.Pages.{Puts, Prints}
use Rattle.text_lines.proofs.PageLaws.{puts_both, puts_fails, prints_err}
use Rattle.report_lines.specs.Lines.{stream_text, source_text}
use Rattle.report_lines.specs.Reports.{stream_texts, source_texts}
use Rattle.report_lines.proofs.Texts.{stream_texts-append, stream_texts-push, source_texts-append, source_texts-push}

-- what stands at a place of a list is the next of it
one_more : {X : Type 0} (xs : List X) (i : ℕ) (x : X) → slice_get xs i ≡ Some x → take (i + 1) xs ≡ take i xs ++ x ∷ []
one_more xs i x there =
    take_more xs i x (slice_get_within xs i x there)
    ∙ ap (λ y. take i xs ++ y ∷ []) (get_or_from_slice_get xs i x x there)

-- something stands at each place within a list
pub not_there : {X : Type 0} (xs : List X) (i n : ℕ) → i < n → n ≡ length xs → None ≡ slice_get xs i → ⊥
not_there {X} xs i n within is none =
    elim (slice_get_cases xs i).1 [
      | inl found ↦ let both : None ≡ Some found.0 = none ∙ found.2 in absurd cc
      | inr past ↦ absurd (omega (arith, within, is, past.0))
    ]

module _ (a b c : Seen) (p q r line : List ℕ) where
  module _ (xs : List StreamBooks) (i : ℕ) (x : StreamBooks) (there : Some x ≡ slice_get xs i)
      (same : line ≡ stream_text (i + 1) x) (first : Puts a b p q (stream_texts 1 (take i xs))) where
    next_stream : stream_texts 1 (take (i + 1) xs) ≡ stream_texts 1 (take i xs) ++ line
    next_stream =
        let long : length (take i xs) ≡ i = length-take-le i xs (omega (arith, slice_get_within xs i x (sym there))) in
        ap (stream_texts 1) (one_more xs i x (sym there))
        ∙ stream_texts-push 1 (take i xs) x
        ∙ ap (λ n. stream_texts 1 (take i xs) ++ stream_text n x) (omega (arith, long))
        ∙ ap (λ l. stream_texts 1 (take i xs) ++ l) (sym same)

    -- the line of the next stream was put
    pub stream_put : Puts b c q r line → Puts a c p r (stream_texts 1 (take (i + 1) xs))
    stream_put second = subst (Puts a c p r) (sym next_stream) (puts_both a b c p q r _ line first second)

    -- it doesn't go out
    pub stream_fails : {T E : Type 0} (Q : E → Type 0) (result : Result T E) → IsErrAnd result Q
        → TakesPart b c (q ++ line) → Prints a c p r result (stream_texts 1 xs)
    stream_fails Q result failed part =
        let rest : List ℕ = stream_texts (1 + length (take (i + 1) xs)) (drop (i + 1) xs) in
        let whole : stream_texts 1 xs ≡ stream_texts 1 (take i xs) ++ (line ++ rest) =
        ap (stream_texts 1) (sym (take-append-drop (i + 1) xs))
        ∙ stream_texts-append 1 (take (i + 1) xs) (drop (i + 1) xs)
        ∙ ap (λ l. l ++ rest) next_stream ∙ append_assoc (stream_texts 1 (take i xs)) line rest in
        prints_err Q result a c p r (stream_texts 1 xs) failed
        (puts_fails a b c p q (stream_texts 1 (take i xs)) line rest (stream_texts 1 xs) whole first part)

  module _ (xs : List SourceLine) (i : ℕ) (x : SourceLine) (there : Some x ≡ slice_get xs i)
      (same : line ≡ source_text x) (first : Puts a b p q (source_texts (take i xs))) where
    next_source : source_texts (take (i + 1) xs) ≡ source_texts (take i xs) ++ line
    next_source =
        ap source_texts (one_more xs i x (sym there))
        ∙ source_texts-push (take i xs) x
        ∙ ap (λ l. source_texts (take i xs) ++ l) (sym same)

    -- the line of the next source was put
    pub source_put : Puts b c q r line → Puts a c p r (source_texts (take (i + 1) xs))
    source_put second = subst (Puts a c p r) (sym next_source) (puts_both a b c p q r _ line first second)

    -- it doesn't go out
    pub source_fails : {T E : Type 0} (Q : E → Type 0) (result : Result T E) → IsErrAnd result Q
        → TakesPart b c (q ++ line) → Prints a c p r result (source_texts xs)
    source_fails Q result failed part =
        let rest : List ℕ = source_texts (drop (i + 1) xs) in
        let whole : source_texts xs ≡ source_texts (take i xs) ++ (line ++ rest) =
        ap source_texts (sym (take-append-drop (i + 1) xs))
        ∙ source_texts-append (take (i + 1) xs) (drop (i + 1) xs)
        ∙ ap (λ l. l ++ rest) next_source ∙ append_assoc (source_texts (take i xs)) line rest in
        prints_err Q result a c p r (source_texts xs) failed
        (puts_fails a b c p q (source_texts (take i xs)) line rest (source_texts xs) whole first part)
