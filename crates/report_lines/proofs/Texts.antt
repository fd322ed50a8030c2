-- The lines of more and more streams, and of more and more sources.
use Rattle.std.proofs.Common.{◌≡◌, ℕ, ◌+◌, List, [], ◌∷◌, ◌++◌, length, sym, ap, ◌∙◌, append_assoc, append-nil, arith}
use Rattle.std.proofs.lemmas.Grind.{flat_map-append}
use Rattle.books_spec.specs.Books.{StreamBooks}
use Rattle.books_spec.specs.WholeBooks.{SourceLine}
use Rattle.report_lines.specs.Lines.{stream_text, source_text}
use Rattle.report_lines.specs.Reports.{stream_texts, source_texts}

-- one more stream
pub stream_texts-push : (number : ℕ) (xs : List StreamBooks) (x : StreamBooks)
    → stream_texts number (xs ++ x ∷ []) ≡ stream_texts number xs ++ stream_text (number + length xs) x
stream_texts-push number [] x = append-nil (stream_text number x) ∙ ap (λ n. stream_text n x) (omega arith)
stream_texts-push number (y ∷ ys) x =
    ap (λ l. stream_text number y ++ l) (stream_texts-push (number + 1) ys x)
    ∙ ap (λ n. stream_text number y ++ (stream_texts (number + 1) ys ++ stream_text n x)) (omega arith)
    ∙ sym (append_assoc (stream_text number y) (stream_texts (number + 1) ys) (stream_text (number + length (y ∷ ys)) x))

-- the lines of the first streams are a beginning of the lines of all
pub stream_texts-append : (number : ℕ) (xs ys : List StreamBooks)
    → stream_texts number (xs ++ ys) ≡ stream_texts number xs ++ stream_texts (number + length xs) ys
stream_texts-append number [] ys = ap (λ n. stream_texts n ys) (omega arith)
stream_texts-append number (x ∷ xs) ys =
    ap (λ l. stream_text number x ++ l) (stream_texts-append (number + 1) xs ys)
    ∙ ap (λ n. stream_text number x ++ (stream_texts (number + 1) xs ++ stream_texts n ys)) (omega arith)
    ∙ sym (append_assoc (stream_text number x) (stream_texts (number + 1) xs) (stream_texts (number + length (x ∷ xs)) ys))

-- one more source
pub source_texts-push : (xs : List SourceLine) (x : SourceLine)
    → source_texts (xs ++ x ∷ []) ≡ source_texts xs ++ source_text x
source_texts-push xs x =
    flat_map-append source_text xs (x ∷ []) ∙ ap (λ l. source_texts xs ++ l) (append-nil (source_text x))

-- the lines of the first sources are a beginning of the lines of all
pub source_texts-append : (xs ys : List SourceLine) → source_texts (xs ++ ys) ≡ source_texts xs ++ source_texts ys
source_texts-append xs ys = flat_map-append source_text xs ys
