-- Texts of frames, segments or words that are put one after the other.
use Rattle.std.proofs.Common.{◌≡◌, ℕ, List, [], ◌∷◌, ◌++◌, Result, IsErrAnd, refl, sym, ap, subst, ◌∙◌, append_assoc, append-nil}
use Rattle.wire_spec.specs.Shapes.{Tree}
use Rattle.byte_ends.specs.Seen.{Seen, TakesPart}
use Rattle.data_format.specs.Trees.{trees_of}
use Rattle.text_lines.specs.Pages.{Puts, Prints}
use Rattle.text_lines.proofs.PageLaws.{puts_none, puts_both, puts_fails, prints_err}
use Rattle.show_lines.specs.Joined.{texts_of}

-- the texts of their values
abbrev pub shown : {A : Type 0} → (Tree → List ℕ) → (A → Tree) → List A → List ℕ
shown text view all = texts_of text (trees_of view all)

-- these are left of all, and the texts of the others were put
pub record SoFar {A : Type 0} (text : Tree → List ℕ) (view : A → Tree) (all left : List A)
    (a b : Seen) (p q : List ℕ) : Type 0 where
  pub done : List ℕ
  pub whole : shown text view all ≡ done ++ shown text view left
  pub put : Puts a b p q done

pub nothing_yet : {A : Type 0} (text : Tree → List ℕ) (view : A → Tree) (all : List A) (a : Seen)
    (p : List ℕ) → SoFar text view all all a a p p
nothing_yet text view all a p = record { done = []; whole = refl; put = puts_none a p }

module _ {A : Type 0} (text : Tree → List ℕ) (view : A → Tree) (all left : List A)
    (a b : Seen) (p q : List ℕ) (far : SoFar text view all left a b p q) where
  -- none is left
  pub all_put : left ≡ [] → Puts a b p q (shown text view all)
  all_put none =
      let whole : far.done ≡ shown text view all =
      sym (far.whole ∙ ap (λ l. far.done ++ shown text view l) none ∙ append-nil far.done) in
      subst (Puts a b p q) whole far.put

  module _ (f : A) (rest : List A) (line : List ℕ) (c : Seen) (n : List ℕ)
      (next : left ≡ f ∷ rest) (same : line ≡ text (view f)) where
    split : shown text view all ≡ far.done ++ (line ++ shown text view rest)
    split = far.whole ∙ ap (λ l. far.done ++ shown text view l) next
        ∙ ap (λ l. far.done ++ (l ++ shown text view rest)) (sym same)

    -- the text of the first that was left was put
    pub one_more : Puts b c q n line → SoFar text view all rest a c p n
    one_more put = record {
      done = far.done ++ line;
      whole = split ∙ sym (append_assoc far.done line (shown text view rest));
      put = puts_both a b c p q n far.done line far.put put;
    }

    -- it doesn't go out
    pub one_fails : {T E : Type 0} (Q : E → Type 0) (r : Result T E) → IsErrAnd r Q → TakesPart b c (q ++ line)
        → Prints a c p n r (shown text view all)
    one_fails Q r failed part =
        prints_err Q r a c p n (shown text view all) failed
        (puts_fails a b c p q far.done line (shown text view rest) (shown text view all) split far.put part)
