-- The text of an option, word by word.
use Rattle.std.proofs.Common.{◌≡◌, ◌∙◌, ◌<◌, ◌≤◌, ◌+◌, ℕ, true, false, List, [], ◌∷◌, Option, Some, None, length, drop, get_or, map, refl, ap, sym, if◌then◌else◌}
use Rattle.std.specs.Prelude.{option_map}
use Rattle.std.specs.Str.{bytes_eq}
use Rattle.std.proofs.lemmas.List.{at_drop_all}
use Rattle.std.proofs.lemmas.Option.{same_Some}
use Rattle.command_words.specs.Rules.{Text, Rule}
use Rattle.command_words.specs.Pieces.{Piece, name_in, text_in, text_of}
use Rattle.command_words.specs.Reading.{whole, opens, nothing, after_meaning, meaning_of, pieces_from}
use Rattle.command_words.proofs.Counting.{map-drop_at}

-- the text of a name among the pieces of the words
unfoldable pub text_from : List Rule → Text → Option Text → List Text → Option (Option Text)
text_from rules name waiting words = option_map (text_of name) (pieces_from rules waiting words)

pub text_from-start : (rules : List Rule) (name : Text) (words : List Text) (pieces : List Piece)
    → pieces_from rules None words ≡ Some pieces
    → text_from rules name None words ≡ Some (text_of name pieces)
unfolding text_from
text_from-start rules name words pieces is = ap (option_map (text_of name)) is

pub text_from-end : (rules : List Rule) (name : Text) (text : Option Text) → Some text ≡ text_from rules name None []
    → None ≡ text
unfolding text_from
text_from-end rules name text is = sym (same_Some _ _ is)

pub text_from-waits : (rules : List Rule) (name option : Text) (text : Option Text)
    → Some text ≡ text_from rules name (Some option) []
    → None ≡ text
unfolding text_from
text_from-waits rules name option text is = cc

-- a piece of the name has the text, if its words have pieces behind it
named_first : (name : Text) (piece : Piece) (o : Option (List Piece)) (text : Option Text) → bytes_eq (name_in piece) name ≡ true
    → Some text ≡ option_map (text_of name) (option_map (λ pieces. piece ∷ pieces) o)
    → text_in piece ≡ text
named_first name piece None text e is = cc
named_first name piece (Some pieces) text e is =
    sym (same_Some _ _ (is ∙ ap (λ b. Some (if b then text_in piece else text_of name pieces)) e))

-- a piece of another name hasn't
other_first : (name : Text) (piece : Piece) (o : Option (List Piece)) → bytes_eq (name_in piece) name ≡ false
    → option_map (text_of name) (option_map (λ pieces. piece ∷ pieces) o) ≡ option_map (text_of name) o
other_first name piece None e = refl
other_first name piece (Some pieces) e = ap (λ b. Some (if b then text_in piece else text_of name pieces)) e

-- the words from a place on, where the word there is known as the text t
module _ {X : Type 0} (f : X → Text) (xs : List X) (i : ℕ) (x : X) (lt : i < length xs) (at : x ≡ get_or xs i x)
    (rules : List Rule) (name : Text) (waiting : Option Text) (t : Text) (reads : t ≡ f x) (text : Option Text)
    (is : Some text ≡ text_from rules name waiting (map f (drop i xs))) where
  abbrev rest : List Text
  rest = map f (drop (i + 1) xs)

  at_word : Some text ≡ option_map (text_of name) (after_meaning (meaning_of rules waiting t) (λ next. pieces_from rules next rest))
  unfolding text_from
  at_word =
      is ∙ ap (λ ws. text_from rules name waiting ws) (map-drop_at f xs i x lt at)
      ∙ ap (λ w. text_from rules name waiting (w ∷ rest)) (sym reads)

  with_meaning : (m : _) → m ≡ meaning_of rules waiting t
      → Some text ≡ option_map (text_of name) (after_meaning m (λ next. pieces_from rules next rest))
  with_meaning m same =
      at_word ∙ ap (λ m. option_map (text_of name) (after_meaning m (λ next. pieces_from rules next rest))) (sym same)

  pub text_here : (piece : Piece) → whole piece ≡ meaning_of rules waiting t → true ≡ bytes_eq (name_in piece) name
      → text_in piece ≡ text
  text_here piece same e =
      named_first name piece (pieces_from rules None rest) text (sym e) (with_meaning (whole piece) same)

  pub text_later : (piece : Piece) → whole piece ≡ meaning_of rules waiting t → false ≡ bytes_eq (name_in piece) name
      → Some text ≡ text_from rules name None rest
  unfolding text_from
  text_later piece same e =
      with_meaning (whole piece) same ∙ other_first name piece (pieces_from rules None rest) (sym e)

  pub text_opened : (option : Text) → opens option ≡ meaning_of rules waiting t
      → Some text ≡ text_from rules name (Some option) rest
  unfolding text_from
  text_opened option same = with_meaning (opens option) same

  pub no_pieces : nothing ≡ meaning_of rules waiting t → (o : Option Text) → o ≡ text
  no_pieces same o = let none : Some text ≡ None = with_meaning nothing same in cc

-- past the last word
pub no_words : {X : Type 0} (f : X → Text) (xs : List X) (i : ℕ) (rules : List Rule) (name : Text) (waiting : Option Text)
    → length xs ≤ i
    → text_from rules name waiting (map f (drop i xs)) ≡ text_from rules name waiting []
no_words f xs i rules name waiting past = at_drop_all (λ ys. text_from rules name waiting (map f ys)) xs i past

pub no_text_left : (rules : List Rule) (name : Text) (waiting : Option Text) (text : Option Text)
    → Some text ≡ text_from rules name waiting []
    → None ≡ text
no_text_left rules name None text is = text_from-end rules name text is
no_text_left rules name (Some option) text is = text_from-waits rules name option text is
