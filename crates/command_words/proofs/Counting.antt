-- How often a name stands, word by word.
use Rattle.std.proofs.Common.{◌≡◌, ◌∙◌, ◌<◌, ◌≤◌, ◌+◌, ℕ, Bool, true, false, ◌==◌, List, [], ◌∷◌, Option, Some, None, is_some, length, drop, get_or, refl, ap, sym, if◌then◌else◌, arith, map, true≢false}
use Rattle.std.specs.Prelude.{option_map, option_and_then}
use Rattle.std.specs.Option.{option_map_or}
use Rattle.std.specs.List.{list_all, list_any}
use Rattle.std.specs.Str.{bytes_eq}
use Rattle.std.proofs.lemmas.Grind.{common_steps}
use Rattle.std.proofs.lemmas.List.{at_drop_all}
use Rattle.std.proofs.lemmas.List.Folds.{list_all-map}
use Rattle.command_words.specs.declared.arguments.Argument.{Argument}
use Rattle.command_words.specs.Rules.{Text, Rule}
use Rattle.command_words.specs.Arguments.{rule_in, rules_in}
use Rattle.command_words.specs.Pieces.{Piece, name_in, count_of}
use Rattle.command_words.specs.Reading.{whole, opens, nothing, after_hyphens, long_meaning, after_meaning, meaning_of, pieces_from, is_counted, counted, lawful_pieces}

-- the count of a name where n were met before the words
unfoldable pub count_from : List Rule → Text → Option Text → ℕ → List Text → Option ℕ
count_from rules name waiting n words =
    option_map (λ pieces. n + count_of name pieces) (pieces_from rules waiting words)

with_more : (o : Option (List Piece)) (name : Text) (n : ℕ) (piece : Piece)
    → option_map (λ pieces. n + count_of name pieces) (option_map (λ pieces. piece ∷ pieces) o)
    ≡ option_map (λ pieces. (n + (if bytes_eq (name_in piece) name then 1 else 0)) + count_of name pieces) o
with_more None name n piece = refl
with_more (Some pieces) name n piece = ap Some (omega arith)

module _ (rules : List Rule) (name : Text) (waiting : Option Text) (n : ℕ) (word : Text) (words : List Text) where
  pub count_from-whole : (piece : Piece) → meaning_of rules waiting word ≡ whole piece
      → count_from rules name waiting n (word ∷ words) ≡ count_from rules name None (n + (if bytes_eq (name_in piece) name then 1 else 0)) words
  unfolding count_from
  count_from-whole piece is =
      ap (λ m. option_map (λ pieces. n + count_of name pieces) (after_meaning m (λ next. pieces_from rules next words))) is
      ∙ with_more (pieces_from rules None words) name n piece

  pub count_from-opens : (option : Text) → meaning_of rules waiting word ≡ opens option
      → count_from rules name waiting n (word ∷ words) ≡ count_from rules name (Some option) n words
  unfolding count_from
  count_from-opens option is =
      ap (λ m. option_map (λ pieces. n + count_of name pieces) (after_meaning m (λ next. pieces_from rules next words))) is

  pub count_from-nothing : meaning_of rules waiting word ≡ nothing
      → count_from rules name waiting n (word ∷ words) ≡ None
  unfolding count_from
  count_from-nothing is =
      ap (λ m. option_map (λ pieces. n + count_of name pieces) (after_meaning m (λ next. pieces_from rules next words))) is

pub count_from-start : (rules : List Rule) (name : Text) (words : List Text)
    → count_from rules name None 0 words ≡ option_map (count_of name) (pieces_from rules None words)
unfolding count_from
count_from-start rules name words = go (pieces_from rules None words)
  where
    go : (o : Option (List Piece)) → option_map (λ pieces. 0 + count_of name pieces) o ≡ option_map (count_of name) o
    go None = refl
    go (Some pieces) = ap Some (omega arith)

pub count_from-end : (rules : List Rule) (name : Text) (n : ℕ) → count_from rules name None n [] ≡ Some n
unfolding count_from
count_from-end rules name n = ap Some (omega arith)

pub count_from-waits : (rules : List Rule) (name option : Text) (n : ℕ)
    → count_from rules name (Some option) n [] ≡ None
unfolding count_from
count_from-waits rules name option n = refl

-- the words from a place on
pub map-drop_at : {X : Type 0} (f : X → Text) (xs : List X) (i : ℕ) (x : X) → i < length xs → x ≡ get_or xs i x
    → map f (drop i xs) ≡ f x ∷ map f (drop (i + 1) xs)
map-drop_at f xs i x lt is = grind (arith, common_steps)

-- the words from a place on, where the word there is known as the text t
module _ {X : Type 0} (f : X → Text) (xs : List X) (i : ℕ) (x : X) (lt : i < length xs) (at : x ≡ get_or xs i x)
    (rules : List Rule) (name : Text) (waiting : Option Text) (n : ℕ) (t : Text) (reads : t ≡ f x) where
  abbrev before : Option ℕ
  before = count_from rules name waiting n (map f (drop i xs))

  abbrev after : Option Text → ℕ → Option ℕ
  after next m = count_from rules name next m (map f (drop (i + 1) xs))

  word_first : before ≡ count_from rules name waiting n (t ∷ map f (drop (i + 1) xs))
  word_first =
      ap (λ ws. count_from rules name waiting n ws) (map-drop_at f xs i x lt at)
      ∙ ap (λ w. count_from rules name waiting n (w ∷ map f (drop (i + 1) xs))) (sym reads)

  pub named_here : (piece : Piece) → whole piece ≡ meaning_of rules waiting t → true ≡ bytes_eq (name_in piece) name
      → before ≡ after None (n + 1)
  named_here piece is e =
      word_first ∙ count_from-whole rules name waiting n t _ piece (sym is)
      ∙ ap (λ b. after None (n + (if b then 1 else 0))) (sym e)

  pub other_here : (piece : Piece) → whole piece ≡ meaning_of rules waiting t → false ≡ bytes_eq (name_in piece) name
      → before ≡ after None n
  other_here piece is e =
      word_first ∙ count_from-whole rules name waiting n t _ piece (sym is)
      ∙ ap (λ b. after None (n + (if b then 1 else 0))) (sym e)
      ∙ ap (after None) (omega arith)

  pub opened_here : (option : Text) → opens option ≡ meaning_of rules waiting t → before ≡ after (Some option) n
  opened_here option is = word_first ∙ count_from-opens rules name waiting n t _ option (sym is)

  pub nothing_here : nothing ≡ meaning_of rules waiting t → before ≡ None
  nothing_here is = word_first ∙ count_from-nothing rules name waiting n t _ (sym is)

-- past the last word
pub no_words_left : {X : Type 0} (f : X → Text) (xs : List X) (i : ℕ) (rules : List Rule) (name : Text) (waiting : Option Text) (n : ℕ)
    → length xs ≤ i → count_from rules name waiting n (map f (drop i xs)) ≡ count_from rules name waiting n []
no_words_left f xs i rules name waiting n past =
    at_drop_all (λ ys. count_from rules name waiting n (map f ys)) xs i past

-- ---- each rule counts

-- the test of a rule over the pieces, if the words are made of any
abbrev pub counts : Option (List Piece) → Rule → Bool
counts pieces rule = option_map_or (λ ps. is_counted ps rule) pieces false

-- where there are rules, their counts decide
pub lawful-counts : (arguments : List Argument) (o : Option (List Piece)) → false ≡ (length arguments == 0)
    → list_all (λ a. counts o (rule_in a)) arguments ≡ is_some (option_and_then (counted (rules_in arguments)) o)
lawful-counts [] o some = absurd (true≢false (sym some))
lawful-counts (a ∷ arguments) None some = refl
lawful-counts (a ∷ arguments) (Some pieces) some =
    sym (list_all-map (is_counted pieces) rule_in (a ∷ arguments))
    ∙ go (list_all (is_counted pieces) (rules_in (a ∷ arguments)))
  where
    go : (b : Bool) → b ≡ is_some (if b then Some pieces else None)
    go true = refl
    go false = refl

-- where there are none, no word is lawful
nothing_long : (rest : Text) → long_meaning [] rest ≡ nothing
nothing_long rest = go (list_any (λ b. b == 61) rest)
  where
    go : (b : Bool) → (if b then nothing else nothing) ≡ nothing
    go true = refl
    go false = refl

nothing_at : (o : Option Text) → option_map_or (long_meaning []) o nothing ≡ nothing
nothing_at None = refl
nothing_at (Some rest) = nothing_long rest

pub lawful-no_rules : {X : Type 0} (f : X → Text) (arguments : List Argument) (words : List X)
    → true ≡ (length arguments == 0)
    → (length words == 0) ≡ is_some (lawful_pieces (rules_in arguments) (map f words))
lawful-no_rules f [] [] none = refl
lawful-no_rules f [] (word ∷ words) none =
    let some : (length (word ∷ words) == 0) ≡ false = grind arith in
    some
    ∙ ap (λ m. is_some (option_and_then (counted []) (after_meaning m (λ next. pieces_from [] next (map f words))))) (sym (nothing_at (after_hyphens (f word))))
lawful-no_rules f (a ∷ arguments) words none =
    let some : (length (a ∷ arguments) == 0) ≡ false = grind arith in
    absurd (true≢false (none ∙ some))
