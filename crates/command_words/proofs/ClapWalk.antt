-- Words that lawful pieces spell are taken by clap's walk, which leaves a row for each piece.
use Rattle.std.proofs.Common.{◌≡◌, ◌∙◌, ◌≤◌, ◌+◌, ◌==◌, ℕ, Bool, true, false, not, ◌&&◌, ◌||◌, if◌then◌else◌, List, [], ◌∷◌, ◌++◌, Option, Some, None, map, refl, ap, ap₂, sym, subst, fold, nat_lt, arith}
use Rattle.std.specs.Prelude.{option_and_then}
use Rattle.std.specs.Option.{option_map_or}
use Rattle.std.specs.List.{list_all, list_any, after_first}
use Rattle.std.specs.Str.{bytes_eq}
use Rattle.std.proofs.lemmas.List.{append-nil, append_assoc}
use Rattle.std.proofs.lemmas.Slice.Eq.{bytes_eq-Decides}
use Rattle.clap.specs.Lexer.{long_of, long_of_rest, short_of, short_of_rest, strip_byte, name_and_value}
use Rattle.clap.specs.Words.{Rule as ClapRule}
use Rattle.clap.specs.Walk.{Row, Held, Walk, Step, idle, option, trailing, next, arg_by_id, arg_by_long, has_row, used_by_id, settled, reacted, walk_from, walked, after_step, after_flag, long_met, long_or_other, short_or_plain, option_word}
use Rattle.clap.specs.Takes.{walk_passes, turn_passes, settle_passes, long_passes, use_passes, flag_word_passes, bundle_passes, step_passes}
use Rattle.clap.specs.Simple.{Shape, built}
use Rattle.clap.proofs.CutLemmas.{before_first-at, after_first-at, list_any-at, before_first-Lacks}
use Rattle.command_words.specs.Rules.{Text, Rule, has_option}
use Rattle.command_words.specs.Pieces.{Piece, joined, apart, alone, spelling, name_in, count_of, is_text, is_piece_of, are_rules}
use Rattle.command_words.specs.Matching.{plain_app}
use Rattle.command_words.proofs.Spelled.{IsName, Lacks_from, both, option_name, flag_name}
use Rattle.command_words.proofs.ClapRules.{built_rule, option_rule, flag_rule, is_option, is_flag_rule}
use Rattle.command_words.proofs.ClapRows.{rows_under, rows_under-push, no_row, piece_row, used-joined, used-apart, used-alone}

-- ---- what words are to clap

abbrev is_equals : ℕ → Bool
is_equals b = b == 61

-- a word of two hyphens and more
record IsLong (word name : Text) (value : Option Text) : Type 0 where
  pub other : bytes_eq word (45 ∷ 45 ∷ []) ≡ false
  pub long : long_of word ≡ Some (name, value)

cut_name : (name text : Text) → list_any is_equals name ≡ false → name_and_value (name ++ 61 ∷ text) ≡ (name, Some text)
cut_name name text plain =
    ap₂ (λ n b. (n, if b then Some (after_first is_equals (name ++ 61 ∷ text)) else None)) (before_first-at 61 name text (Lacks_from name plain)) (list_any-at 61 name text)
    ∙ ap (λ t. (name, Some t)) (after_first-at 61 name text (Lacks_from name plain))

whole_name : (name : Text) → list_any is_equals name ≡ false → name_and_value name ≡ (name, None)
whole_name name plain =
    ap₂ (λ n b. (n, if b then Some (after_first is_equals name) else None)) (before_first-Lacks 61 name (Lacks_from name plain)) plain

joined_long : (name text : Text) → IsName name → IsLong (45 ∷ 45 ∷ (name ++ 61 ∷ text)) name (Some text)
joined_long [] text named = absurd (named.nonempty refl)
joined_long (first ∷ more) text named =
    record { other = refl; long = ap (λ p. Some p) (cut_name (first ∷ more) text named.plain) }

named_long : (name : Text) → IsName name → IsLong (45 ∷ 45 ∷ name) name None
named_long [] named = absurd (named.nonempty refl)
named_long (first ∷ more) named =
    record { other = refl; long = ap (λ p. Some p) (whole_name (first ∷ more) named.plain) }

-- a word that isn't taken for an option
record IsPlain (word : Text) : Type 0 where
  pub other : bytes_eq word (45 ∷ 45 ∷ []) ≡ false
  pub long : long_of word ≡ None
  pub short : short_of word ≡ None

plain_text : (text : Text) → is_text text ≡ true → IsPlain text
plain_text [] e = cc
plain_text (first ∷ more) e = go (first == 45) refl e
  where
    go : (b : Bool) → (first == 45) ≡ b → not b ≡ true → IsPlain (first ∷ more)
    go true is e = cc
    go false is e = record {
      other = ap (λ b. b && bytes_eq more (45 ∷ [])) is;
      long =
          ap (λ b. option_and_then long_of_rest (option_and_then (strip_byte 45) (if b then Some more else None))) is;
      short = ap (λ b. option_and_then short_of_rest (if b then Some more else None)) is;
    }

-- ---- the walk, word by word

-- the command of these rules, as built
abbrev pub shape_with : Text → List ClapRule → Shape
shape_with name rules = record (built (plain_app name)).top { rules = rules }

module _ (command : Text) (c : List ClapRule) where
  abbrev s : Shape
  s = shape_with command c

  -- what a long word that names the rule comes to
  abbrev met_long : Held → Text → ClapRule → Option Text → Held × Step
  met_long h word a value = after_flag c idle word (long_met c (Some a) value h).0 (long_met c (Some a) value h).1

  long_walked : (h : Held) (word name : Text) (value : Option Text) (a : ClapRule) → IsLong word name value
      → arg_by_long c name ≡ Some a
      → walked c [] (walk_from h) word ≡ after_step c word (walk_from h) (met_long h word a value).0 (met_long h word a value).1
  unfolding walked
  long_walked h word name value a is found =
      let step : Held × Step → Walk = λ met. after_step c word (walk_from h) met.0 met.1 in
      ap (λ b. step (if b then (h, trailing 1) else long_or_other c idle word (long_of word) h)) is.other
      ∙ ap (λ l. step (long_or_other c idle word l h)) is.long
      ∙ ap (λ x. step (after_flag c idle word (long_met c x value h).0 (long_met c x value h).1)) found

  long_passed : (h : Held) (word name : Text) (value : Option Text) (a : ClapRule) → IsLong word name value
      → arg_by_long c name ≡ Some a
      → turn_passes s [] (walk_from h) word ≡ (long_passes c false (Some a) value h && step_passes s 1 (met_long h word a value).0 (met_long h word a value).1)
  long_passed h word name value a is found =
      let step : Held × Step → Bool = λ met. step_passes s 1 met.0 met.1 in
      ap (λ b. (b || flag_word_passes c false (long_of word) word h) && step (if b then (h, trailing 1) else long_or_other c idle word (long_of word) h)) is.other
      ∙ ap (λ l. flag_word_passes c false l word h && step (long_or_other c idle word l h)) is.long
      ∙ ap (λ x. long_passes c false x value h && step (after_flag c idle word (long_met c x value h).0 (long_met c x value h).1)) found

  -- the option waits for its text, and then has it
  abbrev opened : Text → Held → Held
  opened name h = record (settled c h) { pending = Some (name, []) }

  abbrev given : Text → Text → Held → Held
  given name text h = record (settled c h) { pending = Some (name, text ∷ []) }

  abbrev waits : Text → Held → Walk
  waits name h = record (walk_from h) { waiting = option name }

  text_walked : (h : Held) (name text : Text) (needed : Bool) → IsPlain text
      → arg_by_id c name ≡ Some (option_rule name needed)
      → walked c [] (waits name (opened name h)) text ≡ walk_from (given name text h)
  unfolding walked
  text_walked h name text needed is found =
      let step : Held × Step → Walk = λ met. after_step c text (waits name (opened name h)) met.0 met.1 in
      ap (λ b. step (if b then (opened name h, trailing 1) else long_or_other c (option name) text (long_of text) (opened name h))) is.other
      ∙ ap (λ l. step (long_or_other c (option name) text l (opened name h))) is.long
      ∙ ap (λ x. step (short_or_plain c (option name) text x (opened name h))) is.short
      ∙ ap (λ x. let met = option_word x name text (opened name h) in step (met.0, next met.1)) found
      ∙ ap (λ b. record (walk_from (given name text h)) { waiting = if nat_lt (if b then 1 else 0) 1 then option name else idle }) ((bytes_eq-Decides name name).1 refl)

  text_passed : (h : Held) (name text : Text) → IsPlain text → turn_passes s [] (waits name h) text ≡ true
  text_passed h name text is =
      let step : Held × Step → Bool = λ met. step_passes s 1 met.0 met.1 in
      ap (λ b. (b || flag_word_passes c false (long_of text) text h) && step (if b then (h, trailing 1) else long_or_other c (option name) text (long_of text) h)) is.other
      ∙ ap (λ l. flag_word_passes c false l text h && step (long_or_other c (option name) text l h)) is.long
      ∙ ap (λ x. option_map_or (λ flags. bundle_passes c false flags h) x true && step (short_or_plain c (option name) text x h)) is.short

  -- ---- all pieces

  abbrev pub rows_at : Held → List Row
  rows_at h = (settled c h).rows

  -- the words are taken, and leave the rows of the pieces
  pub record IsTaken (h : Held) (words : List Text) (pieces : List Piece) : Type 0 where
    pub passes : walk_passes s [] (walk_from h) words ≡ true
    pub end : Held
    pub walks : fold (walked c []) (walk_from h) words ≡ walk_from end
    pub settles : settle_passes c false end ≡ true
    pub rows : rows_at end ≡ rows_at h ++ map piece_row pieces

  one_word : (h after : Held) (word : Text) (words : List Text) (piece : Piece) (pieces : List Piece)
      → turn_passes s [] (walk_from h) word ≡ true → walked c [] (walk_from h) word ≡ walk_from after
      → rows_at after ≡ rows_at h ++ piece_row piece ∷ [] → IsTaken after words pieces
      → IsTaken h (word ∷ words) (piece ∷ pieces)
  unfolding walk_passes
  one_word h after word words piece pieces turn walks grows rest = record {
    passes = ap₂ (λ a b. a && b) turn (ap (λ v. walk_passes s [] v words) walks ∙ rest.passes);
    end = rest.end;
    walks = ap (λ v. fold (walked c []) v words) walks ∙ rest.walks;
    settles = rest.settles;
    rows =
        rest.rows ∙ ap (λ rs. rs ++ map piece_row pieces) grows
        ∙ append_assoc (rows_at h) (piece_row piece ∷ []) (map piece_row pieces);
  }

  two_words : (h : Held) (name word text : Text) (words : List Text) (piece : Piece) (pieces : List Piece)
      → turn_passes s [] (walk_from h) word ≡ true → walked c [] (walk_from h) word ≡ waits name (opened name h)
      → turn_passes s [] (waits name (opened name h)) text ≡ true
      → walked c [] (waits name (opened name h)) text ≡ walk_from (given name text h)
      → rows_at (given name text h) ≡ rows_at h ++ piece_row piece ∷ [] → IsTaken (given name text h) words pieces
      → IsTaken h (word ∷ text ∷ words) (piece ∷ pieces)
  unfolding walk_passes
  two_words h name word text words piece pieces turn walks turn-2 walks-2 grows rest = record {
    passes = ap₂ (λ a b. a && b) turn
        (ap (λ v. turn_passes s [] v text && walk_passes s [] (walked c [] v text) words) walks
        ∙ ap₂ (λ a b. a && b) turn-2 (ap (λ v. walk_passes s [] v words) walks-2 ∙ rest.passes));
    end = rest.end;
    walks =
        ap (λ v. fold (walked c []) (walked c [] v text) words) walks ∙ ap (λ v. fold (walked c []) v words) walks-2
        ∙ rest.walks;
    settles = rest.settles;
    rows =
        rest.rows ∙ ap (λ rs. rs ++ map piece_row pieces) grows
        ∙ append_assoc (rows_at h) (piece_row piece ∷ []) (map piece_row pieces);
  }

-- no name stands twice among the rows and the pieces to come
abbrev pub Fits : List Row → List Piece → Type 0
Fits rows pieces = (name : Text) → rows_under name rows + count_of name pieces ≤ 1

fits_free : (rows : List Row) (piece : Piece) (pieces : List Piece) → Fits rows (piece ∷ pieces)
    → has_row (name_in piece) rows ≡ false
fits_free rows piece pieces fits =
    let here : 1 + count_of (name_in piece) pieces ≡ count_of (name_in piece) (piece ∷ pieces) =
    ap (λ b. (if b then 1 else 0) + count_of (name_in piece) pieces) (sym ((bytes_eq-Decides (name_in piece) (name_in piece)).1 refl)) in
    no_row (name_in piece) rows (omega (arith, here, fits (name_in piece)))

fits_next : (rows after : List Row) (piece : Piece) (pieces : List Piece) → Fits rows (piece ∷ pieces)
    → after ≡ rows ++ piece_row piece ∷ [] → Fits after pieces
fits_next rows after piece pieces fits grows name =
    subst (λ rs. rows_under name rs + count_of name pieces ≤ 1) (sym grows)
    (omega (arith, rows_under-push name rows (piece_row piece), fits name))

module _ (command : Text) (rules : List Rule) (fine : are_rules rules ≡ true) where
  abbrev c : List ClapRule
  c = map built_rule rules

  taken_joined : (name text : Text) (pieces : List Piece) (h : Held) → settle_passes c false h ≡ true
      → Fits (rows_at command c h) (joined name text ∷ pieces)
      → is_piece_of rules (joined name text) ≡ true
      → ((after : Held) → settle_passes c false after ≡ true → Fits (rows_at command c after) pieces → IsTaken command c after (spelling pieces) pieces)
      → IsTaken command c h (spelling (joined name text ∷ pieces)) (joined name text ∷ pieces)
  taken_joined name text pieces h ready fits known rest =
      let has = (both (has_option rules name) _ known).0 in
      let option = is_option name rules has in
      let long = joined_long name text (option_name rules name fine has) in
      let free = fits_free (rows_at command c h) (joined name text) pieces fits in
      let after : Held = reacted c (option_rule name option.0) (text ∷ []) h in
      let grows : rows_at command c after ≡ rows_at command c h ++ piece_row (joined name text) ∷ [] = used-joined name _ free text option.0 in
      one_word command c h after _ (spelling pieces) (joined name text) pieces
      (long_passed command c h _ name (Some text) _ long option.1.long ∙ ap₂ (λ a b. (a && ((not b || false) && true)) && true) ready free)
      (long_walked command c h _ name (Some text) _ long option.1.long) grows
      (rest after refl (fits_next _ _ (joined name text) pieces fits grows))

  taken_alone : (name : Text) (pieces : List Piece) (h : Held) → settle_passes c false h ≡ true
      → Fits (rows_at command c h) (alone name ∷ pieces)
      → is_piece_of rules (alone name) ≡ true
      → ((after : Held) → settle_passes c false after ≡ true → Fits (rows_at command c after) pieces → IsTaken command c after (spelling pieces) pieces)
      → IsTaken command c h (spelling (alone name ∷ pieces)) (alone name ∷ pieces)
  taken_alone name pieces h ready fits known rest =
      let flag = is_flag_rule name rules known in
      let long = named_long name (flag_name rules name fine known) in
      let free = fits_free (rows_at command c h) (alone name) pieces fits in
      let after : Held = reacted c (flag_rule name) [] h in
      let grows : rows_at command c after ≡ rows_at command c h ++ piece_row (alone name) ∷ [] = used-alone name _ free in
      one_word command c h after _ (spelling pieces) (alone name) pieces
      (long_passed command c h _ name None _ long flag ∙ ap₂ (λ a b. (a && ((not b || false) && true)) && true) ready free)
      (long_walked command c h _ name None _ long flag) grows
      (rest after refl (fits_next _ _ (alone name) pieces fits grows))

  taken_apart : (name text : Text) (pieces : List Piece) (h : Held) → settle_passes c false h ≡ true
      → Fits (rows_at command c h) (apart name text ∷ pieces)
      → is_piece_of rules (apart name text) ≡ true
      → ((after : Held) → settle_passes c false after ≡ true → Fits (rows_at command c after) pieces → IsTaken command c after (spelling pieces) pieces)
      → IsTaken command c h (spelling (apart name text ∷ pieces)) (apart name text ∷ pieces)
  taken_apart name text pieces h ready fits known rest =
      let parts = both (has_option rules name) _ known in
      let option = is_option name rules parts.0 in
      let long = named_long name (option_name rules name fine parts.0) in
      let plain = plain_text text parts.1 in
      let free = fits_free (rows_at command c h) (apart name text) pieces fits in
      let after : Held = given command c name text h in
      let grows : rows_at command c after ≡ rows_at command c h ++ piece_row (apart name text) ∷ [] =
      ap (λ x. used_by_id x (text ∷ []) (rows_at command c h)) option.1.id ∙ used-apart name _ free text option.0 in
      let settles : settle_passes c false after ≡ true =
      ap (λ x. option_map_or (λ a. use_passes false a (text ∷ []) (rows_at command c h)) x true) option.1.id ∙ ap (λ b. (not b || false) && true) free in
      two_words command c h name _ text (spelling pieces) (apart name text) pieces
      (long_passed command c h _ name None _ long option.1.long ∙ ap (λ a. a && true) ready)
      (long_walked command c h _ name None _ long option.1.long)
      (text_passed command c (opened command c name h) name text plain)
      (text_walked command c h name text option.0 plain option.1.id) grows
      (rest after settles (fits_next _ _ (apart name text) pieces fits grows))

  pub pieces_taken : (pieces : List Piece) → list_all (is_piece_of rules) pieces ≡ true → (h : Held)
      → settle_passes c false h ≡ true
      → Fits (rows_at command c h) pieces → IsTaken command c h (spelling pieces) pieces
  unfolding walk_passes
  pieces_taken [] known h ready fits =
      record { passes = refl; end = h; walks = refl; settles = ready; rows = sym (append-nil (rows_at command c h)) }
  pieces_taken (joined name text ∷ pieces) known h ready fits =
      let parts = both (is_piece_of rules (joined name text)) _ known in
      taken_joined name text pieces h ready fits parts.0 (λ after settles fit. pieces_taken pieces parts.1 after settles fit)
  pieces_taken (apart name text ∷ pieces) known h ready fits =
      let parts = both (is_piece_of rules (apart name text)) _ known in
      taken_apart name text pieces h ready fits parts.0 (λ after settles fit. pieces_taken pieces parts.1 after settles fit)
  pieces_taken (alone name ∷ pieces) known h ready fits =
      let parts = both (is_piece_of rules (alone name)) _ known in
      taken_alone name pieces h ready fits parts.0 (λ after settles fit. pieces_taken pieces parts.1 after settles fit)
