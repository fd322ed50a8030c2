-- The reading of words and the lawful pieces that spell them are the same.
use Rattle.std.proofs.Common.{◌≡◌, ◌∙◌, ◌⊎◌, inl, inr, ◌≤◌, ◌+◌, ℕ, Bool, true, false, List, [], ◌∷◌, Option, Some, None, refl, ap, sym, subst, if◌then◌else◌, arith}
use Rattle.std.specs.Prelude.{Contains, option_and_then}
use Rattle.std.specs.List.{list_all, slice_index_or}
use Rattle.std.specs.Str.{bytes_eq}
use Rattle.std.proofs.lemmas.List.{get_or_default}
use Rattle.std.proofs.lemmas.List.Sums.{AllPass-from_list_all, list_all-from_AllPass}
use Rattle.std.proofs.lemmas.Option.{same_Some}
use Rattle.std.proofs.lemmas.Slice.Eq.{bytes_eq-Decides}
use Rattle.std.proofs.lemmas.Bool.Decides.{nat_tests}
use Rattle.command_words.specs.declared.arguments.Form.{Form}
use Rattle.command_words.specs.declared.arguments.Form.TheVariants.{Flag, Optional, Required}
use Rattle.command_words.specs.Rules.{Text, Rule, form_named, has_text, is_flag, is_required}
use Rattle.command_words.specs.Pieces.{Piece, joined, apart, alone, spelling, name_in, count_of, is_piece_of, are_rules, AreLawful}
use Rattle.command_words.specs.Reading.{is_count, is_counted, counted, pieces_from, lawful_pieces}
use Rattle.command_words.proofs.Spelled.{both, find_cases, has_form, spelling_read, pieces_spell}

-- ---- counts

count_at_most : (form : Form) (n : ℕ) → is_count form n ≡ true → n ≤ 1
count_at_most Flag n e = grind (arith, nat_tests)
count_at_most Optional n e = grind (arith, nat_tests)
count_at_most Required n e = grind (arith, nat_tests)

pub count_at_least : (form : Form) (n : ℕ) → is_count form n ≡ true → is_required form ≡ true → 1 ≤ n
count_at_least Flag n e required = cc
count_at_least Optional n e required = cc
count_at_least Required n e required = grind (arith, nat_tests)

count_lawful : (form : Form) (n : ℕ) → n ≤ 1 → (is_required form ≡ true → 1 ≤ n) → is_count form n ≡ true
count_lawful Flag n most least = grind (arith, nat_tests)
count_lawful Optional n most least = grind (arith, nat_tests)
count_lawful Required n most least = let some : 1 ≤ n = least refl in grind (arith, nat_tests)

-- the name of a piece of the command is a name of the command
named_piece : (rules : List Rule) (piece : Piece) → is_piece_of rules piece ≡ true
    → (form : Form) × (form_named rules (name_in piece) ≡ Some form)
named_piece rules (joined name text) known =
    let form = has_form (form_named rules name) has_text (both _ _ known).0 in (form.0, form.1)
named_piece rules (apart name text) known =
    let form = has_form (form_named rules name) has_text (both _ _ known).0 in (form.0, form.1)
named_piece rules (alone name) known = let form = has_form (form_named rules name) is_flag known in (form.0, form.1)

-- a name that stands among the pieces is one of the command
pub counted_name : (rules : List Rule) (name : Text) (pieces : List Piece) → list_all (is_piece_of rules) pieces ≡ true
    → (count_of name pieces ≡ 0) ⊎ ((form : Form) × (form_named rules name ≡ Some form))
counted_name rules name [] known = inl refl
counted_name rules name (piece ∷ pieces) known = go (bytes_eq (name_in piece) name) refl
    (counted_name rules name pieces (both (is_piece_of rules piece) _ known).1)
  where
    go : (b : Bool) → bytes_eq (name_in piece) name ≡ b
        → (count_of name pieces ≡ 0) ⊎ ((form : Form) × (form_named rules name ≡ Some form))
        → ((if b then 1 else 0) + count_of name pieces ≡ 0) ⊎ ((form : Form) × (form_named rules name ≡ Some form))
    go true e rest =
        let form = named_piece rules piece (both (is_piece_of rules piece) _ known).0 in
        inr (form.0, ap (form_named rules) (sym ((bytes_eq-Decides (name_in piece) name).0 e)) ∙ form.1)
    go false e (inl none) = inl (omega arith)
    go false e (inr form) = inr form

-- the count of a name of the command is that of its rule
named_count : (rules : List Rule) (name : Text) (form : Form) (pieces : List Piece) → form_named rules name ≡ Some form
    → list_all (is_counted pieces) rules ≡ true → count_of name pieces ≤ 1
named_count [] name form pieces found counts = cc
named_count (rule ∷ rules) name form pieces found counts = find_cases (bytes_eq rule.name name) rule _ form found
    (λ e _. subst (λ n. count_of n pieces ≤ 1) ((bytes_eq-Decides rule.name name).0 e) (count_at_most rule.form _ (both _ _ counts).0))
    (λ _ further. named_count rules name form pieces further (both _ _ counts).1)

once : (rules : List Rule) (pieces : List Piece) → list_all (is_piece_of rules) pieces ≡ true
    → list_all (is_counted pieces) rules ≡ true
    → (name : Text) → count_of name pieces ≤ 1
once rules pieces known counts name = go (counted_name rules name pieces known)
  where
    go : (count_of name pieces ≡ 0) ⊎ ((form : Form) × (form_named rules name ≡ Some form)) → count_of name pieces ≤ 1
    go (inl none) = omega arith
    go (inr form) = named_count rules name form.0 pieces form.1 counts

required : (rules : List Rule) (pieces : List Piece) → list_all (is_counted pieces) rules ≡ true
    → (rule : Rule) → Contains rules rule → is_required rule.form ≡ true → 1 ≤ count_of rule.name pieces
required rules pieces counts rule there needed =
    let here : is_counted pieces rule ≡ true = subst (λ r. is_counted pieces r ≡ true) there.2 (AllPass-from_list_all (is_counted pieces) rules counts there.0 rule there.1) in
    count_at_least rule.form (count_of rule.name pieces) here needed

pub all_counted : (rules : List Rule) (pieces : List Piece) → ((name : Text) → count_of name pieces ≤ 1)
    → ((rule : Rule) → Contains rules rule → is_required rule.form ≡ true → 1 ≤ count_of rule.name pieces)
    → list_all (is_counted pieces) rules ≡ true
all_counted rules pieces most least = list_all-from_AllPass (is_counted pieces) rules (λ k d lt.
    let rule = slice_index_or rules k d in
    let there : Contains rules rule = (k, lt, get_or_default rules k rule d lt) in
    count_lawful rule.form (count_of rule.name pieces) (most rule.name) (least rule there))

-- ---- the laws

pub lawful_read : (rules : List Rule) (words : List Text) (pieces : List Piece) → are_rules rules ≡ true
    → AreLawful rules pieces → spelling pieces ≡ words
    → lawful_pieces rules words ≡ Some pieces
lawful_read rules words pieces fine lawful spelled =
    ap (λ ws. option_and_then (counted rules) (pieces_from rules None ws)) (sym spelled)
    ∙ ap (option_and_then (counted rules)) (spelling_read rules fine pieces lawful.known)
    ∙ ap (λ b. if b then Some pieces else None) (all_counted rules pieces lawful.once lawful.required)

pub read_lawful : (rules : List Rule) (words : List Text) (pieces : List Piece)
    → lawful_pieces rules words ≡ Some pieces
    → AreLawful rules pieces × (spelling pieces ≡ words)
read_lawful rules words pieces e = go (pieces_from rules None words) refl e
  where
    held : (qs : List Piece) → pieces_from rules None words ≡ Some qs → (b : Bool) → list_all (is_counted qs) rules ≡ b
        → (if b then Some qs else None) ≡ Some pieces
        → AreLawful rules pieces × (spelling pieces ≡ words)
    held qs from true counts e =
        let read = pieces_spell rules words qs from in
        let lawful : AreLawful rules qs = record { known = read.1; once = once rules qs read.1 counts; required = required rules qs counts } in
        subst (λ ps. AreLawful rules ps × (spelling ps ≡ words)) (same_Some _ _ e) (lawful, read.0)
    held qs from false counts e = cc

    go : (o : Option (List Piece)) → pieces_from rules None words ≡ o → option_and_then (counted rules) o ≡ Some pieces
        → AreLawful rules pieces × (spelling pieces ≡ words)
    go None from e = cc
    go (Some qs) from e = held qs from (list_all (is_counted qs) rules) refl e
