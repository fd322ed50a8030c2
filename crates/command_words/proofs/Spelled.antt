-- The reading gives exactly the pieces that spell the words.
use Rattle.std.proofs.Common.{◌≡◌, ◌≢◌, ◌∙◌, ◌<◌, ◌≤◌, ◌==◌, ◌&&◌, ℕ, Bool, true, false, not, List, [], ◌∷◌, ◌++◌, Option, Some, None, length, get_or, refl, ap, ap₂, sym, subst, if◌then◌else◌, arith, nat_lt, true≢false}
use Rattle.std.specs.Prelude.{option_map, option_and_then}
use Rattle.std.specs.Option.{option_map_or}
use Rattle.std.specs.List.{list_all, list_any, before_first, after_first, position_or_len}
use Rattle.std.specs.Str.{bytes_eq}
use Rattle.std.proofs.lemmas.List.Folds.{list_any_at, list_any_none}
use Rattle.std.proofs.lemmas.List.Sums.{split_at_first, passes_at_first, fails_before_first}
use Rattle.std.proofs.lemmas.Option.{same_Some}
use Rattle.std.proofs.lemmas.Slice.Eq.{bytes_eq-Decides}
use Rattle.std.proofs.lemmas.Bool.Decides.{nat_tests}
use Rattle.clap.proofs.CutLemmas.{Lacks, before_first-at, after_first-at, list_any-at}
use Rattle.command_words.specs.declared.arguments.Form.{Form}
use Rattle.command_words.specs.declared.arguments.Form.TheVariants.{Flag, Optional, Required}
use Rattle.command_words.specs.Rules.{Text, Rule, form_named, has_option, has_flag, has_text, is_flag}
use Rattle.command_words.specs.Pieces.{Piece, joined, apart, alone, words_of, spelling, is_text, is_piece_of, is_name, are_rules}
use Rattle.command_words.specs.Reading.{Meaning, whole, opens, nothing, after_hyphen, after_hyphens, named_meaning, joined_meaning, long_meaning, opening_meaning, meaning_of, after_meaning, pieces_at_end, pieces_from}

-- ---- tests

pub both : (a b : Bool) → (a && b) ≡ true → (a ≡ true) × (b ≡ true)
both true true e = (refl, refl)
both true false e = cc
both false b e = cc

pub and_of : (a b : Bool) → a ≡ true → b ≡ true → (a && b) ≡ true
and_of a b e f = ap₂ (λ x y. x && y) e f

-- ---- names

-- a name has bytes, and none of them is `=`
pub record IsName (name : Text) : Type 0 where
  pub nonempty : name ≢ []
  pub plain : list_any (λ b. b == 61) name ≡ false

name_of_test : (name : Text) → is_name name ≡ true → IsName name
name_of_test [] e = cc
name_of_test (first ∷ more) e = record {
  nonempty = λ none. cc;
  plain = is_false (list_any (λ b. b == 61) (first ∷ more)) e;
}
  where
    is_false : (b : Bool) → not b ≡ true → b ≡ false
    is_false true e = cc
    is_false false e = refl

-- no byte of the list is `=`
pub Lacks_from : (xs : Text) → list_any (λ b. b == 61) xs ≡ false → Lacks 61 xs
Lacks_from xs none i lt at =
    let here : (get_or xs i 0 == 61) ≡ true = grind (arith, nat_tests) in
    absurd (true≢false (sym (list_any_at (λ b. b == 61) xs i 0 lt here) ∙ none))

-- a rule is the one of that name, or it stands behind
pub find_cases : {P : Type 0} (b : Bool) (rule : Rule) (rest : Option Rule) (form : Form)
    → option_map (λ r. r.form) (if b then Some rule else rest) ≡ Some form
    → (b ≡ true → rule.form ≡ form → P) → (b ≡ false → option_map (λ r. r.form) rest ≡ Some form → P) → P
find_cases true rule rest form found here there = here refl (same_Some _ _ found)
find_cases false rule rest form found here there = there refl found

-- a name that is found is the name of a rule
pub found_name : (rules : List Rule) (name : Text) (form : Form) → are_rules rules ≡ true
    → form_named rules name ≡ Some form → IsName name
found_name [] name form fine found = cc
found_name (rule ∷ rules) name form fine found = find_cases (bytes_eq rule.name name) rule _ form found
    (λ e _. subst IsName ((bytes_eq-Decides rule.name name).0 e) (name_of_test rule.name (both _ _ (both _ _ fine).0).0))
    (λ _ further. found_name rules name form (both _ _ fine).1 further)

pub has_form : (o : Option Form) (test : Form → Bool) → option_map_or test o false ≡ true
    → (form : Form) × (o ≡ Some form) × (test form ≡ true)
has_form None test e = cc
has_form (Some form) test e = (form, refl, e)

pub option_name : (rules : List Rule) (name : Text) → are_rules rules ≡ true → has_option rules name ≡ true
    → IsName name
option_name rules name fine has =
    let form = has_form (form_named rules name) has_text has in found_name rules name form.0 fine form.1

pub flag_name : (rules : List Rule) (name : Text) → are_rules rules ≡ true → has_flag rules name ≡ true → IsName name
flag_name rules name fine has =
    let form = has_form (form_named rules name) is_flag has in found_name rules name form.0 fine form.1

-- ---- what is spelled is read

abbrev is_equals : ℕ → Bool
is_equals b = b == 61

long_joined : (rules : List Rule) (name text : Text) → list_any is_equals name ≡ false
    → long_meaning rules (name ++ 61 ∷ text) ≡ joined_meaning rules name text
long_joined rules name text plain =
    ap (λ b. if b then joined_meaning rules (before_first is_equals (name ++ 61 ∷ text)) (after_first is_equals (name ++ 61 ∷ text))
    else named_meaning (form_named rules (name ++ 61 ∷ text)) (name ++ 61 ∷ text)) (list_any-at 61 name text)
    ∙ ap₂ (joined_meaning rules) (before_first-at 61 name text (Lacks_from name plain)) (after_first-at 61 name text (Lacks_from name plain))

long_named : (rules : List Rule) (name : Text) → list_any is_equals name ≡ false
    → long_meaning rules name ≡ named_meaning (form_named rules name) name
long_named rules name plain =
    ap (λ b. if b then joined_meaning rules (before_first is_equals name) (after_first is_equals name) else named_meaning (form_named rules name) name) plain

named_option : (o : Option Form) (name : Text) → option_map_or has_text o false ≡ true
    → named_meaning o name ≡ opens name
named_option None name e = cc
named_option (Some Flag) name e = cc
named_option (Some Optional) name e = refl
named_option (Some Required) name e = refl

named_flag : (o : Option Form) (name : Text) → option_map_or is_flag o false ≡ true
    → named_meaning o name ≡ whole (alone name)
named_flag None name e = cc
named_flag (Some Flag) name e = refl
named_flag (Some Optional) name e = cc
named_flag (Some Required) name e = cc

module _ (rules : List Rule) (fine : are_rules rules ≡ true) where
  front_read : (piece : Piece) (words : List Text) → is_piece_of rules piece ≡ true
      → pieces_from rules None (words_of piece ++ words) ≡ option_map (λ pieces. piece ∷ pieces) (pieces_from rules None words)
  front_read (joined name text) words known =
      let parts = both (has_option rules name) _ known in
      ap (λ m. after_meaning m (λ next. pieces_from rules next words))
      (long_joined rules name text (option_name rules name fine parts.0).plain ∙ ap (λ b. if b then whole (joined name text) else nothing) known)
  front_read (apart name text) words known =
      let parts = both (has_option rules name) _ known in
      ap (λ m. after_meaning m (λ next. pieces_from rules next (text ∷ words)))
      (long_named rules name (option_name rules name fine parts.0).plain ∙ named_option (form_named rules name) name parts.0)
      ∙ ap (λ b. after_meaning (if b then whole (apart name text) else nothing) (λ next. pieces_from rules next words)) parts.1
  front_read (alone name) words known =
      ap (λ m. after_meaning m (λ next. pieces_from rules next words))
      (long_named rules name (flag_name rules name fine known).plain ∙ named_flag (form_named rules name) name known)

  pub spelling_read : (pieces : List Piece) → list_all (is_piece_of rules) pieces ≡ true
      → pieces_from rules None (spelling pieces) ≡ Some pieces
  spelling_read [] known = refl
  spelling_read (piece ∷ pieces) known =
      let parts = both (is_piece_of rules piece) _ known in
      front_read piece (spelling pieces) parts.0 ∙ ap (option_map (λ ps. piece ∷ ps)) (spelling_read pieces parts.1)

-- ---- what is read is spelled

-- the words from the waiting option on
abbrev open_words : Option Text → List Text → List Text
open_words None words = words
open_words (Some name) words = (45 ∷ 45 ∷ name) ∷ words

abbrev may_wait : List Rule → Option Text → Bool
may_wait rules None = true
may_wait rules (Some name) = has_option rules name

record IsWhole (rules : List Rule) (waiting : Option Text) (word : Text) (piece : Piece) : Type 0 where
  pub spelled : (words : List Text) → words_of piece ++ words ≡ open_words waiting (word ∷ words)
  pub known : is_piece_of rules piece ≡ true

joined_whole : (rules : List Rule) (name text : Text) (piece : Piece) → joined_meaning rules name text ≡ whole piece
    → IsWhole rules None (45 ∷ 45 ∷ (name ++ 61 ∷ text)) piece
joined_whole rules name text piece e = go (has_option rules name && is_text text) refl e
  where
    go : (b : Bool) → (has_option rules name && is_text text) ≡ b
        → (if b then whole (joined name text) else nothing) ≡ whole piece
        → IsWhole rules None (45 ∷ 45 ∷ (name ++ 61 ∷ text)) piece
    go true known e =
        let same : joined name text ≡ piece = cc in
        subst (IsWhole rules None (45 ∷ 45 ∷ (name ++ 61 ∷ text))) same (record { spelled = λ words. refl; known = known })
    go false known e = cc

named_whole : (rules : List Rule) (name : Text) (piece : Piece) (o : Option Form) → form_named rules name ≡ o
    → named_meaning o name ≡ whole piece
    → IsWhole rules None (45 ∷ 45 ∷ name) piece
named_whole rules name piece None is e = cc
named_whole rules name piece (Some Flag) is e =
    let same : alone name ≡ piece = cc in
    subst (IsWhole rules None (45 ∷ 45 ∷ name)) same (record { spelled = λ words. refl; known = ap (λ o. option_map_or is_flag o false) is })
named_whole rules name piece (Some Optional) is e = cc
named_whole rules name piece (Some Required) is e = cc

named_opens : (rules : List Rule) (name option : Text) (o : Option Form) → form_named rules name ≡ o
    → named_meaning o name ≡ opens option
    → (name ≡ option) × (has_option rules name ≡ true)
named_opens rules name option None is e = cc
named_opens rules name option (Some Flag) is e = cc
named_opens rules name option (Some Optional) is e = (cc, ap (λ o. option_map_or has_text o false) is)
named_opens rules name option (Some Required) is e = (cc, ap (λ o. option_map_or has_text o false) is)

-- a text with `=` is what stands before the first one, it, and what follows
cut_at_equals : (rest : Text) → list_any is_equals rest ≡ true
    → before_first is_equals rest ++ 61 ∷ after_first is_equals rest ≡ rest
cut_at_equals rest some =
    let at = position_or_len is_equals rest in
    let within : at < length rest = go (nat_lt at (length rest)) refl in
    let here : get_or rest at 0 ≡ 61 = let test = passes_at_first is_equals rest 0 within in grind (arith, nat_tests) in
    sym (split_at_first is_equals rest 0 within ∙ ap (λ b. before_first is_equals rest ++ b ∷ after_first is_equals rest) here)
  where
    go : (b : Bool) → nat_lt (position_or_len is_equals rest) (length rest) ≡ b
        → position_or_len is_equals rest < length rest
    go true e = grind (arith, nat_tests)
    go false e =
        let past : length rest ≤ position_or_len is_equals rest = grind (arith, nat_tests) in
        absurd (true≢false (sym some ∙ list_any_none is_equals rest (λ k d lt. fails_before_first is_equals rest k d (omega arith))))

long_whole : (rules : List Rule) (rest : Text) (piece : Piece) → long_meaning rules rest ≡ whole piece
    → IsWhole rules None (45 ∷ 45 ∷ rest) piece
long_whole rules rest piece e = go (list_any is_equals rest) refl e
  where
    go : (b : Bool) → list_any is_equals rest ≡ b
        → (if b then joined_meaning rules (before_first is_equals rest) (after_first is_equals rest) else named_meaning (form_named rules rest) rest) ≡ whole piece
        → IsWhole rules None (45 ∷ 45 ∷ rest) piece
    go true some e =
        subst (λ (w : Text). IsWhole rules None (45 ∷ 45 ∷ w) piece) (cut_at_equals rest some)
        (joined_whole rules (before_first is_equals rest) (after_first is_equals rest) piece e)
    go false none e = named_whole rules rest piece (form_named rules rest) refl e

joined_opens : (rules : List Rule) (name text option : Text) → joined_meaning rules name text ≡ opens option → ⊥
joined_opens rules name text option e = go (has_option rules name && is_text text) e
  where
    go : (b : Bool) → (if b then whole (joined name text) else nothing) ≡ opens option → ⊥
    go true e = cc
    go false e = cc

long_opens : (rules : List Rule) (rest option : Text) → long_meaning rules rest ≡ opens option
    → (rest ≡ option) × (has_option rules rest ≡ true)
long_opens rules rest option e = go (list_any is_equals rest) e
  where
    go : (b : Bool)
        → (if b then joined_meaning rules (before_first is_equals rest) (after_first is_equals rest) else named_meaning (form_named rules rest) rest) ≡ opens option
        → (rest ≡ option) × (has_option rules rest ≡ true)
    go true e = absurd (joined_opens rules (before_first is_equals rest) (after_first is_equals rest) option e)
    go false e = named_opens rules rest option (form_named rules rest) refl e

-- the hyphens that are taken off stood there
one_hyphen : (word rest : Text) → after_hyphen word ≡ Some rest → word ≡ 45 ∷ rest
one_hyphen [] rest e = cc
one_hyphen (first ∷ more) rest e = go (first == 45) refl e
  where
    go : (b : Bool) → (first == 45) ≡ b → (if b then Some more else None) ≡ Some rest → first ∷ more ≡ 45 ∷ rest
    go true is e = let here : first ≡ 45 = grind (arith, nat_tests) in ap₂ (λ x xs. x ∷ xs) here (same_Some _ _ e)
    go false is e = cc

two_hyphens : (word rest : Text) → after_hyphens word ≡ Some rest → word ≡ 45 ∷ 45 ∷ rest
two_hyphens word rest e = go (after_hyphen word) refl e
  where
    go : (o : Option Text) → after_hyphen word ≡ o → option_and_then after_hyphen o ≡ Some rest → word ≡ 45 ∷ 45 ∷ rest
    go None is e = cc
    go (Some once) is e = one_hyphen word once is ∙ ap (λ w. 45 ∷ w) (one_hyphen once rest e)

opening_whole : (rules : List Rule) (word : Text) (piece : Piece) → opening_meaning rules word ≡ whole piece
    → IsWhole rules None word piece
opening_whole rules word piece e = go (after_hyphens word) refl e
  where
    go : (o : Option Text) → after_hyphens word ≡ o → option_map_or (long_meaning rules) o nothing ≡ whole piece
        → IsWhole rules None word piece
    go None is e = cc
    go (Some rest) is e =
        subst (λ w. IsWhole rules None w piece) (sym (two_hyphens word rest is)) (long_whole rules rest piece e)

-- a word that opens an option
record IsOpened (rules : List Rule) (word option : Text) : Type 0 where
  pub spelled : 45 ∷ 45 ∷ option ≡ word
  pub known : has_option rules option ≡ true

opening_opens : (rules : List Rule) (word option : Text) → opening_meaning rules word ≡ opens option
    → IsOpened rules word option
opening_opens rules word option e = go (after_hyphens word) refl e
  where
    go : (o : Option Text) → after_hyphens word ≡ o → option_map_or (long_meaning rules) o nothing ≡ opens option
        → IsOpened rules word option
    go None is e = cc
    go (Some rest) is e =
        let opened = long_opens rules rest option e in
        record {
          spelled = ap (λ (w : Text). 45 ∷ 45 ∷ w) (sym opened.0) ∙ sym (two_hyphens word rest is);
          known = subst (λ n. has_option rules n ≡ true) opened.0 opened.1;
        }

meaning_whole : (rules : List Rule) (waiting : Option Text) (word : Text) (piece : Piece)
    → may_wait rules waiting ≡ true
    → meaning_of rules waiting word ≡ whole piece → IsWhole rules waiting word piece
meaning_whole rules None word piece waits e = opening_whole rules word piece e
meaning_whole rules (Some name) word piece waits e = go (is_text word) refl e
  where
    go : (b : Bool) → is_text word ≡ b → (if b then whole (apart name word) else nothing) ≡ whole piece
        → IsWhole rules (Some name) word piece
    go true is e =
        let same : apart name word ≡ piece = cc in
        subst (IsWhole rules (Some name) word) same (record { spelled = λ words. refl; known = and_of _ _ waits is })
    go false is e = cc

meaning_opens : (rules : List Rule) (waiting : Option Text) (word option : Text)
    → meaning_of rules waiting word ≡ opens option
    → (waiting ≡ None) × IsOpened rules word option
meaning_opens rules None word option e = (refl, opening_opens rules word option e)
meaning_opens rules (Some name) word option e = absurd (go (is_text word) e)
  where
    go : (b : Bool) → (if b then whole (apart name word) else nothing) ≡ opens option → ⊥
    go true e = cc
    go false e = cc

record AreRead (rules : List Rule) (waiting : Option Text) (words : List Text) (pieces : List Piece) : Type 0 where
  pub spelled : spelling pieces ≡ open_words waiting words
  pub known : list_all (is_piece_of rules) pieces ≡ true

with_front : (rules : List Rule) (waiting : Option Text) (word : Text) (words : List Text) (piece : Piece) (pieces : List Piece)
    → IsWhole rules waiting word piece → AreRead rules None words pieces
    → AreRead rules waiting (word ∷ words) (piece ∷ pieces)
with_front rules waiting word words piece pieces front rest = record {
  spelled = ap (λ ws. words_of piece ++ ws) rest.spelled ∙ front.spelled words;
  known = and_of _ _ front.known rest.known;
}

with_opened : (rules : List Rule) (waiting : Option Text) (word : Text) (words : List Text) (option : Text) (pieces : List Piece)
    → waiting ≡ None → IsOpened rules word option → AreRead rules (Some option) words pieces
    → AreRead rules waiting (word ∷ words) pieces
with_opened rules waiting word words option pieces idle opened rest = record {
  spelled = rest.spelled ∙ ap (λ w. w ∷ words) opened.spelled ∙ ap (λ o. open_words o (word ∷ words)) (sym idle);
  known = rest.known;
}

at_end : (rules : List Rule) (waiting : Option Text) (pieces : List Piece) → pieces_at_end waiting ≡ Some pieces
    → AreRead rules waiting [] pieces
at_end rules None pieces e = subst (AreRead rules None []) (same_Some _ _ e) (record { spelled = refl; known = refl })
at_end rules (Some name) pieces e = cc

-- what the pieces behind a word give with it
after_word : (rules : List Rule) (waiting : Option Text) (word : Text) (words : List Text) (pieces : List Piece) (m : Meaning)
    → may_wait rules waiting ≡ true
    → meaning_of rules waiting word ≡ m → after_meaning m (λ next. pieces_from rules next words) ≡ Some pieces
    → ((next : Option Text) (more : List Piece) → may_wait rules next ≡ true → pieces_from rules next words ≡ Some more → AreRead rules next words more)
    → AreRead rules waiting (word ∷ words) pieces
after_word rules waiting word words pieces (whole piece) waits is e rest = go (pieces_from rules None words) refl e
  where
    go : (o : Option (List Piece)) → pieces_from rules None words ≡ o → option_map (λ ps. piece ∷ ps) o ≡ Some pieces
        → AreRead rules waiting (word ∷ words) pieces
    go None from e = cc
    go (Some more) from e =
        subst (AreRead rules waiting (word ∷ words)) (same_Some _ _ e)
        (with_front rules waiting word words piece more (meaning_whole rules waiting word piece waits is) (rest None more refl from))
after_word rules waiting word words pieces (opens option) waits is e rest =
    let opened = meaning_opens rules waiting word option is in
    with_opened rules waiting word words option pieces opened.0 opened.1 (rest (Some option) pieces opened.1.known e)
after_word rules waiting word words pieces nothing waits is e rest = cc

read_spelled : (rules : List Rule) (words : List Text) (waiting : Option Text) (pieces : List Piece)
    → may_wait rules waiting ≡ true
    → pieces_from rules waiting words ≡ Some pieces → AreRead rules waiting words pieces
read_spelled rules [] waiting pieces waits e = at_end rules waiting pieces e
read_spelled rules (word ∷ words) waiting pieces waits e =
    after_word rules waiting word words pieces (meaning_of rules waiting word) waits refl e
    (λ next more w from. read_spelled rules words next more w from)

pub pieces_spell : (rules : List Rule) (words : List Text) (pieces : List Piece)
    → pieces_from rules None words ≡ Some pieces
    → (spelling pieces ≡ words) × (list_all (is_piece_of rules) pieces ≡ true)
pieces_spell rules words pieces e = let read = read_spelled rules words None pieces refl e in (read.spelled, read.known)
