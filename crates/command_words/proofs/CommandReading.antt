-- The command that words give, and what they ask for, are the same.
use Rattle.std.proofs.Common.{◌≡◌, ◌∙◌, Bool, true, false, List, [], ◌∷◌, Option, Some, None, refl, ap, ap₂, sym, if◌then◌else◌}
use Rattle.std.specs.Prelude.{find, option_and_then}
use Rattle.std.specs.Str.{bytes_eq}
use Rattle.std.proofs.lemmas.Option.{same_Some}
use Rattle.std.proofs.lemmas.Slice.Eq.{bytes_eq-Decides}
use Rattle.command_words.specs.declared.arguments.CommandName.{CommandName}
use Rattle.command_words.specs.declared.arguments.CommandName.TheVariants as name
use Rattle.command_words.specs.declared.command.Command.{Command}
use Rattle.command_words.specs.Rules.{Text}
use Rattle.command_words.specs.Pieces.{Piece, are_rules, spelling}
use Rattle.command_words.specs.Reading.{lawful_pieces}
use Rattle.command_words.specs.Commands.{Asks, command_named, command_of, command_with, commands, name_of, rules_of, word_of}
use Rattle.command_words.proofs.LawfulReading.{lawful_read, read_lawful}

pub rules_fine : (command : CommandName) → are_rules (rules_of command) ≡ true
rules_fine name.Replay = refl
rules_fine name.Show = refl
rules_fine name.Check = refl
rules_fine name.Canon = refl
rules_fine name.Pcap = refl
rules_fine name.Collect = refl
rules_fine name.Send = refl
rules_fine name.Relay = refl
rules_fine name.Agent = refl
rules_fine name.Trial = refl

name_read : (command : CommandName) → name_of (word_of command) ≡ Some command
name_read name.Replay = refl
name_read name.Show = refl
name_read name.Check = refl
name_read name.Canon = refl
name_read name.Pcap = refl
name_read name.Collect = refl
name_read name.Send = refl
name_read name.Relay = refl
name_read name.Agent = refl
name_read name.Trial = refl

-- what is found by its word has that word
found_first : (names : List CommandName) (word : Text) (n command : CommandName)
    → (find (λ m. bytes_eq word (word_of m)) names ≡ Some command → word ≡ word_of command)
    → (b : Bool) → bytes_eq word (word_of n) ≡ b
    → (if b then Some n else find (λ m. bytes_eq word (word_of m)) names) ≡ Some command → word ≡ word_of command
found_first names word n command later true is e =
    (bytes_eq-Decides word (word_of n)).0 is ∙ ap word_of (same_Some _ _ e)
found_first names word n command later false is e = later e

found_name : (names : List CommandName) (word : Text) (command : CommandName)
    → find (λ n. bytes_eq word (word_of n)) names ≡ Some command → word ≡ word_of command
found_name [] word command e = cc
found_name (n ∷ names) word command e =
    found_first names word n command (found_name names word command) (bytes_eq word (word_of n)) refl e

read_name : (word : Text) (command : CommandName) → name_of word ≡ Some command → word ≡ word_of command
read_name word command e = found_name commands word command e

pub asked_read : (words : List Text) (pieces : List Piece) (command : Command) → Asks words pieces command
    → command_of words ≡ Some command
asked_read words pieces command asks =
    ap command_of asks.spelled
    ∙ ap (option_and_then (command_named (spelling pieces))) (name_read asks.name)
    ∙ ap (option_and_then (command_with asks.name)) (lawful_read (rules_of asks.name) (spelling pieces) pieces (rules_fine asks.name) asks.lawful refl)
    ∙ asks.values

named_asks : (word : Text) (words : List Text) (name : CommandName) (command : Command) → word ≡ word_of name
    → command_named words name ≡ Some command
    → (pieces : List Piece) × Asks (word ∷ words) pieces command
named_asks word words name command is e = go (lawful_pieces (rules_of name) words) refl e
  where
    go : (o : Option (List Piece)) → lawful_pieces (rules_of name) words ≡ o
        → option_and_then (command_with name) o ≡ Some command
        → (pieces : List Piece) × Asks (word ∷ words) pieces command
    go None read e = cc
    go (Some pieces) read e =
        let lawful = read_lawful (rules_of name) words pieces read in
        (pieces, record { name = name; spelled = ap₂ (λ w ws. w ∷ ws) is (sym lawful.1); lawful = lawful.0; values = e })

pub read_asks : (words : List Text) (command : Command) → command_of words ≡ Some command
    → (pieces : List Piece) × Asks words pieces command
read_asks [] command e = cc
read_asks (word ∷ words) command e = go (name_of word) refl e
  where
    go : (o : Option CommandName) → name_of word ≡ o → option_and_then (command_named words) o ≡ Some command
        → (pieces : List Piece) × Asks (word ∷ words) pieces command
    go None is e = cc
    go (Some name) is e = named_asks word words name command (read_name word name is) e

same_pieces : (words : List Text) (pieces others : List Piece) (command other : Command)
    → (a : Asks words pieces command) → (b : Asks words others other) → pieces ≡ others
same_pieces words pieces others command other a b =
    let spelled : ◌≡◌ {A = List Text} (word_of a.name ∷ spelling pieces) (word_of b.name ∷ spelling others) = sym a.spelled ∙ b.spelled in
    let words_are : word_of a.name ≡ word_of b.name = cc in
    let rest_is : spelling pieces ≡ spelling others = cc in
    let names : a.name ≡ b.name = same_Some _ _ (sym (name_read a.name) ∙ ap name_of words_are ∙ name_read b.name) in
    same_Some _ _ (sym (lawful_read (rules_of a.name) (spelling others) pieces (rules_fine a.name) a.lawful rest_is)
    ∙ ap (λ n. lawful_pieces (rules_of n) (spelling others)) names
    ∙ lawful_read (rules_of b.name) (spelling others) others (rules_fine b.name) b.lawful refl)

pub one_asked : (words : List Text) (pieces others : List Piece) (command other : Command) → Asks words pieces command
    → Asks words others other
    → (pieces ≡ others) × (command ≡ other)
one_asked words pieces others command other a b =
    (same_pieces words pieces others command other a b, same_Some _ _ (sym (asked_read words pieces command a) ∙ asked_read words others other b))
