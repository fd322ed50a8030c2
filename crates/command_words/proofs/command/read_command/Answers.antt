use Rattle.std.proofs.Common.{◌≡◌, ℕ, Bool, true, false, is_some, List, Option, None, Some, refl, sym, ap, subst, ◌∙◌, map, string_bytes}
use Rattle.std.specs.Prelude.{option_and_then}
use Rattle.command_words.specs.declared.command.Command.{Command}
use Rattle.command_words.specs.Commands.{command_named, named_for, with_receivers}
use Rattle.clap.specs.declared.parser.matches.Found.{Found}
use Rattle.command_words.specs.declared.arguments.CommandName.{CommandName}
use Rattle.command_words.specs.Matching.{Holds}
use Rattle.command_words.specs.Pieces.{Piece}
use Rattle.command_words.specs.Reading.{lawful_pieces}
use Rattle.command_words.specs.Rules.{Rule, Text}
use Rattle.command_words.specs.Commands.{command_with, rules_of}
use Rattle.command_words.proofs.Needed.{enough_receivers, for_receivers}
use Rattle.command_words.proofs.Ranges.{named_lawful}
use Rattle.command_words.proofs.command.read_command.Goals as goal

none_there : (o : Option Command) (b : Bool) → b ≡ is_some o → b ≡ false → o ≡ None
none_there None b is none = refl
none_there (Some command) b is none = let both : true ≡ false = sym is ∙ none in absurd cc

-- what `clap` has read of the words makes the command
named_read : (words : List Text) (name : CommandName) (rules : List Rule) (found : Found) (b : Bool) (o : Option Command)
    (command : Command) (receivers : ℕ) → rules ≡ rules_of name → b ≡ is_some (named_for receivers words name) → b ≡ true
    → ((pieces : List Piece) → lawful_pieces rules words ≡ Some pieces → Holds found rules pieces)
    → ((pieces : List Piece) → Holds found (rules_of name) pieces → o ≡ command_with name pieces) → o ≡ Some command
    → command_named words name ≡ Some command
named_read words name rules found b o command receivers same asked is matches makes some =
    go (lawful_pieces (rules_of name) words) refl
  where
    go : (read : Option (List Piece)) → lawful_pieces (rules_of name) words ≡ read → command_named words name ≡ Some command
    go None none =
        let no : b ≡ false = asked ∙ ap (λ r. is_some (option_and_then (with_receivers receivers) (option_and_then (command_with name) r))) none in
        let both : true ≡ false = sym is ∙ no in
        absurd cc
    go (Some pieces) read =
        ap (option_and_then (command_with name)) read
        ∙ sym (makes pieces (subst (λ rs. Holds found rs pieces) same
        (matches pieces (ap (λ rs. lawful_pieces rs words) same ∙ read))))
        ∙ some

pub returns-in-Some-clause-command : goal.returns-in-Some-clause-command
returns-in-Some-clause-command c =
    for_receivers c.args.receivers (command_named (map string_bytes c.args.words.now) c.args.name) _ _ c.asks_for.ensures c.if-not-asks_for.false
    (named_read (map string_bytes c.args.words.now) c.args.name _ _ _ _ _ c.args.receivers c.arguments.ensures c.asks_for.ensures c.if-not-asks_for.false c.in-Ok.ensures.matches
    c.command_in.ensures c.in-Some.is)

pub returns-in-Some-clause-lawful : goal.returns-in-Some-clause-lawful
returns-in-Some-clause-lawful c =
    (named_lawful (map string_bytes c.args.words.now) c.args.name _
    (named_read (map string_bytes c.args.words.now) c.args.name _ _ _ _ _ c.args.receivers c.arguments.ensures c.asks_for.ensures c.if-not-asks_for.false c.in-Ok.ensures.matches
    c.command_in.ensures c.in-Some.is)).0

pub returns-in-Some-clause-length : goal.returns-in-Some-clause-length
returns-in-Some-clause-length c =
    (named_lawful (map string_bytes c.args.words.now) c.args.name _
    (named_read (map string_bytes c.args.words.now) c.args.name _ _ _ _ _ c.args.receivers c.arguments.ensures c.asks_for.ensures c.if-not-asks_for.false c.in-Ok.ensures.matches
    c.command_in.ensures c.in-Some.is)).1

pub returns-in-Some-clause-enough : goal.returns-in-Some-clause-enough
returns-in-Some-clause-enough c =
    enough_receivers c.args.receivers (command_named (map string_bytes c.args.words.now) c.args.name) _
    (for_receivers c.args.receivers (command_named (map string_bytes c.args.words.now) c.args.name) _ _ c.asks_for.ensures c.if-not-asks_for.false
    (named_read (map string_bytes c.args.words.now) c.args.name _ _ _ _ _ c.args.receivers c.arguments.ensures c.asks_for.ensures c.if-not-asks_for.false c.in-Ok.ensures.matches
    c.command_in.ensures c.in-Some.is))

pub returns-then-not-asks_for-clause-usage : goal.returns-then-not-asks_for-clause-usage
returns-then-not-asks_for-clause-usage c =
    let none =
    none_there (named_for c.args.receivers (map string_bytes c.args.words.now) c.args.name) _ c.asks_for.ensures c.if-not-asks_for.true in
    (λ _. none, λ _. refl)
