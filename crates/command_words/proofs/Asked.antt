-- Whether lawful words ask for limits that a collector can have.
use Rattle.std.proofs.Common.{◌≡◌, ◌∙◌, ◌&&◌, ℕ, Bool, true, false, List, Option, Some, None, refl, ap, ap₂, sym, is_some, if◌then◌else◌}
use Rattle.std.specs.Prelude.{option_and_then, option_map}
use Rattle.std.specs.List.{list_all}
use Rattle.books_spec.specs.declared.limits.Limits.{Limits}
use Rattle.command_words.specs.declared.arguments.CommandName.{CommandName}
use Rattle.command_words.specs.declared.arguments.CommandName.TheVariants as name
use Rattle.command_words.specs.declared.command.Command.TheVariants.{Replay, Collect, Relay}
use Rattle.command_words.specs.Rules.{Text, Rule}
use Rattle.command_words.specs.Pieces.{Piece}
use Rattle.command_words.specs.Reading.{counted, is_counted, lawful_pieces, pieces_from}
use Rattle.command_words.specs.Limits.{LimitTexts}
use Rattle.command_words.specs.Commands.{collection_of, collection_with, command_named, command_with, interfaces_of, limits_of, relay_of, routes_of, rules_of, run_of, trial_of, trial_with, turns_of}
use Rattle.command_words.specs.declared.trial_runs.Run.{Run}
use Rattle.command_words.proofs.Given.{both_there}
use Rattle.relay_out.specs.Routes.{Route}

pub same_texts : {streams sources datagram_width sample_width boot_slack streams-2 sources-2 datagram_width-2 sample_width-2 boot_slack-2 : Option Text}
    → streams ≡ streams-2 → sources ≡ sources-2 → datagram_width ≡ datagram_width-2 → sample_width ≡ sample_width-2
    → boot_slack ≡ boot_slack-2
    → ◌≡◌ {A = LimitTexts} (record { streams = streams; sources = sources; datagram_width = datagram_width; sample_width = sample_width; boot_slack = boot_slack })
    (record { streams = streams-2; sources = sources-2; datagram_width = datagram_width-2; sample_width = sample_width-2; boot_slack = boot_slack-2 })
same_texts a b c d e = λ i. record { streams = a i; sources = b i; datagram_width = c i; sample_width = d i; boot_slack = e i }

-- words that are lawful are made of pieces
pub lawful_made : (rules : List Rule) (words : List Text) (pieces : List Piece) → lawful_pieces rules words ≡ Some pieces
    → pieces_from rules None words ≡ Some pieces
lawful_made rules words pieces is = go (pieces_from rules None words) refl is
  where
    kept : (qs : List Piece) (b : Bool) → (if b then Some qs else None) ≡ Some pieces → Some qs ≡ Some pieces
    kept qs true e = e
    kept qs false e = cc

    go : (o : Option (List Piece)) → pieces_from rules None words ≡ o → option_and_then (counted rules) o ≡ Some pieces
        → pieces_from rules None words ≡ Some pieces
    go None from e = cc
    go (Some qs) from e = from ∙ kept qs (list_all (is_counted qs) rules) e

is_mapped : {X Y : Type 0} (f : X → Y) (o : Option X) → is_some o ≡ is_some (option_map f o)
is_mapped f None = refl
is_mapped f (Some x) = refl

-- limits make what `replay` is asked for, and what is collected makes what `collect` is
pub replay_test : (pieces : List Piece) → is_some (limits_of pieces) ≡ is_some (command_with name.Replay pieces)
replay_test pieces = is_mapped (λ limits. Replay limits (interfaces_of pieces)) (limits_of pieces)

pub collect_test : (pieces : List Piece) → is_some (collection_of pieces) ≡ is_some (command_with name.Collect pieces)
collect_test pieces = is_mapped (λ asked. Collect asked) (collection_of pieces)

-- the limits and the number of receives make what is collected
pub both_asked : (l : Option Limits) (t : Option ℕ) (pieces : List Piece) → l ≡ limits_of pieces → t ≡ turns_of pieces
    → (is_some l && is_some t) ≡ is_some (collection_of pieces)
both_asked l t pieces limits turns =
    both_there (collection_with pieces) l t
    ∙ ap₂ (λ k u. is_some (option_and_then (λ m. option_map (collection_with pieces m) u) k)) limits turns

-- the limits and what it runs make what `trial` is asked for
pub trial_parts : (l : Option Limits) (r : Option Run) (pieces : List Piece) → l ≡ limits_of pieces → r ≡ run_of pieces
    → (is_some l && is_some r) ≡ is_some (trial_of pieces)
trial_parts l r pieces limits run =
    both_there (λ m. trial_with m (interfaces_of pieces)) l r
    ∙ ap₂ (λ k u. is_some (option_and_then (λ m. option_map (trial_with m (interfaces_of pieces)) u) k)) limits run

-- these and the routes make what `relay` is asked for
pub relay_parts : (b : Bool) (r : Option (List Route)) (pieces : List Piece) → b ≡ is_some (collection_of pieces)
    → r ≡ routes_of pieces → (b && is_some r) ≡ is_some (relay_of pieces)
relay_parts b r pieces collects routes =
    ap₂ (λ x o. x && is_some o) collects routes
    ∙ both_there (λ asked routes. Relay asked routes) (collection_of pieces) (routes_of pieces)

-- lawful words ask for the command of a name where their pieces do
pub pieces_ask : (kind command : CommandName) (words : List Text) (rules : List Rule) (b : Bool)
    → command ≡ kind → rules ≡ rules_of command → true ≡ is_some (lawful_pieces rules words)
    → ((pieces : List Piece) → pieces_from rules None words ≡ Some pieces → b ≡ is_some (command_with kind pieces))
    → b ≡ is_some (command_named words command)
pieces_ask kind command words rules b is same lawful test =
    go (lawful_pieces rules words) refl lawful
    ∙ ap (λ rs. is_some (option_and_then (command_with kind) (lawful_pieces rs words))) (same ∙ ap rules_of is)
    ∙ ap (λ n. is_some (command_named words n)) (sym is)
  where
    go : (o : Option (List Piece)) → lawful_pieces rules words ≡ o → true ≡ is_some o
        → b ≡ is_some (option_and_then (command_with kind) (lawful_pieces rules words))
    go None from some = cc
    go (Some pieces) from some =
        test pieces (lawful_made rules words pieces from)
        ∙ ap (λ o. is_some (option_and_then (command_with kind) o)) (sym from)
