-- Limits that words ask for are within their ranges, and so is the length of a made run.
use Rattle.std.proofs.Common.{◌≡◌, ◌&&◌, ℕ, Bool, true, false, List, [], ◌∷◌, Option, Some, None, refl, subst, arith, nat_le, if◌then◌else◌}
use Rattle.std.specs.Prelude.{codes, option_and_then}
use Rattle.std.proofs.lemmas.Bool.Decides.{nat_tests}
use Rattle.std.proofs.lemmas.Option.{same_Some}
use Rattle.books_spec.specs.declared.limits.Limits.{Limits}
use Rattle.books_spec.specs.Limits.{AreLawful, refused_limit}
use Rattle.command_words.specs.declared.arguments.CommandName.{CommandName}
use Rattle.command_words.specs.declared.arguments.CommandName.TheVariants as name
use Rattle.command_words.specs.declared.collection.Collection.{Collection}
use Rattle.command_words.specs.declared.command.Command.{Command}
use Rattle.command_words.specs.declared.command.Command.TheVariants.{Replay, Collect, Relay}
use Rattle.command_words.specs.declared.trial_runs.Run.{Run}
use Rattle.command_words.specs.declared.trial_runs.Run.TheVariants.{Script, Made}
use Rattle.command_words.specs.Rules.{Text}
use Rattle.command_words.specs.Pieces.{Piece, text_of}
use Rattle.command_words.specs.Limits.{LimitTexts, limits_asked, number_or, texts_by, unless_refused, with_number}
use Rattle.command_words.specs.Numbers.{number_in, wide_number_in}
use Rattle.command_words.specs.Runs.{IsRunLength, made_with, packets_asked, run_asked, unless_outside}
use Rattle.command_words.specs.Commands.{HasLawfulLength, HasLawfulLimits, collection_of, collection_under, collection_with, command_named, command_of, command_with, interfaces_of, limits_of, name_of, relay_under, routes_of, run_of, trial_under, trial_with, turns_of}
use Rattle.command_words.specs.Reading.{lawful_pieces}
use Rattle.command_words.specs.Commands.{rules_of}
use Rattle.command_words.proofs.Given.{from_map, from_step}

not_refused : (limits given : Limits) (o : Option ℕ) → refused_limit limits ≡ o → unless_refused o limits ≡ Some given
    → AreLawful given
not_refused limits given None is e = subst AreLawful (same_Some _ _ e) is
not_refused limits given (Some number) is e = cc

numbered : (usual : ℕ) (text : Option Text) (more : ℕ → Option Limits) (given : Limits)
    → with_number usual text more ≡ Some given
    → ((n : ℕ) → more n ≡ Some given → AreLawful given)
    → AreLawful given
numbered usual text more given e each = go (number_or usual text) e
  where
    go : (o : Option ℕ) → option_and_then more o ≡ Some given → AreLawful given
    go None e = cc
    go (Some n) e = each n e

asked_within : (texts : LimitTexts) (given : Limits) → limits_asked texts ≡ Some given → AreLawful given
asked_within texts given e =
    numbered _ texts.streams _ given e (λ streams e.
    numbered _ texts.sources _ given e (λ sources e.
    numbered _ texts.datagram_width _ given e (λ datagram_width e.
    numbered _ texts.sample_width _ given e (λ sample_width e.
    numbered _ texts.boot_slack _ given e (λ boot_slack e. not_refused (record { streams = streams; sources = sources; datagram_width = datagram_width; sample_width = sample_width; boot_slack = boot_slack }) given _ refl e)))))

limits_within : (pieces : List Piece) (given : Limits) → limits_of pieces ≡ Some given → AreLawful given
limits_within pieces given e = asked_within (texts_by (λ name. text_of name pieces)) given e

collected_within : (pieces : List Piece) (asked : Collection) → collection_of pieces ≡ Some asked
    → AreLawful asked.limits
collected_within pieces asked e =
    from_step (λ (a : Collection). AreLawful a.limits) (collection_under pieces) (limits_of pieces) asked
    (λ limits is. from_map (λ (a : Collection). AreLawful a.limits) (collection_with pieces limits) (turns_of pieces) asked
    (λ turns _. limits_within pieces limits is)) e

-- ---- the length of a made run

abbrev HasLength : Run → Type 0
HasLength Script = Unit {0}
HasLength (Made seed packets) = IsRunLength packets

length_within : (n packets : ℕ) → unless_outside n ≡ Some packets → IsRunLength packets
length_within n packets e = go (nat_le 1 n) refl (nat_le n 10000000) refl e
  where
    go : (a : Bool) → nat_le 1 n ≡ a → (b : Bool) → nat_le n 10000000 ≡ b
        → (if a && b then Some n else None) ≡ Some packets → IsRunLength packets
    go true least true most e =
        let within : IsRunLength n = (grind (arith, nat_tests), grind (arith, nat_tests)) in
        subst IsRunLength (same_Some _ _ e) within
    go true least false most e = cc
    go false least b most e = cc

run_within : (seed packets : Option Text) (run : Run) → run_asked seed packets ≡ Some run → HasLength run
run_within None None run e = subst HasLength (same_Some _ _ e) tt
run_within None (Some packets) run e = cc
run_within (Some seed) None run e = cc
run_within (Some seed) (Some packets) run e =
    from_step HasLength (made_with packets) (wide_number_in seed) run
    (λ s _. from_map HasLength (Made s) (packets_asked packets) run
    (λ k is. from_step IsRunLength unless_outside (number_in packets) k (λ n _. length_within n k) is)) e

-- ---- each command

abbrev IsLawful : Command → Type 0
IsLawful c = HasLawfulLimits c × HasLawfulLength c

tried : (limits : Limits) (interfaces : Bool) (run : Run) → AreLawful limits → HasLength run
    → IsLawful (trial_with limits interfaces run)
tried limits interfaces Script within short = (within, tt)
tried limits interfaces (Made seed packets) within short = (within, short)

with_lawful : (command : CommandName) (pieces : List Piece) (c : Command) → command_with command pieces ≡ Some c
    → IsLawful c
with_lawful name.Replay pieces c e =
    from_map IsLawful (λ limits. Replay limits (interfaces_of pieces)) (limits_of pieces) c
    (λ limits is. (limits_within pieces limits is, tt)) e
with_lawful name.Trial pieces c e =
    from_step IsLawful (trial_under pieces) (limits_of pieces) c
    (λ limits is. from_map IsLawful (trial_with limits (interfaces_of pieces)) (run_of pieces) c
    (λ run asked. tried limits (interfaces_of pieces) run (limits_within pieces limits is)
    (run_within (text_of (codes "made") pieces) (text_of (codes "packets") pieces) run asked))) e
with_lawful name.Collect pieces c e =
    from_map IsLawful (λ asked. Collect asked) (collection_of pieces) c
    (λ asked is. (collected_within pieces asked is, tt)) e
with_lawful name.Relay pieces c e =
    from_step IsLawful (relay_under pieces) (collection_of pieces) c
    (λ asked is. from_map IsLawful (λ routes. Relay asked routes) (routes_of pieces) c
    (λ routes _. (collected_within pieces asked is, tt))) e
with_lawful name.Show pieces c e = subst IsLawful (same_Some _ _ e) (tt, tt)
with_lawful name.Check pieces c e = subst IsLawful (same_Some _ _ e) (tt, tt)
with_lawful name.Canon pieces c e = subst IsLawful (same_Some _ _ e) (tt, tt)
with_lawful name.Pcap pieces c e = subst IsLawful (same_Some _ _ e) (tt, tt)
with_lawful name.Send pieces c e = subst IsLawful (same_Some _ _ e) (tt, tt)
with_lawful name.Agent pieces c e = subst IsLawful (same_Some _ _ e) (tt, tt)

pub named_lawful : (words : List Text) (command : CommandName) (c : Command) → command_named words command ≡ Some c
    → HasLawfulLimits c × HasLawfulLength c
named_lawful words command c e =
    from_step IsLawful (command_with command) (lawful_pieces (rules_of command) words) c
    (λ pieces _. with_lawful command pieces c) e

pub words_lawful : (words : List Text) (c : Command) → command_of words ≡ Some c
    → HasLawfulLimits c × HasLawfulLength c
words_lawful [] c e = cc
words_lawful (word ∷ words) c e =
    from_step IsLawful (command_named words) (name_of word) c (λ command _. named_lawful words command c) e
