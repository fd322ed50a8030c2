-- How many receivers a command needs, by its name and its pieces.
use Rattle.std.proofs.Common.{◌≡◌, ◌≢◌, ◌∙◌, ◌≤◌, ◌&&◌, ℕ, Bool, true, false, List, Option, Some, None, refl, ap, sym, subst, is_some, if◌then◌else◌, length, nat_le, arith}
use Rattle.std.specs.Prelude.{option_and_then, option_map}
use Rattle.std.specs.Option.{option_map_or}
use Rattle.std.proofs.lemmas.Bool.Decides.{nat_tests}
use Rattle.std.proofs.lemmas.Option.{same_Some}
use Rattle.books_spec.specs.declared.limits.Limits.{Limits}
use Rattle.relay_out.specs.Routes.{Route}
use Rattle.command_words.specs.declared.arguments.CommandName.{CommandName}
use Rattle.command_words.specs.declared.arguments.CommandName.TheVariants as name
use Rattle.command_words.specs.declared.collection.Collection.{Collection}
use Rattle.command_words.specs.declared.command.Command.{Command}
use Rattle.command_words.specs.declared.command.Command.TheVariants.{Replay, Collect, Relay}
use Rattle.command_words.specs.declared.trial_runs.Run.{Run}
use Rattle.command_words.specs.declared.trial_runs.Run.TheVariants.{Script, Made}
use Rattle.command_words.specs.Rules.{Rule, Text}
use Rattle.command_words.specs.Pieces.{Piece}
use Rattle.command_words.specs.Reading.{lawful_pieces, pieces_from}
use Rattle.command_words.specs.Commands.{collection_of, command_named, command_with, interfaces_of, limits_of, receivers_needed, route_count_of, routes_of, rules_of, run_of, trial_under, trial_with, with_receivers}
use Rattle.command_words.proofs.Asked.{lawful_made}
use Rattle.command_words.proofs.Given.{from_map, from_step}

abbrev needed : CommandName → List Piece → ℕ
needed name.Relay pieces = route_count_of pieces
needed _ pieces = 0

trial_needs : (limits : Limits) (interfaces : Bool) (run : Run)
    → 0 ≡ receivers_needed (trial_with limits interfaces run)
trial_needs limits interfaces Script = refl
trial_needs limits interfaces (Made seed packets) = refl

needs : (command : CommandName) (pieces : List Piece) (c : Command) → command_with command pieces ≡ Some c
    → needed command pieces ≡ receivers_needed c
needs name.Replay pieces c e = go (limits_of pieces) e
  where
    go : (o : Option Limits) → option_map (λ limits. Replay limits (interfaces_of pieces)) o ≡ Some c → 0 ≡ receivers_needed c
    go None e = cc
    go (Some limits) e = ap receivers_needed (same_Some _ _ e)
needs name.Trial pieces c e =
    from_step (λ d. 0 ≡ receivers_needed d) (trial_under pieces) (limits_of pieces) c
    (λ limits _. from_map (λ d. 0 ≡ receivers_needed d) (trial_with limits (interfaces_of pieces)) (run_of pieces) c
    (λ run _. trial_needs limits (interfaces_of pieces) run)) e
needs name.Collect pieces c e = go (collection_of pieces) e
  where
    go : (o : Option Collection) → option_map (λ asked. Collect asked) o ≡ Some c → 0 ≡ receivers_needed c
    go None e = cc
    go (Some asked) e = ap receivers_needed (same_Some _ _ e)
needs name.Show pieces c e = ap receivers_needed (same_Some _ _ e)
needs name.Check pieces c e = ap receivers_needed (same_Some _ _ e)
needs name.Canon pieces c e = ap receivers_needed (same_Some _ _ e)
needs name.Pcap pieces c e = ap receivers_needed (same_Some _ _ e)
needs name.Send pieces c e = ap receivers_needed (same_Some _ _ e)
needs name.Agent pieces c e = ap receivers_needed (same_Some _ _ e)
needs name.Relay pieces c e = go (collection_of pieces) (routes_of pieces) e
  where
    go : (k : Option Collection) (o : Option (List Route))
        → option_and_then (λ asked. option_map (λ routes. Relay asked routes) o) k ≡ Some c
        → option_map_or (λ (rs : List Route). length rs) o 0 ≡ receivers_needed c
    go None o e = cc
    go (Some asked) None e = cc
    go (Some asked) (Some routes) e = ap receivers_needed (same_Some _ _ e)

named_needs : (command : CommandName) (words : List Text) (n : ℕ) (c : Command)
    → ((pieces : List Piece) → lawful_pieces (rules_of command) words ≡ Some pieces → n ≡ needed command pieces)
    → command_named words command ≡ Some c → n ≡ receivers_needed c
named_needs command words n c counts e = go (lawful_pieces (rules_of command) words) refl e
  where
    go : (o : Option (List Piece)) → lawful_pieces (rules_of command) words ≡ o
        → option_and_then (command_with command) o ≡ Some c → n ≡ receivers_needed c
    go None read e = cc
    go (Some pieces) read e = counts pieces read ∙ needs command pieces c e

-- `relay` needs one for each route
pub relay_needs : (command : CommandName) (words : List Text) (rules : List Rule) (n : ℕ) → command ≡ name.Relay
    → rules ≡ rules_of command
    → ((pieces : List Piece) → pieces_from rules None words ≡ Some pieces → n ≡ route_count_of pieces)
    → (c : Command) → command_named words command ≡ Some c → n ≡ receivers_needed c
relay_needs command words rules n is same counts c e =
    named_needs command words n c
    (λ pieces read. counts pieces (lawful_made rules words pieces (ap (λ rs. lawful_pieces rs words) same ∙ read))
    ∙ ap (λ k. needed k pieces) (sym is))
    e

other : (command : CommandName) (pieces : List Piece) → command ≢ name.Relay → 0 ≡ needed command pieces
other name.Replay pieces unlike = refl
other name.Show pieces unlike = refl
other name.Check pieces unlike = refl
other name.Canon pieces unlike = refl
other name.Pcap pieces unlike = refl
other name.Collect pieces unlike = refl
other name.Send pieces unlike = refl
other name.Agent pieces unlike = refl
other name.Trial pieces unlike = refl
other name.Relay pieces unlike = absurd (unlike refl)

-- the others need none
pub others_need : (command : CommandName) (words : List Text) → command ≢ name.Relay
    → (c : Command) → command_named words command ≡ Some c → 0 ≡ receivers_needed c
others_need command words unlike c e = named_needs command words 0 c (λ pieces read. other command pieces unlike) e

-- ---- with so many receivers

pub asked_for : (receivers n : ℕ) (o : Option Command) (b : Bool) → b ≡ is_some o
    → ((c : Command) → o ≡ Some c → n ≡ receivers_needed c)
    → (b && nat_le n receivers) ≡ is_some (option_and_then (with_receivers receivers) o)
asked_for receivers n None b is counts = ap (λ x. x && nat_le n receivers) is
asked_for receivers n (Some c) b is counts =
    ap (λ x. x && nat_le n receivers) is ∙ ap (λ m. nat_le m receivers) (counts c refl)
    ∙ go (nat_le (receivers_needed c) receivers)
  where
    go : (e : Bool) → e ≡ is_some (if e then Some c else None)
    go true = refl
    go false = refl

pub none_for : (receivers : ℕ) (o : Option Command) → false ≡ is_some o
    → false ≡ is_some (option_and_then (with_receivers receivers) o)
none_for receivers None is = refl
none_for receivers (Some c) is = cc

-- where there are enough, it is the same command
pub for_receivers : (receivers : ℕ) (o : Option Command) (c : Command) (b : Bool)
    → b ≡ is_some (option_and_then (with_receivers receivers) o) → b ≡ true → o ≡ Some c
    → option_and_then (with_receivers receivers) o ≡ Some c
for_receivers receivers o c b is holds some =
    ap (option_and_then (with_receivers receivers)) some
    ∙ go (nat_le (receivers_needed c) receivers)
    (sym holds ∙ is ∙ ap (λ p. is_some (option_and_then (with_receivers receivers) p)) some)
  where
    go : (e : Bool) → true ≡ is_some (if e then Some c else None) → (if e then Some c else None) ≡ Some c
    go true is = refl
    go false is = cc

pub enough_receivers : (receivers : ℕ) (o : Option Command) (c : Command)
    → option_and_then (with_receivers receivers) o ≡ Some c → receivers_needed c ≤ receivers
enough_receivers receivers None c e = cc
enough_receivers receivers (Some d) c e = go (nat_le (receivers_needed d) receivers) refl e
  where
    go : (b : Bool) → nat_le (receivers_needed d) receivers ≡ b → (if b then Some d else None) ≡ Some c
        → receivers_needed c ≤ receivers
    go true is e =
        let fits : receivers_needed d ≤ receivers = grind (arith, nat_tests) in
        subst (λ (k : Command). receivers_needed k ≤ receivers) (same_Some _ _ e) fits
    go false is e = cc
