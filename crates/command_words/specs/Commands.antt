-- The commands: their names, their rules, and what lawful words ask for.
use Rattle.std.specs.Prelude.{◌≡◌, ℕ, Bool, List, [], ◌∷◌, Option, Some, None, codes, find, if◌then◌else◌, length, nat_le, nat_lt, option_and_then, option_map}
use Rattle.std.specs.Option.{option_map_or}
use Rattle.std.specs.Str.{bytes_eq}
use Rattle.wire_spec.specs.declared.pad.Pad.{Pad}
use Rattle.wire_spec.specs.declared.pad.Pad.TheVariants.{Any, Zero}
use Rattle.command_words.specs.declared.arguments.Form.TheVariants.{Flag, Optional, Required}
use Rattle.command_words.specs.declared.arguments.CommandName.{CommandName}
use Rattle.command_words.specs.declared.arguments.CommandName.TheVariants as name
use Rattle.capture_spec.specs.declared.pcap_output.PcapOutput.{PcapOutput}
use Rattle.capture_spec.specs.declared.pcap_output.PcapOutput.TheVariants.{Capture, Counts}
use Rattle.command_words.specs.declared.command.CanonVersion.{CanonVersion}
use Rattle.command_words.specs.declared.command.CanonVersion.TheVariants as canon
use Rattle.command_words.specs.declared.collection.Collection.{Collection}
use Rattle.command_words.specs.declared.command.Command.{Command}
use Rattle.command_words.specs.declared.command.Command.TheVariants.{Replay, Show, Check, Canon, Pcap, Collect, Send, Relay, Agent, Trial, TrialMade}
use Rattle.relay_out.specs.Routes.{Route}
use Rattle.command_words.specs.Rules.{Text, Rule}
use Rattle.books_spec.specs.declared.limits.Limits.{Limits}
use Rattle.command_words.specs.Pieces.{Piece, AreLawful, count_of, spelling, text_of}
use Rattle.command_words.specs.Limits.{limits_asked, texts_by}
use Rattle.command_words.specs.Collections.{place_or, routes_asked, turns_asked}
use Rattle.command_words.specs.declared.trial_runs.Run.{Run}
use Rattle.command_words.specs.declared.trial_runs.Run.TheVariants.{Script, Made}
use Rattle.command_words.specs.Runs.{IsRunLength, run_asked}
use Rattle.books_spec.specs.Limits.{AreLawful as AreWithin}
use Rattle.command_words.specs.Reading.{lawful_pieces}

-- the padding is zero where the flag stands
abbrev pub pad_of : List Piece → Pad
pad_of pieces = if nat_lt 0 (count_of (codes "zero") pieces) then Zero else Any

-- with the lines of interfaces where the flag stands
abbrev pub interfaces_of : List Piece → Bool
interfaces_of pieces = nat_lt 0 (count_of (codes "interfaces") pieces)

-- version 2 where the flag stands
abbrev pub canon_version_of : List Piece → CanonVersion
canon_version_of pieces = if nat_lt 0 (count_of (codes "migrate") pieces) then canon.Two else canon.Same

-- the counts where the flag stands
abbrev pub output_of : List Piece → PcapOutput
output_of pieces = if nat_lt 0 (count_of (codes "count") pieces) then Counts else Capture

-- the limits of its options
abbrev pub limits_of : List Piece → Option Limits
limits_of pieces = limits_asked (texts_by (λ name. text_of name pieces))

-- how many receives its option asks for
abbrev pub turns_of : List Piece → Option ℕ
turns_of pieces = turns_asked (text_of (codes "turns") pieces)

-- where it listens, and where its datagrams go
abbrev pub listen_of : List Piece → Text
listen_of pieces = place_or (codes "0.0.0.0:6343") (text_of (codes "listen") pieces)

abbrev pub to_of : List Piece → Text
to_of pieces = place_or (codes "127.0.0.1:6343") (text_of (codes "to") pieces)

-- what `collect` is asked for
abbrev pub collection_with : List Piece → Limits → ℕ → Collection
collection_with pieces limits turns =
    record { turns = turns; listen = listen_of pieces; limits = limits; interfaces = interfaces_of pieces }

abbrev pub collection_under : List Piece → Limits → Option Collection
collection_under pieces limits = option_map (collection_with pieces limits) (turns_of pieces)

abbrev pub collection_of : List Piece → Option Collection
collection_of pieces = option_and_then (collection_under pieces) (limits_of pieces)

-- where the datagrams go that `relay` passes on
abbrev pub routes_of : List Piece → Option (List Route)
routes_of pieces = routes_asked (text_of (codes "routes") pieces)

-- how many they are, and none where there are no routes
abbrev pub route_count_of : List Piece → ℕ
route_count_of pieces = option_map_or (λ routes. length routes) (routes_of pieces) 0

-- what `relay` is asked for
abbrev pub relay_under : List Piece → Collection → Option Command
relay_under pieces asked = option_map (λ routes. Relay asked routes) (routes_of pieces)

abbrev pub relay_of : List Piece → Option Command
relay_of pieces = option_and_then (relay_under pieces) (collection_of pieces)

-- what `trial` runs
abbrev pub run_of : List Piece → Option Run
run_of pieces = run_asked (text_of (codes "made") pieces) (text_of (codes "packets") pieces)

-- what `trial` is asked for
abbrev pub trial_with : Limits → Bool → Run → Command
trial_with limits interfaces Script = Trial limits interfaces
trial_with limits interfaces (Made seed packets) = TrialMade limits interfaces seed packets

abbrev pub trial_under : List Piece → Limits → Option Command
trial_under pieces limits = option_map (trial_with limits (interfaces_of pieces)) (run_of pieces)

abbrev pub trial_of : List Piece → Option Command
trial_of pieces = option_and_then (trial_under pieces) (limits_of pieces)

-- the limits of a command, where it has some, are within their ranges
abbrev pub HasLawfulLimits : Command → Type 0
HasLawfulLimits (Replay limits interfaces) = AreWithin limits
HasLawfulLimits (Trial limits interfaces) = AreWithin limits
HasLawfulLimits (TrialMade limits interfaces seed packets) = AreWithin limits
HasLawfulLimits (Collect asked) = AreWithin asked.limits
HasLawfulLimits (Relay asked routes) = AreWithin asked.limits
HasLawfulLimits _ = Unit {0}

-- a made run has as many packets as it may have
abbrev pub HasLawfulLength : Command → Type 0
HasLawfulLength (TrialMade limits interfaces seed packets) = IsRunLength packets
HasLawfulLength _ = Unit {0}

-- a command: its first word, its options and flags, and what it is with the values of its pieces, or None where one of
-- them is out of its range
pub record CommandRow : Type 0 where
  pub word : Text
  pub rules : List Rule
  pub gives : List Piece → Option Command

-- the options of the limits, the flag for the lines of interfaces, and these
abbrev pub with_limits : List Rule → List Rule
with_limits more =
    record { name = codes "streams"; form = Optional }
    ∷ record { name = codes "sources"; form = Optional }
    ∷ record { name = codes "datagram-width"; form = Optional }
    ∷ record { name = codes "sample-width"; form = Optional }
    ∷ record { name = codes "boot-slack"; form = Optional }
    ∷ record { name = codes "interfaces"; form = Flag }
    ∷ more

abbrev pub replay_row : CommandRow
replay_row = record {
  word = codes "replay";
  rules = with_limits [];
  gives = λ pieces. option_map (λ limits. Replay limits (interfaces_of pieces)) (limits_of pieces);
}

abbrev pub show_row : CommandRow
show_row = record { word = codes "show"; rules = []; gives = λ pieces. Some Show }

abbrev pub check_row : CommandRow
check_row = record {
  word = codes "check";
  rules = record { name = codes "zero"; form = Flag } ∷ [];
  gives = λ pieces. Some (Check (pad_of pieces));
}

abbrev pub canon_row : CommandRow
canon_row = record {
  word = codes "canon";
  rules = record { name = codes "migrate"; form = Flag } ∷ [];
  gives = λ pieces. Some (Canon (canon_version_of pieces));
}

abbrev pub pcap_row : CommandRow
pcap_row = record {
  word = codes "pcap";
  rules = record { name = codes "count"; form = Flag } ∷ [];
  gives = λ pieces. Some (Pcap (output_of pieces));
}

abbrev pub collect_row : CommandRow
collect_row = record {
  word = codes "collect";
  rules =
      with_limits (
      record { name = codes "turns"; form = Required }
      ∷ record { name = codes "listen"; form = Optional }
      ∷ []);
  gives = λ pieces. option_map (λ asked. Collect asked) (collection_of pieces);
}

abbrev pub send_row : CommandRow
send_row = record {
  word = codes "send";
  rules = record { name = codes "to"; form = Optional } ∷ [];
  gives = λ pieces. Some (Send (to_of pieces));
}

abbrev pub relay_row : CommandRow
relay_row = record {
  word = codes "relay";
  rules =
      with_limits (
      record { name = codes "turns"; form = Required }
      ∷ record { name = codes "listen"; form = Optional }
      ∷ record { name = codes "routes"; form = Required }
      ∷ []);
  gives = relay_of;
}

abbrev pub agent_row : CommandRow
agent_row = record { word = codes "agent"; rules = []; gives = λ pieces. Some Agent }

abbrev pub trial_row : CommandRow
trial_row = record {
  word = codes "trial";
  rules =
      with_limits (
      record { name = codes "made"; form = Optional }
      ∷ record { name = codes "packets"; form = Optional }
      ∷ []);
  gives = trial_of;
}

abbrev pub row_of : CommandName → CommandRow
row_of name.Replay = replay_row
row_of name.Show = show_row
row_of name.Check = check_row
row_of name.Canon = canon_row
row_of name.Pcap = pcap_row
row_of name.Collect = collect_row
row_of name.Send = send_row
row_of name.Relay = relay_row
row_of name.Agent = agent_row
row_of name.Trial = trial_row

abbrev pub commands : List CommandName
commands = name.Replay ∷ name.Show ∷ name.Check ∷ name.Canon ∷ name.Pcap ∷ name.Collect ∷ name.Send ∷ name.Relay
    ∷ name.Agent ∷ name.Trial ∷ []

-- ---- the same for all commands

abbrev pub word_of : CommandName → Text
word_of command = (row_of command).word

abbrev pub rules_of : CommandName → List Rule
rules_of command = (row_of command).rules

abbrev pub command_with : CommandName → List Piece → Option Command
command_with command = (row_of command).gives

-- the command whose first word this is
abbrev pub name_of : Text → Option CommandName
name_of word = find (λ command. bytes_eq word (word_of command)) commands

-- the words are a command's name and lawful pieces, which give the command its values
pub record Asks (words : List Text) (pieces : List Piece) (command : Command) : Type 0 where
  pub name : CommandName
  pub spelled : words ≡ word_of name ∷ spelling pieces
  pub lawful : AreLawful (rules_of name) pieces
  pub values : command_with name pieces ≡ Some command

abbrev pub command_named : List Text → CommandName → Option Command
command_named words name = option_and_then (command_with name) (lawful_pieces (rules_of name) words)

-- the command that the words ask for, or None where they ask for none
abbrev pub command_of : List Text → Option Command
command_of [] = None
command_of (word ∷ words) = option_and_then (command_named words) (name_of word)

-- ---- with receivers that are handed in

-- how many a command needs: one for each route
abbrev pub receivers_needed : Command → ℕ
receivers_needed (Relay asked routes) = length routes
receivers_needed _ = 0

abbrev pub with_receivers : ℕ → Command → Option Command
with_receivers receivers c = if nat_le (receivers_needed c) receivers then Some c else None

-- the command that the words ask for, or None where they ask for none or for more receivers than there are
abbrev pub command_for : ℕ → List Text → Option Command
command_for receivers words = option_and_then (with_receivers receivers) (command_of words)

-- the same of the command of this name, from the words behind it
abbrev pub named_for : ℕ → List Text → CommandName → Option Command
named_for receivers words name = option_and_then (with_receivers receivers) (command_named words name)
