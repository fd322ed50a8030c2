-- What `trial` runs: a script, or the made run of a seed and a number of packets.
use Rattle.std.specs.Prelude.{ℕ, ◌≤◌, ◌&&◌, Bool, nat_le, Option, Some, None, if◌then◌else◌, option_and_then, option_map}
use Rattle.command_words.specs.declared.trial_runs.Run.{Run}
use Rattle.command_words.specs.declared.trial_runs.Run.TheVariants.{Script, Made}
use Rattle.command_words.specs.Rules.{Text}
use Rattle.command_words.specs.Numbers.{number_in, wide_number_in}

-- how many packets a made run may have
abbrev pub IsRunLength : ℕ → Type 0
IsRunLength packets = (1 ≤ packets) × (packets ≤ 10000000)

abbrev pub is_run_length : ℕ → Bool
is_run_length packets = nat_le 1 packets && nat_le packets 10000000

abbrev pub unless_outside : ℕ → Option ℕ
unless_outside packets = if is_run_length packets then Some packets else None

-- the number that the text writes, within that range
abbrev pub packets_asked : Text → Option ℕ
packets_asked text = option_and_then unless_outside (number_in text)

abbrev pub made_with : Text → ℕ → Option Run
made_with packets seed = option_map (Made seed) (packets_asked packets)

-- the seed and the number of packets go together; without both it is a script
abbrev pub run_asked : Option Text → Option Text → Option Run
run_asked None None = Some Script
run_asked None (Some packets) = None
run_asked (Some seed) None = None
run_asked (Some seed) (Some packets) = option_and_then (made_with packets) (wide_number_in seed)
