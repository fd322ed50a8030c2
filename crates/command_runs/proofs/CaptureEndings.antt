-- Each input makes a run over a capture end in one way.
use Rattle.command_runs.specs.Grammars.{captures}
use Rattle.command_runs.specs.Readings.{HasOneEnding}
use Rattle.command_runs.proofs.EveryEnding.{every_ending}
use Rattle.command_runs.proofs.OneEnding.{one_ending}

pub captures_once : HasOneEnding captures
captures_once = record {
  some = every_ending;
  one = λ a input one other are first second. one_ending a input one other first second;
}
