use Rattle.std.proofs.Common.{length, drop, ◌-◌, ◌≡◌, ◌≤◌}
use Rattle.script_spec.specs.Words.{hex_bytes}
use Rattle.script_words.proofs.HexBytes.{behind}
use Rattle.script_words.proofs.hex.hex_bytes_in.Given as goal

abbrev pub invariant-loop-at : goal.invariant-loop-at
invariant-loop-at l = record {
  within : l.at ≤ length l.word;
  few : length l.bytes.items ≤ 128;
  read : hex_bytes l.word ≡ behind l.bytes.items (hex_bytes (drop l.at l.word));
}

abbrev pub decreases-loop-at : goal.decreases-loop-at
decreases-loop-at l = length l.word - l.at
