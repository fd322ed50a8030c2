use Rattle.std.proofs.Common.{◌≡◌, ◌≤◌, None, drop, map, option_map, string_bytes}
use Rattle.command_words.specs.Arguments.{rules_in}
use Rattle.command_words.proofs.Counting.{count_from}
use Rattle.command_words.proofs.reading.count.Given as goal

abbrev pub invariant-loop-word : goal.invariant-loop-word
invariant-loop-word l = record {
  short : l.count ≤ l.word-index;
  same : count_from (rules_in l.arguments) l.name None 0 (map string_bytes l.words)
      ≡ count_from (rules_in l.arguments) l.name (option_map (λ option. option.now) l.waiting) l.count (map string_bytes (drop l.word-index l.words));
}
