use Rattle.std.proofs.Common.{◌≡◌, Option, Some, None, List, ℕ, drop, map, option_map, string_bytes}
use Rattle.command_words.specs.Arguments.{rules_in}
use Rattle.command_words.proofs.Texts.{text_from}
use Rattle.command_words.proofs.reading.text.Given as goal

abbrev pub invariant-loop-word : goal.invariant-loop-word
invariant-loop-word l = record {
  same : (t : Option (List ℕ)) → Some t ≡ text_from (rules_in l.arguments) l.name None (map string_bytes l.words)
      → Some t ≡ text_from (rules_in l.arguments) l.name (option_map (λ option. option.now) l.waiting) (map string_bytes (drop l.word-index l.words));
}
