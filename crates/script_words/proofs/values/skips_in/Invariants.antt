use Rattle.std.proofs.Common.{length, ◌≡◌, ◌≤◌, ℕ}
use Rattle.std.specs.List.{AllByRecursion}
use Rattle.script_spec.specs.Parts.{split_at}
use Rattle.script_words.proofs.SkipLists.{behind, numbers_in}
use Rattle.script_words.proofs.values.skips_in.Given as goal

abbrev pub invariant-loop-text : goal.invariant-loop-text
invariant-loop-text l = record {
  few : length l.numbers.items ≤ 1024;
  positive : AllByRecursion (λ (n : ℕ). 1 ≤ n) l.numbers.items;
  read : numbers_in (split_at 44 l.word) ≡ behind l.numbers.items (numbers_in l.words);
}

abbrev pub decreases-loop-text : goal.decreases-loop-text
decreases-loop-text l = length l.words
