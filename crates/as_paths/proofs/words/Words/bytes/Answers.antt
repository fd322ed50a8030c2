use Rattle.std.proofs.Common.{◌≡◌, List, ℕ, subst}
use Rattle.wire_spec.specs.Shapes.{word}
use Rattle.wire_spec.specs.Spelling.{spell_all, AllTrees, IsLawful}
use Rattle.as_paths.specs.WordLists.{word_trees}
use Rattle.as_paths.proofs.WordRuns.{words_in_spelled, words_in_lawful}
use Rattle.as_paths.proofs.words.Words.bytes.Goals as goal

pub returns-clause-spelled : goal.returns-clause-spelled
returns-clause-spelled c =
    let P : List ℕ → Type 0 = λ w. spell_all (word_trees w) ≡ c.self.inside.bytes.now in
    subst P c.self.view_is (words_in_spelled c.self.inside.bytes.now c.self.invariant)

pub returns-clause-lawful : goal.returns-clause-lawful
returns-clause-lawful c =
    let P : List ℕ → Type 0 = λ w. AllTrees (IsLawful word) (word_trees w) in
    subst P c.self.view_is (words_in_lawful c.self.inside.bytes.now c.self.invariant)
