use Rattle.std.proofs.Common.{◌≡◌, ◌<◌, ◌/◌, ℕ, List, ap, subst, ◌∙◌, sym, arith, length}
use Rattle.std.specs.Prelude.{slice_get, Option, Some}
use Rattle.as_paths.proofs.WordRuns.{word_in, length-words_in}
use Rattle.as_paths.proofs.words.Words.get.Goals as goal

pub word_of-requires : goal.word_of-requires
word_of-requires c =
    omega (arith, c.if-place-len.false, c.len.ensures, length-words_in c.self.inside.bytes.now, ap length c.self.view_is)

pub returns-clause-some : goal.returns-clause-some
returns-clause-some c =
    let bytes = c.self.inside.bytes.now in
    let less : c.args.place < length bytes / 4 =
    omega (arith, c.if-place-len.false, c.len.ensures, length-words_in bytes, ap length c.self.view_is) in
    let found : ℕ → Option ℕ = λ n. Some n in
    let P : List ℕ → Type 0 = λ w. slice_get w c.args.place ≡ Some c.word_of.result in
    subst P c.self.view_is (word_in c.args.place bytes less ∙ ap found (sym c.word_of.ensures))
