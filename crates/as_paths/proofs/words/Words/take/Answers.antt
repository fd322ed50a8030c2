use Rattle.std.proofs.Common.{refl}
use Rattle.as_paths.proofs.WordRuns.{words_taken, words_passed}
use Rattle.as_paths.proofs.words.Words.take.Goals as goal

pub returns-then-left-count : goal.returns-then-left-count
returns-then-left-count c = (
  words_taken c.args.count c.at-at.result c.left-left.result c.args.cursor.now c.at-at.ensures.bytes
      c.at-at.ensures.place c.left-left.ensures c.if-left-count.true,
  refl,
)

pub returns : goal.returns
returns c =
    let passed = words_passed c.args.cursor.now.pad c.args.count c.in_ok-bytes.bytes.now c.args.cursor.now c.fixed.new.self
    c.at-at.ensures.bytes c.in_ok-bytes.ensures.spelled in
    (passed.2, c.in_ok-bytes.ensures.exact.1)
