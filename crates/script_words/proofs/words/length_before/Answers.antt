use Rattle.std.proofs.Common.{◌==◌, ℕ, ◌<◌, length, sym, arith, eq-eqb}
use Rattle.std.proofs.lemmas.List.Sums.{position_or_len_is}
use Rattle.script_words.proofs.words.length_before.Goals as goal

pub returns-then-byte-separator : goal.returns-then-byte-separator
returns-then-byte-separator c =
    sym (position_or_len_is (λ (b : ℕ). b == c.args.separator) c.args.text.now c.loop-at.at 0 (omega arith)
    c.loop-at.invariant (λ inside. eq-eqb _ _ c.if-byte-separator.true))

pub returns : goal.returns
returns c =
    sym (position_or_len_is (λ (b : ℕ). b == c.args.separator) c.args.text.now (length c.args.text.now) 0 (omega arith)
    (λ k before. let inside : k < c.loop-at.at = omega arith in c.loop-at.invariant k inside)
    (λ bad. absurd (omega arith)))
