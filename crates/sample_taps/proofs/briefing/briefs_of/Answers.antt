use Rattle.std.proofs.Common.{rules}
use Rattle.sample_taps.proofs.Waiting.{written, all_written}
use Rattle.sample_taps.proofs.briefing.briefs_of.Goals as goal

pub loop-k-preserved : goal.loop-k-preserved
loop-k-preserved c = (
  written c.args.rows.now c.args.facts.now c.loop-k.briefs c.loop-k.k _ _ c.brief.result
      (search rules) (search rules) c.loop-k.invariant.1 (search rules) c.loop-k.invariant.0 c.brief.ensures,
  search rules,
)

pub returns : goal.returns
returns c =
    all_written c.args.rows.now c.args.facts.now c.loop-k.briefs c.loop-k.k
    (search rules) (search rules) c.loop-k.invariant.1 (search rules) c.loop-k.invariant.0
