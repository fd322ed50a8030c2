use Rattle.std.proofs.Common.{◌∙◌, ℕ, [], ◌∷◌, length, sym, ap, subst, arith, length-append}
use Rattle.std.specs.List.{AllByRecursion}
use Rattle.books_spec.specs.Items.{SourceId}
use Rattle.trial_premises.specs.Samples.{SourceState}
use Rattle.trial_premises.specs.Sources.{StandsFor}
use Rattle.trial_premises.proofs.Pairs.{each-all, all-push}
use Rattle.trial_premises.proofs.streams.new_sources.Goals as goal

abbrev IsNew : SourceState → Type 0
IsNew s = (width : ℕ) → StandsFor width 0 s []

pub loop-alloc-preserved : goal.loop-alloc-preserved
loop-alloc-preserved c =
    let e = c.in_ok-push.ensures.items in
    let long = ap length e ∙ length-append c.loop-alloc.sources.items (c.new.result ∷ []) in (
      subst (AllByRecursion IsNew) (sym e)
          (all-push IsNew c.loop-alloc.sources.items c.new.result c.loop-alloc.invariant.0 c.new.ensures),
      omega (arith, long, c.loop-alloc.invariant.1),
    )

pub returns : goal.returns
returns c = λ ids width long.
    each-all (λ (id : SourceId) (s : SourceState). StandsFor width 0 s []) IsNew ids c.loop-alloc.sources.items
    (λ id s h. h width) (omega (arith, long, c.loop-alloc.invariant.1)) c.loop-alloc.invariant.0
