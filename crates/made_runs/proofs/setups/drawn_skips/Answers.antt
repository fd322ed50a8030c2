use Rattle.std.proofs.Common.{◌≡◌, ◌∙◌, subst}
use Rattle.std.specs.Prelude.{Option, IfSome, List, ℕ}
use Rattle.made_runs.proofs.Skips.{are-skips, some-of}
use Rattle.made_runs.proofs.setups.drawn_skips.Goals as goal

pub unwrap-requires : goal.unwrap-requires
unwrap-requires c = some-of c.new.result (λ none.
    are-skips c.args.seed c.deref.result.now (c.deref.ensures.value ∙ c.in_ok-numbers.ensures) (c.new.ensures.none.0 none))

pub returns : goal.returns
returns c =
    let P : Option (List ℕ) → Type 0 = λ o. IfSome o (λ s. s ≡ c.deref.result.now) in
    let same : c.unwrap.result ≡ c.deref.result.now = subst P c.unwrap.ensures c.new.ensures.some in
    same ∙ c.deref.ensures.value ∙ c.in_ok-numbers.ensures
