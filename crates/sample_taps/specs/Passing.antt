-- Headers that are pushed become briefs: those of full batches have gone to the consumers, and the others are pending.
use Rattle.std.specs.Prelude.{◌≡◌, Bool, List, ◌++◌, map}
use Rattle.sample_taps.specs.declared.brief.Brief.{Brief}
use Rattle.sample_taps.specs.declared.class_totals.ClassTotals.{ClassTotals}
use Rattle.sample_taps.specs.Briefs.{facts_in}
use Rattle.sample_taps.specs.Classes.{with_headers}
use Rattle.sample_taps.specs.Feeding.{Held}

-- what contracts see: the briefs that no consumer was given yet, in order, and the totals of those that went
pub record BriefingState : Type 0 where
  pub pending : List Brief
  pub totals : ClassTotals

module _ {X : Type 0} (step : X → Brief → X → Type 0) (done : X → Bool) where
  -- these briefs came: of them and of those pending before, the first went to the consumers and were counted, and the
  -- others are pending, all in order
  pub record Passes (was : BriefingState) (xs : List X) (briefs : List Brief) (now : BriefingState) (ys : List X) : Type 0 where
    pub gone : List Brief
    pub in_order : gone ++ now.pending ≡ was.pending ++ briefs
    pub held : Held step done gone xs ys
    pub totals : now.totals ≡ with_headers was.totals (map facts_in gone)
