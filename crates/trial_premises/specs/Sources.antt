-- A source over the boots of its sub-agent, and the samples of each boot for which it stands: the current boot first, and
-- in each the LATEST FIRST.
use Rattle.std.specs.Prelude.{◌≡◌, ℕ, ◌≤◌, ◌<◌, List, [], ◌∷◌}
use Rattle.std.specs.List.{list_all}
use Rattle.account_spec.specs.Arrivals.{Arrived}
use Rattle.trial_spec.specs.CloseTests.{are_close_samples}
use Rattle.trial_spec.specs.ApparentTests.{are_apparent}
use Rattle.trial_premises.specs.Samples.{SourceState, Shows}

abbrev pub current_of : {X : Type 0} → List (List X) → List X
current_of [] = []
current_of (current ∷ closed) = current

-- the current boot has this number, or there is none and it is 0
pub record StandsFor (width boot : ℕ) (s : SourceState) (boots : List (List Arrived)) : Type 0 where
  pub close_is : s.close ≡ list_all (are_close_samples width) boots
  pub apparent_is : s.apparent ≡ list_all are_apparent boots
  pub boot_to : s.boot ≤ boot
  pub shows : 1 ≤ boot → s.boot ≡ boot → Shows width s (current_of boots)
  pub none : s.boot < boot → current_of boots ≡ []
