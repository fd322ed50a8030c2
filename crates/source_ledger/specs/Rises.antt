-- The rise of a value over stretches, kept as a sum and the values at the ends of the current one.
use Rattle.std.specs.Prelude.{◌≡◌, ℕ, ◌+◌, List}
use Rattle.count_spec.specs.declared.entered.Place.TheVariants.{Only, Newest, Inside, Least}
use Rattle.count_spec.specs.declared.entered.Entered.{Entered}
use Rattle.count_spec.specs.declared.entered.Entered.TheVariants.{First, Repeat, Late}
use Rattle.count_spec.specs.Rise.{value_at_greatest, value_at_least, rise_between, first_values}
use Rattle.books_spec.specs.Views.{rise_over}
use Rattle.source_ledger.specs.Stretches.{current_of}
use Rattle.source_ledger.specs.declared.rise.Rise.{Rise}

-- the value at the greatest number, after this answer to one that shows `new`
abbrev pub greatest_after : Entered → ℕ → ℕ → ℕ
greatest_after (First Only n) new old = new
greatest_after (First Newest n) new old = new
greatest_after (First Inside n) new old = old
greatest_after (First Least n) new old = old
greatest_after Repeat new old = old
greatest_after Late new old = old

-- the value at the least number, alike
abbrev pub least_after : Entered → ℕ → ℕ → ℕ
least_after (First Only n) new old = new
least_after (First Newest n) new old = old
least_after (First Inside n) new old = old
least_after (First Least n) new old = new
least_after Repeat new old = old
least_after Late new old = old

-- what is added to the rise, from the values at the greatest and the least number
abbrev pub rise_after : Entered → ℕ → ℕ → ℕ → ℕ
rise_after (First Only n) new at_greatest at_least = 0
rise_after (First Newest n) new at_greatest at_least = rise_between at_greatest new
rise_after (First Inside n) new at_greatest at_least = 0
rise_after (First Least n) new at_greatest at_least = rise_between new at_least
rise_after Repeat new at_greatest at_least = 0
rise_after Late new at_greatest at_least = 0

-- the rise after this answer to a number that shows the value
abbrev pub risen : Rise → Entered → ℕ → Rise
risen r a value = record {
  total = r.total + rise_after a value r.at_greatest r.at_least;
  at_greatest = greatest_after a value r.at_greatest;
  at_least = least_after a value r.at_least;
}

-- the rise of this value over these stretches
pub record ShowsRise {X : Type 0} (mark value : X → ℕ) (width : ℕ) (r : Rise) (stretches : List (List X)) : Type 0 where
  pub total_is : r.total ≡ rise_over mark value width stretches
  pub greatest_is : r.at_greatest ≡ value_at_greatest (first_values mark value width (current_of stretches))
  pub least_is : r.at_least ≡ value_at_least (first_values mark value width (current_of stretches))
