-- What is kept of the boots of a sub-agent, and the deliveries for which it stands: the LATEST FIRST.
use Rattle.std.specs.Prelude.{◌≡◌, ℕ, ◌==◌, nat_lt, Bool, true, cond, ◌&&◌, ◌||◌, Option, Some, None, option_map, List, [], ◌∷◌, ◌-ℤ◌}
use Rattle.account_spec.specs.Deliveries.{Delivery, boot_of, number_of}
use Rattle.trial_spec.specs.VisibleTests.{NewestBoot, newest_boot, tells, are_visible}
use Rattle.trial_spec.specs.CloseTests.{are_close_each}
use Rattle.trial_premises.specs.declared.delivered.TrueDatagram.{TrueDatagram}
use Rattle.trial_premises.specs.Delivered.{mark, newest_shown}
use Rattle.trial_premises.specs.Newest.{KeepsNewest}

pub record BootState : Type 0 where
  -- of the newest boot, the first delivery of its newest datagram
  pub newest : Option TrueDatagram
  -- the newest number of each boot
  pub numbers : List (Option ℕ)
  pub visible : Bool
  pub close : Bool

-- the newest boot, or 0
abbrev pub newest_of_boots : Option TrueDatagram → ℕ
newest_of_boots None = 0
newest_of_boots (Some t) = t.boot

-- whether a delivery shows its boot after that one, if there is one
abbrev pub shows_after : ℕ → Option TrueDatagram → TrueDatagram → Bool
shows_after slack None t = true
shows_after slack (Some n) t = tells slack (mark t -ℤ mark n) t.boot n.boot

-- the newest datagram of the newest boot, with one more
abbrev pub with_datagram : Option TrueDatagram → TrueDatagram → TrueDatagram
with_datagram None t = t
with_datagram (Some n) t = cond (nat_lt n.boot t.boot || ((t.boot == n.boot) && nat_lt n.number t.number)) t n

abbrev pub newest_among : List Delivery → Option NewestBoot
newest_among [] = None
newest_among (d ∷ before) = Some (newest_boot d before)

pub record StandsFor (slack : ℕ) (s : BootState) (deliveries : List Delivery) : Type 0 where
  pub newest_is : option_map newest_shown s.newest ≡ newest_among deliveries
  pub visible_is : s.visible ≡ are_visible slack deliveries
  pub numbers_are : KeepsNewest boot_of number_of s.numbers deliveries
  pub close_is : s.close ≡ are_close_each boot_of number_of deliveries
