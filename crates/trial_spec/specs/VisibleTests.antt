-- Whether restarts show in uptime, delivery by delivery. What is kept of a sub-agent is of its newest boot alone.
-- Deliveries are those of one sub-agent, the LATEST FIRST.
use Rattle.std.specs.Prelude.{ℕ, ◌==◌, nat_lt, Bool, true, cond, ◌&&◌, ◌||◌, List, [], ◌∷◌, ℤ, pos, ◌-ℤ◌, int_lt}
use Rattle.count_spec.specs.Boots.{is_near_multiple}
use Rattle.account_spec.specs.Deliveries.{Delivery, boot_of, number_of}
use Rattle.account_spec.specs.Visible.{mark_of_boot}

-- the newest boot: its number, the newest number of its datagrams, and the boot mark of the first delivery of that one
pub record NewestBoot : Type 0 where
  pub boot : ℕ
  pub number : ℤ
  pub mark : ℤ

abbrev pub begun_by : Delivery → NewestBoot
begun_by d = record { boot = boot_of d; number = number_of d; mark = mark_of_boot d }

-- with a further delivery
abbrev pub followed_by : NewestBoot → Delivery → NewestBoot
followed_by n d =
    cond (nat_lt n.boot (boot_of d) || ((boot_of d == n.boot) && int_lt n.number (number_of d))) (begun_by d) n

-- of a delivery and those before it
abbrev pub newest_boot : Delivery → List Delivery → NewestBoot
newest_boot d [] = begun_by d
newest_boot d (e ∷ before) = followed_by (newest_boot e before) d

-- whether this distance tells which of the two boots is later
abbrev pub tells : ℕ → ℤ → ℕ → ℕ → Bool
tells slack distance boot newest =
    cond (is_near_multiple slack distance) (boot == newest)
    (cond (int_lt (pos 0) distance) (nat_lt newest boot) (nat_lt boot newest))

abbrev pub shows_boot : ℕ → NewestBoot → Delivery → Bool
shows_boot slack n d = tells slack (mark_of_boot d -ℤ n.mark) (boot_of d) n.boot

-- of each delivery after the first
abbrev pub are_visible : ℕ → List Delivery → Bool
are_visible slack [] = true
are_visible slack (d ∷ []) = true
are_visible slack (d ∷ e ∷ before) = shows_boot slack (newest_boot e before) d && are_visible slack (e ∷ before)
