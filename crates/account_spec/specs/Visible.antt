-- Restarts show in uptime. Deliveries are those of one sub-agent, the LATEST FIRST.
use Rattle.std.specs.Prelude.{◌≡◌, ℕ, ◌<◌, true, false, cond, ◌↔◌, ◌==◌, List, [], ◌∷◌, ℤ, pos, ◌-ℤ◌, ◌<ℤ◌, int_lt}
use Rattle.std.specs.List.{filter}
use Rattle.count_spec.specs.Windows.{greatest}
use Rattle.count_spec.specs.Boots.{is_near_multiple}
use Rattle.count_spec.specs.TrueStretches.{newest_index}
use Rattle.account_spec.specs.Deliveries.{Delivery, boot_of, number_of, numbers_of}

-- the receiver's clock when the uptime was 0
abbrev pub mark_of_boot : Delivery → ℤ
mark_of_boot d = pos d.arrival -ℤ pos d.datagram.uptime

-- the boot mark of the first delivery of the newest datagram among these
abbrev pub newest_mark : List Delivery → ℤ
newest_mark [] = pos 0
newest_mark (d ∷ []) = mark_of_boot d
newest_mark (d ∷ e ∷ before) =
    cond (int_lt (greatest (numbers_of (e ∷ before))) (number_of d)) (mark_of_boot d) (newest_mark (e ∷ before))

-- all deliveries of a boot
abbrev pub of_boot : ℕ → List Delivery → List Delivery
of_boot boot deliveries = filter (λ (d : Delivery). boot_of d == boot) deliveries

-- the boot mark less that of the newest datagram of the newest boot before it
abbrev pub distance : List Delivery → Delivery → ℤ
distance before d = mark_of_boot d -ℤ newest_mark (of_boot (newest_index boot_of before) before)

-- by this distance its boot is the newest one before it, or a later one, or an earlier one
pub record Tells (slack : ℕ) (distance : ℤ) (boot newest : ℕ) : Type 0 where
  pub same : (boot ≡ newest) ↔ (is_near_multiple slack distance ≡ true)
  pub later : (newest < boot) ↔ ((is_near_multiple slack distance ≡ false) × (pos 0 <ℤ distance))
  pub earlier : (boot < newest) ↔ ((is_near_multiple slack distance ≡ false) × (distance <ℤ pos 0))

-- of each delivery after the first
abbrev pub AreVisible : ℕ → List Delivery → Type 0
AreVisible slack [] = Unit {0}
AreVisible slack (d ∷ []) = Unit {0}
AreVisible slack (d ∷ e ∷ before) =
    Tells slack (distance (e ∷ before) d) (boot_of d) (newest_index boot_of (e ∷ before))
    × AreVisible slack (e ∷ before)
