-- The boots of a stream: the stretches between restarts of its sub-agent.
-- A restart shows in the boot mark, the arrival less the uptime: the receiver's clock when the uptime was 0.
-- Items are of any type that shows a stamp. Every list has the LATEST FIRST, and the current boot first.
use Rattle.std.specs.Prelude.{ℕ, ◌-◌, Bool, false, cond, ◌||◌, nat_le, List, [], ◌∷◌, map, ℤ, pos, ◌-ℤ◌, int_lt, unsigned_abs}
use Rattle.std.specs.Int.{int_rem_euclid}
use Rattle.std.specs.Ordering.{int_eq}
use Rattle.count_spec.specs.Windows.{greatest, answer, counted}
use Rattle.count_spec.specs.Stretches.{stretches, stale_among}
use Rattle.count_spec.specs.declared.entered.Entered.{Entered}
use Rattle.count_spec.specs.declared.entered.Entered.TheVariants.{First, Repeat, Late}
use Rattle.count_spec.specs.declared.stretch_place.StretchPlace.{StretchPlace}
use Rattle.count_spec.specs.declared.stretch_place.StretchPlace.TheVariants.{Current, Next, Stale}

-- what places a datagram: its arrival and uptime in ms, and its sequence word
pub record Stamp : Type 0 where
  pub arrival : ℕ
  pub uptime : ℕ
  pub sequence : ℕ

-- where the receiver's clock stood when the uptime was 0
abbrev pub boot_mark : Stamp → ℤ
boot_mark s = pos s.arrival -ℤ pos s.uptime

-- the sequence words of these items
abbrev pub sequences : {X : Type 0} → (X → Stamp) → List X → List ℕ
sequences stamp items = map (λ x. (stamp x).sequence) items

-- whether this answer counted the number
abbrev pub counts : Entered → ℤ → Bool
counts (First place m) n = int_eq m n
counts Repeat n = false
counts Late n = false

-- the boot mark of the First item whose number this is
abbrev pub boot_mark_of : {X : Type 0} → (X → Stamp) → ℕ → List X → ℤ → ℤ
boot_mark_of stamp width [] n = pos 0
boot_mark_of stamp width (x ∷ before) n =
    cond (counts (answer width (counted width (sequences stamp before)) (stamp x).sequence) n)
    (boot_mark (stamp x))
    (boot_mark_of stamp width before n)

-- the boot mark of the First item that has the greatest counted number
abbrev pub newest_boot_mark : {X : Type 0} → (X → Stamp) → ℕ → List X → ℤ
newest_boot_mark stamp width items =
    boot_mark_of stamp width items (greatest (counted width (sequences stamp items)))

-- whether d is at most the slack away from a multiple of 2^32: a wrap of the uptime moves a boot mark by 2^32
abbrev pub is_near_multiple : ℕ → ℤ → Bool
is_near_multiple slack d =
    let above : ℕ = unsigned_abs (int_rem_euclid d (pos 4294967296)) in
    nat_le above slack || nat_le (4294967296 - above) slack

-- the place of an item whose boot mark less that of the newest item is d
abbrev pub place_at : ℕ → ℤ → StretchPlace
place_at slack d = cond (is_near_multiple slack d) Current (cond (int_lt (pos 0) d) Next Stale)

-- the place of an item after these boots: the first item begins a boot
abbrev pub boot_place : {X : Type 0} → (X → Stamp) → ℕ → ℕ → List (List X) → X → StretchPlace
boot_place stamp slack width [] x = Next
boot_place stamp slack width (current ∷ closed) x =
    place_at slack (boot_mark (stamp x) -ℤ newest_boot_mark stamp width current)

-- the boots of these items
abbrev pub boots : {X : Type 0} → (X → Stamp) → ℕ → ℕ → List X → List (List X)
boots stamp slack width items = stretches (boot_place stamp slack width) items

-- the items that are in no boot
abbrev pub stale_items : {X : Type 0} → (X → Stamp) → ℕ → ℕ → List X → List X
stale_items stamp slack width items = stale_among (boot_place stamp slack width) items
