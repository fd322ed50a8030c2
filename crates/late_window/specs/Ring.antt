-- A ring of bits, in words of 64 bits.
use Rattle.std.specs.Prelude.{ℕ, ◌+◌, ◌-◌, ◌/◌, ◌%◌, ◌==◌, nat_le, cond, Bool, List, get_or}
use Rattle.std.specs.Int.{bit_at}

-- the bit of a slot, of words of 64 bits
unfoldable pub bit_of_slot : List ℕ → ℕ → Bool
bit_of_slot words slot = bit_at (get_or words (slot / 64) 0) (slot % 64) == 1

-- the slot of the number that is so far below the one at `head`, in a ring of so many slots
abbrev pub slot_below : ℕ → ℕ → ℕ → ℕ
slot_below slots head back = cond (nat_le back head) (head - back) (head + slots - back)

-- whether the number that is so far below the one at `head` was counted
abbrev pub bit_below : List ℕ → ℕ → ℕ → ℕ → Bool
bit_below words slots head back = bit_of_slot words (slot_below slots head back)
