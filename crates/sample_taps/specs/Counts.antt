-- What the consumers count.
use Rattle.std.specs.Prelude.{ℕ, ◌+◌, Bool, List, Option, Some, None, min, max, nat_eq, nat_le, set, slice_index, if◌then◌else◌}
use Rattle.std.specs.List.{fold}

-- one more, up to 2^64 - 1
abbrev pub one_more : ℕ → ℕ
one_more n = min (n + 1) 18446744073709551615

-- one more at a place
abbrev pub counted_at : ℕ → List ℕ → List ℕ
counted_at place counts = set counts place (one_more (slice_index counts place))

-- one more at a port, where there is one
abbrev pub counted_port : Option ℕ → List ℕ → List ℕ
counted_port None counts = counts
counted_port (Some port) counts = counted_at port counts

-- the range of a frame's length in bytes
abbrev pub range_of : ℕ → ℕ
range_of length =
    if nat_le length 64 then 0 else (if nat_le length 127 then 1 else (if nat_le length 255 then 2
    else (if nat_le length 511 then 3 else (if nat_le length 1023 then 4 else (if nat_le length 1518 then 5 else 6)))))

-- the greatest count, 0 where there is none
abbrev pub greatest : List ℕ → ℕ
greatest counts = fold max 0 counts

abbrev pub is_count : ℕ → ℕ → Bool
is_count count n = nat_eq n count
