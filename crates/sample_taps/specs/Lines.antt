-- What the consumers print.
use Rattle.std.specs.Prelude.{ℕ, List, [], ◌∷◌, ◌++◌, codes, decimal, slice_index, if◌then◌else◌, nat_eq}
use Rattle.std.specs.List.{concat, position_or_len}
use Rattle.sample_taps.specs.Counts.{greatest, is_count}

-- how many headers
abbrev pub count_text : ℕ → List ℕ
count_text count = codes "tap headers " ++ decimal count

-- the first four of the seven counts of lengths
abbrev pub four_counts_text : List ℕ → List ℕ
four_counts_text c = concat (
    codes "tap length " ∷ decimal (slice_index c 0) ∷ codes " " ∷ decimal (slice_index c 1) ∷
    codes " " ∷ decimal (slice_index c 2) ∷ codes " " ∷ decimal (slice_index c 3) ∷ [])

-- all seven
abbrev pub length_text : List ℕ → List ℕ
length_text c = four_counts_text c ++ concat (
    codes " " ∷ decimal (slice_index c 4) ∷ codes " " ∷ decimal (slice_index c 5) ∷
    codes " " ∷ decimal (slice_index c 6) ∷ [])

-- the port with the greatest count, the least port of equals, where one was counted
abbrev pub port_text : List ℕ → List ℕ
port_text counts =
    if nat_eq (greatest counts) 0 then codes "tap port none"
    else concat (
    codes "tap port " ∷ decimal (position_or_len (is_count (greatest counts)) counts) ∷
    codes " count " ∷ decimal (greatest counts) ∷ [])
