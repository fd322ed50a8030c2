-- Windows: the number that each 32-bit sequence word stands for, and which numbers are counted.
-- A mark is the sequence word of a datagram or a sample (sFlow Version 5, section 5). A number is the integer
-- that a mark stands for, as the extended sequence number of RFC 3550, appendix A.1.
-- Every list has the LATEST FIRST: the tail of a list is what came before its head.
use Rattle.std.specs.Prelude.{◌≡◌, ℕ, Bool, true, false, cond, ◌||◌, List, [], ◌∷◌, ℤ, pos, ◌+ℤ◌, ◌-ℤ◌, int_lt, int_le, unsigned_abs}
use Rattle.std.specs.Int.{int_max, int_min, int_rem_euclid}
use Rattle.std.specs.List.{count_by}
use Rattle.std.specs.Ordering.{int_eq}
use Rattle.count_spec.specs.declared.entered.Place.{Place}
use Rattle.count_spec.specs.declared.entered.Place.TheVariants.{Only, Newest, Inside, Least}
use Rattle.count_spec.specs.declared.entered.Entered.{Entered}
use Rattle.count_spec.specs.declared.entered.Entered.TheVariants.{First, Repeat, Late}

-- the integer congruent to the mark mod 2^32 that is at least top - 2^31 and less than top + 2^31
abbrev pub near : ℕ → ℤ → ℤ
near mark top =
    let lowest : ℤ = top -ℤ pos 2147483648 in
    lowest +ℤ int_rem_euclid (pos mark -ℤ lowest) (pos 4294967296)

-- the mark that shows a number: its remainder by 2^32
abbrev pub mark_of : ℤ → ℕ
mark_of n = unsigned_abs (int_rem_euclid n (pos 4294967296))

-- the greatest of these numbers
abbrev pub greatest : List ℤ → ℤ
greatest [] = pos 0
greatest (n ∷ []) = n
greatest (n ∷ m ∷ more) = int_max n (greatest (m ∷ more))

-- the least of these numbers
abbrev pub least : List ℤ → ℤ
least [] = pos 0
least (n ∷ []) = n
least (n ∷ m ∷ more) = int_min n (least (m ∷ more))

-- whether the number is one of these
abbrev pub has : List ℤ → ℤ → Bool
has [] n = false
has (m ∷ more) n = int_eq m n || has more n

-- none of these is there twice, by this test of whether an item is among others
abbrev pub AreDistinctBy : {X : Type 0} → (List X → X → Bool) → List X → Type 0
AreDistinctBy is_among [] = Unit {0}
AreDistinctBy is_among (x ∷ more) = (is_among more x ≡ false) × AreDistinctBy is_among more

-- no number is there twice
abbrev pub AreDistinct : List ℤ → Type 0
AreDistinct numbers = AreDistinctBy has numbers

-- the place of a number beside those counted before it, of which there is one at least
abbrev pub place : List ℤ → ℤ → Place
place set n = cond (int_lt (greatest set) n) Newest (cond (int_lt n (least set)) Least Inside)

-- the answer to a number: Late at the greatest less the width and below, else Repeat where it was counted
abbrev pub number_answer : ℕ → List ℤ → ℤ → Entered
number_answer width set n =
    cond (int_le n (greatest set -ℤ pos width)) Late (cond (has set n) Repeat (First (place set n) n))

-- the answer to a mark after these numbers were counted: the first mark is counted as itself
abbrev pub answer : ℕ → List ℤ → ℕ → Entered
answer width [] mark = First Only (pos mark)
answer width (n ∷ more) mark = number_answer width (n ∷ more) (near mark (greatest (n ∷ more)))

-- the numbers that are counted after this answer
abbrev pub counting : Entered → List ℤ → List ℤ
counting (First place n) set = n ∷ set
counting Repeat set = set
counting Late set = set

-- the numbers that these marks counted
abbrev pub counted : ℕ → List ℕ → List ℤ
counted width [] = []
counted width (mark ∷ before) = counting (answer width (counted width before) mark) (counted width before)

-- the answer that each of these marks was given
abbrev pub answers : ℕ → List ℕ → List Entered
answers width [] = []
answers width (mark ∷ before) = answer width (counted width before) mark ∷ answers width before

-- whether the mark brought a number above all before it, or the only one
abbrev pub is_newest : Entered → Bool
is_newest (First Only n) = true
is_newest (First Newest n) = true
is_newest (First Inside n) = false
is_newest (First Least n) = false
is_newest Repeat = false
is_newest Late = false

-- whether the mark brought a number that wasn't counted before
abbrev pub is_first : Entered → Bool
is_first (First place n) = true
is_first Repeat = false
is_first Late = false

-- whether the mark brought a number once more
abbrev pub is_repeat : Entered → Bool
is_repeat (First place n) = false
is_repeat Repeat = true
is_repeat Late = false

-- whether the mark came too late
abbrev pub is_late : Entered → Bool
is_late (First place n) = false
is_late Repeat = false
is_late Late = true

-- how many of these marks were Repeats
abbrev pub repeat_count : ℕ → List ℕ → ℕ
repeat_count width marks = count_by is_repeat (answers width marks)

-- how many of them were Late
abbrev pub late_count : ℕ → List ℕ → ℕ
late_count width marks = count_by is_late (answers width marks)
