-- What the agent's own numbers come to, which never wrap: those of the datagrams of a boot, or of the samples of a source
-- in one of its generations. Every list has the LATEST FIRST.
use Rattle.std.specs.Prelude.{ℕ, ◌-◌, Bool, false, cond, List, [], ◌∷◌, length, ℤ, pos, ◌+ℤ◌, ◌-ℤ◌, ◌<ℤ◌, int_le}
use Rattle.count_spec.specs.Windows.{greatest, has}
use Rattle.count_spec.specs.Parts.{Parts, parts}
use Rattle.books_spec.specs.Views.{Figures}

-- a number is late: it is at most the newest one delivered before it, less the width
abbrev pub is_late : ℕ → List ℤ → ℤ → Bool
is_late width [] n = false
is_late width (m ∷ before) n = int_le n (greatest (m ∷ before) -ℤ pos width)

-- those that are in time
abbrev pub in_time : ℕ → List ℤ → List ℤ
in_time width [] = []
in_time width (n ∷ before) = cond (is_late width before n) (in_time width before) (n ∷ in_time width before)

-- each number once
abbrev pub set_of : List ℤ → List ℤ
set_of [] = []
set_of (n ∷ before) = cond (has before n) (set_of before) (n ∷ set_of before)

-- the parts of the set of those in time, how many came in time once more, and how many came late
abbrev pub true_figures : ℕ → List ℤ → Figures
true_figures width numbers =
    let set : List ℤ = set_of (in_time width numbers) in
    let p : Parts = parts width set in
    record {
      issued = p.issued;
      received = p.received;
      pending = p.pending;
      lost = p.lost;
      repeated = length (in_time width numbers) - length set;
      late = length numbers - length (in_time width numbers);
    }

-- a number is less than 2^31 from the newest of these, if there is one
abbrev pub IsClose : List ℤ → ℤ → Type 0
IsClose [] n = Unit {0}
IsClose (m ∷ before) n =
    (n <ℤ (greatest (m ∷ before) +ℤ pos 2147483648)) × (greatest (m ∷ before) <ℤ (n +ℤ pos 2147483648))

-- each is less than 2^31 from the newest before it
abbrev pub AreClose : List ℤ → Type 0
AreClose [] = Unit {0}
AreClose (n ∷ before) = IsClose before n × AreClose before
