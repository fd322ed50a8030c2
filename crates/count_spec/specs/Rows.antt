-- Short forms in which the worked rows are written.
use Rattle.std.specs.Prelude.{ℕ, List, map, pos}
use Rattle.count_spec.specs.Windows.{counted}
use Rattle.count_spec.specs.Parts.{Parts, parts}
use Rattle.count_spec.specs.Boots.{Stamp, sequences, boots, stale_items}
use Rattle.count_spec.specs.Rise.{NumberedValue}

-- the parts that these marks leave, under a window of this width
abbrev pub parts_of_marks : ℕ → List ℕ → Parts
parts_of_marks width marks = parts width (counted width marks)

-- the parts with these figures
abbrev pub figures : ℕ → ℕ → ℕ → ℕ → Parts
figures issued received pending lost =
    record { issued = issued; received = received; pending = pending; lost = lost }

-- a datagram with this arrival and uptime in ms and this sequence word
abbrev pub datagram : ℕ → ℕ → ℕ → Stamp
datagram arrival uptime sequence = record { arrival = arrival; uptime = uptime; sequence = sequence }

-- the sequence words of the datagrams in each boot, with a slack of 5,000 ms and a window of width 64
abbrev pub boots_of : List Stamp → List (List ℕ)
boots_of datagrams = map (sequences (λ (s : Stamp). s)) (boots (λ (s : Stamp). s) 5000 64 datagrams)

-- the sequence words of the stale datagrams
abbrev pub stale_of : List Stamp → List ℕ
stale_of datagrams = sequences (λ (s : Stamp). s) (stale_items (λ (s : Stamp). s) 5000 64 datagrams)

-- this value at this number
abbrev pub at_number : ℕ → ℕ → NumberedValue
at_number n carried = record { number = pos n; value = carried }
