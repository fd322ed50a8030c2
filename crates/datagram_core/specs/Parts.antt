-- The reading of a datagram part by part: the version, the head, and the frames of the samples.
use Rattle.std.specs.Prelude.{◌==◌, List, length, Result, Err, ℕ, nat_lt, if◌then◌else◌}
use Rattle.wire_spec.specs.declared.pad.Pad.{Pad}
use Rattle.wire_spec.specs.declared.fault.Fault.{Fault}
use Rattle.wire_spec.specs.Shapes.{version, Table}
use Rattle.wire_spec.specs.Fails.{Remaining, unknown_word}
use Rattle.wire_spec.specs.Reading.{◌>>=◌, word_at}
use Rattle.wire_spec.specs.Whole.{from_start, too_long, at_end}
use Rattle.data_format.specs.Parts.{Parts, parts_at}
use Rattle.data_format.specs.Trees.{table_test}
use Rattle.datagram_core.specs.Heads.{DatagramView, head_members, head_trees}

-- the values of the head's members, and the frames of the samples
abbrev pub parts_of : DatagramView → Parts
parts_of d = (head_trees d.head, d.samples)

-- the version word, the head and the samples
abbrev pub behind_version_at : Pad → Table → Remaining → Result (Parts × Remaining) Fault
behind_version_at p T b = word_at b >>= λ k.
    if k.0 == 5 then parts_at p head_members (table_test p T) k.1 else Err (unknown_word version b.at k.0)

-- the parts of all the bytes
abbrev pub parts_reading : Pad → Table → List ℕ → Result Parts Fault
parts_reading p T bytes =
    if nat_lt 65535 (length bytes) then Err too_long else (behind_version_at p T (from_start bytes) >>= at_end)
