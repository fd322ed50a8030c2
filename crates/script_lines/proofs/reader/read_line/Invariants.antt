use Rattle.std.proofs.Common.{length, ◌-◌, ◌≡◌, ◌≤◌, ℕ, List, Some}
use Rattle.byte_ends.specs.Unread.{unread}
use Rattle.script_lines.specs.Readers.{Goes}
use Rattle.script_lines.proofs.reader.read_line.Given as goal

abbrev pub invariant-lines : goal.invariant-lines
invariant-lines g l = record {
  size : length l.room ≡ 16384;
  count : l.place.count ≤ 4294967295;
  above : l.initial.place.count ≤ l.place.count;
  kept : (g.S.Source.seen l.source).faults ≡ (g.S.Source.seen l.initial.source).faults;
  goes : (bytes : List ℕ) → unread l.initial.ahead (g.S.Source.seen l.initial.source) ≡ Some bytes
      → Goes l.initial.place l.place bytes (unread l.ahead (g.S.Source.seen l.source));
}

abbrev pub decreases-lines : goal.decreases-lines
decreases-lines g l = 4294967296 - l.place.count
