-- The segments of AS paths (sFlow Version 5, section 5).
use Rattle.std.specs.Prelude.{◌≡◌, ℕ, ◌==◌, ◌⊎◌, Bool, true, false, List, [], Result, Ok, Err, if◌then◌else◌}
use Rattle.wire_spec.specs.declared.fault.Fault.{Fault}
use Rattle.wire_spec.specs.declared.pad.Pad.TheVariants.{Any}
use Rattle.wire_spec.specs.Shapes.{segment, Tree, Trees, count_of}
use Rattle.wire_spec.specs.Spells.{Each, Spells}
use Rattle.wire_spec.specs.Spelling.{spell_all}
use Rattle.wire_spec.specs.Fails.{Remaining, past, unknown_word, After, Fails, FailsAmong}
use Rattle.wire_spec.specs.Reading.{◌>>=◌, word_at}
use Rattle.wire_spec.specs.Bodies.{items_at}
use Rattle.wire_spec.specs.Tables.{path_segment}
use Rattle.wire_spec.specs.Whole.{from_start, at_end, IsTrailing}
use Rattle.as_paths.specs.Arrays.{list_of}
use Rattle.as_paths.specs.Arrays.{trees_of}
use Rattle.as_paths.specs.declared.segment.Segment.{Segment}
use Rattle.as_paths.specs.WordLists.{word_trees, numbers_at}

-- 1 is a set, 2 a sequence
abbrev pub kind_word : Bool → ℕ
kind_word true = 2
kind_word false = 1

abbrev pub segment_tree : Segment → Tree
segment_tree s = Tree.union (kind_word s.ordered) (Tree.array (word_trees s.numbers))

abbrev pub segment_trees : List Segment → Trees
segment_trees segments = trees_of segment_tree segments

-- whether a word stands for a sequence or a set; the word stands at `at`
abbrev pub kind_of : ℕ → ℕ → Result Bool Fault
kind_of at k = if k == 1 then Ok false else (if k == 2 then Ok true else Err (unknown_word segment at k))

abbrev pub segment_at : Remaining → Result (Segment × Remaining) Fault
segment_at b = word_at b >>= λ k. kind_of b.at k.0 >>= λ ordered.
    numbers_at k.1 >>= λ ns. Ok (record { ordered = ordered; numbers = ns.0 }, ns.1)

-- a count word, and that many segments
abbrev pub path_at : Remaining → Result (List Segment × Remaining) Fault
path_at b = word_at b >>= λ n. items_at segment_at n.0 n.1

-- n segments, and nothing behind them
abbrev pub path_over : ℕ → List ℕ → Result (List Segment) Fault
path_over n bytes = items_at segment_at n (from_start bytes) >>= at_end

-- the bytes spell n segments, which have these values
abbrev pub SpellsSegments : ℕ → List ℕ → Trees → Type 0
SpellsSegments n bytes ts = (count_of ts ≡ n) × Each (Spells Any path_segment) ts bytes

-- Fewer than n segments are spelled, and the next one fails; or n are spelled, and bytes are left.
abbrev pub FailsSegments : ℕ → List ℕ → Fault → Type 0
FailsSegments n bytes f = FailsAmong (Spells Any path_segment) (Fails Any path_segment) n (from_start bytes) f
    ⊎ ((ts : Trees) × (count_of ts ≡ n) × After (Each (Spells Any path_segment) ts) IsTrailing (from_start bytes) f)

-- ---- segments that were read once

-- the n segments that these bytes are
unfoldable pub segments_in : ℕ → List ℕ → List Segment
segments_in n bytes = list_of (items_at segment_at n (from_start bytes))

-- the bytes are n segments, and these spell them
unfoldable pub AreSegments : ℕ → List ℕ → Type 0
AreSegments n bytes =
    (items_at segment_at n (from_start bytes) ≡ Ok (segments_in n bytes, past (from_start bytes) bytes []))
    × (spell_all (segment_trees (segments_in n bytes)) ≡ bytes)
