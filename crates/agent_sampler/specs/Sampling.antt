-- What a sampler keeps, and the counts of a generation for which it stands.
use Rattle.std.specs.Prelude.{◌≡◌, ℕ, suc, ◌+◌, ◌%◌, ◌≤◌, Bool, true, false, List, length}
use Rattle.agent_spec.specs.Marks.{sum_of_skips}
use Rattle.agent_sampler.specs.declared.sampler.Marks.{Marks}
use Rattle.agent_sampler.specs.declared.sampler.Verdict.{Verdict}
use Rattle.agent_sampler.specs.declared.sampler.Verdict.TheVariants.{Marked, Passed}

-- what is to be seen of it: its skip numbers, the words with which it begins, those that it shows, the place of the
-- skip number that runs, and how many packets are left of it
pub record SamplerState : Type 0 where
  pub skips : List ℕ
  pub begin : Marks
  pub marks : Marks
  pub place : ℕ
  pub left : ℕ

-- the verdict on a packet that is marked, or isn't
abbrev pub verdict_on : Bool → Verdict
verdict_on true = Marked
verdict_on false = Passed

-- the word of a count that is so far behind where it begins; words go on from 2^32 - 1 to 0
abbrev pub word_behind : ℕ → ℕ → ℕ
word_behind begin count = (begin + count) % 4294967296

-- the words after so many samples issued, packets seen and packets dropped
abbrev pub marks_after : Marks → ℕ → ℕ → ℕ → Marks
marks_after begin packets issued dropped = record {
  next = word_behind begin.next issued;
  pool = word_behind begin.pool packets;
  drops = word_behind begin.drops dropped;
}

-- the sampler stands for a generation in which so many packets were seen, samples issued and marked packets dropped
pub record StandsFor (s : SamplerState) (packets issued dropped : ℕ) : Type 0 where
  -- how many of the packets were marked
  pub count : ℕ
  pub reached : sum_of_skips s.skips count ≤ packets
  pub left_is : packets + s.left ≡ sum_of_skips s.skips (suc count)
  pub place_is : s.place ≡ count % length s.skips
  pub marks_are : s.marks ≡ marks_after s.begin packets issued dropped
