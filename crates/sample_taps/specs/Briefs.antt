-- A header on its way to the consumers.
use Rattle.std.specs.Prelude.{List, [], ◌∷◌}
use Rattle.header_lanes.specs.declared.header.HeaderFacts.{HeaderFacts}
use Rattle.sample_taps.specs.declared.brief.Brief.{Brief}
use Rattle.sample_taps.specs.declared.brief.Sampled.{Sampled}

-- what a header that was sampled so says
abbrev pub brief_of : Sampled → HeaderFacts → Brief
brief_of s facts = record {
  stream = s.stream;
  class = s.class;
  index = s.index;
  rate = s.rate;
  frame_length = s.frame_length;
  facts = facts;
}

abbrev pub facts_in : Brief → HeaderFacts
facts_in b = b.facts

-- the first headers, as they were sampled, with what each says
abbrev pub briefs_with : List Sampled → List HeaderFacts → List Brief
briefs_with samples [] = []
briefs_with [] (f ∷ more) = []
briefs_with (s ∷ samples) (f ∷ more) = brief_of s f ∷ briefs_with samples more
