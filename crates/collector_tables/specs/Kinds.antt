-- Kinds of samples.
use Rattle.std.specs.Prelude.{Bool, true, false}
use Rattle.collector_tables.specs.declared.keys.SampleKind.{SampleKind}
use Rattle.collector_tables.specs.declared.keys.SampleKind.TheVariants.{Flow, Counters}

-- whether they are flow samples
abbrev pub is_flow_kind : SampleKind → Bool
is_flow_kind Flow = true
is_flow_kind Counters = false
