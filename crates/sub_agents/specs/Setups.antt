-- The set-ups of sub-agents, as an agent's history has them.
use Rattle.std.specs.Prelude.{true, false}
use Rattle.agent_spec.specs.Sources as spec
use Rattle.agent_spec.specs.Spelled as spelled
use Rattle.data_format.specs.declared.heads.Form.{Form}
use Rattle.data_format.specs.declared.heads.Form.TheVariants.{Compact, Expanded}
use Rattle.data_format.specs.declared.source.SourceId.{SourceId}
use Rattle.data_format.specs.Compact.{IsCompactSource}

abbrev pub form_of : Form → spelled.Form
form_of Compact = spelled.Compact
form_of Expanded = spelled.Expanded

-- the source of flow samples, and the source of counters samples, of one class and index
abbrev pub flow_source : SourceId → spec.Source
flow_source id = record { flow = true; class = id.class; index = id.index }

abbrev pub counter_source : SourceId → spec.Source
counter_source id = record { flow = false; class = id.class; index = id.index }

-- the source can be said in this form
abbrev pub IsSourceIn : Form → SourceId → Type 0
IsSourceIn Compact id = IsCompactSource id
IsSourceIn Expanded id = Unit {0}
