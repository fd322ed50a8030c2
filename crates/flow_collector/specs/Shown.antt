-- What a sample shows, as the books have it.
use Rattle.std.specs.Prelude.{Bool, true, false, Option, Some, None}
use Rattle.data_format.specs.declared.heads.FlowHead.{FlowHead}
use Rattle.data_format.specs.declared.heads.CountersHead.{CountersHead}
use Rattle.datagram_core.specs.declared.sample.Sample.{Sample as Read}
use Rattle.datagram_core.specs.declared.sample.Sample.TheVariants as reads
use Rattle.books_spec.specs.InterfaceRise.{InterfaceCounters}
use Rattle.books_spec.specs.Items.{SourceId, Sample, flow_sample}
use Rattle.collector_tables.specs.Kinds.{is_flow_kind}
use Rattle.rec_counters.specs.declared.interface.IfCounters.{IfCounters}
use Rattle.if_ledger.specs.Records.{counters_in}
use Rattle.flow_collector.specs.Items.{sample_with, counters_with}
use Rattle.flow_collector.specs.declared.shown.Shown.{Shown}

abbrev pub id_shown : Shown → SourceId
id_shown s = record { flow = is_flow_kind s.kind; class = s.source.class; index = s.source.index }

-- the counters of the record that a sample carries
abbrev pub carried_in : Option IfCounters → Option InterfaceCounters
carried_in None = None
carried_in (Some r) = Some (counters_in r)

-- it is a counters sample
abbrev pub is_counters_sample : Read → Bool
is_counters_sample (reads.Flow s) = false
is_counters_sample (reads.Counters s) = true
is_counters_sample (reads.FlowX s) = false
is_counters_sample (reads.CountersX s) = true
is_counters_sample (reads.Other frame) = false

-- the sample that shows this, and carries these counters
abbrev pub sample_shown : Shown → Option InterfaceCounters → Sample
sample_shown s carried = sample_with (id_shown s) s.reading carried

-- the sample of a head
abbrev pub flow_of : FlowHead → Sample
flow_of h = flow_sample h.source.class h.source.index
    (record { sequence = h.sequence; pool = h.pool; drops = h.drops; rate = h.rate })

abbrev pub counters_of : CountersHead → Option InterfaceCounters → Sample
counters_of h carried = counters_with h.source.class h.source.index h.sequence carried
