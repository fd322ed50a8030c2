-- What is read: the samples and the records of the standard's formats, by their fields; all others as frames.
use Rattle.wire_spec.specs.Shapes.{version, Shape, union, Table, empty, row}
use Rattle.wire_spec.specs.Tables.{flow_table, counter_table}
use Rattle.data_format.specs.declared.heads.Form.TheVariants.{Compact, Expanded}
use Rattle.data_format.specs.Parts.{with_frames}
use Rattle.data_format.specs.Samples.{flow_over, counters_over}
use Rattle.datagram_core.specs.Heads.{head_members}

-- a datagram whose samples have the formats of this table
abbrev pub datagram_over : Table → Shape
datagram_over T = union version (row 5 (with_frames head_members T) empty)

-- the samples whose flow records and counter records have the formats of these tables
abbrev pub samples_over : Table → Table → Table
samples_over flows counters =
    row 1 (flow_over Compact flows) (
    row 2 (counters_over Compact counters) (
    row 3 (flow_over Expanded flows) (
    row 4 (counters_over Expanded counters) empty)))

-- the formats of flow records that are read by their fields
unfoldable pub flow_records_read : Table
flow_records_read = flow_table

-- and those of counter records
unfoldable pub counter_records_read : Table
counter_records_read = counter_table

-- the samples over them
unfoldable pub samples_read : Table
samples_read = samples_over flow_records_read counter_records_read

abbrev pub datagram_read : Shape
datagram_read = datagram_over samples_read
