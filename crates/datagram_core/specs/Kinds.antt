-- Which formats are read by their fields, and which records the samples of each kind have.
use Rattle.std.specs.Prelude.{◌≡◌, ◌≢◌, ℕ}
use Rattle.wire_spec.specs.Spells.{IsAbsent}
use Rattle.wire_spec.specs.Tables.{flow_table, counter_table}
use Rattle.data_format.specs.declared.heads.Form.{Form}
use Rattle.data_format.specs.declared.heads.Form.TheVariants.{Compact, Expanded}
use Rattle.data_format.specs.Views.{IsFormat, format_word}
use Rattle.datagram_core.specs.declared.records.Record.{Record}
use Rattle.datagram_core.specs.Descriptions.{Description, Read, Kept, described}
use Rattle.datagram_core.specs.declared.records.RecordKind.{RecordKind}
use Rattle.datagram_core.specs.declared.records.RecordKind.TheVariants as kinds
use Rattle.datagram_core.specs.declared.sample.Sample.{Sample}
use Rattle.datagram_core.specs.declared.sample.Sample.TheVariants as samples

-- the formats of samples
abbrev pub flow_format : Form → ℕ
flow_format Compact = 1
flow_format Expanded = 3

abbrev pub counters_format : Form → ℕ
counters_format Compact = 2
counters_format Expanded = 4

-- the format is none of those that are read by their fields
abbrev pub IsUnread : RecordKind → ℕ → Type 0
IsUnread kinds.Flow k = IsAbsent k flow_table
IsUnread kinds.Counters k = IsAbsent k counter_table
IsUnread kinds.Unknown k = Unit {0}

-- the format is none of the samples that are read by their fields
abbrev pub IsUnreadSample : ℕ → Type 0
IsUnreadSample k = (k ≢ 1) × (k ≢ 2) × (k ≢ 3) × (k ≢ 4)

-- a sample that is kept as its frame has such a format
abbrev pub IsUnreadOther : Sample → Type 0
IsUnreadOther (samples.Other frame) = IsUnreadSample (format_word frame.format)
IsUnreadOther _ = Unit {0}

-- samples of this kind have such a record
abbrev pub IsOfKind : RecordKind → Description → Type 0
IsOfKind kind (Read k n x) = k ≡ kind
IsOfKind kind (Kept frame) = IsFormat frame.format × IsUnread kind (format_word frame.format)

abbrev pub HasKind : RecordKind → Record → Type 0
HasKind kind r = IsOfKind kind (described r)
