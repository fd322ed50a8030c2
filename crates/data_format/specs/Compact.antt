-- Sources and ports that stand in one word (sFlow Version 5, section 5).
use Rattle.std.specs.Prelude.{ℕ, ◌+◌, ◌*◌, ◌/◌, ◌%◌, ◌^◌, ◌<◌}
use Rattle.data_format.specs.declared.source.SourceId.{SourceId}
use Rattle.data_format.specs.declared.port.Port.{Port}

-- the class in the top 8 bits, the index in the lower 24
abbrev pub source_word : SourceId → ℕ
source_word s = s.class * 2 ^ 24 + s.index

abbrev pub source_of : ℕ → SourceId
source_of w = record { class = w / 2 ^ 24; index = w % 2 ^ 24 }

abbrev pub IsCompactSource : SourceId → Type 0
IsCompactSource s = (s.class < 2 ^ 8) × (s.index < 2 ^ 24)

-- the form in the top 2 bits, the value in the lower 30
abbrev pub port_word : Port → ℕ
port_word p = p.form * 2 ^ 30 + p.value

abbrev pub port_of : ℕ → Port
port_of w = record { form = w / 2 ^ 30; value = w % 2 ^ 30 }

abbrev pub IsCompactPort : Port → Type 0
IsCompactPort p = (p.form < 2 ^ 2) × (p.value < 2 ^ 30)
