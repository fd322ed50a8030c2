use Rattle.std.proofs.Common.{refl}
use Rattle.wire_spec.proofs.FurtherFormats.{alike_whole, value_alike, fault_alike}
use Rattle.wire_spec.proofs.further_formats.other_formats_are_read_as_before.Goals as goal

pub returns-clause-tables : goal.returns-clause-tables
returns-clause-tables c = refl

pub returns-clause-reading : goal.returns-clause-reading
returns-clause-reading c = alike_whole

pub returns-clause-value : goal.returns-clause-value
returns-clause-value c = value_alike

pub returns-clause-fault : goal.returns-clause-fault
returns-clause-fault c = fault_alike
