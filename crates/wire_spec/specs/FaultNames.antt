-- The numbers and the names of the faults, as they are printed.
use Rattle.std.specs.Prelude.{ℕ, List, codes}
use Rattle.wire_spec.specs.declared.fault.FaultKind.{FaultKind}
use Rattle.wire_spec.specs.declared.fault.FaultKind.TheVariants.{
  Short,
  Pad,
  Version,
  AddressType,
  SegmentType,
  Trailing,
  TooLong,
}
use Rattle.wire_spec.specs.declared.input_kind.InputKind.{InputKind}
use Rattle.wire_spec.specs.declared.input_kind.InputKind.TheVariants as inputs

abbrev pub fault_number : FaultKind → ℕ
fault_number (Short need left) = 1
fault_number Pad = 2
fault_number (Version found) = 3
fault_number (AddressType found) = 4
fault_number (SegmentType found) = 5
fault_number (Trailing left) = 6
fault_number TooLong = 7

abbrev pub fault_name : FaultKind → List ℕ
fault_name (Short need left) = codes "short"
fault_name Pad = codes "pad"
fault_name (Version found) = codes "version"
fault_name (AddressType found) = codes "address"
fault_name (SegmentType found) = codes "segment"
fault_name (Trailing left) = codes "trailing"
fault_name TooLong = codes "toolong"

-- the fault of a capture or a script
abbrev pub input_kind_name : InputKind → List ℕ
input_kind_name inputs.Magic = codes "magic"
input_kind_name inputs.Version = codes "version"
input_kind_name inputs.Cut = codes "cut"
input_kind_name inputs.Long = codes "long"
input_kind_name inputs.Padding = codes "padding"
input_kind_name inputs.Item = codes "item"
input_kind_name inputs.Address = codes "address"
input_kind_name inputs.Port = codes "port"
input_kind_name inputs.Count = codes "count"
input_kind_name inputs.After = codes "after"
input_kind_name inputs.Link = codes "link"
input_kind_name inputs.Script = codes "script"
