-- The fault of an item.
use Rattle.wire_spec.specs.declared.fault.Fault.{Fault}
use Rattle.wire_spec.specs.Fails.{short, bad_padding}
use Rattle.xdr_words.specs.declared.fault.XdrFault.{XdrFault}
use Rattle.xdr_words.specs.declared.fault.XdrFault.TheVariants.{Short, Pad}

abbrev pub fault_of : XdrFault → Fault
fault_of (Short at need left) = short at need left
fault_of (Pad at) = bad_padding at
