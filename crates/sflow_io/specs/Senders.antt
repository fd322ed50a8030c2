-- The sender that a value holds.
use Rattle.std.specs.Prelude.{Option, Some, None}
use Rattle.data_format.specs.Addresses.{address_of}
use Rattle.capture_spec.specs.Items as items
use Rattle.sflow_io.specs.declared.sender.Sender.{Sender}

abbrev pub sender_of : Sender → items.Sender
sender_of s = record { address = address_of s.address; port = s.port }

-- where there is one
abbrev pub sender_in : Option Sender → Option items.Sender
sender_in None = None
sender_in (Some s) = Some (sender_of s)
