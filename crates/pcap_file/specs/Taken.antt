-- What contracts see of a payload that was read.
use Rattle.std.specs.Prelude.{Result, Ok, Err}
use Rattle.capture_spec.specs.declared.passed.Passed.{Passed}
use Rattle.capture_spec.specs.Payloads as spec
use Rattle.capture_spec.specs.Payloads.{PayloadOutcome}
use Rattle.sflow_io.specs.Senders.{sender_of}
use Rattle.pcap_file.specs.declared.payload.Payload.{Payload}

-- its sender, and the bytes that it points at
abbrev pub payload_value : Payload → spec.Payload
payload_value p = record { sender = sender_of p.sender; bytes = p.bytes.now }

abbrev pub outcome_of : Result Payload Passed → PayloadOutcome
outcome_of (Ok payload) = Ok (payload_value payload)
outcome_of (Err reason) = Err reason
