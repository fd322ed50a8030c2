-- The address that a value holds.
use Rattle.wire_spec.specs.Heads.{AgentAddress, unknown, ipv4, ipv6}
use Rattle.data_format.specs.declared.address.Address.{Address}
use Rattle.data_format.specs.declared.address.Address.TheVariants.{Unknown, V4, V6}

abbrev pub address_of : Address → AgentAddress
address_of Unknown = unknown
address_of (V4 bytes) = ipv4 bytes
address_of (V6 bytes) = ipv6 bytes
