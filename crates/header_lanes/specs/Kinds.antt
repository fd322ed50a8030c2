-- Which facts a header of each kind has.
use Rattle.std.specs.Prelude.{◌≡◌, ℕ, List, Some, None, IsSome}
use Rattle.data_format.specs.declared.address.Address.{Address}
use Rattle.data_format.specs.declared.address.Address.TheVariants.{Unknown, V4, V6}
use Rattle.header_lanes.specs.declared.header.Kind.{Kind}
use Rattle.header_lanes.specs.declared.header.Kind.TheVariants.{Unscanned, Short, Length, Undefined, Arp, Ipv4, Ipv6, OtherType, BadIp}
use Rattle.header_lanes.specs.declared.header.HeaderFacts.{HeaderFacts}

abbrev pub IsIpv4 : Address → Type 0
IsIpv4 a = (bytes : List ℕ) × (a ≡ V4 bytes)

abbrev pub IsIpv6 : Address → Type 0
IsIpv6 a = (bytes : List ℕ) × (a ≡ V6 bytes)

-- none of the facts of an IP header and of what stands behind it
pub record HasNoIp (f : HeaderFacts) : Type 0 where
  pub proto : f.proto ≡ None
  pub src : f.src ≡ Unknown
  pub dst : f.dst ≡ Unknown
  pub src_port : f.src_port ≡ None
  pub dst_port : f.dst_port ≡ None
  pub tcp_flags : f.tcp_flags ≡ None

-- the facts that come with a kind: of an IP header its protocol and addresses, of a type its number
abbrev pub HasFactsOf : Kind → HeaderFacts → Type 0
HasFactsOf Unscanned f = (f.vlan ≡ None) × (f.ethertype ≡ None) × HasNoIp f
HasFactsOf Short f = HasNoIp f
HasFactsOf Length f = (f.ethertype ≡ None) × HasNoIp f
HasFactsOf Undefined f = (f.ethertype ≡ None) × HasNoIp f
HasFactsOf Arp f = (f.ethertype ≡ Some 0x0806) × HasNoIp f
HasFactsOf Ipv4 f = IsSome f.proto × IsIpv4 f.src × IsIpv4 f.dst
HasFactsOf Ipv6 f = IsSome f.proto × IsIpv6 f.src × IsIpv6 f.dst
HasFactsOf OtherType f = IsSome f.ethertype × HasNoIp f
HasFactsOf BadIp f = HasNoIp f
