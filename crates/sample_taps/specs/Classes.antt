-- How many headers there are of each class.
use Rattle.std.specs.Prelude.{ℕ, ◌+◌, Bool, true, false, List, [], ◌∷◌, Option, Some, None, is_some, min, nat_eq}
use Rattle.std.specs.List.{count_by}
use Rattle.header_lanes.specs.declared.header.Kind.{Kind}
use Rattle.header_lanes.specs.declared.header.Kind.TheVariants.{Unscanned, Short, Length, Undefined, Arp, Ipv4, Ipv6, OtherType, BadIp}
use Rattle.header_lanes.specs.declared.header.HeaderFacts.{HeaderFacts}
use Rattle.sample_taps.specs.declared.class_totals.ClassTotals.{ClassTotals}
use Rattle.sample_taps.specs.Counts.{one_more}

-- ---- classes

-- the kinds in their order
abbrev pub kind_place : Kind → ℕ
kind_place Unscanned = 0
kind_place Short = 1
kind_place Length = 2
kind_place Undefined = 3
kind_place Arp = 4
kind_place Ipv4 = 5
kind_place Ipv6 = 6
kind_place OtherType = 7
kind_place BadIp = 8

abbrev pub same_kind : Kind → Kind → Bool
same_kind j k = nat_eq (kind_place j) (kind_place k)

abbrev pub same_protocol : ℕ → Option ℕ → Bool
same_protocol protocol None = false
same_protocol protocol (Some p) = nat_eq p protocol

abbrev pub has_kind : Kind → HeaderFacts → Bool
has_kind kind f = same_kind kind f.kind

-- whether there is a VLAN, whatever the kind
abbrev pub is_tagged : HeaderFacts → Bool
is_tagged f = is_some f.vlan

-- whether an IP header names this protocol
abbrev pub has_protocol : ℕ → HeaderFacts → Bool
has_protocol protocol f = same_protocol protocol f.proto

-- ---- totals

-- how many of these pass the test, up to 2^64 - 1
abbrev pub counted : (HeaderFacts → Bool) → List HeaderFacts → ℕ
counted test headers = min (count_by test headers) 18446744073709551615

-- the totals of these headers
abbrev pub classes : List HeaderFacts → ClassTotals
classes headers = record {
  unscanned = counted (has_kind Unscanned) headers;
  short = counted (has_kind Short) headers;
  length = counted (has_kind Length) headers;
  undefined = counted (has_kind Undefined) headers;
  arp = counted (has_kind Arp) headers;
  ipv4 = counted (has_kind Ipv4) headers;
  ipv6 = counted (has_kind Ipv6) headers;
  other = counted (has_kind OtherType) headers;
  bad_ip = counted (has_kind BadIp) headers;
  tagged = counted is_tagged headers;
  tcp = counted (has_protocol 6) headers;
  udp = counted (has_protocol 17) headers;
}

abbrev pub no_classes : ClassTotals
no_classes = classes []

-- how many headers, of whatever kind
abbrev pub headers_counted : ClassTotals → ℕ
headers_counted t =
    t.unscanned + t.short + t.length + t.undefined + t.arp + t.ipv4 + t.ipv6 + t.other + t.bad_ip

-- ---- one header more

-- one more, where the test holds
abbrev pub one_if : Bool → ℕ → ℕ
one_if true n = one_more n
one_if false n = n

abbrev pub with_kind : ClassTotals → Kind → ClassTotals
with_kind t kind = record t {
  unscanned = one_if (same_kind Unscanned kind) t.unscanned;
  short = one_if (same_kind Short kind) t.short;
  length = one_if (same_kind Length kind) t.length;
  undefined = one_if (same_kind Undefined kind) t.undefined;
  arp = one_if (same_kind Arp kind) t.arp;
  ipv4 = one_if (same_kind Ipv4 kind) t.ipv4;
  ipv6 = one_if (same_kind Ipv6 kind) t.ipv6;
  other = one_if (same_kind OtherType kind) t.other;
  bad_ip = one_if (same_kind BadIp kind) t.bad_ip;
}

abbrev pub with_vlan : ClassTotals → Option ℕ → ClassTotals
with_vlan t vlan = record t { tagged = one_if (is_some vlan) t.tagged }

abbrev pub with_protocol : ClassTotals → Option ℕ → ClassTotals
with_protocol t protocol = record t {
  tcp = one_if (same_protocol 6 protocol) t.tcp;
  udp = one_if (same_protocol 17 protocol) t.udp;
}

-- these totals, with one header more
abbrev pub with_header : ClassTotals → HeaderFacts → ClassTotals
with_header t f = with_protocol (with_vlan (with_kind t f.kind) f.vlan) f.proto

-- with these headers more
abbrev pub with_headers : ClassTotals → List HeaderFacts → ClassTotals
with_headers t [] = t
with_headers t (f ∷ more) = with_headers (with_header t f) more
