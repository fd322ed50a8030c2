-- A worked header: Ethernet with two tags, and TCP behind an IPv4 header of fifteen words.
use Rattle.std.specs.Prelude.{ℕ, List, [], ◌∷◌, ◌++◌, Option, Some, replicate}
use Rattle.data_format.specs.declared.address.Address.TheVariants.{V4}
use Rattle.header_lanes.specs.declared.header.Kind.TheVariants.{Ipv4}
use Rattle.header_lanes.specs.declared.header.HeaderFacts.{HeaderFacts}

-- the tags of VLANs 100 and 200, and the type of IPv4
abbrev pub two_tags : List ℕ
two_tags = 0x81 ∷ 0 ∷ 0 ∷ 100 ∷ 0x88 ∷ 0xa8 ∷ 0 ∷ 200 ∷ 8 ∷ 0 ∷ []

-- from 10.0.0.1 to 10.0.0.2, at this offset of the whole packet, without the options
abbrev pub ipv4_words : ℕ → List ℕ
ipv4_words offset = 0x4f ∷ 0 ∷ 0 ∷ 0 ∷ 0 ∷ 0 ∷ 0 ∷ offset ∷ 64 ∷ 6 ∷ 0 ∷ 0 ∷ 10 ∷ 0 ∷ 0 ∷ 1 ∷ 10 ∷ 0 ∷ 0 ∷ 2 ∷ []

-- from port 8080 to port 443, SYN and ACK
abbrev pub tcp_front : List ℕ
tcp_front = 0x1f ∷ 0x90 ∷ 0x01 ∷ 0xbb ∷ replicate 9 0 ++ 0x12 ∷ []

-- 96 bytes in all
abbrev pub tagged_header : ℕ → List ℕ
tagged_header offset = replicate 12 0 ++ (two_tags ++ (ipv4_words offset ++ (replicate 40 0 ++ tcp_front)))

-- what it says, with these ports and flags
abbrev pub tagged_facts : Option ℕ → Option ℕ → Option ℕ → HeaderFacts
tagged_facts source destination flags =
    record {
      kind = Ipv4;
      vlan = Some 100;
      ethertype = Some 0x0800;
      proto = Some 6;
      src = V4 (10 ∷ 0 ∷ 0 ∷ 1 ∷ []);
      dst = V4 (10 ∷ 0 ∷ 0 ∷ 2 ∷ []);
      src_port = source;
      dst_port = destination;
      tcp_flags = flags;
    }
