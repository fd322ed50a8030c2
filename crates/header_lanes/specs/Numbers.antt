-- What the rules of all headers are made of.
use Rattle.std.specs.Prelude.{ℕ, ◌+◌, ◌*◌, List, None, slice_index}
use Rattle.data_format.specs.declared.address.Address.TheVariants.{Unknown}
use Rattle.header_lanes.specs.declared.header.Kind.{Kind}
use Rattle.header_lanes.specs.declared.header.HeaderFacts.{HeaderFacts}

-- the number of 16 bits that stands here, big-endian
abbrev pub number_at : List ℕ → ℕ → ℕ
number_at h i = slice_index h i * 256 + slice_index h (i + 1)

-- a header of this kind that says nothing else
abbrev pub bare : Kind → HeaderFacts
bare k =
    record {
      kind = k;
      vlan = None;
      ethertype = None;
      proto = None;
      src = Unknown;
      dst = Unknown;
      src_port = None;
      dst_port = None;
      tcp_flags = None;
    }
