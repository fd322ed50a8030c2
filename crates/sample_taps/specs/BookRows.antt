-- Short forms in which the worked rows of headers are written.
use Rattle.std.specs.Prelude.{ℕ, ◌++◌, List, [], ◌∷◌, Some, map, replicate}
use Rattle.header_lanes.specs.declared.header.Kind.TheVariants.{Unscanned, Arp}
use Rattle.header_lanes.specs.Numbers.{bare}
use Rattle.books_spec.specs.Items.{flow_sample}
use Rattle.books_spec.specs.Rows.{reading}
use Rattle.books_spec.specs.BookRows.{datagram_of}
use Rattle.books_spec.specs.SampledHeaders.{SampledHeader, HeaderedItem}
use Rattle.sample_taps.specs.declared.brief.Brief.{Brief}

-- an ARP frame, of which the front is there
abbrev pub arp_header : SampledHeader
arp_header = record { protocol = 1; frame_length = 64; bytes = replicate 12 0 ++ 8 ∷ 6 ∷ [] }

-- of protocol 2, and of no bytes
abbrev pub empty_header : SampledHeader
empty_header = record { protocol = 2; frame_length = 60; bytes = [] }

-- a datagram with this sequence word, and flow samples of interface 5 with these, each with both headers
abbrev pub sampled_at : ℕ → List ℕ → HeaderedItem
sampled_at sequence samples = record {
  item = datagram_of 0 1000 1000 sequence (map (λ n. flow_sample 0 5 (reading n 7 3 256)) samples);
  headers = map (λ n. arp_header ∷ empty_header ∷ []) samples;
}

abbrev pub arp_brief : Brief
arp_brief = record {
  stream = 1;
  class = 0;
  index = 5;
  rate = 256;
  frame_length = 64;
  facts = record (bare Arp) { ethertype = Some 0x0806 };
}

abbrev pub empty_brief : Brief
empty_brief = record { stream = 1; class = 0; index = 5; rate = 256; frame_length = 60; facts = bare Unscanned }
