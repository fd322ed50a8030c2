-- The lines of every record of the standard's tables, and entries with records, that arrived at 1,000 ms.
use Rattle.std.specs.Prelude.{ℕ, List, [], ◌∷◌, ◌++◌, codes}
use Rattle.wire_spec.specs.Captures.{Entry}
use Rattle.wire_spec.specs.Examples.{words, head_words, flow_words, gateway_datagram}
use Rattle.show_lines.specs.Worked.{arrived, one_sample}

abbrev pub flow_record_lines : List ℕ
flow_record_lines =
    codes "  header protocol 1 length 64 stripped 4 bytes 4 ffffffff\n" ++
    codes "  ethernet length 64 src 02:00:00:00:00:01 dst 02:00:00:00:00:02 type 2048\n" ++
    codes "  ipv4 length 60 protocol 6 src 10.0.0.1 dst 10.0.0.2 sport 8080 dport 443 flags 18 tos 7\n" ++
    codes "  ipv6 length 60 protocol 17 src 2001:0db8:0000:0000:0000:0000:0000:0001" ++
    codes " dst 2001:0db8:0000:0000:0000:0000:0000:0002 sport 53 dport 5353 flags 1 priority 7\n" ++
    codes "  switch src 100/1 dst 200/2\n" ++
    codes "  router nexthop 2001:0db8:0000:0000:0000:0000:0000:0009 src 24 dst 16\n" ++
    codes "  gateway nexthop unknown as 65000 src 65001 peer 65002" ++
    codes " path seq:65003,65004;set:65010 communities 9 localpref 100\n" ++
    codes "  user src 3 616263 dst 4 -\n" ++
    codes "  url direction 2 url 2f613f62 host 782e79\n" ++
    codes "  mpls nexthop 10.0.0.9 in 74565,16 out 17 tail deadbeef\n" ++
    codes "  nat src 10.0.0.1 dst 2001:0db8:0000:0000:0000:0000:0000:0009\n" ++
    codes "  record 4413:7 bytes 4 aabbcc00\n"

abbrev pub interface_line : List ℕ
interface_line = codes "  if 1 2 12884901892 5 6 30064771080 9 10 11 12 13 14 64424509456 17 18 19 20 21 22\n"

abbrev pub counter_record_lines : List ℕ
counter_record_lines =
    interface_line ++
    codes "  dot3 1 2 3 4 5 6 7 8 9 10 11 12 13\n" ++
    codes "  vlan 1 8589934595 4 5 6 7\n" ++
    codes "  processor 1 2 3 17179869189 25769803783\n"

abbrev pub with_records : List ℕ
with_records = codes " flow seq 1 source 0:5 rate 256 pool 512 drops 0 in 0:5 out 0:6 records "

-- the VLANs of a packet with a tail, and a record of another format
abbrev pub switch_entry : Entry
switch_entry = arrived (words (
    head_words 1 1 ++ flow_words 72 2 ++
    1001 ∷ 20 ∷ 100 ∷ 0 ∷ 100 ∷ 0 ∷ 0xdeadbeef ∷ [] ++
    0x0113d007 ∷ 3 ∷ 0xaabbcc00 ∷ []))

abbrev pub switch_lines : List ℕ
switch_lines =
    codes "entry 1 at 1000 bytes 108\n" ++ one_sample ++ with_records ++ codes "2\n" ++
    codes "  switch src 100/0 dst 100/0 tail deadbeef\n" ++
    codes "  record 4413:7 bytes 3 aabbcc\n"

-- a BGP route
abbrev pub gateway_entry : Entry
gateway_entry = arrived (gateway_datagram 1)

abbrev pub gateway_lines : List ℕ
gateway_lines =
    codes "entry 1 at 1000 bytes 136\n" ++ one_sample ++ with_records ++ codes "1\n" ++
    codes "  gateway nexthop 10.0.0.9 as 65000 src 65001 peer 65002" ++
    codes " path set:65003,65004;seq:65010 communities - localpref 100\n"

-- the same without the two segments
abbrev pub no_path_entry : Entry
no_path_entry = arrived (words (
    head_words 1 1 ++ flow_words 72 1 ++
    1003 ∷ 32 ∷ 1 ∷ 0x0a000009 ∷ 65000 ∷ 65001 ∷ 65002 ∷ 0 ∷ 0 ∷ 100 ∷ []))

abbrev pub no_path_lines : List ℕ
no_path_lines =
    codes "entry 1 at 1000 bytes 108\n" ++ one_sample ++ with_records ++ codes "1\n" ++
    codes "  gateway nexthop 10.0.0.9 as 65000 src 65001 peer 65002 path - communities - localpref 100\n"

-- the counters of an interface, whose words are numbered from 1
abbrev pub interface_entry : Entry
interface_entry = arrived (words (
    head_words 1 1 ++ 2 ∷ 108 ∷ 1 ∷ 5 ∷ 1 ∷ 1 ∷ 88 ∷ [] ++
    1 ∷ 2 ∷ 3 ∷ 4 ∷ 5 ∷ 6 ∷ 7 ∷ 8 ∷ 9 ∷ 10 ∷ 11 ∷ 12 ∷ 13 ∷ 14 ∷ 15 ∷ 16 ∷ 17 ∷ 18 ∷ 19 ∷ 20 ∷ 21 ∷ 22 ∷ []))

abbrev pub interface_lines : List ℕ
interface_lines =
    codes "entry 1 at 1000 bytes 144\n" ++ one_sample ++ codes " counters seq 1 source 0:5 records 1\n" ++ interface_line
