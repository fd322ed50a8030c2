-- Entries with one record of the formats 1004 to 1007 of flow records or 1001 of counter records, that arrived at 1,000 ms.
use Rattle.std.specs.Prelude.{ℕ, List, ◌++◌, codes}
use Rattle.wire_spec.specs.Captures.{Entry}
use Rattle.wire_spec.specs.FurtherExamples.{user_record, user_with_tail, url_record, url_with_tail, mpls_record, nat_record, processor_with_tail}
use Rattle.show_lines.specs.Worked.{arrived, one_sample}
use Rattle.show_lines.specs.WorkedRecords.{with_records}

-- an entry of this many bytes: a flow sample with one record
abbrev pub with_one_record : List ℕ → List ℕ → List ℕ
with_one_record bytes line =
    codes "entry 1 at 1000 bytes " ++ bytes ++ codes "\n" ++ one_sample ++ with_records ++ codes "1\n" ++ line

abbrev pub user_entry : Entry
user_entry = arrived (user_record 0x61626300)

abbrev pub user_lines : List ℕ
user_lines = with_one_record (codes "96") (codes "  user src 3 616263 dst 0 -\n")

abbrev pub user_tail_entry : Entry
user_tail_entry = arrived user_with_tail

abbrev pub user_tail_lines : List ℕ
user_tail_lines = with_one_record (codes "100") (codes "  user src 3 616263 dst 0 - tail deadbeef\n")

abbrev pub url_tail_entry : Entry
url_tail_entry = arrived url_with_tail

abbrev pub url_tail_lines : List ℕ
url_tail_lines = with_one_record (codes "100") (codes "  url direction 1 url 2f613f62 host 782e79 tail deadbeef\n")

-- a host that isn't all there
abbrev pub cut_url_entry : Entry
cut_url_entry = arrived (url_record 8)

abbrev pub cut_url_lines : List ℕ
cut_url_lines = codes "entry 1 at 1000 bytes 96\nfault at 92 kind short\n"

abbrev pub mpls_entry : Entry
mpls_entry = arrived (mpls_record 1)

abbrev pub mpls_lines : List ℕ
mpls_lines = with_one_record (codes "96") (codes "  mpls nexthop 10.0.0.9 in 74565 out -\n")

abbrev pub nat_entry : ℕ → Entry
nat_entry kind = arrived (nat_record kind)

abbrev pub nat_lines : List ℕ
nat_lines = with_one_record (codes "92") (codes "  nat src 10.0.0.1 dst 192.0.2.1\n")

-- an address of a third kind
abbrev pub other_nat_lines : List ℕ
other_nat_lines = codes "entry 1 at 1000 bytes 92\nfault at 76 kind address\n"

abbrev pub processor_entry : Entry
processor_entry = arrived processor_with_tail

abbrev pub processor_lines : List ℕ
processor_lines =
    codes "entry 1 at 1000 bytes 88\n" ++ one_sample ++ codes " counters seq 1 source 0:5 records 1\n" ++
    codes "  processor 10 20 30 4294967296 1000 tail deadbeef\n"
