-- The slices of a record aren't longer than the record.
use Rattle.std.proofs.Common.{◌+◌, ◌≤◌, [], ◌++◌, length, replicate, arith}
use Rattle.wire_spec.specs.Padding.{padding_of}
use Rattle.std.proofs.lemmas.List.{length-append}
use Rattle.wire_spec.specs.Heads.{address_tree}
use Rattle.wire_spec.specs.Shapes.{count_of}
use Rattle.wire_spec.specs.Spelling.{padded, spell, spell_all}
use Rattle.data_format.specs.Addresses.{address_of}
use Rattle.data_format.specs.Records.{Content, record_bytes}
use Rattle.rec_headers.specs.Contents.{raw_content, ethernet_content, ipv4_content, ipv6_content}
use Rattle.rec_extended.specs.Contents.{switch_content}
use Rattle.rec_extended.specs.RouteContents.{router_content, gateway_content, path_of, communities_of}
use Rattle.rec_counters.specs.Contents.{interface_content, ethernet_content as counted_content, vlan_content}
use Rattle.rec_more.specs.Contents.{user_content, url_content, mpls_content, in_bytes, out_bytes, nat_content, processor_content}
use Rattle.as_paths.specs.WordLists.{word_trees}
use Rattle.as_paths.specs.Paths.{segment_trees}
use Rattle.datagram_core.specs.declared.records.Record.{Record}
use Rattle.datagram_core.specs.declared.records.Record.TheVariants as records
use Rattle.datagram_core.specs.Records.{record_tree}
use Rattle.datagram_core.specs.Written.{record_body, SlicesFit}
use Rattle.datagram_core.proofs.Frames.{frame_size}
use Rattle.datagram_core.proofs.Writing.{be}

tail_fits : (x : Content) → length (record_bytes x) ≤ 65535 → length x.1 ≤ 65535
tail_fits x h = omega (arith, h, length-append (spell x.0) x.1)

body_fits : (r : Record) → length (record_body r) ≤ 65535 → SlicesFit r
body_fits (records.RawHeader r) h = (
  omega (
    arith,
    h,
    length-append (spell ((raw_content r).0)) r.tail.now,
    length-append (padded r.header.now) [],
    length-append r.header.now (replicate (padding_of (length r.header.now)) 0),
  ),
  tail_fits (raw_content r) h,
)
body_fits (records.Ethernet r) h = tail_fits (ethernet_content r) h
body_fits (records.Ipv4 r) h = tail_fits (ipv4_content r) h
body_fits (records.Ipv6 r) h = tail_fits (ipv6_content r) h
body_fits (records.Switch r) h = tail_fits (switch_content r) h
body_fits (records.Router r) h = tail_fits (router_content r) h
body_fits (records.Gateway r) h =
    let path = spell_all (segment_trees (path_of r)) in
    let communities = spell_all (word_trees (communities_of r)) in
    let last = be r.localpref in
    let lists : length path + length communities ≤ length (spell ((gateway_content r).0)) = omega (
      arith,
      length-append (spell (address_tree (address_of r.nexthop)))
          (be r.as_number ++ (be r.src_as ++ (be r.src_peer_as ++ ((be (count_of (segment_trees (path_of r))) ++ path)
          ++ ((be (count_of (word_trees (communities_of r))) ++ communities) ++ (last ++ [])))))),
      length-append (be (count_of (segment_trees (path_of r))) ++ path)
          ((be (count_of (word_trees (communities_of r))) ++ communities) ++ (last ++ [])),
      length-append (be (count_of (word_trees (communities_of r))) ++ communities) (last ++ []),
    ) in
    let all = length-append (spell ((gateway_content r).0)) r.tail.now in (
      omega (arith, h, lists, all),
      omega (arith, h, lists, all),
      tail_fits (gateway_content r) h,
    )
body_fits (records.User r) h =
    let all = length-append (spell ((user_content r).0)) r.tail.now in
    let first = length-append (padded r.src_user.now) (be r.dst_charset ++ ((be (length r.dst_user.now) ++ padded r.dst_user.now) ++ [])) in
    let second = length-append (padded r.dst_user.now) [] in
    let source = length-append r.src_user.now (replicate (padding_of (length r.src_user.now)) 0) in
    let destination = length-append r.dst_user.now (replicate (padding_of (length r.dst_user.now)) 0) in (
      omega (arith, h, all, first, source),
      omega (arith, h, all, first, second, destination),
      tail_fits (user_content r) h,
    )
body_fits (records.Url r) h =
    let all = length-append (spell ((url_content r).0)) r.tail.now in
    let first = length-append (padded r.url.now) ((be (length r.host.now) ++ padded r.host.now) ++ []) in
    let second = length-append (padded r.host.now) [] in
    let url = length-append r.url.now (replicate (padding_of (length r.url.now)) 0) in
    let host = length-append r.host.now (replicate (padding_of (length r.host.now)) 0) in (
      omega (arith, h, all, first, url),
      omega (arith, h, all, first, second, host),
      tail_fits (url_content r) h,
    )
body_fits (records.Mpls r) h =
    let all = length-append (spell ((mpls_content r).0)) r.tail.now in
    let ins = be (count_of (word_trees r.in_stack)) ++ in_bytes r in
    let outs = be (count_of (word_trees r.out_stack)) ++ out_bytes r in
    let lists : length (in_bytes r) + length (out_bytes r) ≤ length (spell ((mpls_content r).0)) = omega (
      arith,
      length-append (spell (address_tree (address_of r.nexthop))) (ins ++ (outs ++ [])),
      length-append ins (outs ++ []),
      length-append outs [],
    ) in (
      omega (arith, h, lists, all),
      omega (arith, h, lists, all),
      tail_fits (mpls_content r) h,
    )
body_fits (records.Nat r) h = tail_fits (nat_content r) h
body_fits (records.IfCounters r) h = tail_fits (interface_content r) h
body_fits (records.EthernetCounters r) h = tail_fits (counted_content r) h
body_fits (records.VlanCounters r) h = tail_fits (vlan_content r) h
body_fits (records.Processor r) h = tail_fits (processor_content r) h
body_fits (records.Other frame) h = h

pub slices_fit : (r : Record) → length (spell (record_tree r)) ≤ 65535 → SlicesFit r
slices_fit r h = body_fits r (omega (arith, h, frame_size r))
