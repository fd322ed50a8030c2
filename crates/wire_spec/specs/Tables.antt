-- The formats of sFlow Version 5, section 5, with the fields in the order of the wire. Format k of enterprise e
-- has the format word 4096 * e + k; all formats of these tables are the standard's own, of enterprise 0.
use Rattle.wire_spec.specs.Shapes.{version, address, segment, Shape, word, hyper, fixed, opaque, array, structure, union, frame, end, ◌then◌, Table, empty, row}

-- 0 unknown; 1 IPv4; 2 IPv6
abbrev pub agent_address : Shape
agent_address = union address (
    row 0 (structure end) (
    row 1 (fixed 4) (
    row 2 (fixed 16) empty)))

-- ---- flow records

-- protocol, frame length, stripped, header
abbrev pub raw_header : Shape
raw_header = structure (word then word then word then opaque then end)

-- length, source MAC, destination MAC, type
abbrev pub ethernet_frame : Shape
ethernet_frame = structure (word then fixed 6 then fixed 6 then word then end)

-- length, protocol, source, destination, source port, destination port, TCP flags, type of service
abbrev pub ipv4_header : Shape
ipv4_header = structure (
    word then word then fixed 4 then fixed 4 then word then word then word then word then end)

-- length, protocol, source, destination, source port, destination port, TCP flags, priority
abbrev pub ipv6_header : Shape
ipv6_header = structure (
    word then word then fixed 16 then fixed 16 then word then word then word then word then end)

-- source VLAN, source priority, destination VLAN, destination priority
abbrev pub extended_switch : Shape
extended_switch = structure (word then word then word then word then end)

-- next hop, source mask length, destination mask length
abbrev pub extended_router : Shape
extended_router = structure (agent_address then word then word then end)

-- a part of an AS path: 1 a set, 2 a sequence; its AS numbers
abbrev pub path_segment : Shape
path_segment = union segment (
    row 1 (array word) (
    row 2 (array word) empty))

-- next hop, AS, source AS, source peer AS, path, communities, local preference
abbrev pub extended_gateway : Shape
extended_gateway = structure (
    agent_address then word then word then word then array path_segment then array word then word then end)

-- source character set, source user, destination character set, destination user
abbrev pub extended_user : Shape
extended_user = structure (word then opaque then word then opaque then end)

-- direction, URL, host
abbrev pub extended_url : Shape
extended_url = structure (word then opaque then opaque then end)

-- next hop, labels of the stack that came in, labels of the stack that went out
abbrev pub extended_mpls : Shape
extended_mpls = structure (agent_address then array word then array word then end)

-- source, destination
abbrev pub extended_nat : Shape
extended_nat = structure (agent_address then agent_address then end)

abbrev pub flow_table : Table
flow_table =
    row 1 raw_header (
    row 2 ethernet_frame (
    row 3 ipv4_header (
    row 4 ipv6_header (
    row 1001 extended_switch (
    row 1002 extended_router (
    row 1003 extended_gateway (
    row 1004 extended_user (
    row 1005 extended_url (
    row 1006 extended_mpls (
    row 1007 extended_nat empty))))))))))

-- ---- counter records

-- index, type, speed, direction, status; then of what came in: octets, unicast, multicast, broadcast, discards,
-- errors, unknown protocols; of what went out: octets, unicast, multicast, broadcast, discards, errors;
-- promiscuous mode
abbrev pub interface_counters : Shape
interface_counters = structure (
    word then word then hyper then word then word then
    hyper then word then word then word then word then word then word then
    hyper then word then word then word then word then word then
    word then end)

-- alignment errors, FCS errors, single collisions, multiple collisions, SQE test errors, deferred transmissions,
-- late collisions, excessive collisions, MAC transmit errors, carrier sense errors, frames too long,
-- MAC receive errors, symbol errors
abbrev pub ethernet_counters : Shape
ethernet_counters = structure (
    word then word then word then word then word then word then word then word then word then word then word then
    word then word then end)

-- VLAN, octets, unicast, multicast, broadcast, discards
abbrev pub vlan_counters : Shape
vlan_counters = structure (word then hyper then word then word then word then word then end)

-- CPU load over 5 seconds, 1 minute and 5 minutes, total memory, free memory
abbrev pub processor_counters : Shape
processor_counters = structure (word then word then word then hyper then hyper then end)

abbrev pub counter_table : Table
counter_table =
    row 1 interface_counters (
    row 2 ethernet_counters (
    row 5 vlan_counters (
    row 1001 processor_counters empty)))

-- ---- samples

-- sequence, source, sampling rate, sample pool, drops, input, output, records
abbrev pub flow_sample : Shape
flow_sample = structure (
    word then word then word then word then word then word then word then array (frame flow_table) then end)

-- sequence, source, records
abbrev pub counters_sample : Shape
counters_sample = structure (word then word then array (frame counter_table) then end)

-- sequence, source class, source index, sampling rate, sample pool, drops, input form, input value, output form,
-- output value, records
abbrev pub expanded_flow_sample : Shape
expanded_flow_sample = structure (
    word then word then word then word then word then word then word then word then word then word then
    array (frame flow_table) then end)

-- sequence, source class, source index, records
abbrev pub expanded_counters_sample : Shape
expanded_counters_sample = structure (word then word then word then array (frame counter_table) then end)

abbrev pub sample_table : Table
sample_table =
    row 1 flow_sample (
    row 2 counters_sample (
    row 3 expanded_flow_sample (
    row 4 expanded_counters_sample empty)))

-- ---- datagrams

-- agent, sub-agent, sequence number, uptime, samples
abbrev pub datagram_body : Shape
datagram_body = structure (
    agent_address then word then word then word then array (frame sample_table) then end)

-- the version word, 5, and what follows it
abbrev pub datagram : Shape
datagram = union version (row 5 datagram_body empty)
