use Rattle.text_lines.proofs.PageLaws.{prints_same}
use Rattle.show_lines.proofs.Fronts.{front-is}
use Rattle.show_lines.proofs.record.put_record_front.Goals as goal

pub returns-in-RawHeader : goal.returns-in-RawHeader
returns-in-RawHeader g c = λ kind has.
    prints_same _ _ _ _ _ _ _ (front-is kind _ _ c.in-RawHeader.is has) c.put_header.ensures

pub returns-in-Ethernet : goal.returns-in-Ethernet
returns-in-Ethernet g c = λ kind has.
    prints_same _ _ _ _ _ _ _ (front-is kind _ _ c.in-Ethernet.is has) c.put_ethernet.ensures

pub returns-in-Ipv4 : goal.returns-in-Ipv4
returns-in-Ipv4 g c = λ kind has.
    prints_same _ _ _ _ _ _ _ (front-is kind _ _ c.in-Ipv4.is has) c.put_ipv4.ensures

pub returns-in-Ipv6 : goal.returns-in-Ipv6
returns-in-Ipv6 g c = λ kind has.
    prints_same _ _ _ _ _ _ _ (front-is kind _ _ c.in-Ipv6.is has) c.put_ipv6.ensures

pub returns-in-Switch : goal.returns-in-Switch
returns-in-Switch g c = λ kind has.
    prints_same _ _ _ _ _ _ _ (front-is kind _ _ c.in-Switch.is has) c.put_switch.ensures

pub returns-in-Router : goal.returns-in-Router
returns-in-Router g c = λ kind has.
    prints_same _ _ _ _ _ _ _ (front-is kind _ _ c.in-Router.is has) c.put_router.ensures

pub returns-in-Gateway : goal.returns-in-Gateway
returns-in-Gateway g c = λ kind has.
    prints_same _ _ _ _ _ _ _ (front-is kind _ _ c.in-Gateway.is has) c.put_gateway.ensures

pub returns-in-IfCounters : goal.returns-in-IfCounters
returns-in-IfCounters g c = λ kind has.
    prints_same _ _ _ _ _ _ _ (front-is kind _ _ c.in-IfCounters.is has) c.put_interface.ensures

pub returns-in-EthernetCounters : goal.returns-in-EthernetCounters
returns-in-EthernetCounters g c = λ kind has.
    prints_same _ _ _ _ _ _ _ (front-is kind _ _ c.in-EthernetCounters.is has) c.put_dot3.ensures

pub returns-in-VlanCounters : goal.returns-in-VlanCounters
returns-in-VlanCounters g c = λ kind has.
    prints_same _ _ _ _ _ _ _ (front-is kind _ _ c.in-VlanCounters.is has) c.put_vlan.ensures

pub returns-in-Other : goal.returns-in-Other
returns-in-Other g c = λ kind has.
    prints_same _ _ _ _ _ _ _ (front-is kind _ _ c.in-Other.is has) c.put_frame.ensures

pub returns-in-User : goal.returns-in-User
returns-in-User g c = λ kind has.
    prints_same _ _ _ _ _ _ _ (front-is kind _ _ c.in-User.is has) c.put_user.ensures

pub returns-in-Url : goal.returns-in-Url
returns-in-Url g c = λ kind has.
    prints_same _ _ _ _ _ _ _ (front-is kind _ _ c.in-Url.is has) c.put_url.ensures

pub returns-in-Mpls : goal.returns-in-Mpls
returns-in-Mpls g c = λ kind has.
    prints_same _ _ _ _ _ _ _ (front-is kind _ _ c.in-Mpls.is has) c.put_mpls.ensures

pub returns-in-Nat : goal.returns-in-Nat
returns-in-Nat g c = λ kind has.
    prints_same _ _ _ _ _ _ _ (front-is kind _ _ c.in-Nat.is has) c.put_nat.ensures

pub returns-in-Processor : goal.returns-in-Processor
returns-in-Processor g c = λ kind has.
    prints_same _ _ _ _ _ _ _ (front-is kind _ _ c.in-Processor.is has) c.put_processor.ensures
