use Rattle.data_format.specs.Addresses.{address_of}
use Rattle.show_lines.specs.FlowLines.{route_text}
use Rattle.data_format.proofs.Values.{address_in-tree}
use Rattle.show_lines.proofs.extended.put_route.Goals as goal

pub returns : goal.returns
unfolding route_text
returns g c =
    rw (address_in-tree (address_of c.args.this.now.nexthop)) c.put_line.ensures
