use Rattle.data_format.specs.Addresses.{address_of}
use Rattle.show_lines.specs.FlowLines.{router_front}
use Rattle.data_format.proofs.Values.{address_in-tree}
use Rattle.show_lines.proofs.extended.put_router.Goals as goal

pub returns : goal.returns
unfolding router_front
returns g c =
    rw (address_in-tree (address_of c.args.this.now.nexthop)) c.put_line.ensures
