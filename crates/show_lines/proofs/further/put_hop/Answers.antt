use Rattle.data_format.specs.Addresses.{address_of}
use Rattle.show_lines.specs.FurtherLines.{hop_text}
use Rattle.data_format.proofs.Values.{address_in-tree}
use Rattle.show_lines.proofs.further.put_hop.Goals as goal

pub returns : goal.returns
unfolding hop_text
returns g c =
    rw (address_in-tree (address_of c.args.this.now.nexthop)) c.put_line.ensures
