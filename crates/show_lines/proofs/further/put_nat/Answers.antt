use Rattle.data_format.specs.Addresses.{address_of}
use Rattle.show_lines.specs.FurtherLines.{nat_front}
use Rattle.data_format.proofs.Values.{address_in-tree}
use Rattle.show_lines.proofs.further.put_nat.Goals as goal

pub returns : goal.returns
unfolding nat_front
returns g c =
    rw (address_in-tree (address_of c.args.this.now.src), address_in-tree (address_of c.args.this.now.dst)) c.put_line.ensures
