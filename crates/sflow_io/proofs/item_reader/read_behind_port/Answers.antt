use Rattle.std.proofs.Common.{◌+◌, Some, sym, ap, ◌∙◌, arith}
use Rattle.data_format.specs.Addresses.{address_of}
use Rattle.capture_spec.proofs.ItemFrontsBack.{port_goes, port_long}
use Rattle.sflow_io.specs.CaptureAnswers.{address_size}
use Rattle.sflow_io.specs.Fronts.{datagram_front}
use Rattle.sflow_io.proofs.Fronts.{breaks_here, front_as}
use Rattle.sflow_io.proofs.item_reader.read_behind_port.Goals as goal

pub returns-then-port-gt65535 : goal.returns-then-port-gt65535
returns-then-port-gt65535 g c =
    let address = address_of c.args.address in
    record {
      reads = breaks_here _ _ _ (16 + address_size address) _ _ _ _
          (λ bytes. port_long c.args.at address (address_size address) c.args.port bytes c.if-port-gt65535.true)
          (omega (arith, c.size_of-size.ensures));
    }

pub returns : goal.returns
returns g c =
    let address = address_of c.args.address in
    record {
      reads = front_as _ _ _ _ _ _ _ _ _
          (λ bytes. port_goes c.args.at address (address_size address) c.args.port bytes
          (omega (arith, c.if-port-gt65535.false))
          ∙ ap (λ n. datagram_front (Some (record { address = address; port = c.args.port })) (12 + n) c.args.at bytes)
          (sym c.size_of-size.ensures))
          c.read_datagram.ensures.reads;
    }
