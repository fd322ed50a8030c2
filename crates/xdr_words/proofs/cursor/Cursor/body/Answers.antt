use Rattle.wire_spec.specs.Bodies.{FailsCounted, counted_body_at}
use Rattle.wire_spec.proofs.Bodies.{IsCountedBody, counted_so}
use Rattle.xdr_words.specs.Bodies.{inside_of}
use Rattle.xdr_words.specs.Items.{fault_of}
use Rattle.xdr_words.specs.Readers.{remaining}
use Rattle.xdr_words.proofs.Said.{bytes_seen, so_value, so_fault}
use Rattle.xdr_words.proofs.cursor.Cursor.body.Goals as goal

pub returns-clause-spelled : goal.returns-clause-spelled
returns-clause-spelled c =
    let old = c.args.self.now in
    so_value inside_of fault_of IsCountedBody FailsCounted old _ (counted_body_at (remaining old))
    (counted_so (remaining old) (bytes_seen _ _ c.self.view_is c.self.invariant.1)) c.take_body.result c.take_body.ensures.exact

pub returns-clause-fault : goal.returns-clause-fault
returns-clause-fault c =
    let old = c.args.self.now in
    so_fault inside_of fault_of IsCountedBody FailsCounted old _ (counted_body_at (remaining old))
    (counted_so (remaining old) (bytes_seen _ _ c.self.view_is c.self.invariant.1)) c.take_body.result c.take_body.ensures.exact
