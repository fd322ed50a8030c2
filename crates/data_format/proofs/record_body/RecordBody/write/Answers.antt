use Rattle.data_format.proofs.Records.{record_again}
use Rattle.data_format.proofs.record_body.RecordBody.write.Goals as goal

pub returns-clause-again : goal.returns-clause-again
returns-clause-again g c =
    record_again g.Self.RecordBody.shape (g.Self.RecordBody.content c.args.self.now) c.put.ensures.lawful
