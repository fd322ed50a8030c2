use Rattle.stream_books.proofs.Sources.{record-passed}
use Rattle.stream_books.proofs.laws.boots_may_pass.Goals as goal

pub returns : goal.returns
returns c = record-passed
