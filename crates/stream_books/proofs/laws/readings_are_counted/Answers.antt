use Rattle.stream_books.proofs.Sources.{record-entered, record-boot}
use Rattle.stream_books.proofs.laws.readings_are_counted.Goals as goal

pub returns-clause-entered : goal.returns-clause-entered
returns-clause-entered c = record-entered

pub returns-clause-boot : goal.returns-clause-boot
returns-clause-boot c = record-boot
