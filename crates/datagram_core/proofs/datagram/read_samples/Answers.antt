use Rattle.xdr_words.specs.Readers.{remaining}
use Rattle.data_format.proofs.Tables.{frames_pass}
use Rattle.datagram_core.specs.Tables.{samples_read}
use Rattle.datagram_core.proofs.datagram.read_samples.Goals as goal

pub over-requires : goal.over-requires
over-requires c =
    frames_pass c.args.pad samples_read (remaining c.args.cursor.now) (c.in_ok-frames.frames, remaining c.read.new.cursor)
    c.in_ok-frames.ensures.exact.0
