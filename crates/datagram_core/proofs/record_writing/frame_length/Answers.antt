use Rattle.std.proofs.Common.{arith}
use Rattle.datagram_core.proofs.Frames.{frame_size}
use Rattle.datagram_core.proofs.record_writing.frame_length.Goals as goal

pub returns-clause-exact : goal.returns-clause-exact
returns-clause-exact c = omega (arith, frame_size c.args.item.now, c.requires.size)
