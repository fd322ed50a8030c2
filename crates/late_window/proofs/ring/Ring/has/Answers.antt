use Rattle.std.proofs.Common.{◌∙◌, ap}
use Rattle.late_window.specs.Bits.{bit_of_slot}
use Rattle.late_window.proofs.RingBits.{bit-read}
use Rattle.late_window.proofs.ring.Ring.has.Goals as goal

pub returns : goal.returns
returns c = bit-read c.args.self.now.words c.slot-slot.result ∙ ap (bit_of_slot c.args.self.now.words) c.slot-slot.ensures.value
