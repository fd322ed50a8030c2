-- The parts of the items that are written.
use Rattle.std.proofs.Common.{◌≡◌, List, ℕ, ◌++◌, length, replicate, refl}
use Rattle.wire_spec.specs.Captures.{Entry}
use Rattle.wire_spec.specs.Padding.{padding_of}
use Rattle.capture_spec.specs.Items.{Sender, datagram_bytes, item_front, sent_bytes, word}

pub datagram_bytes_are : (bytes : List ℕ)
    → datagram_bytes bytes ≡ word (length bytes) ++ (bytes ++ replicate (padding_of (length bytes)) 0)
unfolding datagram_bytes
datagram_bytes_are bytes = refl

pub sent_bytes_are : (s : Sender) (e : Entry)
    → sent_bytes s e ≡ item_front e.arrival s.address s.port ++ datagram_bytes e.bytes
unfolding sent_bytes
sent_bytes_are s e = refl
