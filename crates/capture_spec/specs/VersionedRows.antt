-- Worked captures of version 2, byte by byte.
use Rattle.std.specs.Prelude.{ℕ, List, [], ◌∷◌, ◌++◌, Some}
use Rattle.wire_spec.specs.CaptureRows.{one_second, datagram}
use Rattle.wire_spec.specs.Heads.{unknown, ipv4}
use Rattle.capture_spec.specs.Items.{Received}

-- the magic, and the word 2
abbrev pub header : List ℕ
header = 0x53 ∷ 0x46 ∷ 0x4c ∷ 0x43 ∷ 0 ∷ 0 ∷ 0 ∷ 2 ∷ []

-- the word 1 and the arrival 1000 ms
abbrev pub item : List ℕ
item = 0 ∷ 0 ∷ 0 ∷ 1 ∷ one_second

-- the word of an unknown address, and the port 0
abbrev pub no_sender : List ℕ
no_sender = 0 ∷ 0 ∷ 0 ∷ 0 ∷ 0 ∷ 0 ∷ 0 ∷ 0 ∷ []

-- the address 10.0.0.9, and the port 6343
abbrev pub some_sender : List ℕ
some_sender = 0 ∷ 0 ∷ 0 ∷ 1 ∷ 10 ∷ 0 ∷ 0 ∷ 9 ∷ 0 ∷ 0 ∷ 0x18 ∷ 0xc7 ∷ []

-- a datagram of 28 bytes
abbrev pub whole : List ℕ
whole = 0 ∷ 0 ∷ 0 ∷ 28 ∷ datagram

-- an end item's word, and so many entries, below 256
abbrev pub end_word : List ℕ
end_word = 0 ∷ 0 ∷ 0 ∷ 0 ∷ []

abbrev pub number : ℕ → List ℕ
number n = 0 ∷ 0 ∷ 0 ∷ 0 ∷ 0 ∷ 0 ∷ 0 ∷ n ∷ []

-- the header and one entry, and all of a capture
abbrev pub opened : List ℕ
opened = header ++ (item ++ (no_sender ++ whole))

abbrev pub capture : List ℕ
capture = opened ++ (end_word ++ number 1)

-- an entry with that arrival and an unknown sender, and one from 10.0.0.9
abbrev pub from_nobody : List ℕ → Received
from_nobody bytes = record { arrival = 1000; sender = Some (record { address = unknown; port = 0 }); bytes = bytes }

abbrev pub from_host : List ℕ → Received
from_host bytes =
    record { arrival = 1000; sender = Some (record { address = ipv4 (10 ∷ 0 ∷ 0 ∷ 9 ∷ []); port = 6343 }); bytes = bytes }
