-- Worked captures, byte by byte.
use Rattle.std.specs.Prelude.{ℕ, List, [], ◌∷◌, ◌++◌}
use Rattle.wire_spec.specs.Captures.{Entry}

-- not the magic, and the word 1
abbrev pub other_magic : List ℕ
other_magic = 0x53 ∷ 0x46 ∷ 0x4c ∷ 0x58 ∷ 0 ∷ 0 ∷ 0 ∷ 1 ∷ []

-- the magic, and the word 2
abbrev pub other_version : List ℕ
other_version = 0x53 ∷ 0x46 ∷ 0x4c ∷ 0x43 ∷ 0 ∷ 0 ∷ 0 ∷ 2 ∷ []

-- the magic, and two bytes of the version
abbrev pub cut_version : List ℕ
cut_version = 0x53 ∷ 0x46 ∷ 0x4c ∷ 0x43 ∷ 0 ∷ 0 ∷ []

-- the magic, and the word 1
abbrev pub empty_capture : List ℕ
empty_capture = 0x53 ∷ 0x46 ∷ 0x4c ∷ 0x43 ∷ 0 ∷ 0 ∷ 0 ∷ 1 ∷ []

-- then four of an arrival's eight bytes
abbrev pub cut_capture : List ℕ
cut_capture = empty_capture ++ 0 ∷ 0 ∷ 0 ∷ 0 ∷ []

-- the arrival 1000 ms, as a hyper
abbrev pub one_second : List ℕ
one_second = 0 ∷ 0 ∷ 0 ∷ 0 ∷ 0 ∷ 0 ∷ 0x03 ∷ 0xe8 ∷ []

-- then an arrival, and the first byte of a length that would be too long
abbrev pub cut_length : List ℕ
cut_length = empty_capture ++ (one_second ++ 0xff ∷ [])

-- then an arrival, and the length 65,536
abbrev pub long_capture : List ℕ
long_capture = empty_capture ++ (one_second ++ 0 ∷ 1 ∷ 0 ∷ 0 ∷ [])

-- a datagram without samples: version 5, the agent 10.0.0.1, sub-agent 0, number 1 and uptime 1000
abbrev pub datagram : List ℕ
datagram =
    0 ∷ 0 ∷ 0 ∷ 5 ∷ 0 ∷ 0 ∷ 0 ∷ 1 ∷ 0x0a ∷ 0 ∷ 0 ∷ 1 ∷ 0 ∷ 0 ∷ 0 ∷ 0 ∷
    0 ∷ 0 ∷ 0 ∷ 1 ∷ 0 ∷ 0 ∷ 0x03 ∷ 0xe8 ∷ 0 ∷ 0 ∷ 0 ∷ 0 ∷ []

-- the same without its last byte
abbrev pub cut_datagram : List ℕ
cut_datagram =
    0 ∷ 0 ∷ 0 ∷ 5 ∷ 0 ∷ 0 ∷ 0 ∷ 1 ∷ 0x0a ∷ 0 ∷ 0 ∷ 1 ∷ 0 ∷ 0 ∷ 0 ∷ 0 ∷
    0 ∷ 0 ∷ 0 ∷ 1 ∷ 0 ∷ 0 ∷ 0x03 ∷ 0xe8 ∷ 0 ∷ 0 ∷ 0 ∷ []

-- then an entry of 27 bytes, with the padding byte 1
abbrev pub badly_padded_capture : List ℕ
badly_padded_capture = empty_capture ++ (one_second ++ (0 ∷ 0 ∷ 0 ∷ 27 ∷ cut_datagram ++ 1 ∷ []))

-- the same with the padding byte 0
abbrev pub padded_capture : List ℕ
padded_capture = empty_capture ++ (one_second ++ (0 ∷ 0 ∷ 0 ∷ 27 ∷ cut_datagram ++ 0 ∷ []))

-- an entry of one byte, with one of its three padding bytes
abbrev pub cut_padding : List ℕ
cut_padding = empty_capture ++ (one_second ++ 0 ∷ 0 ∷ 0 ∷ 1 ∷ 7 ∷ 0 ∷ [])

-- the same with a second padding byte, which isn't zero
abbrev pub cut_bad_padding : List ℕ
cut_bad_padding = empty_capture ++ (one_second ++ 0 ∷ 0 ∷ 0 ∷ 1 ∷ 7 ∷ 0 ∷ 9 ∷ [])

-- an entry of 28 bytes, which has no padding
abbrev pub whole_capture : List ℕ
whole_capture = empty_capture ++ (one_second ++ 0 ∷ 0 ∷ 0 ∷ 28 ∷ datagram)

-- an entry with that arrival
abbrev pub entry_of : List ℕ → Entry
entry_of bytes = record { arrival = 1000; bytes = bytes }
