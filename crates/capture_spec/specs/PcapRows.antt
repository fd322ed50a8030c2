-- Worked files, byte by byte.
use Rattle.std.specs.Prelude.{ℕ, List, [], ◌∷◌, ◌++◌, take}
use Rattle.capture_spec.specs.PcapFiles.{Packet}
use Rattle.capture_spec.specs.PayloadRows.{whole}

-- the lowest byte first: version 2.4, any words, and Ethernet
abbrev pub low_header : List ℕ
low_header =
    0xd4 ∷ 0xc3 ∷ 0xb2 ∷ 0xa1 ∷ 2 ∷ 0 ∷ 4 ∷ 0 ∷ 0 ∷ 0 ∷ 0 ∷ 0 ∷
    0 ∷ 0 ∷ 0 ∷ 0 ∷ 0xff ∷ 0xff ∷ 0 ∷ 0 ∷ 1 ∷ 0 ∷ 0 ∷ 0 ∷ []

-- a packet at 1.25 s: so many bytes captured of 70
abbrev pub low_words : ℕ → List ℕ
low_words captured =
    1 ∷ 0 ∷ 0 ∷ 0 ∷ 0x90 ∷ 0xd0 ∷ 3 ∷ 0 ∷ captured ∷ 0 ∷ 0 ∷ 0 ∷ 70 ∷ 0 ∷ 0 ∷ 0 ∷ []

abbrev pub low_file : List ℕ
low_file = low_header ++ low_words 70 ++ whole

-- the same, the highest byte first
abbrev pub high_header : List ℕ
high_header =
    0xa1 ∷ 0xb2 ∷ 0xc3 ∷ 0xd4 ∷ 0 ∷ 2 ∷ 0 ∷ 4 ∷ 0 ∷ 0 ∷ 0 ∷ 0 ∷
    0 ∷ 0 ∷ 0 ∷ 0 ∷ 0 ∷ 0 ∷ 0xff ∷ 0xff ∷ 0 ∷ 0 ∷ 0 ∷ 1 ∷ []

abbrev pub high_words : ℕ → ℕ → List ℕ
high_words over captured =
    0 ∷ 0 ∷ 0 ∷ 1 ∷ 0 ∷ 3 ∷ 0xd0 ∷ 0x90 ∷ 0 ∷ over ∷ 0 ∷ captured ∷ 0 ∷ 0 ∷ 0 ∷ 70 ∷ []

abbrev pub high_file : List ℕ
high_file = high_header ++ high_words 0 70 ++ whole

-- a packet of those bytes at 1250 ms
abbrev pub packet_of : List ℕ → Packet
packet_of bytes = record { arrival = 1250; bytes = bytes }

-- the magic of files whose times are in nanoseconds, and that of pcapng
abbrev pub nanosecond_magic : List ℕ
nanosecond_magic = 0x4d ∷ 0x3c ∷ 0xb2 ∷ 0xa1 ∷ 2 ∷ 0 ∷ 4 ∷ 0 ∷ []

abbrev pub pcapng_magic : List ℕ
pcapng_magic = 0x0a ∷ 0x0d ∷ 0x0d ∷ 0x0a ∷ []

-- version 2.3
abbrev pub other_version : List ℕ
other_version = 0xd4 ∷ 0xc3 ∷ 0xb2 ∷ 0xa1 ∷ 2 ∷ 0 ∷ 3 ∷ 0 ∷ []

-- the version in the other order
abbrev pub mixed_version : List ℕ
mixed_version = 0xa1 ∷ 0xb2 ∷ 0xc3 ∷ 0xd4 ∷ 2 ∷ 0 ∷ 4 ∷ 0 ∷ []

-- Linux cooked captures, link type 113
abbrev pub other_link : List ℕ
other_link = take 20 low_header ++ 113 ∷ 0 ∷ 0 ∷ 0 ∷ []

-- behind one packet a second one: 262,145 bytes captured, and the input ends behind that word
abbrev pub long_packet : List ℕ
long_packet = high_file ++ take 12 (high_words 4 1)
