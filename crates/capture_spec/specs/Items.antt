-- The items of a capture of version 2. An entry item is the word 1, the arrival in ms as an unsigned hyper (RFC 4506,
-- section 4.5), the sender's address as a union (section 4.15), the sender's port as a word (section 4.2), and the
-- datagram as version 1 has it. The end item is the word 0, and the number of entries as an unsigned hyper.
use Rattle.std.specs.Prelude.{◌≡◌, ⊤, ℕ, ◌≤◌, List, [], ◌++◌, length, replicate, Option, Some, None}
use Rattle.std.specs.Int.{w32, w64, to_be_bytes}
use Rattle.wire_spec.specs.Captures.{Entry, IsEntry}
use Rattle.wire_spec.specs.Heads.{AgentAddress, unknown, ipv4, ipv6}
use Rattle.wire_spec.specs.Padding.{padding_of}

-- who sent a datagram: the address, and the port
pub record Sender : Type 0 where
  pub address : AgentAddress
  pub port : ℕ

-- a datagram as it came: the arrival in ms, who sent it where the capture says so, and its bytes
pub record Received : Type 0 where
  pub arrival : ℕ
  pub sender : Option Sender
  pub bytes : List ℕ

-- what version 1 has of it
abbrev pub entry_of : Received → Entry
entry_of e = record { arrival = e.arrival; bytes = e.bytes }

-- what it is with this sender
abbrev pub sent_by : Option Sender → Entry → Received
sent_by sender e = record { arrival = e.arrival; sender = sender; bytes = e.bytes }

-- ---- numbers

-- a word and an unsigned hyper
unfoldable pub word : ℕ → List ℕ
word n = to_be_bytes w32 n

unfoldable pub hyper : ℕ → List ℕ
hyper n = to_be_bytes w64 n

-- ---- a sender

-- the word that tells the kind of an address: 0 none, 1 IPv4 (RFC 791), 2 IPv6 (RFC 8200)
abbrev pub address_kind : AgentAddress → ℕ
address_kind unknown = 0
address_kind (ipv4 bytes) = 1
address_kind (ipv6 bytes) = 2

-- the bytes that follow it
abbrev pub address_bytes : AgentAddress → List ℕ
address_bytes unknown = []
address_bytes (ipv4 bytes) = bytes
address_bytes (ipv6 bytes) = bytes

abbrev pub IsAddress : AgentAddress → Type 0
IsAddress unknown = ⊤
IsAddress (ipv4 bytes) = length bytes ≡ 4
IsAddress (ipv6 bytes) = length bytes ≡ 16

-- the port is one of UDP
pub record IsSender (s : Sender) : Type 0 where
  pub address : IsAddress s.address
  pub port : s.port ≤ 65535

-- ---- an entry item

-- the item up to the word of the address
unfoldable pub item_head : ℕ → ℕ → List ℕ
item_head arrival kind = word 1 ++ (hyper arrival ++ word kind)

-- the item up to the sender's port, with it
unfoldable pub item_front : ℕ → AgentAddress → ℕ → List ℕ
item_front arrival address port =
    item_head arrival (address_kind address) ++ (address_bytes address ++ word port)

-- the datagram as version 1 has it behind the arrival: its length, its bytes and zero bytes up to a multiple of four
unfoldable pub datagram_bytes : List ℕ → List ℕ
datagram_bytes bytes = word (length bytes) ++ (bytes ++ replicate (padding_of (length bytes)) 0)

-- an entry item of this sender
unfoldable pub sent_bytes : Sender → Entry → List ℕ
sent_bytes s e = item_front e.arrival s.address s.port ++ datagram_bytes e.bytes

-- an entry item, which is none without a sender
abbrev pub item_by : Option Sender → Entry → List ℕ
item_by None e = []
item_by (Some s) e = sent_bytes s e

abbrev pub item_bytes : Received → List ℕ
item_bytes e = item_by e.sender (entry_of e)

-- it has a sender, and the rest as version 1
pub record IsItem (e : Received) : Type 0 where
  pub from : Sender
  pub sender_is : e.sender ≡ Some from
  pub sender : IsSender from
  pub entry : IsEntry (entry_of e)

-- ---- the end item

unfoldable pub end_item : ℕ → List ℕ
end_item count = word 0 ++ hyper count
