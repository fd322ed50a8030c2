-- How an item of a capture of version 2 is broken: the rest of the input, from the first byte of the item on, behind so
-- many entries; the offset of the fault within the item; and its kind. Bytes are met in order, and a word is met when its
-- four bytes are there.
use Rattle.std.specs.Prelude.{◌≡◌, ◌≢◌, ℕ, ◌+◌, ◌^◌, ◌<◌, List, ◌∷◌, ◌++◌, length}
use Rattle.wire_spec.specs.declared.input_kind.InputKind.{InputKind}
use Rattle.wire_spec.specs.declared.input_kind.InputKind.TheVariants.{Cut, Long, Padding, Item, Address, Port, Count, After}
use Rattle.wire_spec.specs.Bytes.{BeginsWith}
use Rattle.wire_spec.specs.Captures.{IsBroken}
use Rattle.wire_spec.specs.Heads.{AgentAddress}
use Rattle.capture_spec.specs.Items.{word, hyper, Sender, IsAddress, IsSender, address_kind, address_bytes, item_head, item_front, end_item}

-- a word above 1 in place of an item's word
abbrev pub IsOtherItem : List ℕ → Type 0
IsOtherItem rest = (n : ℕ) × (1 < n) × (n < 2 ^ 32) × BeginsWith rest (word n)

-- a word above 2 in place of the kind of an address
abbrev pub HasOtherAddress : List ℕ → Type 0
HasOtherAddress rest =
    (arrival : ℕ) × (kind : ℕ) × (arrival < 2 ^ 64) × (2 < kind) × (kind < 2 ^ 32)
    × BeginsWith rest (item_head arrival kind)

-- a word above 65,535 in place of a port
pub record HasLongPort (rest : List ℕ) (within : ℕ) : Type 0 where
  pub arrival : ℕ
  pub time : arrival < 2 ^ 64
  pub address : AgentAddress
  pub lawful : IsAddress address
  pub port : ℕ
  pub long : 65535 < port
  pub fits : port < 2 ^ 32
  pub begins : BeginsWith rest (item_front arrival address port)
  pub place : within ≡ 16 + length (address_bytes address)

-- Behind its sender an item is broken as an entry of version 1 is behind its arrival, which is moved by the item's word
-- and the sender.
pub record IsBrokenBehind (rest : List ℕ) (within : ℕ) (kind : InputKind) : Type 0 where
  pub arrival : ℕ
  pub time : arrival < 2 ^ 64
  pub sender : Sender
  pub lawful : IsSender sender
  pub tail : List ℕ
  pub whole : rest ≡ item_front arrival sender.address sender.port ++ tail
  pub place : ℕ
  pub broken : IsBroken (hyper arrival ++ tail) place kind
  pub moved : within ≡ 12 + length (address_bytes sender.address) + place

-- the input ends within an item
pub data IsCutItem (rest : List ℕ) : Type 0 where
  -- before it or within its word
  in_word : length rest < 4 → IsCutItem rest
  -- within the arrival or the kind of the address
  in_head : (part : List ℕ) → rest ≡ word 1 ++ part → length part < 12 → IsCutItem rest
  -- within the bytes of an address, or the port
  in_sender : (arrival : ℕ) (address : AgentAddress) (part : List ℕ) → arrival < 2 ^ 64 → IsAddress address
      → rest ≡ item_head arrival (address_kind address) ++ part → length part < length (address_bytes address) + 4
      → IsCutItem rest
  -- behind the sender
  behind_sender : (within : ℕ) → IsBrokenBehind rest within Cut → IsCutItem rest
  -- within the number of an end item
  in_end : (part : List ℕ) → rest ≡ word 0 ++ part → length part < 8 → IsCutItem rest

-- another number of entries
abbrev pub HasOtherCount : ℕ → List ℕ → Type 0
HasOtherCount count rest = (number : ℕ) × (number ≢ count) × (number < 2 ^ 64) × BeginsWith rest (end_item number)

-- a byte behind the end item
abbrev pub GoesOnBehind : ℕ → List ℕ → Type 0
GoesOnBehind count rest = (byte : ℕ) × (more : List ℕ) × (count < 2 ^ 64) × (rest ≡ end_item count ++ byte ∷ more)

-- Cut: the input ends inside the item, or before an end item. Item: the item's word is above 1. Address: the word of the
-- address is above 2. Port: the word of the port is above 65,535. Long: the datagram's length word is. Padding: a padding
-- byte isn't zero. Count: the end item's number isn't the number of entries. After: a byte follows the end item.
abbrev pub IsBrokenItem : ℕ → List ℕ → ℕ → InputKind → Type 0
IsBrokenItem count rest within Cut = (within ≡ 0) × IsCutItem rest
IsBrokenItem count rest within Item = (within ≡ 0) × IsOtherItem rest
IsBrokenItem count rest within Address = (within ≡ 12) × HasOtherAddress rest
IsBrokenItem count rest within Port = HasLongPort rest within
IsBrokenItem count rest within Long = IsBrokenBehind rest within Long
IsBrokenItem count rest within Padding = IsBrokenBehind rest within Padding
IsBrokenItem count rest within Count = (within ≡ 4) × HasOtherCount count rest
IsBrokenItem count rest within After = (within ≡ 12) × GoesOnBehind count rest
IsBrokenItem count rest within _ = ⊥
