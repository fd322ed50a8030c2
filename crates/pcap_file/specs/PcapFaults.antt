-- Where reading stands when a read of the source has failed: what left the source and was given to nobody.
use Rattle.std.specs.Prelude.{◌≡◌, ◌≢◌, ℕ, ◌<◌, ◌⊎◌, List, [], ◌++◌, length, drop, Option, Some}
use Rattle.std.specs.Io.KnownBytes.{Consumes}
use Rattle.capture_spec.specs.declared.byte_order.ByteOrder.{ByteOrder}
use Rattle.capture_spec.specs.PcapFiles.{HasHeader, Holds, Packet, Walks, front_of}

-- no whole packet stands at the front of these bytes
abbrev pub HasNoPacket : ByteOrder → List ℕ → Type 0
HasNoPacket order part = (p : Packet) (more : List ℕ) → front_of order part ≢ Holds p more

-- no whole packet left the source
pub record StopsInPacket (order : ByteOrder) (old new : Option (List ℕ)) : Type 0 where
  pub part : List ℕ
  pub moved : Consumes old new part
  pub none : HasNoPacket order part

-- a header of this order, these packets, and then this rest
pub record FileThen (order : ByteOrder) (packets : List Packet) (rest bytes : List ℕ) : Type 0 where
  pub header : HasHeader order bytes
  pub packets_are : Walks order (drop 24 bytes) packets rest

-- What left the source is a part of a header, where there are no packets; or the header, these packets and a part in
-- which no whole packet stands.
abbrev pub IsAllThatLeft : List Packet → List ℕ → List ℕ → List ℕ → Type 0
IsAllThatLeft packets bytes part rest =
    ((packets ≡ []) × (length part < 24) × (bytes ≡ part ++ rest))
    ⊎ ((order : ByteOrder) × FileThen order packets (part ++ rest) bytes × HasNoPacket order part)

-- of these bytes, reading gave these packets and no whole packet is lost: the source has left what follows the part
pub record StopsBehind (packets : List Packet) (bytes : List ℕ) (left : Option (List ℕ)) : Type 0 where
  pub part : List ℕ
  pub rest : List ℕ
  pub gone : IsAllThatLeft packets bytes part rest
  pub left_is : left ≡ Some rest
