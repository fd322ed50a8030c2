-- The text of a line's pieces.
use Rattle.std.specs.Prelude.{ℕ, List, decimal, flat_map}
use Rattle.wire_spec.specs.FaultNames.{fault_name}
use Rattle.wire_spec.specs.Texts.{address_text}
use Rattle.data_format.specs.Addresses.{address_of}
use Rattle.text_lines.specs.Bytes.{hex_or_dash, mac_text}
use Rattle.text_lines.specs.declared.piece.Piece.{Piece}
use Rattle.text_lines.specs.declared.piece.Piece.TheVariants.{Text, Number, Address, Hex, Mac, Kind}

abbrev pub piece_text : Piece → List ℕ
piece_text (Text text) = text.now
piece_text (Number number) = decimal number
piece_text (Address address) = address_text (address_of address)
piece_text (Hex bytes) = hex_or_dash bytes.now
piece_text (Mac mac) = mac_text mac.0
piece_text (Kind kind) = fault_name kind

-- the pieces, one after the other
abbrev pub pieces_text : List Piece → List ℕ
pieces_text pieces = flat_map piece_text pieces
