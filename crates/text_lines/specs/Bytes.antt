-- The text of bytes: two lower-case hexadecimal digits for each.
use Rattle.std.specs.Prelude.{ℕ, List, [], ◌∷◌, codes, slice_index}
use Rattle.std.specs.List.{concat}
use Rattle.wire_spec.specs.Texts.{hex_byte, hex}

-- a dash stands for no bytes
abbrev pub hex_or_dash : List ℕ → List ℕ
hex_or_dash [] = codes "-"
hex_or_dash (b ∷ bytes) = hex (b ∷ bytes)

-- the six bytes of a MAC address, with colons between them
abbrev pub mac_text : List ℕ → List ℕ
mac_text b = concat (
    hex_byte (slice_index b 0) ∷ codes ":" ∷ hex_byte (slice_index b 1) ∷ codes ":" ∷
    hex_byte (slice_index b 2) ∷ codes ":" ∷ hex_byte (slice_index b 3) ∷ codes ":" ∷
    hex_byte (slice_index b 4) ∷ codes ":" ∷ hex_byte (slice_index b 5) ∷ [])
