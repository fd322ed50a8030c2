-- Printed text, as lists of bytes. A number prints as `decimal` of std has it: digits without a leading zero.
use Rattle.std.specs.Prelude.{ℕ, ◌+◌, ◌/◌, ◌%◌, false, List, [], ◌∷◌, ◌++◌, codes, decimal, slice_index, flat_map}
use Rattle.std.specs.Fmt.{digit_glyph}
use Rattle.std.specs.List.{concat}
use Rattle.wire_spec.specs.Heads.{AgentAddress, unknown, ipv4, ipv6}

-- a byte as two lower-case hexadecimal digits
abbrev pub hex_byte : ℕ → List ℕ
hex_byte n = digit_glyph false (n / 16) ∷ digit_glyph false (n % 16) ∷ []

-- bytes as pairs of such digits
abbrev pub hex : List ℕ → List ℕ
hex bytes = flat_map hex_byte bytes

-- four decimal numbers with dots between them
abbrev pub dotted : List ℕ → List ℕ
dotted b = concat (
    decimal (slice_index b 0) ∷ codes "." ∷ decimal (slice_index b 1) ∷ codes "." ∷
    decimal (slice_index b 2) ∷ codes "." ∷ decimal (slice_index b 3) ∷ [])

-- two bytes from place k on as four hexadecimal digits
abbrev pub group : List ℕ → ℕ → List ℕ
group b k = hex_byte (slice_index b k) ++ hex_byte (slice_index b (k + 1))

-- eight groups with colons between them
abbrev pub grouped : List ℕ → List ℕ
grouped b = concat (
    group b 0 ∷ codes ":" ∷ group b 2 ∷ codes ":" ∷ group b 4 ∷ codes ":" ∷ group b 6 ∷ codes ":" ∷
    group b 8 ∷ codes ":" ∷ group b 10 ∷ codes ":" ∷ group b 12 ∷ codes ":" ∷ group b 14 ∷ [])

-- an agent's address
abbrev pub address_text : AgentAddress → List ℕ
address_text unknown = codes "unknown"
address_text (ipv4 b) = dotted b
address_text (ipv6 b) = grouped b
