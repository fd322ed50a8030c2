-- The reading of a capture as one total function. What a reader answers is what this gives.
use Rattle.std.specs.Prelude.{◌≡◌, ℕ, zero, suc, ◌+◌, not, ◌==◌, nat_lt, if◌then◌else◌, List, [], ◌∷◌, ◌++◌, length, take, drop, position, bytes_eq, Option, Some, None, Ok, Err}
use Rattle.std.specs.Int.{w32, w64, from_be_bytes}
use Rattle.wire_spec.specs.declared.input_kind.InputKind.{InputKind}
use Rattle.wire_spec.specs.declared.input_kind.InputKind.TheVariants.{Magic, Version, Cut, Long, Padding}
use Rattle.wire_spec.specs.Captures.{Entry, IsEntry, IsBroken, CaptureOutcome, entry_bytes, magic, capture_header}
use Rattle.wire_spec.specs.Padding.{padding_of}

-- what stands where an entry may begin: the end of the input, an entry with what follows it, or a broken
-- entry with the offset of the fault within it
pub data Front : Type 0 where
  Stops : Front
  Holds : Entry → List ℕ → Front
  Breaks : ℕ → InputKind → Front

-- the place of the first byte that isn't zero
abbrev pub first_nonzero : List ℕ → Option ℕ
first_nonzero bytes = position (λ b. not (b == 0)) bytes

-- the arrival and the length of an entry that begins here
abbrev pub arrival_at : List ℕ → ℕ
arrival_at rest = from_be_bytes w64 (take 8 rest)

abbrev pub length_at : List ℕ → ℕ
length_at rest = from_be_bytes w32 (take 4 (drop 8 rest))

-- a padding byte that isn't zero is met before the end of the input
abbrev pub unless_stray : Option ℕ → ℕ → Front → Front
unless_stray (Some k) behind front = Breaks (behind + k) Padding
unless_stray None behind front = front

-- what stands there if these are the arrival and the bytes, and the rest follows them
unfoldable pub front_of_padding : ℕ → List ℕ → List ℕ → Front
front_of_padding arrival bytes rest =
    let padding = padding_of (length bytes) in
    let padded =
    if nat_lt (length rest) padding then Breaks 0 Cut
    else Holds (record { arrival = arrival; bytes = bytes }) (drop padding rest) in
    unless_stray (first_nonzero (take padding rest)) (12 + length bytes) padded

-- what stands there if these are the arrival and the length, and the rest follows them
unfoldable pub front_of_body : ℕ → ℕ → List ℕ → Front
front_of_body arrival n rest =
    if nat_lt (length rest) n then Breaks 0 Cut else front_of_padding arrival (take n rest) (drop n rest)

-- what stands there if it isn't the end
unfoldable pub front_of_entry : List ℕ → Front
front_of_entry rest =
    if nat_lt (length rest) 12 then Breaks 0 Cut
    else if nat_lt 65535 (length_at rest) then Breaks 8 Long
    else front_of_body (arrival_at rest) (length_at rest) (drop 12 rest)

-- what stands at the front of what is left of the input
unfoldable pub front_of : List ℕ → Front
front_of [] = Stops
front_of (b ∷ more) = front_of_entry (b ∷ more)

-- how many bytes an entry has
abbrev pub entry_length : Entry → ℕ
entry_length e = 12 + length e.bytes + padding_of (length e.bytes)

-- an entry before those that are read after it
abbrev pub with_entry : Entry → CaptureOutcome → CaptureOutcome
with_entry e (Ok entries) = Ok (e ∷ entries)
with_entry e (Err fault) = Err fault

-- what is read from this front on; `next` reads what follows an entry, from its offset on
abbrev pub read_front : ℕ → (ℕ → List ℕ → CaptureOutcome) → Front → CaptureOutcome
read_front offset next Stops = Ok []
read_front offset next (Holds e rest) = with_entry e (next (offset + entry_length e) rest)
read_front offset next (Breaks within kind) = Err (offset + within, kind)

-- the entries from this offset to the end of the input; the first number is at least that of the bytes left
unfoldable pub entries_reading : ℕ → ℕ → List ℕ → CaptureOutcome
entries_reading zero offset rest = Ok []
entries_reading (suc most) offset rest = read_front offset (entries_reading most) (front_of rest)

-- the entries of a capture, or its fault with its offset
unfoldable pub capture_reading : List ℕ → CaptureOutcome
capture_reading bytes =
    if bytes_eq (take 8 bytes) (capture_header 1) then entries_reading (length bytes) 8 (drop 8 bytes)
    else if bytes_eq (take 4 bytes) magic then Err (4, Version)
    else Err (0, Magic)

-- what a front says of the bytes that it stands for
abbrev pub IsFront : List ℕ → Front → Type 0
IsFront rest Stops = rest ≡ []
IsFront rest (Holds e more) = IsEntry e × (rest ≡ entry_bytes e ++ more)
IsFront rest (Breaks within kind) = IsBroken rest within kind
