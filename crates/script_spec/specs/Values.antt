-- Words that are made of others: sources, skip numbers and addresses.
use Rattle.std.specs.Prelude.{ℕ, ◌+◌, ◌++◌, ◌==◌, ◌&&◌, Bool, false, List, [], ◌∷◌, length, map, slice_index, Option, Some, None, if◌then◌else◌, option_map, option_and_then}
use Rattle.std.specs.List.{list_all, join_with_byte}
use Rattle.std.specs.Option.{option_or}
use Rattle.wire_spec.specs.Heads.{AgentAddress, unknown, ipv4, ipv6}
use Rattle.script_spec.specs.Words.{Text, WordForm, number, number32, is_between, where_true, hex_byte, hex_digits, is_byte}
use Rattle.script_spec.specs.Parts.{Part, one, both, joined, split_at}

-- ---- sources

-- a source, whatever its kind: a class and an index
pub record Place : Type 0 where
  pub class : ℕ
  pub index : ℕ

abbrev pub place_words : WordForm (ℕ × ℕ)
place_words = joined 58 (both (one (number 0 255)) (one number32))

abbrev pub place_at : ℕ × ℕ → Place
place_at x = record { class = x.0; index = x.1 }

-- `C:I`, a class of at most 255 and an index of 32 bits; the colon is 58
abbrev pub place : WordForm Place
place = record {
  read = λ text. option_map place_at (place_words.read text);
  may = λ p. place_words.may (p.class, p.index);
  write = λ p. place_words.write (p.class, p.index);
}

-- ---- skip numbers

-- what each of the texts says
abbrev pub each_in : {A : Type 0} → (Text → Option A) → List Text → Option (List A)
each_in read [] = Some []
each_in read (text ∷ more) =
    option_and_then (λ a. option_map (λ others. a ∷ others) (each_in read more)) (read text)

abbrev pub skip_number : WordForm ℕ
skip_number = number 1 4294967295

abbrev pub is_skip_count : List ℕ → Bool
is_skip_count skips = is_between 1 1024 (length skips)

-- up to 1,024 numbers; a comma, 44, between each two
abbrev pub skip_list : WordForm (List ℕ)
skip_list = record {
  read = λ text. where_true is_skip_count (each_in skip_number.read (split_at 44 text));
  may = λ skips. is_skip_count skips && list_all skip_number.may skips;
  write = λ skips. join_with_byte 44 (map skip_number.write skips);
}

-- ---- addresses

abbrev pub octet : Part ℕ
octet = one (number 0 255)

abbrev pub Four : Type 0
Four = ℕ × (ℕ × (ℕ × ℕ))

-- four numbers with a dot, 46, between each two
abbrev pub dotted : WordForm Four
dotted = joined 46 (both octet (both octet (both octet octet)))

abbrev pub four_bytes : Four → List ℕ
four_bytes x = x.0 ∷ x.1.0 ∷ x.1.1.0 ∷ x.1.1.1 ∷ []

-- four hexadecimal digits are two bytes
abbrev pub two_bytes : Text → Option (ℕ × ℕ)
two_bytes text =
    if length text == 4
    then option_and_then (λ x. option_map (λ y. (x, y)) (hex_byte (slice_index text 2) (slice_index text 3)))
    (hex_byte (slice_index text 0) (slice_index text 1))
    else None

abbrev pub group : WordForm (ℕ × ℕ)
group = record {
  read = two_bytes;
  may = λ x. is_byte x.0 && is_byte x.1;
  write = λ x. hex_digits x.0 ++ hex_digits x.1;
}

abbrev pub Eight : Type 0
Eight = (ℕ × ℕ) × ((ℕ × ℕ) × ((ℕ × ℕ) × ((ℕ × ℕ) × ((ℕ × ℕ) × ((ℕ × ℕ) × ((ℕ × ℕ) × (ℕ × ℕ)))))))

-- eight groups with a colon between each two
abbrev pub grouped : WordForm Eight
grouped =
    joined 58 (both (one group) (both (one group) (both (one group) (both (one group) (both (one group)
    (both (one group) (both (one group) (one group))))))))

abbrev pub sixteen_bytes : Eight → List ℕ
sixteen_bytes x =
    x.0.0 ∷ x.0.1 ∷ x.1.0.0 ∷ x.1.0.1 ∷ x.1.1.0.0 ∷ x.1.1.0.1 ∷ x.1.1.1.0.0 ∷ x.1.1.1.0.1 ∷
    x.1.1.1.1.0.0 ∷ x.1.1.1.1.0.1 ∷ x.1.1.1.1.1.0.0 ∷ x.1.1.1.1.1.0.1 ∷ x.1.1.1.1.1.1.0.0 ∷ x.1.1.1.1.1.1.0.1 ∷
    x.1.1.1.1.1.1.1.0 ∷ x.1.1.1.1.1.1.1.1 ∷ []

-- so many bytes as these pairs; bytes that are missing are 0
abbrev pub in_four : List ℕ → Four
in_four bytes = (slice_index bytes 0, (slice_index bytes 1, (slice_index bytes 2, slice_index bytes 3)))

abbrev pub pair_at : List ℕ → ℕ → ℕ × ℕ
pair_at bytes k = (slice_index bytes k, slice_index bytes (k + 1))

abbrev pub in_eight : List ℕ → Eight
in_eight bytes = (
  pair_at bytes 0,
  (
    pair_at bytes 2,
    (
      pair_at bytes 4,
      (
        pair_at bytes 6,
        (
          pair_at bytes 8,
          (
            pair_at bytes 10,
            (pair_at bytes 12, pair_at bytes 14),
          ),
        ),
      ),
    ),
  ),
)

abbrev pub may_be_address : AgentAddress → Bool
may_be_address unknown = false
may_be_address (ipv4 bytes) = (length bytes == 4) && dotted.may (in_four bytes)
may_be_address (ipv6 bytes) = (length bytes == 16) && grouped.may (in_eight bytes)

abbrev pub address_text : AgentAddress → Text
address_text unknown = []
address_text (ipv4 bytes) = dotted.write (in_four bytes)
address_text (ipv6 bytes) = grouped.write (in_eight bytes)

-- an IPv4 address in its dotted form, or one of IPv6 in eight groups
abbrev pub address : WordForm AgentAddress
address = record {
  read = λ text. option_or (option_map (λ x. ipv4 (four_bytes x)) (dotted.read text))
      (option_map (λ x. ipv6 (sixteen_bytes x)) (grouped.read text));
  may = may_be_address;
  write = address_text;
}
