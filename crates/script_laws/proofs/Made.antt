-- Words that are made of others: sources, skip numbers and addresses.
use Rattle.std.proofs.Common.{◌≡◌, ◌∙◌, ◌<◌, ◌==◌, ◌||◌, ℕ, Bool, true, false, List, [], ◌∷◌, length, drop, map, Option, Some, None, refl, ap, sym, arith, if◌then◌else◌, drop-cons}
use Rattle.std.specs.Prelude.{option_map, option_and_then, slice_index}
use Rattle.std.specs.Char.{is_ascii_digit}
use Rattle.std.specs.List.{list_all, list_any, join_with_byte}
use Rattle.std.specs.Option.{option_or}
use Rattle.std.proofs.lemmas.Bool.Decides.{nat_tests}
use Rattle.std.proofs.lemmas.List.{drop_all}
use Rattle.std.proofs.lemmas.List.Folds.{list_any-append}
use Rattle.std.proofs.lemmas.List.Splits.{join_with_byte-slice_split}
use Rattle.wire_spec.specs.Heads.{AgentAddress, unknown, ipv4, ipv6}
use Rattle.script_spec.specs.Words.{Text, number, number32, where_true, hex_value}
use Rattle.script_spec.specs.Parts.{Part, one, both, split_at}
use Rattle.script_spec.specs.Values.{place_words, place_at, place, each_in, skip_number, is_skip_count, skip_list, octet, Four, dotted, four_bytes, group, Eight, grouped, sixteen_bytes, in_four, in_eight, may_be_address, address_text, address}
use Rattle.script_laws.proofs.Texts.{both_true, and_true, chosen, mapped, bound, AllLack, lacks-joined}
use Rattle.script_laws.proofs.Parting.{IsForm, FormLacks, IsPart, PartLacks, one_part, one_lacks, both_part, both_lacks, joined_form, joined_lacks, seen_form, split_words}
use Rattle.script_laws.proofs.Numbers.{number_form, number_lacks}
use Rattle.script_laws.proofs.Bytes.{group_form, group_lacks}

same : {A : Type 0} (x y : A) → Some x ≡ Some y → x ≡ y
same x y e = cc

-- ---- sources

octet_law : IsPart octet
octet_law = one_part (number 0 255) (number_form 0 255 (omega arith))

octet_lacks : (c : ℕ) → is_ascii_digit c ≡ false → PartLacks c octet
octet_lacks c none = one_lacks c (number 0 255) (number_lacks c 0 255 (omega arith) none)

index_law : IsPart (one number32)
index_law = one_part number32 (number_form 0 4294967295 (omega arith))

index_lacks : (c : ℕ) → is_ascii_digit c ≡ false → PartLacks c (one number32)
index_lacks c none = one_lacks c number32 (number_lacks c 0 4294967295 (omega arith) none)

pub place_form : IsForm place
place_form =
    seen_form place_words place place_at (λ p. (p.class, p.index)) (λ word. refl) (λ p. refl) (λ p. refl) (λ x. refl) (λ p. refl)
    (joined_form 58 (both octet (one number32)) (both_part octet (one number32) octet_law index_law)
    (both_lacks 58 octet (one number32) (octet_lacks 58 refl) (index_lacks 58 refl)))

pub place_lacks : FormLacks 32 place
place_lacks p may =
    joined_lacks 58 32 (both octet (one number32)) refl
    (both_lacks 32 octet (one number32) (octet_lacks 32 refl) (index_lacks 32 refl)) (p.class, p.index) may

-- ---- skip numbers

skip_form : IsForm skip_number
skip_form = number_form 1 4294967295 (omega arith)

each_read : (texts : List Text) (skips : List ℕ) → each_in skip_number.read texts ≡ Some skips
    → (list_all skip_number.may skips ≡ true) × (texts ≡ map skip_number.write skips)
each_read [] skips e =
    let is : [] ≡ skips = same [] skips e in
    (ap (list_all skip_number.may) (sym is), ap (map skip_number.write) is)
each_read (text ∷ more) skips e =
    let b = bound (λ (n : ℕ). option_map (λ (others : List ℕ). n ∷ others) (each_in skip_number.read more)) (skip_number.read text) skips e in
    let m = mapped (λ (others : List ℕ). b.a ∷ others) (each_in skip_number.read more) skips b.to in
    let first = skip_form.read text b.a b.is in
    let rest = each_read more m.a m.is in (
      ap (list_all skip_number.may) (sym m.to) ∙ and_true (skip_number.may b.a) (list_all skip_number.may m.a) first.0 rest.0,
      ap (λ (t : Text). t ∷ more) first.1 ∙ ap (λ (l : List Text). skip_number.write b.a ∷ l) rest.1
          ∙ ap (map skip_number.write) m.to,
    )

each_written : (skips : List ℕ) → list_all skip_number.may skips ≡ true
    → each_in skip_number.read (map skip_number.write skips) ≡ Some skips
each_written [] may = refl
each_written (n ∷ more) may =
    let parts = both_true (skip_number.may n) (list_all skip_number.may more) may in
    ap (option_and_then (λ (k : ℕ). option_map (λ (others : List ℕ). k ∷ others) (each_in skip_number.read (map skip_number.write more)))) (skip_form.written n parts.0)
    ∙ ap (option_map (λ (others : List ℕ). n ∷ others)) (each_written more parts.1)

each_lacks : (c : ℕ) → is_ascii_digit c ≡ false → (skips : List ℕ) → list_all skip_number.may skips ≡ true
    → AllLack c (map skip_number.write skips)
each_lacks c none [] may = tt
each_lacks c none (n ∷ more) may =
    let parts = both_true (skip_number.may n) (list_all skip_number.may more) may in
    (number_lacks c 1 4294967295 (omega arith) none n parts.0, each_lacks c none more parts.1)

some_skips : (skips : List ℕ) → is_skip_count skips ≡ true → 0 < length (map skip_number.write skips)
some_skips [] e = absurd cc
some_skips (n ∷ more) e = omega arith

pub skip_list_form : IsForm skip_list
skip_list_form = record { read = read; written = written }
  where
    read : (text : Text) (skips : List ℕ) → skip_list.read text ≡ Some skips
        → (skip_list.may skips ≡ true) × (text ≡ skip_list.write skips)
    read text skips e =
        let b = bound (λ (l : List ℕ). if is_skip_count l then Some l else None) (each_in skip_number.read (split_at 44 text)) skips e in
        chosen (is_skip_count b.a) (Some b.a) None skips ((skip_list.may skips ≡ true) × (text ≡ skip_list.write skips)) b.to
        (λ inside value.
        let is : b.a ≡ skips = same b.a skips value in
        let said = each_read (split_at 44 text) skips (b.is ∙ ap (λ (l : List ℕ). Some l) is) in (
          and_true (is_skip_count skips) (list_all skip_number.may skips) (ap is_skip_count (sym is) ∙ inside) said.0,
          sym (join_with_byte-slice_split 44 text) ∙ ap (join_with_byte 44) said.1,
        ))
        (λ outside bad. absurd cc)

    written : (skips : List ℕ) → skip_list.may skips ≡ true → skip_list.read (skip_list.write skips) ≡ Some skips
    written skips may =
        let parts = both_true (is_skip_count skips) (list_all skip_number.may skips) may in
        ap (λ (l : List Text). where_true is_skip_count (each_in skip_number.read l))
        (split_words 44 (map skip_number.write skips) (some_skips skips parts.0) (each_lacks 44 refl skips parts.1))
        ∙ ap (where_true is_skip_count) (each_written skips parts.1)
        ∙ ap (λ (b : Bool). if b then Some skips else None) parts.0

pub skip_list_lacks : FormLacks 32 skip_list
skip_list_lacks skips may =
    let parts = both_true (is_skip_count skips) (list_all skip_number.may skips) may in
    lacks-joined 44 32 (map skip_number.write skips) refl (each_lacks 32 refl skips parts.1)

-- ---- addresses

abbrev four_part : Part Four
four_part = both octet (both octet (both octet octet))

four_law : IsPart four_part
four_law =
    both_part octet (both octet (both octet octet)) octet_law
    (both_part octet (both octet octet) octet_law (both_part octet octet octet_law octet_law))

four_lacks : (c : ℕ) → is_ascii_digit c ≡ false → PartLacks c four_part
four_lacks c none =
    both_lacks c octet (both octet (both octet octet)) (octet_lacks c none)
    (both_lacks c octet (both octet octet) (octet_lacks c none) (both_lacks c octet octet (octet_lacks c none) (octet_lacks c none)))

dotted_form : IsForm dotted
dotted_form = joined_form 46 four_part four_law (four_lacks 46 refl)

abbrev two : Part (ℕ × ℕ)
two = one group

record Groups {A : Type 0} (part : Part A) : Type 0 where
  pub law : IsPart part
  pub lacks : (c : ℕ) → hex_value c ≡ None → PartLacks c part

last_group : Groups two
last_group = record { law = one_part group group_form; lacks = λ c none. one_lacks c group (group_lacks c none) }

further : {A : Type 0} (part : Part A) → Groups part → Groups (both two part)
further part g = record {
  law = both_part two part last_group.law g.law;
  lacks = λ c none. both_lacks c two part (last_group.lacks c none) (g.lacks c none);
}

abbrev seven_part : Part ((ℕ × ℕ) × ((ℕ × ℕ) × ((ℕ × ℕ) × ((ℕ × ℕ) × ((ℕ × ℕ) × ((ℕ × ℕ) × (ℕ × ℕ)))))))
seven_part = both two (both two (both two (both two (both two (both two two)))))

abbrev eight_part : Part Eight
eight_part = both two seven_part

eight_groups : Groups eight_part
eight_groups =
    further seven_part (further (both two (both two (both two (both two (both two two)))))
    (further (both two (both two (both two (both two two)))) (further (both two (both two (both two two)))
    (further (both two (both two two)) (further (both two two) (further two last_group))))))

grouped_form : IsForm grouped
grouped_form = joined_form 58 eight_part eight_groups.law (eight_groups.lacks 58 refl)

-- ---- the bytes of an address

rebuilt4 : (bytes : List ℕ) → length bytes ≡ 4 → four_bytes (in_four bytes) ≡ bytes
rebuilt4 bytes size = sym from0
  where
    nil : drop 4 bytes ≡ []
    nil = drop_all 4 bytes (omega arith)

    from3 : drop 3 bytes ≡ slice_index bytes 3 ∷ []
    from3 = drop-cons bytes 3 0 (omega arith) ∙ ap (λ (l : List ℕ). slice_index bytes 3 ∷ l) nil

    from2 : drop 2 bytes ≡ slice_index bytes 2 ∷ slice_index bytes 3 ∷ []
    from2 = drop-cons bytes 2 0 (omega arith) ∙ ap (λ (l : List ℕ). slice_index bytes 2 ∷ l) from3

    from1 : drop 1 bytes ≡ slice_index bytes 1 ∷ slice_index bytes 2 ∷ slice_index bytes 3 ∷ []
    from1 = drop-cons bytes 1 0 (omega arith) ∙ ap (λ (l : List ℕ). slice_index bytes 1 ∷ l) from2

    from0 : drop 0 bytes ≡ slice_index bytes 0 ∷ slice_index bytes 1 ∷ slice_index bytes 2 ∷ slice_index bytes 3 ∷ []
    from0 = drop-cons bytes 0 0 (omega arith) ∙ ap (λ (l : List ℕ). slice_index bytes 0 ∷ l) from1

rebuilt16 : (bytes : List ℕ) → length bytes ≡ 16 → sixteen_bytes (in_eight bytes) ≡ bytes
rebuilt16 bytes size = sym from0
  where
    nil : drop 16 bytes ≡ []
    nil = drop_all 16 bytes (omega arith)

    from15 : drop 15 bytes ≡ slice_index bytes 15 ∷ []
    from15 = drop-cons bytes 15 0 (omega arith) ∙ ap (λ (l : List ℕ). slice_index bytes 15 ∷ l) nil

    from14 : drop 14 bytes ≡ slice_index bytes 14 ∷ slice_index bytes 15 ∷ []
    from14 = drop-cons bytes 14 0 (omega arith) ∙ ap (λ (l : List ℕ). slice_index bytes 14 ∷ l) from15

    from13 : drop 13 bytes ≡ slice_index bytes 13 ∷ slice_index bytes 14 ∷ slice_index bytes 15 ∷ []
    from13 = drop-cons bytes 13 0 (omega arith) ∙ ap (λ (l : List ℕ). slice_index bytes 13 ∷ l) from14

    from12 : drop 12 bytes ≡ slice_index bytes 12 ∷ slice_index bytes 13 ∷ slice_index bytes 14 ∷ slice_index bytes 15 ∷ []
    from12 = drop-cons bytes 12 0 (omega arith) ∙ ap (λ (l : List ℕ). slice_index bytes 12 ∷ l) from13

    from11 : drop 11 bytes ≡ slice_index bytes 11 ∷ slice_index bytes 12 ∷ slice_index bytes 13 ∷ slice_index bytes 14 ∷ slice_index bytes 15 ∷ []
    from11 = drop-cons bytes 11 0 (omega arith) ∙ ap (λ (l : List ℕ). slice_index bytes 11 ∷ l) from12

    from10 : drop 10 bytes ≡ slice_index bytes 10 ∷ slice_index bytes 11 ∷ slice_index bytes 12 ∷ slice_index bytes 13 ∷ slice_index bytes 14 ∷ slice_index bytes 15 ∷ []
    from10 = drop-cons bytes 10 0 (omega arith) ∙ ap (λ (l : List ℕ). slice_index bytes 10 ∷ l) from11

    from9 : drop 9 bytes ≡ slice_index bytes 9 ∷ slice_index bytes 10 ∷ slice_index bytes 11 ∷ slice_index bytes 12 ∷ slice_index bytes 13 ∷ slice_index bytes 14 ∷ slice_index bytes 15 ∷ []
    from9 = drop-cons bytes 9 0 (omega arith) ∙ ap (λ (l : List ℕ). slice_index bytes 9 ∷ l) from10

    from8 : drop 8 bytes ≡ slice_index bytes 8 ∷ slice_index bytes 9 ∷ slice_index bytes 10 ∷ slice_index bytes 11 ∷ slice_index bytes 12 ∷ slice_index bytes 13 ∷ slice_index bytes 14 ∷ slice_index bytes 15 ∷ []
    from8 = drop-cons bytes 8 0 (omega arith) ∙ ap (λ (l : List ℕ). slice_index bytes 8 ∷ l) from9

    from7 : drop 7 bytes ≡ slice_index bytes 7 ∷ slice_index bytes 8 ∷ slice_index bytes 9 ∷ slice_index bytes 10 ∷ slice_index bytes 11 ∷ slice_index bytes 12 ∷ slice_index bytes 13 ∷ slice_index bytes 14 ∷ slice_index bytes 15 ∷ []
    from7 = drop-cons bytes 7 0 (omega arith) ∙ ap (λ (l : List ℕ). slice_index bytes 7 ∷ l) from8

    from6 : drop 6 bytes ≡ slice_index bytes 6 ∷ slice_index bytes 7 ∷ slice_index bytes 8 ∷ slice_index bytes 9 ∷ slice_index bytes 10 ∷ slice_index bytes 11 ∷ slice_index bytes 12 ∷ slice_index bytes 13 ∷ slice_index bytes 14 ∷ slice_index bytes 15 ∷ []
    from6 = drop-cons bytes 6 0 (omega arith) ∙ ap (λ (l : List ℕ). slice_index bytes 6 ∷ l) from7

    from5 : drop 5 bytes ≡ slice_index bytes 5 ∷ slice_index bytes 6 ∷ slice_index bytes 7 ∷ slice_index bytes 8 ∷ slice_index bytes 9 ∷ slice_index bytes 10 ∷ slice_index bytes 11 ∷ slice_index bytes 12 ∷ slice_index bytes 13 ∷ slice_index bytes 14 ∷ slice_index bytes 15 ∷ []
    from5 = drop-cons bytes 5 0 (omega arith) ∙ ap (λ (l : List ℕ). slice_index bytes 5 ∷ l) from6

    from4 : drop 4 bytes ≡ slice_index bytes 4 ∷ slice_index bytes 5 ∷ slice_index bytes 6 ∷ slice_index bytes 7 ∷ slice_index bytes 8 ∷ slice_index bytes 9 ∷ slice_index bytes 10 ∷ slice_index bytes 11 ∷ slice_index bytes 12 ∷ slice_index bytes 13 ∷ slice_index bytes 14 ∷ slice_index bytes 15 ∷ []
    from4 = drop-cons bytes 4 0 (omega arith) ∙ ap (λ (l : List ℕ). slice_index bytes 4 ∷ l) from5

    from3 : drop 3 bytes ≡ slice_index bytes 3 ∷ slice_index bytes 4 ∷ slice_index bytes 5 ∷ slice_index bytes 6 ∷ slice_index bytes 7 ∷ slice_index bytes 8 ∷ slice_index bytes 9 ∷ slice_index bytes 10 ∷ slice_index bytes 11 ∷ slice_index bytes 12 ∷ slice_index bytes 13 ∷ slice_index bytes 14 ∷ slice_index bytes 15 ∷ []
    from3 = drop-cons bytes 3 0 (omega arith) ∙ ap (λ (l : List ℕ). slice_index bytes 3 ∷ l) from4

    from2 : drop 2 bytes ≡ slice_index bytes 2 ∷ slice_index bytes 3 ∷ slice_index bytes 4 ∷ slice_index bytes 5 ∷ slice_index bytes 6 ∷ slice_index bytes 7 ∷ slice_index bytes 8 ∷ slice_index bytes 9 ∷ slice_index bytes 10 ∷ slice_index bytes 11 ∷ slice_index bytes 12 ∷ slice_index bytes 13 ∷ slice_index bytes 14 ∷ slice_index bytes 15 ∷ []
    from2 = drop-cons bytes 2 0 (omega arith) ∙ ap (λ (l : List ℕ). slice_index bytes 2 ∷ l) from3

    from1 : drop 1 bytes ≡ slice_index bytes 1 ∷ slice_index bytes 2 ∷ slice_index bytes 3 ∷ slice_index bytes 4 ∷ slice_index bytes 5 ∷ slice_index bytes 6 ∷ slice_index bytes 7 ∷ slice_index bytes 8 ∷ slice_index bytes 9 ∷ slice_index bytes 10 ∷ slice_index bytes 11 ∷ slice_index bytes 12 ∷ slice_index bytes 13 ∷ slice_index bytes 14 ∷ slice_index bytes 15 ∷ []
    from1 = drop-cons bytes 1 0 (omega arith) ∙ ap (λ (l : List ℕ). slice_index bytes 1 ∷ l) from2

    from0 : drop 0 bytes ≡ slice_index bytes 0 ∷ slice_index bytes 1 ∷ slice_index bytes 2 ∷ slice_index bytes 3 ∷ slice_index bytes 4 ∷ slice_index bytes 5 ∷ slice_index bytes 6 ∷ slice_index bytes 7 ∷ slice_index bytes 8 ∷ slice_index bytes 9 ∷ slice_index bytes 10 ∷ slice_index bytes 11 ∷ slice_index bytes 12 ∷ slice_index bytes 13 ∷ slice_index bytes 14 ∷ slice_index bytes 15 ∷ []
    from0 = drop-cons bytes 0 0 (omega arith) ∙ ap (λ (l : List ℕ). slice_index bytes 0 ∷ l) from1

-- a text with a colon isn't dotted
or_true : (b : Bool) → (b || true) ≡ true
or_true true = refl
or_true false = refl

has_colon : (x : Eight) → list_any (λ (b : ℕ). b == 58) (grouped.write x) ≡ true
has_colon x =
    list_any-append (λ (b : ℕ). b == 58) (group.write x.0) (58 ∷ join_with_byte 58 (seven_part.words x.1))
    ∙ or_true (list_any (λ (b : ℕ). b == 58) (group.write x.0))

undotted : (x : Eight) → dotted.read (grouped.write x) ≡ None
undotted x = go (dotted.read (grouped.write x)) refl
  where
    go : (o : Option Four) → dotted.read (grouped.write x) ≡ o → o ≡ None
    go None e = refl
    go (Some y) e =
        let said = dotted_form.read (grouped.write x) y e in
        let plain = joined_lacks 46 58 four_part refl (four_lacks 58 refl) y said.0 in
        let bad : true ≡ false = sym (has_colon x) ∙ ap (list_any (λ (b : ℕ). b == 58)) said.1 ∙ plain in
        absurd cc

pub address_form : IsForm address
address_form = record { read = read; written = written }
  where
    read : (text : Text) (a : AgentAddress) → address.read text ≡ Some a → (may_be_address a ≡ true) × (text ≡ address_text a)
    read text a e = go (dotted.read text) refl e
      where
        go : (o : Option Four) → dotted.read text ≡ o
            → option_or (option_map (λ (x : Four). ipv4 (four_bytes x)) o) (option_map (λ (x : Eight). ipv6 (sixteen_bytes x)) (grouped.read text)) ≡ Some a
            → (may_be_address a ≡ true) × (text ≡ address_text a)
        go (Some x) is e =
            let said = dotted_form.read text x is in
            let to : ipv4 (four_bytes x) ≡ a = same (ipv4 (four_bytes x)) a e in
            (ap may_be_address (sym to) ∙ said.0, said.1 ∙ ap address_text to)
        go None is e =
            let m = mapped (λ (x : Eight). ipv6 (sixteen_bytes x)) (grouped.read text) a e in
            let said = grouped_form.read text m.a m.is in
            (ap may_be_address (sym m.to) ∙ said.0, said.1 ∙ ap address_text m.to)

    written : (a : AgentAddress) → may_be_address a ≡ true → address.read (address_text a) ≡ Some a
    written unknown may = absurd cc
    written (ipv4 bytes) may =
        let parts = both_true (length bytes == 4) (dotted.may (in_four bytes)) may in
        let size : length bytes ≡ 4 = let t : (length bytes == 4) ≡ true = parts.0 in grind (arith, nat_tests) in
        ap (λ (o : Option Four). option_or (option_map (λ (x : Four). ipv4 (four_bytes x)) o) (option_map (λ (x : Eight). ipv6 (sixteen_bytes x)) (grouped.read (dotted.write (in_four bytes)))))
        (dotted_form.written (in_four bytes) parts.1)
        ∙ ap (λ (l : List ℕ). Some (ipv4 l)) (rebuilt4 bytes size)
    written (ipv6 bytes) may =
        let parts = both_true (length bytes == 16) (grouped.may (in_eight bytes)) may in
        let size : length bytes ≡ 16 = let t : (length bytes == 16) ≡ true = parts.0 in grind (arith, nat_tests) in
        ap (λ (o : Option Four). option_or (option_map (λ (x : Four). ipv4 (four_bytes x)) o) (option_map (λ (x : Eight). ipv6 (sixteen_bytes x)) (grouped.read (grouped.write (in_eight bytes)))))
        (undotted (in_eight bytes))
        ∙ ap (option_map (λ (x : Eight). ipv6 (sixteen_bytes x))) (grouped_form.written (in_eight bytes) parts.1)
        ∙ ap (λ (l : List ℕ). Some (ipv6 l)) (rebuilt16 bytes size)

pub address_lacks : FormLacks 32 address
address_lacks unknown may = absurd cc
address_lacks (ipv4 bytes) may =
    let parts = both_true (length bytes == 4) (dotted.may (in_four bytes)) may in
    joined_lacks 46 32 four_part refl (four_lacks 32 refl) (in_four bytes) parts.1
address_lacks (ipv6 bytes) may =
    let parts = both_true (length bytes == 16) (grouped.may (in_eight bytes)) may in
    joined_lacks 58 32 eight_part refl (eight_groups.lacks 32 refl) (in_eight bytes) parts.1
