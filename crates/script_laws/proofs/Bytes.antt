-- Bytes in hexadecimal digits, and words that may be a dash.
use Rattle.std.proofs.Common.{◌≡◌, ◌∙◌, ◌<◌, ◌≤◌, ◌+◌, ◌-◌, ◌*◌, ◌/◌, ◌%◌, ◌^◌, ◌==◌, ◌&&◌, ◌||◌, ℕ, Bool, true, false, List, [], ◌∷◌, ◌++◌, length, Option, Some, None, refl, ap, ap₂, sym, arith, decimal, if◌then◌else◌, nat_lt, nat_le}
use Rattle.std.specs.Prelude.{option_map, option_and_then, bytes_eq, codes, flat_map}
use Rattle.std.specs.Char.{is_ascii_digit}
use Rattle.std.specs.Fmt.{digit_glyph}
use Rattle.std.specs.List.{list_all}
use Rattle.std.proofs.lemmas.Bool.Decides.{nat_tests}
use Rattle.std.proofs.lemmas.Slice.Eq.{bytes_eq-Decides}
use Rattle.script_spec.specs.Words.{Text, is_between, number, where_true, hex_value, hex_byte, hex_bytes, hex_digits, is_byte, is_dash, header_bytes, header, may_be_vlan, vlan_text, vlan, kind_text, kind}
use Rattle.script_spec.specs.Values.{two_bytes, group}
use Rattle.script_laws.proofs.Texts.{both_true, and_true, chosen, mapped, bound, Lacks, lacks-append}
use Rattle.script_laws.proofs.Parting.{IsForm, FormLacks}
use Rattle.script_laws.proofs.Numbers.{and_false, between, decimal_digits, number_form, number_lacks}

same : {A : Type 0} (x y : A) → Some x ≡ Some y → x ≡ y
same x y e = cc

-- ---- digits

glyph_is : (x : ℕ) (b : Bool) → nat_lt x 10 ≡ b → digit_glyph false x ≡ (if b then 48 + x else 87 + x)
glyph_is x b e = ap (λ (t : Bool). if t then 48 + x else 87 + x) e

value_is : (d x : ℕ) → hex_value d ≡ Some x → (x < 16) × (d ≡ digit_glyph false x)
value_is d x e =
    let P : Type 0 = (x < 16) × (d ≡ digit_glyph false x) in
    chosen (is_between 48 57 d) (Some (d - 48)) (if is_between 97 102 d then Some (d - 87) else None) x P e
    (λ inside value.
    let parts = both_true (nat_le 48 d) (nat_le d 57) inside in
    let low : nat_le 48 d ≡ true = parts.0 in
    let high : nat_le d 57 ≡ true = parts.1 in
    let is : d - 48 ≡ x = same (d - 48) x value in
    let least : 48 ≤ d = grind (arith, nat_tests) in
    let most : d ≤ 57 = grind (arith, nat_tests) in
    let small : nat_lt x 10 ≡ true = let lt : x < 10 = omega arith in grind (arith, nat_tests) in
    let sum : d ≡ 48 + x = omega arith in
    (omega arith, sum ∙ sym (glyph_is x true small)))
    (λ outside rest.
    chosen (is_between 97 102 d) (Some (d - 87)) None x P rest
    (λ inside value.
    let parts = both_true (nat_le 97 d) (nat_le d 102) inside in
    let low : nat_le 97 d ≡ true = parts.0 in
    let high : nat_le d 102 ≡ true = parts.1 in
    let is : d - 87 ≡ x = same (d - 87) x value in
    let least : 97 ≤ d = grind (arith, nat_tests) in
    let most : d ≤ 102 = grind (arith, nat_tests) in
    let large : nat_lt x 10 ≡ false = let le : 10 ≤ x = omega arith in grind (arith, nat_tests) in
    let sum : d ≡ 87 + x = omega arith in
    (omega arith, sum ∙ sym (glyph_is x false large)))
    (λ other bad. absurd cc))

value_of : (x : ℕ) → x < 16 → hex_value (digit_glyph false x) ≡ Some x
value_of x small = go (nat_lt x 10) refl
  where
    go : (b : Bool) → nat_lt x 10 ≡ b → hex_value (digit_glyph false x) ≡ Some x
    go true e =
        let low : nat_le 48 (48 + x) ≡ true = grind (arith, nat_tests) in
        let high : nat_le (48 + x) 57 ≡ true = grind (arith, nat_tests) in
        let back : (48 + x) - 48 ≡ x = omega arith in
        ap hex_value (glyph_is x true e)
        ∙ ap (λ (b : Bool). if b then Some ((48 + x) - 48) else (if is_between 97 102 (48 + x) then Some ((48 + x) - 87) else None))
        (and_true (nat_le 48 (48 + x)) (nat_le (48 + x) 57) low high)
        ∙ ap (λ n. Some n) back
    go false e =
        let out : nat_le (87 + x) 57 ≡ false = grind (arith, nat_tests) in
        let low : nat_le 97 (87 + x) ≡ true = grind (arith, nat_tests) in
        let high : nat_le (87 + x) 102 ≡ true = grind (arith, nat_tests) in
        let back : (87 + x) - 87 ≡ x = omega arith in
        ap hex_value (glyph_is x false e)
        ∙ ap (λ (b : Bool). if b then Some ((87 + x) - 48) else (if is_between 97 102 (87 + x) then Some ((87 + x) - 87) else None))
        (ap (λ (b : Bool). nat_le 48 (87 + x) && b) out ∙ and_false (nat_le 48 (87 + x)))
        ∙ ap (λ (b : Bool). if b then Some ((87 + x) - 87) else None)
        (and_true (nat_le 97 (87 + x)) (nat_le (87 + x) 102) low high)
        ∙ ap (λ n. Some n) back

-- ---- bytes

pub record IsHexByte (high low n : ℕ) : Type 0 where
  pub small : n < 256
  pub first : high ≡ digit_glyph false (n / 16)
  pub second : low ≡ digit_glyph false (n % 16)

pub byte_is : (high low n : ℕ) → hex_byte high low ≡ Some n → IsHexByte high low n
byte_is high low n e =
    let b = bound (λ (x : ℕ). option_map (λ (y : ℕ). 16 * x + y) (hex_value low)) (hex_value high) n e in
    let m = mapped (λ (y : ℕ). 16 * b.a + y) (hex_value low) n b.to in
    let one = value_is high b.a b.is in
    let two = value_is low m.a m.is in
    let sum : 16 * b.a + m.a ≡ n = m.to in
    let x_small : b.a < 16 = one.0 in
    let y_small : m.a < 16 = two.0 in
    let x_is : b.a ≡ n / 16 = omega arith in
    let y_is : m.a ≡ n % 16 = omega arith in
    record {
      small = omega arith;
      first = one.1 ∙ ap (digit_glyph false) x_is;
      second = two.1 ∙ ap (digit_glyph false) y_is;
    }

pub byte_of : (n : ℕ) → n < 256 → hex_byte (digit_glyph false (n / 16)) (digit_glyph false (n % 16)) ≡ Some n
byte_of n small =
    let x_small : n / 16 < 16 = omega arith in
    let y_small : n % 16 < 16 = omega arith in
    let sum : 16 * (n / 16) + n % 16 ≡ n = omega arith in
    ap (option_and_then (λ (x : ℕ). option_map (λ (y : ℕ). 16 * x + y) (hex_value (digit_glyph false (n % 16))))) (value_of (n / 16) x_small)
    ∙ ap (option_map (λ (y : ℕ). 16 * (n / 16) + y)) (value_of (n % 16) y_small) ∙ ap (λ m. Some m) sum

small_byte : (n : ℕ) → is_byte n ≡ true → n < 256
small_byte n e = grind (arith, nat_tests)

byte_small : (n : ℕ) → n < 256 → is_byte n ≡ true
byte_small n e = grind (arith, nat_tests)

bytes_are : (word bytes : List ℕ) → hex_bytes word ≡ Some bytes
    → (list_all is_byte bytes ≡ true) × (word ≡ flat_map hex_digits bytes)
bytes_are [] bytes e =
    let is : [] ≡ bytes = same [] bytes e in
    (ap (list_all is_byte) (sym is), ap (flat_map hex_digits) is)
bytes_are (digit ∷ []) bytes e = absurd cc
bytes_are (high ∷ low ∷ more) bytes e =
    let b = bound (λ (x : ℕ). option_map (λ (others : List ℕ). x ∷ others) (hex_bytes more)) (hex_byte high low) bytes e in
    let m = mapped (λ (others : List ℕ). b.a ∷ others) (hex_bytes more) bytes b.to in
    let one = byte_is high low b.a b.is in
    let rest = bytes_are more m.a m.is in (
      ap (list_all is_byte) (sym m.to) ∙ and_true (is_byte b.a) (list_all is_byte m.a) (byte_small b.a one.small) rest.0,
      ap₂ (λ (x y : ℕ). x ∷ y ∷ more) one.first one.second
          ∙ ap (λ (l : List ℕ). hex_digits b.a ++ l) rest.1 ∙ ap (flat_map hex_digits) m.to,
    )

bytes_read : (bytes : List ℕ) → list_all is_byte bytes ≡ true → hex_bytes (flat_map hex_digits bytes) ≡ Some bytes
bytes_read [] all = refl
bytes_read (n ∷ more) all =
    let parts = both_true (is_byte n) (list_all is_byte more) all in
    ap (option_and_then (λ (x : ℕ). option_map (λ (others : List ℕ). x ∷ others) (hex_bytes (flat_map hex_digits more)))) (byte_of n (small_byte n parts.0))
    ∙ ap (option_map (λ (others : List ℕ). n ∷ others)) (bytes_read more parts.1)

-- no digit is a separator that is none
digit_lacks : (c x : ℕ) → hex_value c ≡ None → x < 16 → (digit_glyph false x == c) ≡ false
digit_lacks c x none small = go (digit_glyph false x == c) refl
  where
    go : (b : Bool) → (digit_glyph false x == c) ≡ b → b ≡ false
    go true e =
        let is : digit_glyph false x ≡ c = grind (arith, nat_tests) in
        let bad : Some x ≡ None = sym (value_of x small) ∙ ap hex_value is ∙ none in
        absurd cc
    go false e = refl

digits_lack : (c n : ℕ) → hex_value c ≡ None → n < 256 → Lacks c (hex_digits n)
digits_lack c n none small =
    let x_small : n / 16 < 16 = omega arith in
    let y_small : n % 16 < 16 = omega arith in
    rw (digit_lacks c (n / 16) none x_small, digit_lacks c (n % 16) none y_small) refl

bytes_lack : (c : ℕ) (bytes : List ℕ) → hex_value c ≡ None → list_all is_byte bytes ≡ true → Lacks c (flat_map hex_digits bytes)
bytes_lack c [] none all = refl
bytes_lack c (n ∷ more) none all =
    let parts = both_true (is_byte n) (list_all is_byte more) all in
    lacks-append c (hex_digits n) (flat_map hex_digits more) (digits_lack c n none (small_byte n parts.0)) (bytes_lack c more none parts.1)

-- ---- headers

dash_is : (word : Text) → is_dash word ≡ true → word ≡ 45 ∷ []
dash_is word e = (bytes_eq-Decides word (45 ∷ [])).0 e

undashed : (high low : ℕ) (more : List ℕ) → is_dash (high ∷ low ∷ more) ≡ false
undashed high low more = and_false (high == 45)

pub header_form : IsForm header
header_form = record { read = read; written = written }
  where
    some : (bytes : List ℕ) → is_between 1 128 (length bytes) ≡ true → header_bytes bytes ≡ flat_map hex_digits bytes
    some [] e = absurd cc
    some (n ∷ more) e = refl

    read : (word bytes : List ℕ) → header.read word ≡ Some bytes → (header.may bytes ≡ true) × (word ≡ header_bytes bytes)
    read word bytes e =
        let P : Type 0 = (header.may bytes ≡ true) × (word ≡ header_bytes bytes) in
        chosen (is_dash word) (Some []) (where_true (λ (l : List ℕ). is_between 1 128 (length l)) (hex_bytes word)) bytes P e
        (λ dash value.
        let is : [] ≡ bytes = same [] bytes value in
        (ap header.may (sym is), dash_is word dash ∙ ap header_bytes is))
        (λ other rest.
        let b = bound (λ (l : List ℕ). if is_between 1 128 (length l) then Some l else None) (hex_bytes word) bytes rest in
        chosen (is_between 1 128 (length b.a)) (Some b.a) None bytes P b.to
        (λ inside value.
        let is : b.a ≡ bytes = same b.a bytes value in
        let said = bytes_are word bytes (b.is ∙ ap (λ (l : List ℕ). Some l) is) in
        let size : is_between 1 128 (length bytes) ≡ true = ap (λ (l : List ℕ). is_between 1 128 (length l)) (sym is) ∙ inside in
        let fits = both_true (nat_le 1 (length bytes)) (nat_le (length bytes) 128) size in
        (and_true (nat_le (length bytes) 128) (list_all is_byte bytes) fits.1 said.0, said.1 ∙ sym (some bytes size)))
        (λ outside bad. absurd cc))

    written : (bytes : List ℕ) → header.may bytes ≡ true → header.read (header_bytes bytes) ≡ Some bytes
    written [] may = refl
    written (n ∷ more) may =
        let parts = both_true (nat_le (length (n ∷ more)) 128) (list_all is_byte (n ∷ more)) may in
        let one : nat_le 1 (length (n ∷ more)) ≡ true = grind (arith, nat_tests) in
        let text : List ℕ = flat_map hex_digits (n ∷ more) in
        ap (λ (b : Bool). if b then Some [] else where_true (λ (l : List ℕ). is_between 1 128 (length l)) (hex_bytes text))
        (undashed (digit_glyph false (n / 16)) (digit_glyph false (n % 16)) (flat_map hex_digits more))
        ∙ ap (where_true (λ (l : List ℕ). is_between 1 128 (length l))) (bytes_read (n ∷ more) parts.1)
        ∙ ap (λ (b : Bool). if b then Some (n ∷ more) else None) (and_true (nat_le 1 (length (n ∷ more))) (nat_le (length (n ∷ more)) 128) one parts.0)

pub header_lacks : (c : ℕ) → (45 == c) ≡ false → hex_value c ≡ None → FormLacks c header
header_lacks c other none [] may = ap (λ (b : Bool). b || false) other
header_lacks c other none (n ∷ more) may =
    bytes_lack c (n ∷ more) none (both_true (nat_le (length (n ∷ more)) 128) (list_all is_byte (n ∷ more)) may).1

-- ---- groups of an address

pub group_form : IsForm group
group_form = record { read = read; written = written }
  where
    read : (word : Text) (x : ℕ × ℕ) → two_bytes word ≡ Some x → (group.may x ≡ true) × (word ≡ group.write x)
    read [] x e = absurd cc
    read (a ∷ []) x e = absurd cc
    read (a ∷ b ∷ []) x e = absurd cc
    read (a ∷ b ∷ c ∷ []) x e = absurd cc
    read (a ∷ b ∷ c ∷ d ∷ []) x e =
        let m = bound (λ (h : ℕ). option_map (λ (l : ℕ). (h, l)) (hex_byte c d)) (hex_byte a b) x e in
        let n = mapped (λ (l : ℕ). (m.a, l)) (hex_byte c d) x m.to in
        let one = byte_is a b m.a m.is in
        let two = byte_is c d n.a n.is in
        let first : m.a ≡ x.0 = ap (λ (p : ℕ × ℕ). p.0) n.to in
        let second : n.a ≡ x.1 = ap (λ (p : ℕ × ℕ). p.1) n.to in (
          and_true (is_byte x.0) (is_byte x.1) (ap is_byte (sym first) ∙ byte_small m.a one.small) (ap is_byte (sym second) ∙ byte_small n.a two.small),
          ap₂ (λ (p q : ℕ). p ∷ q ∷ c ∷ d ∷ []) one.first one.second
              ∙ ap₂ (λ (p q : ℕ). digit_glyph false (m.a / 16) ∷ digit_glyph false (m.a % 16) ∷ p ∷ q ∷ []) two.first two.second
              ∙ ap group.write n.to,
        )
    read (a ∷ b ∷ c ∷ d ∷ f ∷ more) x e =
        let word : List ℕ = a ∷ b ∷ c ∷ d ∷ f ∷ more in
        let P : Type 0 = (group.may x ≡ true) × (word ≡ group.write x) in
        chosen (length word == 4) (option_and_then (λ (h : ℕ). option_map (λ (l : ℕ). (h, l)) (hex_byte c d)) (hex_byte a b)) None x P e
        (λ is inside. let bad : length (a ∷ b ∷ c ∷ d ∷ f ∷ more) ≡ 4 = grind (arith, nat_tests) in absurd (omega arith))
        (λ other bad. absurd cc)

    written : (x : ℕ × ℕ) → group.may x ≡ true → two_bytes (group.write x) ≡ Some x
    written x may =
        let parts = both_true (is_byte x.0) (is_byte x.1) may in
        ap (option_and_then (λ (h : ℕ). option_map (λ (l : ℕ). (h, l)) (hex_byte (digit_glyph false (x.1 / 16)) (digit_glyph false (x.1 % 16)))))
        (byte_of x.0 (small_byte x.0 parts.0))
        ∙ ap (option_map (λ (l : ℕ). (x.0, l))) (byte_of x.1 (small_byte x.1 parts.1))

pub group_lacks : (c : ℕ) → hex_value c ≡ None → FormLacks c group
group_lacks c none x may =
    let parts = both_true (is_byte x.0) (is_byte x.1) may in
    lacks-append c (hex_digits x.0) (hex_digits x.1) (digits_lack c x.0 none (small_byte x.0 parts.0)) (digits_lack c x.1 none (small_byte x.1 parts.1))

-- ---- a VLAN

no_dash : (n : ℕ) → n < 2 ^ 64 → is_dash (decimal n) ≡ false
no_dash n small = go (is_dash (decimal n)) refl
  where
    go : (b : Bool) → is_dash (decimal n) ≡ b → b ≡ false
    go true e =
        let bad : true ≡ false = sym (decimal_digits n small) ∙ ap (list_all is_ascii_digit) (dash_is (decimal n) e) in
        absurd cc
    go false e = refl

pub vlan_form : IsForm vlan
vlan_form = record { read = read; written = written }
  where
    read : (word : Text) (o : Option ℕ) → vlan.read word ≡ Some o → (may_be_vlan o ≡ true) × (word ≡ vlan_text o)
    read word o e =
        let P : Type 0 = (may_be_vlan o ≡ true) × (word ≡ vlan_text o) in
        chosen (is_dash word) (Some None) (option_map (λ (id : ℕ). Some id) ((number 0 4095).read word)) o P e
        (λ dash value.
        let is : None ≡ o = same None o value in
        (ap may_be_vlan (sym is), dash_is word dash ∙ ap vlan_text is))
        (λ other rest.
        let m = mapped (λ (id : ℕ). Some id) ((number 0 4095).read word) o rest in
        let said = (number_form 0 4095 (omega arith)).read word m.a m.is in
        (ap may_be_vlan (sym m.to) ∙ said.0, said.1 ∙ ap vlan_text m.to))

    written : (o : Option ℕ) → may_be_vlan o ≡ true → vlan.read (vlan_text o) ≡ Some o
    written None may = refl
    written (Some id) may =
        let small : id < 2 ^ 64 = let le = between 0 4095 id may in omega arith in
        ap (λ (b : Bool). if b then Some None else option_map (λ (n : ℕ). Some n) ((number 0 4095).read (decimal id))) (no_dash id small)
        ∙ ap (option_map (λ (n : ℕ). Some n)) ((number_form 0 4095 (omega arith)).written id may)

pub vlan_lacks : (c : ℕ) → (45 == c) ≡ false → is_ascii_digit c ≡ false → FormLacks c vlan
vlan_lacks c other none None may = ap (λ (b : Bool). b || false) other
vlan_lacks c other none (Some id) may = number_lacks c 0 4095 (omega arith) none id may

-- ---- kinds

pub kind_form : IsForm kind
kind_form = record { read = read; written = written }
  where
    read : (word : Text) (flow : Bool) → kind.read word ≡ Some flow → (true ≡ true) × (word ≡ kind_text flow)
    read word flow e =
        let P : Type 0 = (true ≡ true) × (word ≡ kind_text flow) in
        chosen (bytes_eq word (codes "flow")) (Some true) (if bytes_eq word (codes "counter") then Some false else None) flow P e
        (λ is value. (refl, (bytes_eq-Decides word (codes "flow")).0 is ∙ ap kind_text (same true flow value)))
        (λ other rest.
        chosen (bytes_eq word (codes "counter")) (Some false) None flow P rest
        (λ is value. (refl, (bytes_eq-Decides word (codes "counter")).0 is ∙ ap kind_text (same false flow value)))
        (λ none bad. absurd cc))

    written : (flow : Bool) → true ≡ true → kind.read (kind_text flow) ≡ Some flow
    written true may = refl
    written false may = refl

pub kind_lacks : FormLacks 32 kind
kind_lacks true may = refl
kind_lacks false may = refl
