-- Forms of words and parts of texts: what is read is what is written, put together part by part.
use Rattle.std.proofs.Common.{◌≡◌, ◌∙◌, ◌<◌, ◌==◌, ℕ, Bool, true, false, List, [], ◌∷◌, ◌++◌, length, Some, None, refl, ap, sym, arith, append_assoc, if◌then◌else◌, rules}
use Rattle.std.specs.Prelude.{option_map, option_and_then, bytes_eq}
use Rattle.std.specs.List.{join_with_byte}
use Rattle.std.proofs.lemmas.List.Splits.{join_with_byte-slice_split}
use Rattle.std.proofs.lemmas.Slice.Eq.{bytes_eq-Decides}
use Rattle.script_spec.specs.Words.{Text, WordForm}
use Rattle.script_spec.specs.Parts.{Part, first_word, one, behind, named, both, at_end, whole, joined, split_at}
use Rattle.script_laws.proofs.Texts.{both_true, and_true, chosen, mapped, bound, Lacks, AllLack, all_lack-append, lacks-joined, split_joined}

-- what is read of a word may be said and is written so, and what may be said is read again
pub record IsForm {A : Type 0} (form : WordForm A) : Type 0 where
  pub read : (word : Text) (a : A) → form.read word ≡ Some a → (form.may a ≡ true) × (word ≡ form.write a)
  pub written : (a : A) → form.may a ≡ true → form.read (form.write a) ≡ Some a

-- what it writes has no such separator
abbrev pub FormLacks : {A : Type 0} → ℕ → WordForm A → Type 0
FormLacks {A} c form = (a : A) → form.may a ≡ true → Lacks c (form.write a)

pub record IsPart {A : Type 0} (part : Part A) : Type 0 where
  pub read : (words rest : List Text) (a : A) → part.read words ≡ Some (a, rest)
      → (part.may a ≡ true) × (words ≡ part.words a ++ rest)
  pub written : (a : A) (rest : List Text) → part.may a ≡ true → part.read (part.words a ++ rest) ≡ Some (a, rest)
  pub some : (a : A) → 0 < length (part.words a)

abbrev pub PartLacks : {A : Type 0} → ℕ → Part A → Type 0
PartLacks {A} c part = (a : A) → part.may a ≡ true → AllLack c (part.words a)

-- ---- one word

parts_of : {A : Type 0} (p q : A × List Text) → p ≡ q → (p.0 ≡ q.0) × (p.1 ≡ q.1)
parts_of {A} p q e = (ap (λ (x : A × List Text). x.0) e, ap (λ (x : A × List Text). x.1) e)

pub one_part : {A : Type 0} (form : WordForm A) → IsForm form → IsPart (one form)
one_part {A} form law = record {
  read = read;
  written = λ a rest may. ap (option_map (λ (b : A). (b, rest))) (law.written a may);
  some = λ a. omega arith;
}
  where
    read : (words rest : List Text) (a : A) → first_word form words ≡ Some (a, rest)
        → (form.may a ≡ true) × (words ≡ form.write a ∷ rest)
    read [] rest a e = absurd cc
    read (word ∷ more) rest a e =
        let m = mapped (λ (b : A). (b, more)) (form.read word) (a, rest) e in
        let parts = parts_of (m.a, more) (a, rest) m.to in
        let said = law.read word a (m.is ∙ ap (λ (b : A). Some b) parts.0) in
        (said.0, ap (λ (w : Text). w ∷ more) said.1 ∙ ap (λ (l : List Text). form.write a ∷ l) parts.1)

pub one_lacks : {A : Type 0} (c : ℕ) (form : WordForm A) → FormLacks c form → PartLacks c (one form)
one_lacks c form lack a may = (lack a may, tt)

-- ---- a name, and then a part

same_text : (a b : Text) → bytes_eq a b ≡ true → a ≡ b
same_text a b e = (bytes_eq-Decides a b).0 e

same_self : (a : Text) → bytes_eq a a ≡ true
same_self a = (bytes_eq-Decides a a).1 refl

pub named_part : {A : Type 0} (name : Text) (part : Part A) → IsPart part → IsPart (named name part)
named_part {A} name part law = record {
  read = read;
  written = λ a rest may.
      ap (λ (b : Bool). if b then part.read (part.words a ++ rest) else None) (same_self name) ∙ law.written a rest may;
  some = λ a. omega arith;
}
  where
    read : (words rest : List Text) (a : A) → behind name part.read words ≡ Some (a, rest)
        → (part.may a ≡ true) × (words ≡ name ∷ part.words a ++ rest)
    read [] rest a e = absurd cc
    read (word ∷ more) rest a e =
        chosen (bytes_eq word name) (part.read more) None (a, rest)
        ((part.may a ≡ true) × (word ∷ more ≡ name ∷ part.words a ++ rest)) e
        (λ first taken.
        let said = law.read more rest a taken in
        (said.0, ap (λ (w : Text). w ∷ more) (same_text word name first) ∙ ap (λ (l : List Text). name ∷ l) said.1))
        (λ other bad. absurd cc)

pub named_lacks : {A : Type 0} (c : ℕ) (name : Text) (part : Part A) → Lacks c name → PartLacks c part
    → PartLacks c (named name part)
named_lacks c name part plain lack a may = (plain, lack a may)

-- ---- one part, and then another

pub both_part : {A B : Type 0} (first : Part A) (second : Part B) → IsPart first → IsPart second → IsPart (both first second)
both_part {A} {B} first second law next = record {
  read = read;
  written = written;
  some = λ x. let some = law.some x.0 in more_some (first.words x.0) (second.words x.1) some;
}
  where
    more_some : (xs ys : List Text) → 0 < length xs → 0 < length (xs ++ ys)
    more_some [] ys some = absurd (omega arith)
    more_some (x ∷ xs) ys some = omega arith

    read : (words rest : List Text) (x : A × B) → (both first second).read words ≡ Some (x, rest)
        → ((both first second).may x ≡ true) × (words ≡ (first.words x.0 ++ second.words x.1) ++ rest)
    read words rest x e =
        let b = bound (λ (y : A × List Text). option_map (λ (z : B × List Text). ((y.0, z.0), z.1)) (second.read y.1)) (first.read words) (x, rest) e in
        let m = mapped (λ (z : B × List Text). ((b.a.0, z.0), z.1)) (second.read b.a.1) (x, rest) b.to in
        let is_first : b.a.0 ≡ x.0 = ap (λ (p : (A × B) × List Text). p.0.0) m.to in
        let is_second : m.a.0 ≡ x.1 = ap (λ (p : (A × B) × List Text). p.0.1) m.to in
        let is_rest : m.a.1 ≡ rest = ap (λ (p : (A × B) × List Text). p.1) m.to in
        let one_said = law.read words b.a.1 x.0 (b.is ∙ ap (λ (a : A). Some (a, b.a.1)) is_first) in
        let two_said = next.read b.a.1 rest x.1 (m.is ∙ ap (λ (a : B). Some (a, m.a.1)) is_second ∙ ap (λ (r : List Text). Some (x.1, r)) is_rest) in (
          and_true (first.may x.0) (second.may x.1) one_said.0 two_said.0,
          one_said.1 ∙ ap (λ (l : List Text). first.words x.0 ++ l) two_said.1 ∙ rw append_assoc refl,
        )

    written : (x : A × B) (rest : List Text) → (both first second).may x ≡ true
        → (both first second).read ((first.words x.0 ++ second.words x.1) ++ rest) ≡ Some (x, rest)
    written x rest may =
        let parts = both_true (first.may x.0) (second.may x.1) may in
        let whole_is : (first.words x.0 ++ second.words x.1) ++ rest ≡ first.words x.0 ++ (second.words x.1 ++ rest) = rw append_assoc refl in
        ap (both first second).read whole_is
        ∙ ap (option_and_then (λ (y : A × List Text). option_map (λ (z : B × List Text). ((y.0, z.0), z.1)) (second.read y.1)))
        (law.written x.0 (second.words x.1 ++ rest) parts.0)
        ∙ ap (option_map (λ (z : B × List Text). ((x.0, z.0), z.1))) (next.written x.1 rest parts.1)

pub both_lacks : {A B : Type 0} (c : ℕ) (first : Part A) (second : Part B) → PartLacks c first → PartLacks c second
    → PartLacks c (both first second)
both_lacks c first second lack next x may =
    let parts = both_true (first.may x.0) (second.may x.1) may in
    all_lack-append c (first.words x.0) (second.words x.1) (lack x.0 parts.0) (next x.1 parts.1)

-- ---- whole texts

ended : {A : Type 0} (x : A × List Text) (a : A) → at_end x ≡ Some a → x ≡ (a, [])
ended (b, []) a e = ap (λ c. (c, [])) (first_is b a e)
  where
    first_is : {A : Type 0} (x y : A) → Some x ≡ Some y → x ≡ y
    first_is x y e = cc
ended (b, word ∷ more) a e = absurd cc

nothing_more : (l : List Text) → l ++ [] ≡ l
nothing_more l = search rules

pub whole_read : {A : Type 0} (part : Part A) → IsPart part → (words : List Text) (a : A) → whole part words ≡ Some a
    → (part.may a ≡ true) × (words ≡ part.words a)
whole_read {A} part law words a e =
    let b = bound at_end (part.read words) a e in
    let said = law.read words [] a (b.is ∙ ap (λ (x : A × List Text). Some x) (ended b.a a b.to)) in
    (said.0, said.1 ∙ nothing_more (part.words a))

pub whole_written : {A : Type 0} (part : Part A) → IsPart part → (a : A) → part.may a ≡ true
    → whole part (part.words a) ≡ Some a
whole_written part law a may =
    ap (whole part) (sym (nothing_more (part.words a))) ∙ ap (option_and_then at_end) (law.written a [] may)

-- words, and a text of them
pub split_words : (c : ℕ) (words : List Text) → 0 < length words → AllLack c words → split_at c (join_with_byte c words) ≡ words
split_words c [] some lack = absurd (omega arith)
split_words c (word ∷ more) some lack = split_joined c word more lack

pub joined_form : {A : Type 0} (c : ℕ) (part : Part A) → IsPart part → PartLacks c part → IsForm (joined c part)
joined_form c part law lack = record {
  read = λ text a e.
      let said = whole_read part law (split_at c text) a e in
      (said.0, sym (join_with_byte-slice_split c text) ∙ ap (join_with_byte c) said.1);
  written = λ a may.
      ap (whole part) (split_words c (part.words a) (law.some a) (lack a may)) ∙ whole_written part law a may;
}

pub joined_lacks : {A : Type 0} (c d : ℕ) (part : Part A) → (c == d) ≡ false → PartLacks d part → FormLacks d (joined c part)
joined_lacks c d part other lack a may = lacks-joined c d (part.words a) other (lack a may)

-- ---- the same words under another name

pub seen_form : {A B : Type 0} (form : WordForm A) (other : WordForm B) (to : A → B) (back : B → A)
    → ((word : Text) → other.read word ≡ option_map to (form.read word)) → ((b : B) → other.may b ≡ form.may (back b))
    → ((b : B) → other.write b ≡ form.write (back b)) → ((a : A) → back (to a) ≡ a) → ((b : B) → to (back b) ≡ b)
    → IsForm form → IsForm other
seen_form {A} {B} form other to back reads mays writes there here law = record {
  read = λ word b e.
      let m = mapped to (form.read word) b (sym (reads word) ∙ e) in
      let said = law.read word m.a m.is in
      let is : back b ≡ m.a = ap back (sym m.to) ∙ there m.a in
      (mays b ∙ ap form.may is ∙ said.0, said.1 ∙ ap form.write (sym is) ∙ sym (writes b));
  written = λ b may.
      reads (other.write b) ∙ ap (λ (w : Text). option_map to (form.read w)) (writes b)
      ∙ ap (option_map to) (law.written (back b) (sym (mays b) ∙ may)) ∙ ap (λ (x : B). Some x) (here b);
}
