-- What a slot holds of a header, and what the columns hold of it.
use Rattle.std.proofs.Common.{◌≡◌, ℕ, ◌<◌, ◌≤◌, List, ◌++◌, sym, ap, ap₂, ◌∙◌, map, arith, length, take, min, set, slice_index, Bool, true, false, refl, nat_le, ◌&&◌}
use Rattle.std.proofs.lemmas.List.{map-set, get_or-take, length-take, take_all, take_min}
use Rattle.std.proofs.Math.Seq.{take-append_seam}
use Rattle.std.proofs.lemmas.Bool.Decides.{nat_tests}
use Rattle.header_lanes.specs.declared.slot.Slot.{Slot}
use Rattle.header_lanes.specs.Facts.{facts, facts_in}
use Rattle.header_lanes.specs.Slots.{head, owed}
use Rattle.header_lanes.proofs.Fronts.{same_facts}

-- the facts of a header's first 96 bytes are those of the header
pub owed_is : (s : Slot) (protocol : ℕ) (header : List ℕ) → head s ≡ take 96 header → s.protocol ≡ protocol → owed s ≡ facts protocol header
owed_is s protocol header front same =
    ap₂ facts_in same front ∙ same_facts 96 protocol header (omega arith) ∙ sym (same_facts 128 protocol header (omega arith))

-- a short header is what stands in front of the bytes that it was copied over
pub short_stored : (new rest header : List ℕ) → new ≡ header → length header < 96 → take (length header) (new ++ rest) ≡ take 96 header
short_stored new rest header same lt =
    ap (λ l. take (length header) (l ++ rest)) same ∙ take-append_seam header rest ∙ sym (take_all 96 header (omega (arith, lt)))

-- all bytes of a slot are as many as it may hold
pub whole_front : (s : Slot) → length s.bytes ≡ 96 → take (min s.len 96) s.bytes ≡ head s
whole_front s wide = ap (λ n. take (min s.len n) s.bytes) (sym wide) ∙ take_min s.len s.bytes

-- one more of what is computed of each slot
pub one_put : (f : Slot → ℕ) (slots : List Slot) (k : ℕ) (s : Slot) {v : ℕ} {column : List ℕ} → column ≡ map f slots → v ≡ f s
    → set column k v ≡ map f (set slots k s)
one_put f slots k s {v} {column} before is = ap₂ (λ l x. set l k x) before is ∙ sym (map-set f slots k s)

-- what is read of the header is what the slot holds
pub byte_put : (s : Slot) (header : List ℕ) (i : ℕ) → i < 96 → head s ≡ take 96 header → slice_index header i ≡ slice_index (head s) i
byte_put s header i lt front = sym (get_or-take 96 header i 0 lt) ∙ ap (λ h. slice_index h i) (sym front)

pub length_put : (s : Slot) (header : List ℕ) → head s ≡ take 96 header → min 96 (length header) ≡ length (head s)
length_put s header front = sym (length-take 96 header) ∙ ap length (sym front)

-- within the header its bytes are those of the slot
pub same_byte : (s : Slot) (i : ℕ) → i < length (head s) → slice_index s.bytes i ≡ slice_index (head s) i
same_byte s i lt = sym (get_or-take s.len s.bytes i 0 (omega (arith, lt, length-take s.len s.bytes)))

pub is_within : (k n : ℕ) → nat_le k n ≡ true → k ≤ n
is_within k n is = grind (arith, nat_tests)

pub both_are : (x y : Bool) → (x && y) ≡ true → (x ≡ true) × (y ≡ true)
both_are true y is = (refl, is)
both_are false y is = absurd (no is)
  where
    no : false ≡ true → ⊥
    no e = cc
