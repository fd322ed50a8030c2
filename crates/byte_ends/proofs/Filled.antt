-- What a room that was filled says of bytes that are told.
use Rattle.std.proofs.Common.{◌≡◌, ℕ, ◌<◌, ◌≤◌, inl, inr, List, ◌++◌, length, take, drop, Option, Some, None, refl, sym, ap, ◌∙◌, append-nil, arith, take_all, take_at, drop_at, length-append, length-take-le}
use Rattle.std.proofs.lemmas.Bool.{cases_lt}
use Rattle.std.proofs.lemmas.List.{nil_from_length}
use Rattle.std.specs.Io.KnownBytes.{Consumes, IsAtEnd, prepend_known}
use Rattle.byte_ends.specs.Seen.{Seen, Fills}

same_list : (a b : List ℕ) → Some a ≡ Some b → a ≡ b
same_list a b e = cc

-- the room is full of the first bytes, and the others are left
pub record IsFull (bytes room : List ℕ) (left : Option (List ℕ)) : Type 0 where
  pub front : take (length room) bytes ≡ room
  pub enough : length room ≤ length bytes
  pub left_is : left ≡ Some (drop (length room) bytes)

full_told : (old new : Option (List ℕ)) (count : ℕ) (room bytes : List ℕ) → old ≡ Some bytes
    → Consumes old new (take count room) → length room ≤ count → IsFull bytes room new
full_told None new count room bytes told gone full = absurd cc
full_told (Some xs) None count room bytes told gone full = absurd gone
full_told (Some xs) (Some ys) count room bytes told gone full =
    let whole : bytes ≡ room ++ ys =
    sym (same_list xs bytes told) ∙ gone ∙ ap (λ l. l ++ ys) (take_all count room full) in
    record {
      front = ap (take (length room)) whole ∙ take_at room ys (length room) refl;
      enough = omega (arith, ap length whole, length-append room ys);
      left_is = ap
          (λ (l : List ℕ). Some l)
          (sym (ap (drop (length room)) whole ∙ drop_at room ys (length room) refl));
    }

pub full_room : (old new : Seen) (count : ℕ) (room bytes : List ℕ) → old.told ≡ Some bytes
    → Fills old new count room → length room ≤ count → IsFull bytes room new.told
full_room old new count room bytes told f full =
    full_told old.told new.told count room bytes told f.given.consumed full

-- a room that isn't full has all of the bytes
pub record HasAll (bytes room : List ℕ) (count : ℕ) : Type 0 where
  pub all : bytes ≡ take count room
  pub number : length bytes ≡ count

short_told : (old new : Option (List ℕ)) (count : ℕ) (room bytes : List ℕ) → old ≡ Some bytes → count ≤ length room
    → Consumes old new (take count room) → IsAtEnd new → HasAll bytes room count
short_told None new count room bytes told within gone end = absurd cc
short_told (Some xs) None count room bytes told within gone end = absurd gone
short_told (Some xs) (Some ys) count room bytes told within gone end =
    let whole : bytes ≡ take count room =
    sym (same_list xs bytes told) ∙ gone ∙ ap (λ l. take count room ++ l) end ∙ append-nil (take count room) in
    record { all = whole; number = ap length whole ∙ length-take-le count room within }

pub short_room : (old new : Seen) (count : ℕ) (room bytes : List ℕ) → old.told ≡ Some bytes
    → Fills old new count room → count < length room → HasAll bytes room count
short_room old new count room bytes told f short =
    short_told old.told new.told count room bytes told f.within f.given.consumed (f.all short)

-- what was read is as much of the bytes as the room could take
pub front_read : (old new : Seen) (count : ℕ) (room bytes : List ℕ) → old.told ≡ Some bytes
    → Fills old new count room → take (length room) bytes ≡ take count room
front_read old new count room bytes told f =
    elim (cases_lt count (length room)) [
      | inl short ↦
          let h = short_room old new count room bytes told f short in
          take_all (length room) bytes (omega (arith, h.number)) ∙ h.all
      | inr full ↦ (full_room old new count room bytes told f full).front ∙ sym (take_all count room full)
    ]

-- where nothing is held and nothing is left, the source is at its end
pub behind_held : (held : List ℕ) (left : Option (List ℕ)) → IsAtEnd (prepend_known held left) → IsAtEnd left
behind_held held None end = tt
behind_held held (Some xs) end = nil_from_length xs (omega (arith, ap length end, length-append held xs))
