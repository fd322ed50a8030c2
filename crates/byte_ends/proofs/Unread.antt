-- What left a source before a read of it failed.
use Rattle.std.proofs.Common.{◌≡◌, ℕ, ◌+◌, ◌≤◌, List, [], ◌++◌, length, take, Option, Some, None, refl, sym, ap, subst, ◌∙◌, arith, length-append, length-take-le}
use Rattle.std.proofs.KnownBytes.{Consumes-trans}
use Rattle.std.specs.Io.KnownBytes.{Consumes, prepend_known}
use Rattle.byte_ends.specs.Seen.{Seen, FillsPart, with_held}
use Rattle.byte_ends.specs.Unread.{StopsWithin}

same_list : (a b : List ℕ) → Some a ≡ Some b → a ≡ b
same_list a b e = cc

-- where nothing is held, the source's own bytes are what is left
unheld : (held : List ℕ) (told : Option (List ℕ)) → held ≡ [] → prepend_known held told ≡ told
unheld held None none = refl
unheld held (Some xs) none = ap (λ l. Some (l ++ xs)) none

-- a room wasn't filled, since a read failed
pub stops_within : (old source : Seen) (held room : List ℕ) (most : ℕ) → FillsPart old (with_held held source) room
    → held ≡ [] → length room ≡ most → StopsWithin old.told source.told most
stops_within old source held room most f none long = record {
  part = take f.count room;
  moved = subst (λ t. Consumes old.told t (take f.count room)) (unheld held source.told none) f.consumed;
  few = omega (arith, f.short, long, length-take-le f.count room (omega (arith, f.short)));
}

pub stops_sooner : (old new : Option (List ℕ)) (few most : ℕ) → StopsWithin old new few → few ≤ most
    → StopsWithin old new most
stops_sooner old new few most s fits =
    record { part = s.part; moved = s.moved; few = omega (arith, s.few, fits) }

-- these bytes were moved before
pub stops_later : (old mid new : Option (List ℕ)) (first : List ℕ) (size most : ℕ) → Consumes old mid first
    → length first ≡ size → StopsWithin mid new most → StopsWithin old new (size + most)
stops_later old mid new first size most moved long s = record {
  part = first ++ s.part;
  moved = Consumes-trans old mid new first s.part moved s.moved;
  few = omega (arith, long, s.few, length-append first s.part);
}

-- ---- what was told

pub record Moved (bytes part : List ℕ) (new : Option (List ℕ)) : Type 0 where
  pub rest : List ℕ
  pub whole : bytes ≡ part ++ rest
  pub left_is : new ≡ Some rest

pub moved : (old new : Option (List ℕ)) (bytes part : List ℕ) → old ≡ Some bytes → Consumes old new part
    → Moved bytes part new
moved None new bytes part told gone = absurd cc
moved (Some xs) None bytes part told gone = absurd gone
moved (Some xs) (Some ys) bytes part told gone =
    record { rest = ys; whole = sym (same_list xs bytes told) ∙ gone; left_is = refl }
