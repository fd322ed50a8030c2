-- Bytes of a line, one after the other.
use Rattle.std.proofs.Common.{◌≡◌, ◌∙◌, ◌<◌, ◌==◌, ℕ, Bool, true, false, cond, ◌||◌, List, [], ◌∷◌, ◌++◌, Option, Some, None, Ok, length, take, refl, ap, sym, subst, arith, append_assoc, length-append, nat_le, ◌&&◌, rules}
use Rattle.std.specs.Io.KnownBytes.{Consumes, IsAtEnd, prepend_known}
use Rattle.std.specs.List.{onto_first}
use Rattle.std.proofs.KnownBytes.{Consumes-trans}
use Rattle.std.proofs.lemmas.Bool.Decides.{nat_tests}
use Rattle.std.proofs.lemmas.List.Folds.{list_any-append}
use Rattle.wire_spec.specs.declared.failed.Failed.{Failed}
use Rattle.byte_ends.proofs.Unread.{moved}
use Rattle.script_spec.specs.Words.{Text}
use Rattle.script_spec.specs.Parts.{split_at}
use Rattle.script_spec.specs.Texts.{Shapeless, is_in_bounds, shape_of, texts_in, without_empty_end}
use Rattle.script_lines.specs.Fronts.{IsInLine, Ends, by_feed, by_end, IsLong, HasShapeless, IsNumbered, TellsStep, shape_in}
use Rattle.script_lines.specs.declared.step.Step.{Step}
use Rattle.script_lines.specs.declared.step.Step.TheVariants as step

pub none_given : (old new : Option (List ℕ)) (count : ℕ) (room : List ℕ) → count ≡ 0 → Consumes old new (take count room)
    → Consumes old new []
none_given old new count room zero taken = subst (λ n. Consumes old new (take n room)) zero taken

none_left : (held xs : List ℕ) → held ++ xs ≡ [] → xs ≡ []
none_left [] xs e = e
none_left (b ∷ held) xs e = absurd cc

pub end_of_source : (held : List ℕ) (told : Option (List ℕ)) → IsAtEnd (prepend_known held told) → IsAtEnd told
end_of_source held None e = tt
end_of_source held (Some xs) e = none_left held xs e

-- ---- lines among the texts of the input

falses : (a b : Bool) → (a || b) ≡ false → (a ≡ false) × (b ≡ false)
falses true b e = absurd cc
falses false b e = (refl, e)

split_feed : (text rest : List ℕ) → IsInLine text → split_at 10 (text ++ 10 ∷ rest) ≡ text ∷ split_at 10 rest
split_feed [] rest inside = refl
split_feed (b ∷ text) rest inside =
    let parts = falses (b == 10) _ inside in
    ap (λ (feed : Bool). cond feed ([] ∷ split_at 10 (text ++ 10 ∷ rest)) (onto_first b (split_at 10 (text ++ 10 ∷ rest)))) parts.0
    ∙ ap (onto_first b) (split_feed text rest parts.1)

split_whole : (text : List ℕ) → IsInLine text → split_at 10 text ≡ text ∷ []
split_whole [] inside = refl
split_whole (b ∷ text) inside =
    let parts = falses (b == 10) _ inside in
    ap (λ (feed : Bool). cond feed ([] ∷ split_at 10 text) (onto_first b (split_at 10 text))) parts.0
    ∙ ap (onto_first b) (split_whole text parts.1)

-- a part of a line stands at the front of the first line
record Begins (texts : List Text) (part : List ℕ) : Type 0 where
  pub end : Text
  pub more : List Text
  pub is : texts ≡ (part ++ end) ∷ more

onto : (b : ℕ) (texts : List Text) → Begins (onto_first b texts) []
onto b [] = record { end = b ∷ []; more = []; is = refl }
onto b (text ∷ more) = record { end = b ∷ text; more = more; is = refl }

some_line : (rest : List ℕ) → Begins (split_at 10 rest) []
some_line [] = record { end = []; more = []; is = refl }
some_line (b ∷ rest) = go (b == 10)
  where
    go : (feed : Bool) → Begins (cond feed ([] ∷ split_at 10 rest) (onto_first b (split_at 10 rest))) []
    go true = record { end = []; more = split_at 10 rest; is = refl }
    go false = onto b (split_at 10 rest)

split_part : (part rest : List ℕ) → IsInLine part → Begins (split_at 10 (part ++ rest)) part
split_part [] rest inside = some_line rest
split_part (b ∷ part) rest inside =
    let parts = falses (b == 10) _ inside in
    let behind = split_part part rest parts.1 in
    record {
      end = behind.end;
      more = behind.more;
      is = ap (λ (feed : Bool). cond feed ([] ∷ split_at 10 (part ++ rest)) (onto_first b (split_at 10 (part ++ rest)))) parts.0
          ∙ ap (onto_first b) behind.is;
    }

before_more : (text next : Text) (more : List Text)
    → without_empty_end (text ∷ next ∷ more) ≡ text ∷ without_empty_end (next ∷ more)
before_more [] next more = refl
before_more (b ∷ text) next more = refl

texts_feed : (text rest : List ℕ) → IsInLine text → texts_in (text ++ 10 ∷ rest) ≡ text ∷ texts_in rest
unfolding texts_in
texts_feed text rest inside =
    let next = some_line rest in
    ap without_empty_end (split_feed text rest inside)
    ∙ ap (λ (l : List Text). without_empty_end (text ∷ l)) next.is
    ∙ before_more text next.end next.more
    ∙ ap (λ (l : List Text). text ∷ without_empty_end l) (sym next.is)

some_text : (text : Text) → 0 < length text → without_empty_end (text ∷ []) ≡ text ∷ []
some_text [] some = absurd (omega arith)
some_text (b ∷ text) some = refl

texts_last : (text : List ℕ) → IsInLine text → 0 < length text → texts_in text ≡ text ∷ texts_in []
unfolding texts_in
texts_last text inside some = ap without_empty_end (split_whole text inside) ∙ some_text text some

-- ---- what was read of a line

same_rest : (xs : List ℕ) (o : Option (List ℕ)) → o ≡ Some xs → IsAtEnd o → xs ≡ []
same_rest xs None e end = absurd cc
same_rest xs (Some ys) e end = cc

pub record IsFirst (text : Text) (bytes : List ℕ) (new : Option (List ℕ)) : Type 0 where
  pub rest : List ℕ
  pub first : texts_in bytes ≡ text ∷ texts_in rest
  pub left_is : new ≡ Some rest

pub line_is : (old new : Option (List ℕ)) (bytes text : List ℕ) → old ≡ Some bytes → Ends old new text → IsFirst text bytes new
line_is old new bytes text told (by_feed inside read) =
    let m = moved old new bytes (text ++ 10 ∷ []) told read in
    let whole : bytes ≡ text ++ 10 ∷ m.rest = m.whole ∙ rw append_assoc refl in
    record { rest = m.rest; first = ap texts_in whole ∙ texts_feed text m.rest inside; left_is = m.left_is }
line_is old new bytes text told (by_end inside some read end) =
    let m = moved old new bytes text told read in
    let none = same_rest m.rest new m.left_is end in
    let whole : bytes ≡ text = m.whole ∙ ap (λ (l : List ℕ). text ++ l) none ∙ search rules in
    record {
      rest = [];
      first = ap texts_in whole ∙ texts_last text inside some;
      left_is = m.left_is ∙ ap Some none;
    }

pub tells_line : (begun : Bool) (number : ℕ) (text : Text) (bytes : List ℕ) (new left : Option (List ℕ)) (s : Step)
    → IsFirst text bytes new → shape_in s ≡ shape_of begun number text → IsNumbered number s
    → TellsStep {E = Failed} begun number bytes new left (Ok s)
tells_line begun number text bytes new left step.Skipped f e n =
    record { text = text; rest = f.rest; first = f.first; is = sym e; left_is = f.left_is }
tells_line begun number text bytes new left step.Heading f e n =
    record { text = text; rest = f.rest; first = f.first; is = sym e; left_is = f.left_is }
tells_line begun number text bytes new left (step.Says line) f e n =
    record { text = text; rest = f.rest; first = f.first; is = sym e; left_is = f.left_is }
tells_line begun number text bytes new left step.Shapeless f e n =
    record { text = text; more = texts_in f.rest; first = f.first; is = sym e }
tells_line begun number text bytes new left step.End f e n = absurd n

-- ---- a line that is too long

both_false : (a b : Bool) → a ≡ false → (a && b) ≡ false
both_false true b e = absurd cc
both_false false b e = refl

long_shape : (begun : Bool) (number : ℕ) (text : Text) → 16384 < length text → shape_of begun number text ≡ Shapeless
unfolding shape_of
long_shape begun number text long =
    let above : nat_le (length text) 16384 ≡ false = grind (arith, nat_tests) in
    let out : is_in_bounds number text ≡ false = both_false (nat_le (length text) 16384) (nat_le number 4294967295) above in
    rw out refl

some_front : (text : Text) (more : List Text) → 0 < length text → (others : List Text) × (without_empty_end (text ∷ more) ≡ text ∷ others)
some_front [] more some = absurd (omega arith)
some_front (b ∷ text) [] some = ([], refl)
some_front (b ∷ text) (next ∷ more) some = (without_empty_end (next ∷ more), refl)

pub long_is : (begun : Bool) (number : ℕ) (old new : Option (List ℕ)) (bytes : List ℕ) → old ≡ Some bytes → IsLong old new
    → HasShapeless begun number bytes
unfolding texts_in
long_is begun number old new bytes told l =
    let m = moved old new bytes l.part told l.read in
    let b = split_part l.part m.rest l.inside in
    let size : 16384 < length (l.part ++ b.end) = omega (arith, l.long, length-append l.part b.end) in
    let some : 0 < length (l.part ++ b.end) = omega arith in
    let front = some_front (l.part ++ b.end) b.more some in
    record {
      text = l.part ++ b.end;
      more = front.0;
      first = ap (λ (xs : List ℕ). without_empty_end (split_at 10 xs)) m.whole ∙ ap without_empty_end b.is ∙ front.1;
      is = long_shape begun number (l.part ++ b.end) size;
    }

pub long_line : (old mid new : Option (List ℕ)) (text : List ℕ) (byte : ℕ) → Consumes old mid text
    → Consumes mid new (byte ∷ []) → IsInLine text → (byte ≡ 10 → ⊥) → length text ≡ 16384 → IsLong old new
long_line old mid new text byte first next inside other size =
    let test : (byte == 10) ≡ false = grind (arith, nat_tests) in
    record {
      part = text ++ byte ∷ [];
      read = Consumes-trans old mid new text (byte ∷ []) first next;
      inside = list_any-append (λ (b : ℕ). b == 10) text (byte ∷ []) ∙ rw (inside, test) refl;
      long = omega (arith, size, length-append text (byte ∷ []));
    }
