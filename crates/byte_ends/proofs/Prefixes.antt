-- Laws of what a source gave, and of what a sink took, whole or in part.
use Rattle.std.proofs.Common.{ℕ, List, [], ◌++◌, Result, Ok, Err, refl, sym, ap, ◌∙◌, append_assoc}
use Rattle.std.proofs.KnownBytes.{Appends-trans, Appends-nil, Consumes-trans}
use Rattle.byte_ends.specs.Seen.{Seen, Gives, Takes, TakesPart, WritesAll, next_count}

pub gives-trans : (a b c : Seen) (bytes more : List ℕ) → Gives a b bytes → Gives b c more → Gives a c (bytes ++ more)
gives-trans a b c bytes more first second = record {
  consumed = Consumes-trans a.told b.told c.told bytes more first.consumed second.consumed;
  kept = second.kept ∙ first.kept;
}

pub takes-nil : (a : Seen) → Takes a a []
takes-nil a = record { appended = Appends-nil a.told; kept = refl }

pub takes-trans : (a b c : Seen) (text more : List ℕ) → Takes a b text → Takes b c more → Takes a c (text ++ more)
takes-trans a b c text more first second = record {
  appended = Appends-trans a.told b.told c.told text more first.appended second.appended;
  kept = second.kept ∙ first.kept;
}

-- a prefix of a text is one of a longer text
pub prefix_longer : (old new : Seen) (text more : List ℕ)
    → TakesPart old new text → TakesPart old new (text ++ more)
prefix_longer old new text more part = record {
  taken = part.taken;
  rest = part.rest ++ more;
  whole = ap (λ l. l ++ more) part.whole ∙ append_assoc part.taken part.rest more;
  appended = part.appended;
  failed = part.failed;
}

-- a whole text and then a prefix of the next
pub prefix_after : (old mid new : Seen) (text more : List ℕ)
    → Takes old mid text → TakesPart mid new more → TakesPart old new (text ++ more)
prefix_after old mid new text more first part = record {
  taken = text ++ part.taken;
  rest = part.rest;
  whole = ap (λ l. text ++ l) part.whole ∙ sym (append_assoc text part.taken part.rest);
  appended = Appends-trans old.told mid.told new.told text part.taken first.appended part.appended;
  failed = part.failed ∙ ap next_count first.kept;
}

-- a whole text, and then as much of the next as was written
pub writes_after : {T E : Type 0} (old mid new : Seen) (result : Result T E) (text more : List ℕ)
    → Takes old mid text → WritesAll mid new result more → WritesAll old new result (text ++ more)
writes_after old mid new (Ok done) text more first second = takes-trans old mid new text more first second
writes_after old mid new (Err e) text more first second = prefix_after old mid new text more first second
