-- Laws of what a page and its sink hold together.
use Rattle.std.proofs.Common.{◌≡◌, ℕ, ◌+◌, ◌<◌, List, [], ◌++◌, flat_map, Result, Ok, Err, IsErrAnd, length, drop, drop-cons, add-one, get_or, sym, ap, ◌∙◌, append_assoc, append-nil, subst}
use Rattle.byte_ends.specs.Seen.{Seen, Takes, TakesPart, WritesAll}
use Rattle.byte_ends.proofs.Prefixes.{takes-nil, takes-trans, prefix_after, prefix_longer}
use Rattle.text_lines.specs.Pages.{Puts, Prints, Flushes}

-- nothing was put
pub puts_none : (seen : Seen) (held : List ℕ) → Puts seen seen held held []
puts_none seen held = record { gone = []; taken = takes-nil seen; whole = append-nil held }

-- one text was put, and then another
pub puts_both : (a b c : Seen) (p q r s t : List ℕ)
    → Puts a b p q s → Puts b c q r t → Puts a c p r (s ++ t)
puts_both a b c p q r s t first second = record {
  gone = first.gone ++ second.gone;
  taken = takes-trans a b c first.gone second.gone first.taken second.taken;
  whole = sym (append_assoc p s t) ∙ ap (λ l. l ++ t) first.whole ∙ append_assoc first.gone q t
      ∙ ap (λ l. first.gone ++ l) second.whole ∙ sym (append_assoc first.gone second.gone r);
}

-- one text was put, and of what the page then held and the next text a prefix was taken
pub puts_part : (a b c : Seen) (p q s t : List ℕ)
    → Puts a b p q s → TakesPart b c (q ++ t) → TakesPart a c (p ++ (s ++ t))
puts_part a b c p q s t first part =
    let same : first.gone ++ (q ++ t) ≡ p ++ (s ++ t) =
    sym (append_assoc first.gone q t) ∙ ap (λ l. l ++ t) (sym first.whole) ∙ append_assoc p s t in
    subst (TakesPart a c) same (prefix_after a b c first.gone (q ++ t) first.taken part)

-- the text s was put, the next text t fails, and more would follow
pub puts_fails : (a b c : Seen) (p q s t more text : List ℕ)
    → text ≡ s ++ (t ++ more) → Puts a b p q s → TakesPart b c (q ++ t) → TakesPart a c (p ++ text)
puts_fails a b c p q s t more text whole first part =
    let longer = subst (TakesPart b c) (append_assoc q t more) (prefix_longer b c (q ++ t) more part) in
    subst (λ l. TakesPart a c (p ++ l)) (sym whole) (puts_part a b c p q s (t ++ more) first longer)

-- the page was written, and then the text itself
pub prints_past : {T E : Type 0} (r : Result T E) (a b c : Seen) (before after text : List ℕ)
    → Takes a b before → after ≡ [] → WritesAll b c r text → Prints a c before after r text
prints_past (Ok x) a b c before after text first empty all = record {
  gone = before ++ text;
  taken = takes-trans a b c before text first all;
  whole = sym (append-nil (before ++ text)) ∙ ap (λ l. (before ++ text) ++ l) (sym empty);
}
prints_past (Err x) a b c before after text first empty part = prefix_after a b c before text first part

-- a call inside failed
pub prints_err : {T E : Type 0} (Q : E → Type 0) (r : Result T E) (a b : Seen) (p q text : List ℕ)
    → IsErrAnd r Q → TakesPart a b (p ++ text) → Prints a b p q r text
prints_err Q (Ok x) a b p q text bad part = absurd bad
prints_err Q (Err e) a b p q text failed part = part

-- the same text in another form
pub prints_same : {T E : Type 0} (r : Result T E) (a b : Seen) (p q text other : List ℕ)
    → text ≡ other → Prints a b p q r text → Prints a b p q r other
prints_same r a b p q text other same prints = subst (Prints a b p q r) same prints

-- the texts of what is left from one on are that one's and then the rest's
pub texts-drop : {A : Type 0} (text : A → List ℕ) (xs : List A) (i : ℕ) (none : A) → i < length xs
    → flat_map text (drop i xs) ≡ text (get_or xs i none) ++ flat_map text (drop (i + 1) xs)
texts-drop text xs i none within =
    ap (flat_map text) (drop-cons xs i none within)
    ∙ ap (λ n. text (get_or xs i none) ++ flat_map text (drop n xs)) (sym (add-one i))

-- ---- two texts, one after the other

-- the first doesn't go out
pub prints_first : {T E : Type 0} (Q : E → Type 0) (r : Result T E) (a b : Seen) (p q s t : List ℕ)
    → IsErrAnd r Q → TakesPart a b (p ++ s) → Prints a b p q r (s ++ t)
prints_first Q r a b p q s t failed part =
    prints_err Q r a b p q (s ++ t) failed
    (subst (TakesPart a b) (append_assoc p s t) (prefix_longer a b (p ++ s) t part))

-- the first was put
pub prints_second : {T E : Type 0} (r : Result T E) (a b c : Seen) (p q n s t : List ℕ)
    → Puts a b p q s → Prints b c q n r t → Prints a c p n r (s ++ t)
prints_second (Ok x) a b c p q n s t first second = puts_both a b c p q n s t first second
prints_second (Err x) a b c p q n s t first part = puts_part a b c p q s t first part

-- ---- a page of its own

-- the text was put on an empty page, which is then written
pub page_written : {T E : Type 0} (r : Result T E) (a b c : Seen) (p q n s : List ℕ)
    → p ≡ [] → Puts a b p q s → Flushes b c q n r → WritesAll a c r s
page_written {T} {E} r a b c p q n s empty first flushed = go r flushed
  where
    whole : first.gone ++ q ≡ s
    whole = sym first.whole ∙ ap (λ (l : List ℕ). l ++ s) empty

    go : (r : Result T E) → Flushes b c q n r → WritesAll a c r s
    go (Ok x) (taken, held) = subst (Takes a c) whole (takes-trans a b c first.gone q first.taken taken)
    go (Err x) (part, held) = subst (TakesPart a c) whole (prefix_after a b c first.gone q first.taken part)

-- the text doesn't go out
pub page_fails : {T E : Type 0} (Q : E → Type 0) (r : Result T E) (a b : Seen) (p s : List ℕ)
    → p ≡ [] → IsErrAnd r Q → TakesPart a b (p ++ s) → WritesAll a b r s
page_fails Q (Ok x) a b p s empty bad part = absurd bad
page_fails Q (Err x) a b p s empty failed part = subst (λ (l : List ℕ). TakesPart a b (l ++ s)) empty part
