-- Reading line by line, and what stands behind each line.
use Rattle.std.proofs.Common.{◌≡◌, ◌∙◌, ◌+◌, inl, inr, ℕ, Bool, true, false, List, [], ◌∷◌, ◌++◌, length, reverse, Option, Some, None, Result, Ok, Err, refl, ap, sym, arith, if◌then◌else◌}
use Rattle.std.specs.Prelude.{option_and_then}
use Rattle.std.proofs.lemmas.Option.{same_Some}
use Rattle.script_spec.specs.Words.{Text}
use Rattle.script_spec.specs.Lines.{Line}
use Rattle.script_spec.specs.Texts.{Shape, Skipped, Heading, Says, Shapeless, shape_of, texts_in}
use Rattle.script_spec.specs.Rules.{may_follow}
use Rattle.script_spec.specs.Scripts.{Behind, nothing_yet, behind_shape, behind_text, behind_texts, Script, ScriptFault, HasOneScript, ended, read_on, reading_behind, script_reading}

-- ---- the count of lines

counted_shape : (b : Behind) (shape : Shape) (q : Behind) → behind_shape b shape ≡ Some q → q.count ≡ b.count + 1
counted_shape b Skipped q e = sym (ap (λ (r : Behind). r.count) (same_Some _ _ e))
counted_shape b Heading q e = sym (ap (λ (r : Behind). r.count) (same_Some _ _ e))
counted_shape b (Says line) q e = go (may_follow b.lines line) e
  where
    go : (may : Bool)
        → (if may then Some (record { count = b.count + 1; begun = b.begun; lines = line ∷ b.lines }) else None) ≡ Some q
        → q.count ≡ b.count + 1
    go true e = sym (ap (λ (r : Behind). r.count) (same_Some _ _ e))
    go false e = cc
counted_shape b Shapeless q e = cc

counted_text : (b : Behind) (text : Text) (q : Behind) → behind_text b text ≡ Some q → q.count ≡ b.count + 1
unfolding behind_text
counted_text b text q e = counted_shape b (shape_of b.begun (b.count + 1) text) q e

pub counted : (b : Behind) (texts : List Text) (q : Behind) → behind_texts b texts ≡ Some q
    → q.count ≡ b.count + length texts
counted b [] q e = let same = ap (λ (r : Behind). r.count) (same_Some _ _ e) in omega arith
counted b (text ∷ more) q e = go (behind_text b text) refl (λ next. counted next more q) e
  where
    go : (o : Option Behind) → behind_text b text ≡ o
        → ((next : Behind) → behind_texts next more ≡ Some q → q.count ≡ next.count + length more)
        → option_and_then (λ next. behind_texts next more) o ≡ Some q → q.count ≡ b.count + length (text ∷ more)
    go None is others e = cc
    go (Some next) is others e =
        let one = counted_text b text next is in
        let rest = others next e in
        omega arith

-- ---- where each line keeps the rules

pub read_behind : (b : Behind) (texts : List Text) (q : Behind) → behind_texts b texts ≡ Some q
    → reading_behind b texts ≡ ended q
read_behind b [] q e = ap ended (same_Some _ _ e)
read_behind b (text ∷ more) q e = go (behind_text b text) (λ next. read_behind next more q) e
  where
    go : (o : Option Behind) → ((next : Behind) → behind_texts next more ≡ Some q → reading_behind next more ≡ ended q)
        → option_and_then (λ next. behind_texts next more) o ≡ Some q
        → read_on b o (λ next. reading_behind next more) ≡ ended q
    go None others e = cc
    go (Some next) others e = others next e

ended_begun : (q : Behind) → q.begun ≡ true → ended q ≡ Ok (reverse q.lines)
ended_begun q e = ap (λ begun. if begun then Ok (reverse q.lines) else Err (q.count + 1)) e

ended_unbegun : (q : Behind) → q.begun ≡ false → ended q ≡ Err (q.count + 1)
ended_unbegun q e = ap (λ begun. if begun then Ok (reverse q.lines) else Err (q.count + 1)) e

-- ---- where a line breaks one

pub record Stops (b : Behind) (texts : List Text) (number : ℕ) : Type 0 where
  pub before : List Text
  pub text : Text
  pub more : List Text
  pub last : Behind
  pub whole : texts ≡ before ++ text ∷ more
  pub kept : behind_texts b before ≡ Some last
  pub broken : behind_text last text ≡ None
  pub number_is : number ≡ b.count + length before + 1

stops_here : (b : Behind) (text : Text) (more : List Text) (number : ℕ) → behind_text b text ≡ None
    → number ≡ b.count + 1 → Stops b (text ∷ more) number
stops_here b text more number broken is = record {
  before = [];
  text = text;
  more = more;
  last = b;
  whole = refl;
  kept = refl;
  broken = broken;
  number_is = omega arith;
}

stops_later : (b next : Behind) (text : Text) (more : List Text) (number : ℕ) → behind_text b text ≡ Some next
    → Stops next more number → Stops b (text ∷ more) number
stops_later b next text more number is s = record {
  before = text ∷ s.before;
  text = s.text;
  more = s.more;
  last = s.last;
  whole = ap (λ others. text ∷ others) s.whole;
  kept = ap (option_and_then (λ n. behind_texts n s.before)) is ∙ s.kept;
  broken = s.broken;
  number_is = let one = counted_text b text next is in let n = s.number_is in omega arith;
}

-- each line keeps the rules, or one stops the reading
pub data Read (b : Behind) (texts : List Text) (r : Result (List Line) ℕ) : Type 0 where
  ends : (q : Behind) → behind_texts b texts ≡ Some q → r ≡ ended q → Read b texts r
  stops : (number : ℕ) → Stops b texts number → r ≡ Err number → Read b texts r

pub read_of : (b : Behind) (texts : List Text) → Read b texts (reading_behind b texts)
read_of b [] = ends b refl refl
read_of b (text ∷ more) = go (behind_text b text) refl (λ next. read_of next more)
  where
    later : (next : Behind) → behind_text b text ≡ Some next → Read next more (reading_behind next more)
        → Read b (text ∷ more) (reading_behind next more)
    later next is (ends q kept e) = ends q (ap (option_and_then (λ n. behind_texts n more)) is ∙ kept) e
    later next is (stops number s e) = stops number (stops_later b next text more number is s) e

    go : (o : Option Behind) → behind_text b text ≡ o → ((next : Behind) → Read next more (reading_behind next more))
        → Read b (text ∷ more) (read_on b o (λ next. reading_behind next more))
    go None is others = stops (b.count + 1) (stops_here b text more (b.count + 1) is refl) refl
    go (Some next) is others = later next is (others next)

walks_on : (b : Behind) (before rest : List Text) (last : Behind) → behind_texts b before ≡ Some last
    → reading_behind b (before ++ rest) ≡ reading_behind last rest
walks_on b [] rest last e = ap (λ q. reading_behind q rest) (same_Some _ _ e)
walks_on b (text ∷ more) rest last e = go (behind_text b text) (λ next. walks_on next more rest last) e
  where
    go : (o : Option Behind)
        → ((next : Behind) → behind_texts next more ≡ Some last → reading_behind next (more ++ rest) ≡ reading_behind last rest)
        → option_and_then (λ next. behind_texts next more) o ≡ Some last
        → read_on b o (λ next. reading_behind next (more ++ rest)) ≡ reading_behind last rest
    go None others e = cc
    go (Some next) others e = others next e

stopped : (b : Behind) (texts : List Text) (number : ℕ) → Stops b texts number → reading_behind b texts ≡ Err number
stopped b texts number s =
    let at = counted b s.before s.last s.kept in
    let is : s.last.count + 1 ≡ number = let n = s.number_is in omega arith in
    ap (reading_behind b) s.whole ∙ walks_on b s.before (s.text ∷ s.more) s.last s.kept
    ∙ ap (λ o. read_on s.last o (λ next. reading_behind next s.more)) s.broken ∙ ap (λ n. Err n) is

-- ---- scripts

to_script : (bytes : List ℕ) (lines : List Line) (r : Result (List Line) ℕ) → Read nothing_yet (texts_in bytes) r
    → r ≡ Ok lines → Script bytes lines
to_script bytes lines r (ends q kept is) e = go q.begun refl
  where
    go : (begun : Bool) → q.begun ≡ begun → Script bytes lines
    go true begun =
        let same = sym e ∙ is ∙ ended_begun q begun in
        record { last = q; kept = kept; begun = begun; said = cc }
    go false begun = let bad = sym e ∙ is ∙ ended_unbegun q begun in cc
to_script bytes lines r (stops number s is) e = let bad = sym e ∙ is in cc

to_fault : (bytes : List ℕ) (number : ℕ) (r : Result (List Line) ℕ) → Read nothing_yet (texts_in bytes) r
    → r ≡ Err number → ScriptFault bytes number
to_fault bytes number r (ends q kept is) e = go q.begun refl
  where
    go : (begun : Bool) → q.begun ≡ begun → ScriptFault bytes number
    go true begun = let bad = sym e ∙ is ∙ ended_begun q begun in cc
    go false begun =
        let count = counted nothing_yet (texts_in bytes) q kept in
        let same : number ≡ q.count + 1 = let both = sym e ∙ is ∙ ended_unbegun q begun in cc in
        inr (record { last = q; kept = kept; unbegun = begun; number_is = omega arith })
to_fault bytes number r (stops other s is) e =
    let same : number ≡ other = let both = sym e ∙ is in cc in
    inl (record {
      before = s.before;
      text = s.text;
      more = s.more;
      last = s.last;
      whole = s.whole;
      kept = s.kept;
      broken = s.broken;
      number_is = let n = s.number_is in omega arith;
    })

pub script_said : (bytes : List ℕ) (lines : List Line) → script_reading bytes ≡ Ok lines → Script bytes lines
unfolding script_reading
script_said bytes lines e = to_script bytes lines _ (read_of nothing_yet (texts_in bytes)) e

pub fault_said : (bytes : List ℕ) (number : ℕ) → script_reading bytes ≡ Err number → ScriptFault bytes number
unfolding script_reading
fault_said bytes number e = to_fault bytes number _ (read_of nothing_yet (texts_in bytes)) e

pub script_read : (bytes : List ℕ) (lines : List Line) → Script bytes lines → script_reading bytes ≡ Ok lines
unfolding script_reading
script_read bytes lines s =
    read_behind nothing_yet (texts_in bytes) s.last s.kept ∙ ended_begun s.last s.begun ∙ ap (λ l. Ok l) (sym s.said)

pub fault_read : (bytes : List ℕ) (number : ℕ) → ScriptFault bytes number → script_reading bytes ≡ Err number
unfolding script_reading
fault_read bytes number (inl s) =
    stopped nothing_yet (texts_in bytes) number (record {
      before = s.before;
      text = s.text;
      more = s.more;
      last = s.last;
      whole = s.whole;
      kept = s.kept;
      broken = s.broken;
      number_is = let n = s.number_is in omega arith;
    })
fault_read bytes number (inr s) =
    let count = counted nothing_yet (texts_in bytes) s.last s.kept in
    let is : s.last.count + 1 ≡ number = let n = s.number_is in omega arith in
    read_behind nothing_yet (texts_in bytes) s.last s.kept ∙ ended_unbegun s.last s.unbegun ∙ ap (λ n. Err n) is

-- ---- exactly one

pub one_of : (bytes : List ℕ) → HasOneScript bytes
one_of bytes = go (script_reading bytes) refl
  where
    go : (r : Result (List Line) ℕ) → script_reading bytes ≡ r → HasOneScript bytes
    go (Ok lines) is = inl (
      (lines, script_said bytes lines is, λ others s. let both = sym is ∙ script_read bytes others s in cc),
      λ number f. let bad = sym is ∙ fault_read bytes number f in absurd cc,
    )
    go (Err number) is = inr (
      (number, fault_said bytes number is, λ other f. let both = sym is ∙ fault_read bytes other f in cc),
      λ lines s. let bad = sym is ∙ script_read bytes lines s in absurd cc,
    )
