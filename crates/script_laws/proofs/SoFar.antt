-- How a script goes on behind some of its lines, and how it ends.
use Rattle.std.proofs.Common.{◌≡◌, ◌∙◌, ◌+◌, ℕ, Bool, true, false, List, [], ◌∷◌, ◌++◌, length, reverse, Option, Some, None, Ok, Err, rules, refl, ap, sym, subst, if◌then◌else◌, arith, append_assoc}
use Rattle.std.specs.Prelude.{option_and_then}
use Rattle.std.proofs.lemmas.Option.{same_Some}
use Rattle.script_spec.specs.Words.{Text}
use Rattle.script_spec.specs.Lines.{Line}
use Rattle.script_spec.specs.Texts.{Shape, Skipped, Heading, Says, Shapeless, shape_of, texts_in}
use Rattle.script_spec.specs.Rules.{may_follow}
use Rattle.script_spec.specs.Scripts.{Behind, behind_shape, behind_text, behind_texts, nothing_yet, read_on, reading_behind, script_reading}
use Rattle.script_spec.specs.Steps.{Gives, Ends, Fails, behind_line, by_shape, next_in}
use Rattle.script_laws.specs.SoFar.{BreaksBehind, IsScriptOf, SaysNothing, SoFar, broken, headless}
use Rattle.script_laws.proofs.Nexts.{given}

-- ---- texts, one after the other

onto : (o : Option Behind) (q : Behind) (xs ys : List Text)
    → ((next : Behind) → behind_texts next xs ≡ Some q → behind_texts next (xs ++ ys) ≡ behind_texts q ys)
    → option_and_then (λ next. behind_texts next xs) o ≡ Some q
    → option_and_then (λ next. behind_texts next (xs ++ ys)) o ≡ behind_texts q ys
onto None q xs ys on e = absurd cc
onto (Some next) q xs ys on e = on next e

pub behind_both : (b : Behind) (xs ys : List Text) (q : Behind) → behind_texts b xs ≡ Some q
    → behind_texts b (xs ++ ys) ≡ behind_texts q ys
behind_both b [] ys q e = ap (λ (p : Behind). behind_texts p ys) (same_Some _ _ e)
behind_both b (text ∷ xs) ys q e = onto (behind_text b text) q xs ys (λ next. behind_both next xs ys q) e

-- ---- the count of lines

counted_shape : (b : Behind) (shape : Shape) (q : Behind) → behind_shape b shape ≡ Some q → q.count ≡ b.count + 1
counted_shape b Skipped q e = sym (ap (λ (r : Behind). r.count) (same_Some _ _ e))
counted_shape b Heading q e = sym (ap (λ (r : Behind). r.count) (same_Some _ _ e))
counted_shape b (Says line) q e = go (may_follow b.lines line) e
  where
    go : (may : Bool)
        → (if may then Some (record { count = b.count + 1; begun = b.begun; lines = line ∷ b.lines }) else None) ≡ Some q
        → q.count ≡ b.count + 1
    go true h = sym (ap (λ (r : Behind). r.count) (same_Some _ _ h))
    go false h = absurd cc
counted_shape b Shapeless q e = absurd cc

counted_text : (b : Behind) (text : Text) (q : Behind) → behind_text b text ≡ Some q → q.count ≡ b.count + 1
unfolding behind_text
counted_text b text q e = counted_shape b (shape_of b.begun (b.count + 1) text) q e

counted : (b : Behind) (texts : List Text) (q : Behind) → behind_texts b texts ≡ Some q → q.count ≡ b.count + length texts
counted b [] q e = let same = ap (λ (r : Behind). r.count) (same_Some _ _ e) in omega (arith, same)
counted b (text ∷ more) q e = go (behind_text b text) refl (λ next. counted next more q) e
  where
    go : (o : Option Behind) → behind_text b text ≡ o
        → ((next : Behind) → behind_texts next more ≡ Some q → q.count ≡ next.count + length more)
        → option_and_then (λ next. behind_texts next more) o ≡ Some q → q.count ≡ b.count + length (text ∷ more)
    go None is others h = absurd cc
    go (Some next) is others h =
        let one = counted_text b text next is in
        let rest = others next h in
        omega (arith, one, rest)

-- ---- texts that say nothing, and what ends behind them

-- behind texts that say nothing comes the end
record HasEnd (b : Behind) (texts : List Text) : Type 0 where
  pub nothing : SaysNothing b texts
  pub begun : nothing.last.begun ≡ true

-- or the heading isn't there
record HasNoHeading (b : Behind) (texts : List Text) (number : ℕ) : Type 0 where
  pub nothing : SaysNothing b texts
  pub unbegun : nothing.last.begun ≡ false
  pub number_is : number ≡ nothing.last.count + 1

-- or a text without a shape
record HasShapeless (b : Behind) (texts : List Text) (number : ℕ) : Type 0 where
  pub skipped : List Text
  pub text : Text
  pub more : List Text
  pub whole : texts ≡ skipped ++ text ∷ more
  pub nothing : SaysNothing b skipped
  pub number_is : number ≡ nothing.last.count + 1
  pub is : shape_of nothing.last.begun (nothing.last.count + 1) text ≡ Shapeless

data Fault (b : Behind) (texts : List Text) (number : ℕ) : Type 0 where
  no_heading : HasNoHeading b texts number → Fault b texts number
  shapeless : HasShapeless b texts number → Fault b texts number

abbrev passed : (b next : Behind) (text : Text) (rest : List Text) → behind_text b text ≡ Some next → next.lines ≡ b.lines
    → SaysNothing next rest → SaysNothing b (text ∷ rest)
passed b next text rest is same n = record {
  last = n.last;
  kept = ap (λ (o : Option Behind). option_and_then (λ p. behind_texts p rest) o) is ∙ n.kept;
  lines = n.lines ∙ same;
}

end_passed : (b next : Behind) (text : Text) (rest : List Text) → behind_text b text ≡ Some next → next.lines ≡ b.lines
    → HasEnd next rest → HasEnd b (text ∷ rest)
end_passed b next text rest is same h =
    record { nothing = passed b next text rest is same h.nothing; begun = h.begun }

fault_passed : (b next : Behind) (text : Text) (rest : List Text) (number : ℕ) → behind_text b text ≡ Some next
    → next.lines ≡ b.lines → Fault next rest number → Fault b (text ∷ rest) number
fault_passed b next text rest number is same (no_heading h) =
    no_heading (record { nothing = passed b next text rest is same h.nothing; unbegun = h.unbegun; number_is = h.number_is })
fault_passed b next text rest number is same (shapeless h) = shapeless (record {
  skipped = text ∷ h.skipped;
  text = h.text;
  more = h.more;
  whole = ap (λ (l : List Text). text ∷ l) h.whole;
  nothing = passed b next text h.skipped is same h.nothing;
  number_is = h.number_is;
  is = h.is;
})

abbrev nothing_here : (b : Behind) → SaysNothing b []
nothing_here b = record { last = b; kept = refl; lines = refl }

end_at : (b : Behind) (begun : Bool) → b.begun ≡ begun → (if begun then Ends else Fails (b.count + 1)) ≡ Ends → HasEnd b []
end_at b true is e = record { nothing = nothing_here b; begun = is }
end_at b false is e = absurd cc

fault_at : (b : Behind) (begun : Bool) (number : ℕ) → b.begun ≡ begun
    → (if begun then Ends else Fails (b.count + 1)) ≡ Fails number → Fault b [] number
fault_at b true number is e = absurd cc
fault_at b false number is e =
    let count : b.count + 1 ≡ number = cc in
    no_heading (record { nothing = nothing_here b; unbegun = is; number_is = sym count })

has_end : (b : Behind) (texts : List Text) → next_in b.begun b.count texts ≡ Ends → HasEnd b texts
unfolding behind_text
has_end b [] e = end_at b b.begun refl e
has_end b (text ∷ rest) e =
    go (shape_of b.begun (b.count + 1) text) refl (λ next. has_end next rest) e
  where
    go : (shape : Shape) → shape_of b.begun (b.count + 1) text ≡ shape
        → ((next : Behind) → next_in next.begun next.count rest ≡ Ends → HasEnd next rest)
        → by_shape b.begun (b.count + 1) rest (λ now. next_in now (b.count + 1) rest) shape ≡ Ends
        → HasEnd b (text ∷ rest)
    go Skipped is others h =
        end_passed b (record { count = b.count + 1; begun = b.begun; lines = b.lines }) text rest
        (ap (behind_shape b) is) refl (others (record { count = b.count + 1; begun = b.begun; lines = b.lines }) h)
    go Heading is others h =
        end_passed b (record { count = b.count + 1; begun = true; lines = b.lines }) text rest
        (ap (behind_shape b) is) refl (others (record { count = b.count + 1; begun = true; lines = b.lines }) h)
    go (Says said) is others h = absurd cc
    go Shapeless is others h = absurd cc

has_fault : (b : Behind) (texts : List Text) (number : ℕ) → next_in b.begun b.count texts ≡ Fails number
    → Fault b texts number
unfolding behind_text
has_fault b [] number e = fault_at b b.begun number refl e
has_fault b (text ∷ rest) number e =
    go (shape_of b.begun (b.count + 1) text) refl (λ next. has_fault next rest number) e
  where
    go : (shape : Shape) → shape_of b.begun (b.count + 1) text ≡ shape
        → ((next : Behind) → next_in next.begun next.count rest ≡ Fails number → Fault next rest number)
        → by_shape b.begun (b.count + 1) rest (λ now. next_in now (b.count + 1) rest) shape ≡ Fails number
        → Fault b (text ∷ rest) number
    go Skipped is others h =
        fault_passed b (record { count = b.count + 1; begun = b.begun; lines = b.lines }) text rest number
        (ap (behind_shape b) is) refl (others (record { count = b.count + 1; begun = b.begun; lines = b.lines }) h)
    go Heading is others h =
        fault_passed b (record { count = b.count + 1; begun = true; lines = b.lines }) text rest number
        (ap (behind_shape b) is) refl (others (record { count = b.count + 1; begun = true; lines = b.lines }) h)
    go (Says said) is others h = absurd cc
    go Shapeless is others h =
        let count : b.count + 1 ≡ number = cc in
        shapeless (record {
          skipped = [];
          text = text;
          more = rest;
          whole = refl;
          nothing = nothing_here b;
          number_is = sym count;
          is = is;
        })

-- ---- a script up to a line

nil_end : (l : List Text) → l ≡ l ++ []
nil_end l = search rules

pub before_all : (input : List ℕ) → SoFar input nothing_yet (texts_in input)
before_all input = record { before = []; whole = refl; kept = refl }

module _ (input : List ℕ) (b : Behind) (texts : List Text) (s : SoFar input b texts) where
  -- behind further texts
  further : (xs more : List Text) (q : Behind) → texts ≡ xs ++ more → behind_texts b xs ≡ Some q → SoFar input q more
  further xs more q whole kept = record {
    before = s.before ++ xs;
    whole = s.whole ∙ ap (λ (l : List Text). s.before ++ l) whole ∙ sym (append_assoc s.before xs more);
    kept = behind_both nothing_yet s.before xs b s.kept ∙ kept;
  }

  by_rule : (last : Behind) (line : Line) (text : Text) (may : Bool) → last.begun ≡ true → last.lines ≡ b.lines
      → shape_of true (last.count + 1) text ≡ Says line → may_follow b.lines line ≡ may
      → behind_text last text
      ≡ (if may then Some (record { count = last.count + 1; begun = true; lines = line ∷ b.lines }) else None)
  unfolding behind_text
  by_rule last line text may begun lines says follows =
      ap (λ (now : Bool). behind_shape last (shape_of now (last.count + 1) text)) begun
      ∙ ap (behind_shape last) says
      ∙ ap (λ (m : Bool). if m then Some (record { count = last.count + 1; begun = last.begun; lines = line ∷ last.lines }) else None)
      (ap (λ (l : List Line). may_follow l line) lines ∙ follows)
      ∙ ap (λ (now : Bool). if may then Some (record { count = last.count + 1; begun = now; lines = line ∷ last.lines }) else None) begun
      ∙ ap (λ (l : List Line). if may then Some (record { count = last.count + 1; begun = true; lines = line ∷ l }) else None) lines

  -- the next line may follow
  pub line_kept : (line : Line) (number : ℕ) (more : List Text) → next_in b.begun b.count texts ≡ Gives line number more
      → may_follow b.lines line ≡ true → SoFar input (behind_line b line number) more
  line_kept line number more e may =
      let g = given b texts line number more e in
      let at : behind_text g.last g.text ≡ Some (record { count = g.last.count + 1; begun = true; lines = line ∷ b.lines }) =
      by_rule g.last line g.text true g.begun g.lines (ap (λ (n : ℕ). shape_of true n g.text) (sym g.number_is) ∙ g.says) may in
      subst (λ (n : ℕ). SoFar input (record { count = n; begun = true; lines = line ∷ b.lines }) more) (sym g.number_is)
      (further (g.skipped ++ g.text ∷ []) more (record { count = g.last.count + 1; begun = true; lines = line ∷ b.lines })
      (g.whole ∙ sym (append_assoc g.skipped (g.text ∷ []) more))
      (behind_both b g.skipped (g.text ∷ []) g.last g.kept
      ∙ ap (λ (o : Option Behind). option_and_then (λ next. behind_texts next []) o) at))

  number_behind : (before : List Text) (last : Behind) → behind_texts nothing_yet before ≡ Some last
      → last.count ≡ length before
  number_behind before last kept = omega (arith, counted nothing_yet before last kept)

  breaks : (skipped : List Text) (text : Text) (more : List Text) (last : Behind) (number : ℕ)
      → texts ≡ skipped ++ text ∷ more → behind_texts b skipped ≡ Some last → last.lines ≡ b.lines
      → behind_text last text ≡ None → number ≡ last.count + 1 → BreaksBehind b.lines input number
  breaks skipped text more last number whole kept lines none number_is =
      let f = further skipped (text ∷ more) last whole kept in
      broken
      (record {
        before = f.before;
        text = text;
        more = more;
        last = last;
        whole = f.whole;
        kept = f.kept;
        broken = none;
        number_is = omega (arith, number_is, number_behind f.before last f.kept);
      })
      lines

  -- the next line may not follow
  pub line_broken : (line : Line) (number : ℕ) (more : List Text) → next_in b.begun b.count texts ≡ Gives line number more
      → may_follow b.lines line ≡ false → BreaksBehind b.lines input number
  line_broken line number more e may =
      let g = given b texts line number more e in
      breaks g.skipped g.text more g.last number g.whole g.kept g.lines
      (by_rule g.last line g.text false g.begun g.lines (ap (λ (n : ℕ). shape_of true n g.text) (sym g.number_is) ∙ g.says) may)
      g.number_is

  -- no line is left
  pub all_read : next_in b.begun b.count texts ≡ Ends → IsScriptOf b.lines input
  all_read e =
      let h = has_end b texts e in
      let f = further texts [] h.nothing.last (nil_end texts) h.nothing.kept in
      record {
        last = h.nothing.last;
        kept = ap (behind_texts nothing_yet) (f.whole ∙ sym (nil_end f.before)) ∙ f.kept;
        begun = h.begun;
        said = ap reverse (sym h.nothing.lines);
      }

  -- the next line has no shape, or the heading isn't there
  pub fault_next : (number : ℕ) → next_in b.begun b.count texts ≡ Fails number → BreaksBehind b.lines input number
  unfolding behind_text
  fault_next number e = by_fault (has_fault b texts number e)
    where
      by_fault : Fault b texts number → BreaksBehind b.lines input number
      by_fault (shapeless h) =
          breaks h.skipped h.text h.more h.nothing.last number h.whole h.nothing.kept h.nothing.lines
          (ap (behind_shape h.nothing.last) h.is) h.number_is
      by_fault (no_heading h) =
          let f = further texts [] h.nothing.last (nil_end texts) h.nothing.kept in
          let all : texts_in input ≡ f.before = f.whole ∙ sym (nil_end f.before) in
          headless
          (record {
            last = h.nothing.last;
            kept = ap (behind_texts nothing_yet) all ∙ f.kept;
            unbegun = h.unbegun;
            number_is = omega (arith, h.number_is, number_behind f.before h.nothing.last f.kept, ap (λ (l : List Text). length l) all);
          })
          h.nothing.lines

-- ---- each input is a script, or has a fault

pub data Outcome (input : List ℕ) : Type 0 where
  script : (lines : List Line) → IsScriptOf lines input → Outcome input
  fault : (lines : List Line) (number : ℕ) → BreaksBehind lines input number → Outcome input

at_end : (input : List ℕ) (b : Behind) (begun : Bool) → SoFar input b [] → b.begun ≡ begun → Outcome input
at_end input b true s is = script b.lines (record {
  last = b;
  kept = ap (behind_texts nothing_yet) (s.whole ∙ sym (nil_end s.before)) ∙ s.kept;
  begun = is;
  said = refl;
})
at_end input b false s is =
    let all : texts_in input ≡ s.before = s.whole ∙ sym (nil_end s.before) in
    fault b.lines (length (texts_in input) + 1)
    (headless (record { last = b; kept = ap (behind_texts nothing_yet) all ∙ s.kept; unbegun = is; number_is = refl }) refl)

outcome_behind : (input : List ℕ) (b : Behind) (texts : List Text) → SoFar input b texts → Outcome input
outcome_behind input b [] s = at_end input b b.begun s refl
outcome_behind input b (text ∷ more) s =
    go (behind_text b text) refl (λ next. outcome_behind input next more)
  where
    go : (o : Option Behind) → behind_text b text ≡ o → ((next : Behind) → SoFar input next more → Outcome input) → Outcome input
    go None is others = fault b.lines (length s.before + 1) (broken (record {
      before = s.before;
      text = text;
      more = more;
      last = b;
      whole = s.whole;
      kept = s.kept;
      broken = is;
      number_is = refl;
    }) refl)
    go (Some next) is others =
        others next (further input b (text ∷ more) s (text ∷ []) more next refl (ap (λ (o : Option Behind). option_and_then (λ n. behind_texts n []) o) is))

pub outcome_of : (input : List ℕ) → Outcome input
outcome_of input = outcome_behind input nothing_yet (texts_in input) (before_all input)

-- ---- and only one of them

reads_onto : (b : Behind) (o : Option Behind) (q : Behind) (xs ys : List Text)
    → ((next : Behind) → behind_texts next xs ≡ Some q → reading_behind next (xs ++ ys) ≡ reading_behind q ys)
    → option_and_then (λ next. behind_texts next xs) o ≡ Some q
    → read_on b o (λ next. reading_behind next (xs ++ ys)) ≡ reading_behind q ys
reads_onto b None q xs ys on e = absurd cc
reads_onto b (Some next) q xs ys on e = on next e

reads_both : (b : Behind) (xs ys : List Text) (q : Behind) → behind_texts b xs ≡ Some q
    → reading_behind b (xs ++ ys) ≡ reading_behind q ys
reads_both b [] ys q e = ap (λ (p : Behind). reading_behind p ys) (same_Some _ _ e)
reads_both b (text ∷ xs) ys q e = reads_onto b (behind_text b text) q xs ys (λ next. reads_both next xs ys q) e

pub reads_script : (lines : List Line) (input : List ℕ) → IsScriptOf lines input → script_reading input ≡ Ok (reverse lines)
unfolding script_reading
reads_script lines input s =
    ap (reading_behind nothing_yet) (nil_end (texts_in input))
    ∙ reads_both nothing_yet (texts_in input) [] s.last s.kept
    ∙ ap (λ (begun : Bool). if begun then Ok (reverse s.last.lines) else Err (s.last.count + 1)) s.begun
    ∙ ap (λ (l : List Line). Ok l) (sym s.said)

pub reads_fault : (lines : List Line) (input : List ℕ) (number : ℕ) → BreaksBehind lines input number
    → script_reading input ≡ Err number
unfolding script_reading
reads_fault lines input number (broken h same) =
    let count : h.last.count ≡ length h.before = omega (arith, counted nothing_yet h.before h.last h.kept) in
    ap (reading_behind nothing_yet) h.whole
    ∙ reads_both nothing_yet h.before (h.text ∷ h.more) h.last h.kept
    ∙ ap (λ (o : Option Behind). read_on h.last o (λ next. reading_behind next h.more)) h.broken
    ∙ ap (λ (n : ℕ). Err n) (omega (arith, h.number_is, count))
reads_fault lines input number (headless h same) =
    let count : h.last.count ≡ length (texts_in input) = omega (arith, counted nothing_yet (texts_in input) h.last h.kept) in
    ap (reading_behind nothing_yet) (nil_end (texts_in input))
    ∙ reads_both nothing_yet (texts_in input) [] h.last h.kept
    ∙ ap (λ (begun : Bool). if begun then Ok (reverse h.last.lines) else Err (h.last.count + 1)) h.unbegun
    ∙ ap (λ (n : ℕ). Err n) (omega (arith, h.number_is, count))
