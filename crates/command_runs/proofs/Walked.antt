-- A walk over the entries of an input, one entry after the other.
use Rattle.std.proofs.Common.{◌≡◌, ℕ, ◌+◌, Bool, true, false, cond, inl, inr, List, [], ◌∷◌, ◌++◌, length, take, Option, Some, None, Ok, Err, refl, sym, ap, subst, ◌∙◌, append_assoc, append-nil, arith, length-append}
use Rattle.std.specs.List.{count_by}
use Rattle.std.specs.Io.KnownBytes.{prepend_known}
use Rattle.std.proofs.lemmas.List.Sums.{fold_push}
use Rattle.wire_spec.specs.Bytes.{AreBytes}
use Rattle.capture_spec.specs.declared.capture_version.CaptureVersion.{CaptureVersion}
use Rattle.capture_spec.specs.declared.capture_version.CaptureVersion.TheVariants.{One, Two}
use Rattle.capture_spec.specs.Items.{Received}
use Rattle.sflow_io.specs.declared.capture.Next.TheVariants as next
use Rattle.sflow_io.specs.declared.capture.Stage.{Stage}
use Rattle.sflow_io.specs.declared.capture.Stage.TheVariants as stage
use Rattle.byte_ends.specs.Unread.{unread}
use Rattle.sflow_io.specs.declared.sender.Sender.{Sender}
use Rattle.sflow_io.specs.Senders.{sender_in}
use Rattle.sflow_io.specs.declared.capture.ReadRefusal.{ReadRefusal}
use Rattle.sflow_io.specs.CaptureAnswers.{HasEnded, IsStageAfter, ReaderState, number_in, version_in}
use Rattle.sflow_io.specs.CaptureSteps.{HasGiven, HasGivenAt, IsAllIn, IsAllOf, BeginsWithEntries, with_answer}
use Rattle.byte_ends.specs.Seen.{Seen, TakesPart}
use Rattle.text_lines.specs.Pages.{Puts}
use Rattle.text_lines.proofs.PageLaws.{puts_none, puts_both, puts_part}
use Rattle.command_runs.specs.Lines.{lines_of}
use Rattle.command_runs.specs.Tasks.{Task}
use Rattle.command_runs.specs.Walks.{IsFresh, Moved, PutsLines, VisitFailed, version_said}

-- ---- lines

pub lines-push : {A : Type 0} (line : ℕ → A → List ℕ) (number : ℕ) (xs : List A) (x : A)
    → lines_of line number (xs ++ x ∷ []) ≡ lines_of line number xs ++ line (number + length xs) x
lines-push line number [] x = append-nil (line number x) ∙ ap (λ n. line n x) (omega arith)
lines-push line number (y ∷ ys) x =
    ap (λ l. line number y ++ l) (lines-push line (number + 1) ys x)
    ∙ ap (λ n. line number y ++ (lines_of line (number + 1) ys ++ line n x)) (omega arith)
    ∙ sym (append_assoc (line number y) (lines_of line (number + 1) ys) (line (number + length (y ∷ ys)) x))

-- ---- counts

pub count_by-push : {A : Type 0} (marks : A → Bool) (xs : List A) (x : A)
    → count_by marks (xs ++ x ∷ []) ≡ count_by marks xs + cond (marks x) 1 0
count_by-push marks xs x = fold_push (λ n y. n + cond (marks y) 1 0) 0 xs x

-- ---- where a walk stands

-- of what the source told these entries were read, they were visited, and their lines were put
pub record SoFar (t : Task) (visited : List Received → Type 0) (source source' : Seen) (m : Moved)
    (reader : ReaderState) (count marked : ℕ) : Type 0 where
  pub entries : List Received
  pub given : (input : List ℕ) → AreBytes input → source.told ≡ Some input → HasGiven input entries reader source'
  pub number : count ≡ length entries
  pub marked_are : marked ≡ count_by t.marks entries
  pub were : visited entries
  pub put : PutsLines t m entries

pub nothing_yet : (t : Task) (visited : List Received → Type 0) (source sink : Seen) (page : List ℕ)
    (reader : ReaderState) → IsFresh reader → visited []
    → SoFar t visited source source (record { sink = sink; sink' = sink; page = page; page' = page }) reader 0 0
nothing_yet t visited source sink page reader fresh none = record {
  entries = [];
  given = λ input are is.
      let start : HasGiven input [] (record { stage = stage.Start; held = [] }) source =
      (refl, ap (prepend_known []) is) in
      subst (λ (r : ReaderState). HasGiven input [] r source) (sym fresh) start;
  number = refl;
  marked_are = refl;
  were = none;
  put = puts_none sink page;
}

-- what was given before the end stands at the front of the input
given_front : (input : List ℕ) (entries : List Received) (at : Stage) (more left : Option (List ℕ))
    → ¬ (HasEnded at) → HasGivenAt input entries at more left → BeginsWithEntries input entries
given_front input entries stage.Start more left going given = inl given.0
given_front input entries (stage.Within v count offset) more left going given = inr (v, given.rest, given.before)
given_front input entries (stage.Ended v last) more left going given = absurd (going tt)

-- ---- the end

ended_by_end : (before after : Stage) → ¬ (HasEnded before) → IsStageAfter before after (Ok next.End)
    → (v : Option CaptureVersion) × (after ≡ stage.Ended v (Ok next.End))
ended_by_end stage.Start after going (inl none) = absurd none.0
ended_by_end stage.Start after going (inr some) = (Some some.0, some.1)
ended_by_end (stage.Within v count offset) after going is = (Some v, is)
ended_by_end (stage.Ended v last) after going is = absurd (going tt)

pub ended_by_refusal : (before after : Stage) (e : ReadRefusal) → ¬ (HasEnded before) → IsStageAfter before after (Err e)
    → (v : Option CaptureVersion) × (after ≡ stage.Ended v (Err e))
ended_by_refusal stage.Start after e going (inl none) = (None, none.1)
ended_by_refusal stage.Start after e going (inr some) = (Some some.0, some.1)
ended_by_refusal (stage.Within v count offset) after e going is = (Some v, is)
ended_by_refusal (stage.Ended v last) after e going is = absurd (going tt)

all_in : (v : Option CaptureVersion) (entries : List Received) (input : List ℕ) → IsAllIn v entries input
    → IsAllOf (version_said (number_in v)) entries input
all_in None entries input h = absurd h
all_in (Some One) entries input h = h
all_in (Some Two) entries input h = h

-- all of the input was given, in the version that the reader tells
pub all_given : (input : List ℕ) (entries : List Received) (before after : Stage) (more left : Option (List ℕ))
    (number : Option ℕ) (version : CaptureVersion) → ¬ (HasEnded before) → IsStageAfter before after (Ok next.End)
    → HasGivenAt input entries after more left → number ≡ number_in (version_in after)
    → version ≡ version_said number → IsAllOf version entries input
all_given input entries before after more left number version going moved given number_is version_is =
    let ended = ended_by_end before after going moved in
    subst (λ (v : CaptureVersion). IsAllOf v entries input)
    (sym (version_is ∙ ap version_said (number_is ∙ ap (λ (s : Stage). number_in (version_in s)) ended.1)))
    (all_in ended.0 entries input (subst (λ (s : Stage). HasGivenAt input entries s more left) ended.1 given))

-- ---- a further entry

module _ (t : Task) (visited visited' : List Received → Type 0) (source now now' a b : Seen)
    (p q : List ℕ) (reader reader' : ReaderState) (count marked at : ℕ) (from : Option Sender) (len : ℕ) (room : List ℕ)
    (far : SoFar t visited source now (record { sink = a; sink' = b; page = p; page' = q }) reader count marked)
    (given : (bytes : List ℕ) (entries : List Received) → AreBytes bytes → HasGiven bytes entries reader now
    → HasGiven bytes (with_answer entries room (Ok (next.Entry at from len))) reader' now') where
  abbrev pub entry : Received
  entry = record { arrival = at; sender = sender_in from; bytes = take len room }

  abbrev pub entries : List Received
  entries = far.entries ++ entry ∷ []

  text : lines_of t.line 1 entries ≡ lines_of t.line 1 far.entries ++ t.line (count + 1) entry
  text =
      lines-push t.line 1 far.entries entry
      ∙ ap (λ n. lines_of t.line 1 far.entries ++ t.line n entry) (omega (arith, far.number))

  pub one_more : (c : Seen) (r : List ℕ) (marked' : ℕ) → visited' entries
      → Puts b c q r (t.line (count + 1) entry)
      → marked' ≡ marked + cond (t.marks entry) 1 0
      → SoFar t visited' source now' (record { sink = a; sink' = c; page = p; page' = r }) reader' (count + 1) marked'
  one_more c r marked' were put counted = record {
    entries = entries;
    given = λ input are is. given input far.entries are (far.given input are is);
    number = omega (arith, far.number, length-append far.entries (entry ∷ []));
    marked_are = counted ∙ ap (λ n. n + cond (t.marks entry) 1 0) far.marked_are
        ∙ sym (count_by-push t.marks far.entries entry);
    were = were;
    put = subst (Puts a c p r) (sym text) (puts_both a b c p q r _ _ far.put put);
  }

  pub not_written : (c : Seen) (r : List ℕ) → ¬ (HasEnded reader'.stage)
      → TakesPart b c (q ++ t.line (count + 1) entry)
      → VisitFailed t source (record { sink = a; sink' = c; page = p; page' = r })
  not_written c r going part = record {
    entries = entries;
    begins = λ input are is.
        given_front input entries reader'.stage (unread reader'.held now') now'.told going
        (given input far.entries are (far.given input are is));
    put = subst (λ l. TakesPart a c (p ++ l)) (sym text) (puts_part a b c p q _ _ far.put part);
  }

-- ---- the count

pub counted_one : (m t : Bool) (new old : ℕ) → m ≡ t → m ≡ true → new ≡ old + 1 → new ≡ old + cond t 1 0
counted_one m t new old same true_is is =
    is ∙ ap (λ b. old + cond b 1 0) (sym true_is ∙ same)

pub counted_none : (m t : Bool) (new old : ℕ) → m ≡ t → m ≡ false → new ≡ old → new ≡ old + cond t 1 0
counted_none m t new old same false_is is =
    let more : new ≡ old + 0 = omega (arith, is) in
    more ∙ ap (λ b. old + cond b 1 0) (sym false_is ∙ same)

-- ---- the visitor keeps its task

pub puts_by : (a b : Seen) (p q : List ℕ) (number : ℕ) (e : Received) (t t' : Task)
    → t' ≡ t → Puts a b p q (t'.line number e) → Puts a b p q (t.line number e)
puts_by a b p q number e t t' same put = subst (λ (u : Task). Puts a b p q (u.line number e)) same put

pub part_by : (a b : Seen) (p : List ℕ) (number : ℕ) (e : Received) (t t' : Task)
    → t' ≡ t → TakesPart a b (p ++ t'.line number e) → TakesPart a b (p ++ t.line number e)
part_by a b p number e t t' same part = subst (λ (u : Task). TakesPart a b (p ++ u.line number e)) same part

pub marked_by : (m : Bool) (e : Received) (t t' : Task) → t' ≡ t → m ≡ t'.marks e → m ≡ t.marks e
marked_by m e t t' same is = is ∙ ap (λ (u : Task). u.marks e) same

pub waits_by : (t t' : Task) → t' ≡ t → t.waits ≡ true → t'.waits ≡ true
waits_by t t' same waits = ap (λ (u : Task). u.waits) same ∙ waits
