-- A walk over the lines of a script, one line after the other. Every list of lines has the LATEST FIRST.
use Rattle.std.proofs.Common.{◌≡◌, ◌∙◌, ◌<◌, ◌≤◌, ◌||◌, ◌↔◌, ℕ, Bool, true, false, List, [], ◌∷◌, ◌++◌, length, Option, Some, None, Ok, Err, refl, sym, ap, subst, append-nil, arith}
use Rattle.std.specs.List.{AllByRecursion}
use Rattle.std.specs.Io.KnownBytes.{prepend_known}
use Rattle.byte_ends.specs.Seen.{Seen, TakesPart}
use Rattle.byte_ends.specs.Unread.{unread}
use Rattle.text_lines.specs.Pages.{Puts}
use Rattle.text_lines.proofs.PageLaws.{puts_both, puts_none, puts_part}
use Rattle.wire_spec.specs.declared.input_kind.InputKind.TheVariants.{Script}
use Rattle.sflow_io.specs.declared.capture.ReadRefusal.{ReadRefusal}
use Rattle.sflow_io.specs.declared.capture.ReadRefusal.TheVariants as refusals
use Rattle.script_spec.specs.Words.{Text}
use Rattle.script_spec.specs.Lines.{Line}
use Rattle.script_spec.specs.Forms.{line_in}
use Rattle.script_spec.specs.Rules.{may_follow}
use Rattle.script_spec.specs.Scripts.{Behind}
use Rattle.script_spec.specs.Sent.{all_sent, sent_by}
use Rattle.script_spec.specs.Steps.{Ends, next_in}
use Rattle.script_spec.specs.Texts.{texts_in}
use Rattle.script_laws.specs.SoFar.{BeginsWithLines, SoFar}
use Rattle.script_laws.specs.Written.{Says, may_be_written}
use Rattle.script_laws.proofs.SoFar.{all_read, before_all, fault_next, line_broken, line_kept}
use Rattle.script_lines.specs.declared.line.ScriptLine.{ScriptLine}
use Rattle.script_lines.specs.Fronts.{IsSaid}
use Rattle.script_lines.specs.Readers.{GivesLine, IsFresh, ReaderState, Tells}
use Rattle.script_lines.specs.Shown.{shown}
use Rattle.command_runs.specs.Walks.{Moved}
use Rattle.sflow_tool.specs.Agents.{agent_part, are_some, entries_put}
use Rattle.sflow_tool.specs.AgentWalks.{IsShort, Lacking, LineEnds, LinesEnd, NotWritten, PutsBeginning, PutsText, StopsBehind, TookLine, TookLines, TookScript}
use Rattle.sflow_tool.specs.ScriptRuns.{StandsFor, TakesLine}
use Rattle.sflow_tool.specs.Steps.{entries_of}
use Rattle.sflow_tool.specs.declared.agent.AgentStop.{AgentStop}
use Rattle.sflow_tool.specs.declared.agent.AgentStop.TheVariants as stops
use Rattle.sflow_tool.specs.declared.script_run.ScriptRun.{ScriptRun}
use Rattle.sflow_tool.specs.declared.step.Step.{Step}
use Rattle.sflow_tool.proofs.AgentTexts.{nothing_part, nothing_some, part_more, some_line}
use Rattle.sflow_tool.proofs.Short.{sends_short}

-- ---- one line

-- what some text says can be written
pub said_may : (line : Line) → IsSaid line → ((text : Text) (l : Line) → (line_in text ≡ Some l) ↔ Says text l)
    → may_be_written line ≡ true
said_may line said law = ((law said.0 line).0 said.1).may

-- what a line has sent is short
pub sent_short : (run new : ScriptRun) (lines : List Line) (line : Line) (step : Step) → StandsFor run lines
    → TakesLine new lines line (Ok step) → AllByRecursion IsShort (entries_of step)
sent_short run new lines line step stands takes =
    subst (AllByRecursion IsShort) (sym takes.3) (sends_short line lines stands.lawful)

pub line_took : (new : ScriptRun) (lines : List Line) (line : Line) (step : Step) (opened now : Bool) (m : Moved)
    → TakesLine new lines line (Ok step) → now ≡ (opened || are_some (entries_of step))
    → PutsText m (entries_put opened (entries_of step)) → TookLine new lines line opened now m
line_took new lines line step opened now m takes is put = record {
  follows = takes.0;
  stands = takes.1;
  opened_is = is ∙ ap (λ es. opened || are_some es) takes.3;
  put = subst (λ es. PutsText m (entries_put opened es)) takes.3 put;
}

pub or_nothing : (b : Bool) → b ≡ (b || false)
or_nothing true = refl
or_nothing false = refl

pub line_unwritten : (new : ScriptRun) (lines : List Line) (line : Line) (step : Step) (opened : Bool) (m : Moved)
    → TakesLine new lines line (Ok step) → PutsBeginning m (entries_put opened (entries_of step))
    → (may_follow lines line ≡ true) × PutsBeginning m (entries_put opened (sent_by lines line))
line_unwritten new lines line step opened m takes put =
    (takes.0, subst (λ es. PutsBeginning m (entries_put opened es)) takes.3 put)

-- ---- where a walk stands

-- of what the source told these lines were read, and what comes next is what is left to read
pub record HasReached (lines : List Line) (input : List ℕ) (reader : ReaderState) (source : Seen) : Type 0 where
  pub bytes : List ℕ
  pub left_is : unread reader.held source ≡ Some bytes
  pub so_far : SoFar input (record { count = reader.place.count; begun = reader.place.begun; lines = lines }) (texts_in bytes)

-- these lines were taken, and what they send was put
pub record Reached (source source' : Seen) (m : Moved) (reader : ReaderState) (run : ScriptRun) (opened : Bool)
    : Type 0 where
  pub lines : List Line
  pub given : (input : List ℕ) → source.told ≡ Some input → HasReached lines input reader source'
  pub stands : StandsFor run lines
  pub few : length lines ≤ reader.place.count
  pub opened_is : opened ≡ are_some (all_sent lines)
  pub put : PutsText m (agent_part lines)

pub nothing_reached : (source sink : Seen) (page : List ℕ) (reader : ReaderState) (run : ScriptRun) → IsFresh reader
    → StandsFor run []
    → Reached source source (record { sink = sink; sink' = sink; page = page; page' = page }) reader run false
nothing_reached source sink page reader run fresh stands =
    subst
    (λ (r : ReaderState). Reached source source (record { sink = sink; sink' = sink; page = page; page' = page }) r run false)
    (sym fresh)
    (record {
      lines = [];
      given = λ input told. record { bytes = input; left_is = ap (prepend_known []) told; so_far = before_all input };
      stands = stands;
      few = omega arith;
      opened_is = sym nothing_some;
      put = subst (Puts sink sink page page) (sym nothing_part) (puts_none sink page);
    })

pub fresh_open : (reader : ReaderState) → IsFresh reader → reader.ended ≡ None
fresh_open reader fresh = ap (λ (r : ReaderState). r.ended) fresh

pub fresh_count : (reader : ReaderState) → IsFresh reader → reader.place.count ≡ 0
fresh_count reader fresh = ap (λ (r : ReaderState). r.place.count) fresh

module _ (source now now' a b : Seen) (p q : List ℕ) (reader reader' : ReaderState) (run new : ScriptRun) (opened : Bool)
    (far : Reached source now (record { sink = a; sink' = b; page = p; page' = q }) reader run opened) (line : ScriptLine)
    (told : (bytes : List ℕ) → unread reader.held now ≡ Some bytes
    → GivesLine reader.place reader'.place line bytes (unread reader'.held now')) where
  abbrev said : Line
  said = shown line

  -- the next line stands behind these
  next_is : (input : List ℕ) → (is : source.told ≡ Some input)
      → GivesLine reader.place reader'.place line (far.given input is).bytes (unread reader'.held now')
  next_is input is = told (far.given input is).bytes (far.given input is).left_is

  goes_on : (input : List ℕ) → (is : source.told ≡ Some input) → may_follow far.lines said ≡ true
      → SoFar input (record { count = reader'.place.count; begun = true; lines = said ∷ far.lines }) (texts_in (next_is input is).rest)
  goes_on input is follows =
      let before = far.given input is in
      let next = next_is input is in
      line_kept input (record { count = reader.place.count; begun = reader.place.begun; lines = far.lines }) (texts_in before.bytes)
      before.so_far said reader'.place.count (texts_in next.rest) next.next follows

  begins : (input : List ℕ) → source.told ≡ Some input → may_follow far.lines said ≡ true
      → BeginsWithLines (said ∷ far.lines) input
  begins input is follows = record {
    behind = record { count = reader'.place.count; begun = true; lines = said ∷ far.lines };
    more = texts_in (next_is input is).rest;
    so_far = goes_on input is follows;
    says = refl;
  }

  text_then : (opened ≡ are_some (all_sent far.lines)) → agent_part far.lines ++ entries_put opened (sent_by far.lines said) ≡ agent_part (said ∷ far.lines)
  text_then is =
      ap (λ (o : Bool). agent_part far.lines ++ entries_put o (sent_by far.lines said)) is ∙ sym (part_more said far.lines)

  pub one_line : (now-opened : Bool) (c : Seen) (r : List ℕ) → reader.place.count < reader'.place.count
      → TookLine new far.lines said opened now-opened (record { sink = b; sink' = c; page = q; page' = r })
      → Reached source now' (record { sink = a; sink' = c; page = p; page' = r }) reader' new now-opened
  one_line now-opened c r more took = record {
    lines = said ∷ far.lines;
    given = λ input is. record {
      bytes = (next_is input is).rest;
      left_is = (next_is input is).left_is;
      so_far = subst
          (λ (started : Bool). SoFar input (record { count = reader'.place.count; begun = started; lines = said ∷ far.lines })
          (texts_in (next_is input is).rest))
          (sym (next_is input is).begun) (goes_on input is took.follows);
    };
    stands = took.stands;
    few = omega (arith, far.few, more);
    opened_is = took.opened_is
        ∙ ap (λ (o : Bool). o || are_some (sent_by far.lines said)) far.opened_is ∙ sym (some_line said far.lines);
    put = subst (Puts a c p r) (text_then far.opened_is) (puts_both a b c p q r _ _ far.put took.put);
  }

  line_failed : (c : Seen) (r : List ℕ) → may_follow far.lines said ≡ true
      → TakesPart b c (q ++ entries_put opened (sent_by far.lines said))
      → NotWritten source (record { sink = a; sink' = c; page = p; page' = r })
  line_failed c r follows part = record {
    lines = said ∷ far.lines;
    begins = λ input is. begins input is follows;
    put = subst (λ l. TakesPart a c (p ++ l)) (text_then far.opened_is) (puts_part a b c p q _ _ far.put part);
  }

  -- nothing more was put
  still : (c : Seen) (r : List ℕ) → Puts b c q r [] → Puts a c p r (agent_part far.lines)
  still c r put = subst (Puts a c p r) (append-nil (agent_part far.lines)) (puts_both a b c p q r _ _ far.put put)

  line_lacks : (c : Seen) (r : List ℕ) → Puts b c q r []
      → Lacking source (record { sink = a; sink' = c; page = p; page' = r })
  line_lacks c r put = record {
    lines = far.lines;
    begins = λ input is.
        let before = far.given input is in
        record {
          behind = record { count = reader.place.count; begun = reader.place.begun; lines = far.lines };
          more = texts_in before.bytes;
          so_far = before.so_far;
          says = refl;
        };
    put = still c r put;
  }

  line_breaks : (number : ℕ) (refusal : ReadRefusal) (c : Seen) (r : List ℕ) → number ≡ reader'.place.count
      → may_follow far.lines said ≡ false → refusal ≡ refusals.BadInput number Script → Puts b c q r []
      → TookLines source now' (record { sink = a; sink' = c; page = p; page' = r }) refusal
  line_breaks number refusal c r is_number follows is put = record {
    lines = far.lines;
    ends = λ input told-input.
        let before = far.given input told-input in
        let next = next_is input told-input in
        subst (StopsBehind far.lines input now'.told) (sym (is ∙ ap (λ n. refusals.BadInput n Script) is_number)) (
          line_broken input (record { count = reader.place.count; begun = reader.place.begun; lines = far.lines })
              (texts_in before.bytes) before.so_far said reader'.place.count (texts_in next.rest) next.next follows,
          refl,
        );
    put = still c r put;
  }

  -- a line whose number this is ends the walk
  pub line_ends : (number : ℕ) (stop : AgentStop) (c : Seen) (r : List ℕ) → number ≡ reader'.place.count
      → LineEnds new far.lines said number opened (record { sink = b; sink' = c; page = q; page' = r }) (Err stop)
      → LinesEnd source now' (record { sink = a; sink' = c; page = p; page' = r }) (Err stop)
  line_ends number (stops.Read refusal) c r is_number h = line_breaks number refusal c r is_number h.0 h.1 h.2
  line_ends number stops.Write c r is_number h = line_failed c r h.0 h.1
  line_ends number stops.Memory c r is_number h = line_lacks c r h.1

-- what a refusal of the reader says of the input behind these lines
pub stops_so : (lines : List Line) (reader reader' : ReaderState) (now' : Seen) (input : List ℕ) (bytes : List ℕ)
    (left : Option (List ℕ)) (refusal : ReadRefusal)
    → SoFar input (record { count = reader.place.count; begun = reader.place.begun; lines = lines }) (texts_in bytes)
    → Tells reader.place reader'.place bytes (unread reader'.held now') left (Err refusal)
    → StopsBehind lines input left refusal
stops_so lines reader reader' now' input bytes left refusals.ReadFault so_far h = record {
  behind = record { count = reader.place.count; begun = reader.place.begun; lines = lines };
  more = texts_in bytes;
  so_far = so_far;
  says = refl;
  now = record { count = reader'.place.count; begun = reader'.place.begun; lines = lines };
  part = h.part;
  rest = h.rest;
  inside = h.inside;
  left_is = h.left_is;
  same = h.same;
}
stops_so lines reader reader' now' input bytes left (refusals.BadInput at kind) so_far h = (
  fault_next input (record { count = reader.place.count; begun = reader.place.begun; lines = lines }) (texts_in bytes)
      so_far at h.0,
  h.1,
)
stops_so lines reader reader' now' input bytes left refusals.Spent so_far h = h

-- ---- the end

module _ (source now now' a b : Seen) (p q : List ℕ) (reader reader' : ReaderState) (run : ScriptRun) (opened : Bool)
    (far : Reached source now (record { sink = a; sink' = b; page = p; page' = q }) reader run opened) where
  abbrev behind_now : Behind
  behind_now = record { count = reader.place.count; begun = reader.place.begun; lines = far.lines }

  pub all_taken : ((bytes : List ℕ) → unread reader.held now ≡ Some bytes
      → next_in reader.place.begun reader.place.count (texts_in bytes) ≡ Ends)
      → TookScript source (record { sink = a; sink' = b; page = p; page' = q }) opened
  all_taken ends = record {
    lines = far.lines;
    all = λ input is.
        let before = far.given input is in
        all_read input behind_now (texts_in before.bytes) before.so_far (ends before.bytes before.left_is);
    opened_is = far.opened_is;
    put = far.put;
  }

  pub refused_behind : (refusal : ReadRefusal)
      → ((bytes : List ℕ) → unread reader.held now ≡ Some bytes
      → Tells reader.place reader'.place bytes (unread reader'.held now') now'.told (Err refusal))
      → TookLines source now' (record { sink = a; sink' = b; page = p; page' = q }) refusal
  refused_behind refusal tells = record {
    lines = far.lines;
    ends = λ input is.
        let before = far.given input is in
        stops_so far.lines reader reader' now' input before.bytes now'.told refusal before.so_far
        (tells before.bytes before.left_is);
    put = far.put;
  }
