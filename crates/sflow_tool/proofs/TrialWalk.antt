-- A walk over the lines of a script that is tried. Every list of lines has the LATEST FIRST.
use Rattle.std.proofs.Common.{◌≡◌, ◌<◌, ◌≤◌, ℕ, true, false, List, [], ◌∷◌, length, Some, Err, refl, sym, ap, subst, ◌∙◌, arith}
use Rattle.std.specs.Io.KnownBytes.{prepend_known}
use Rattle.byte_ends.specs.Seen.{Seen}
use Rattle.byte_ends.specs.Unread.{unread}
use Rattle.wire_spec.specs.declared.input_kind.InputKind.TheVariants.{Script}
use Rattle.sflow_io.specs.declared.capture.ReadRefusal.{ReadRefusal}
use Rattle.sflow_io.specs.declared.capture.ReadRefusal.TheVariants as refusals
use Rattle.script_spec.specs.Lines.{Line}
use Rattle.script_spec.specs.Rules.{may_follow}
use Rattle.script_spec.specs.Scripts.{Behind}
use Rattle.script_spec.specs.Steps.{Ends, next_in}
use Rattle.script_spec.specs.Texts.{texts_in}
use Rattle.script_laws.specs.SoFar.{BeginsWithLines, SoFar}
use Rattle.script_laws.proofs.SoFar.{all_read, before_all, line_broken, line_kept}
use Rattle.script_lines.specs.declared.line.ScriptLine.{ScriptLine}
use Rattle.script_lines.specs.Readers.{GivesLine, IsFresh, ReaderState, Tells}
use Rattle.script_lines.specs.Shown.{shown}
use Rattle.sflow_tool.specs.AgentWalks.{StopsBehind}
use Rattle.sflow_tool.specs.Trials.{TriedLines, TriedScript, TriedSome}
use Rattle.sflow_tool.proofs.AgentLines.{HasReached, stops_so}

-- these lines were read and taken
pub record Tracked (takes : List Line → Type 0) (source source' : Seen) (reader : ReaderState) : Type 0 where
  pub lines : List Line
  pub given : (input : List ℕ) → source.told ≡ Some input → HasReached lines input reader source'
  pub few : length lines ≤ reader.place.count
  pub were : takes lines

pub nothing_tracked : (takes : List Line → Type 0) (source : Seen) (reader : ReaderState) → IsFresh reader → takes []
    → Tracked takes source source reader
nothing_tracked takes source reader fresh none =
    subst (Tracked takes source source) (sym fresh) (record {
      lines = [];
      given = λ input told. record { bytes = input; left_is = ap (prepend_known []) told; so_far = before_all input };
      few = omega arith;
      were = none;
    })

module _ (takes : List Line → Type 0) (source now : Seen) (reader : ReaderState) (far : Tracked takes source now reader) where
  abbrev behind_now : Behind
  behind_now = record { count = reader.place.count; begun = reader.place.begun; lines = far.lines }

  pub begun_so : (input : List ℕ) → source.told ≡ Some input → BeginsWithLines far.lines input
  begun_so input is =
      let before = far.given input is in
      record { behind = behind_now; more = texts_in before.bytes; so_far = before.so_far; says = refl }

  -- there is no more line
  pub all_tracked : (stands last : List Line → Type 0) → stands far.lines → last far.lines
      → ((bytes : List ℕ) → unread reader.held now ≡ Some bytes
      → next_in reader.place.begun reader.place.count (texts_in bytes) ≡ Ends)
      → TriedScript stands last source
  all_tracked stands last stand were ends = record {
    lines = far.lines;
    all = λ input is.
        let before = far.given input is in
        all_read input behind_now (texts_in before.bytes) before.so_far (ends before.bytes before.left_is);
    stand = stand;
    were = were;
  }

  pub lacks_so : (last : List Line → Type 0) → last far.lines → TriedSome last source
  lacks_so last were = record { lines = far.lines; begins = begun_so; were = were }

  module _ (now' : Seen) (reader' : ReaderState) where
    -- the reader refused to go on
    pub refused_so : (last : List Line → Type 0) → last far.lines → (refusal : ReadRefusal)
        → ((bytes : List ℕ) → unread reader.held now ≡ Some bytes
        → Tells reader.place reader'.place bytes (unread reader'.held now') now'.told (Err refusal))
        → TriedLines last source now' refusal
    refused_so last were refusal tells = record {
      lines = far.lines;
      ends = λ input is.
          let before = far.given input is in
          stops_so far.lines reader reader' now' input before.bytes now'.told refusal before.so_far (tells before.bytes before.left_is);
      were = were;
    }

    module _ (line : ScriptLine) (told : (bytes : List ℕ) → unread reader.held now ≡ Some bytes
        → GivesLine reader.place reader'.place line bytes (unread reader'.held now')) where
      next_is : (input : List ℕ) → (is : source.told ≡ Some input)
          → GivesLine reader.place reader'.place line (far.given input is).bytes (unread reader'.held now')
      next_is input is = told (far.given input is).bytes (far.given input is).left_is

      goes_on : (input : List ℕ) → (is : source.told ≡ Some input) → may_follow far.lines (shown line) ≡ true
          → SoFar input (record { count = reader'.place.count; begun = true; lines = shown line ∷ far.lines })
          (texts_in (next_is input is).rest)
      goes_on input is follows =
          let before = far.given input is in
          let next = next_is input is in
          line_kept input behind_now (texts_in before.bytes) before.so_far (shown line) reader'.place.count
          (texts_in next.rest) next.next follows

      -- a line more was taken
      pub one_tracked : (takes' : List Line → Type 0) → may_follow far.lines (shown line) ≡ true
          → takes' (shown line ∷ far.lines) → reader.place.count < reader'.place.count → Tracked takes' source now' reader'
      one_tracked takes' follows were more = record {
        lines = shown line ∷ far.lines;
        given = λ input is. record {
          bytes = (next_is input is).rest;
          left_is = (next_is input is).left_is;
          so_far = subst
              (λ started. SoFar input (record { count = reader'.place.count; begun = started; lines = shown line ∷ far.lines })
              (texts_in (next_is input is).rest))
              (sym (next_is input is).begun) (goes_on input is follows);
        };
        few = omega (arith, far.few, more);
        were = were;
      }

      -- the line breaks a rule
      pub breaks_so : (last : List Line → Type 0) → last far.lines → (number : ℕ) (refusal : ReadRefusal)
          → number ≡ reader'.place.count → may_follow far.lines (shown line) ≡ false
          → refusal ≡ refusals.BadInput number Script → TriedLines last source now' refusal
      breaks_so last were number refusal is_number follows is = record {
        lines = far.lines;
        ends = λ input told-input.
            let before = far.given input told-input in
            let next = next_is input told-input in
            subst (StopsBehind far.lines input now'.told) (sym (is ∙ ap (λ n. refusals.BadInput n Script) is_number)) (
              line_broken input behind_now (texts_in before.bytes) before.so_far (shown line) reader'.place.count
                  (texts_in next.rest) next.next follows,
              refl,
            );
        were = were;
      }
