-- Each input makes a run over a script end in one way.
use Rattle.std.proofs.Common.{◌≡◌, ℕ, Bool, true, false, if◌then◌else◌, List, reverse, Result, Ok, Err, refl, sym, ap, ◌∙◌}
use Rattle.std.proofs.lemmas.List.{reverse-reverse}
use Rattle.wire_spec.specs.declared.input_kind.InputKind.{InputKind}
use Rattle.wire_spec.specs.declared.input_kind.InputKind.TheVariants.{Script}
use Rattle.script_spec.specs.Lines.{Line}
use Rattle.script_spec.specs.Scripts.{script_reading}
use Rattle.script_laws.specs.SoFar.{BreaksBehind, IsScriptOf}
use Rattle.script_laws.proofs.SoFar.{Outcome, fault, outcome_of, reads_fault, reads_script, script}
use Rattle.command_runs.specs.declared.status.Status.{Status}
use Rattle.command_runs.specs.declared.status.Status.TheVariants.{Done, Found, Usage, ReadFault, WriteFault, BadInput, Memory, LinkFault, Spent}
use Rattle.command_runs.specs.Acts.{Act}
use Rattle.command_runs.specs.Grammars.{scripts}
use Rattle.command_runs.specs.Readings.{Decides, HasOneEnding}

-- how a run ends by what the input reads as
abbrev by_reading : Act (List Line) → Result (List Line) ℕ → Status
by_reading a (Ok lines) = if a.finds (reverse lines) then Found else Done
by_reading a (Err number) = BadInput number Script

-- ---- some ending

all_read : (a : Act (List Line)) (input : List ℕ) (lines : List Line) → IsScriptOf lines input → (found : Bool)
    → a.finds lines ≡ found → (ending : Status) × Decides scripts a input ending
all_read a input lines is true found = (Found, (lines, record { all = is; found_is = found }))
all_read a input lines is false found = (Done, (lines, record { all = is; found_is = found }))

some_ending : (a : Act (List Line)) (input : List ℕ) → Outcome input → (ending : Status) × Decides scripts a input ending
some_ending a input (script lines is) = all_read a input lines is (a.finds lines) refl
some_ending a input (fault lines number breaks) = (BadInput number Script, (lines, (breaks, refl)))

-- ---- and only one

script_status : (a : Act (List Line)) (input : List ℕ) (lines : List Line) (found : Bool) → IsScriptOf lines input
    → a.finds lines ≡ found → (if found then Found else Done) ≡ by_reading a (script_reading input)
script_status a input lines found is finds =
    ap (λ (b : Bool). if b then Found else Done) (sym finds ∙ ap a.finds (sym (reverse-reverse lines)))
    ∙ ap (by_reading a) (sym (reads_script lines input is))

fault_status : (a : Act (List Line)) (input : List ℕ) (lines : List Line) (number : ℕ) (kind : InputKind)
    → BreaksBehind lines input number → kind ≡ Script → BadInput number kind ≡ by_reading a (script_reading input)
fault_status a input lines number kind breaks is =
    ap (BadInput number) is ∙ ap (by_reading a) (sym (reads_fault lines input number breaks))

by_script : (a : Act (List Line)) (input : List ℕ) (status : Status) → Decides scripts a input status
    → status ≡ by_reading a (script_reading input)
by_script a input Done d = script_status a input d.0 false d.1.all d.1.found_is
by_script a input Found d = script_status a input d.0 true d.1.all d.1.found_is
by_script a input Usage d = absurd d.1
by_script a input ReadFault d = absurd d.1
by_script a input WriteFault d = absurd d.1
by_script a input (BadInput at kind) d = fault_status a input d.0 at kind d.1.0 d.1.1
by_script a input Memory d = absurd d.1
by_script a input LinkFault d = absurd d.1
by_script a input Spent d = absurd d.1

pub scripts_once : HasOneEnding scripts
scripts_once = record {
  some = λ a input are. some_ending a input (outcome_of input);
  one = λ a input one other are first second. by_script a input one first ∙ sym (by_script a input other second);
}
