-- The visitor of each command does what the command's row says.
use Rattle.std.proofs.Common.{◌≡◌, ℕ, ◌+◌, false, cond, nat_lt, List, [], ◌∷◌, refl, ap, ◌∙◌, append-nil, fold, arith}
use Rattle.std.specs.List.{count_by}
use Rattle.wire_spec.specs.declared.pad.Pad.{Pad}
use Rattle.capture_spec.specs.Items.{Received}
use Rattle.command_words.specs.declared.command.CanonVersion.{CanonVersion}
use Rattle.command_runs.specs.Grammars.{Capture}
use Rattle.command_runs.specs.Lines.{lines_of}
use Rattle.command_runs.specs.Tasks.{Does}
use Rattle.sflow_tool.specs.Canons.{canon_act, canon_task}
use Rattle.sflow_tool.specs.Checks.{check_act, check_task}
use Rattle.sflow_tool.specs.Shows.{show_act, show_task, shown_lines}
use Rattle.sflow_tool.proofs.Canonical.{canon_lines, canon_whole}

-- where no entry is marked there are none to count
none_counted : (n : ℕ) (entries : List Received) → fold (λ m (e : Received). m + cond false 1 0) n entries ≡ n
none_counted n [] = refl
none_counted n (e ∷ entries) = none_counted (n + 0) entries ∙ omega arith

none_found : (c : Capture) → nat_lt 0 (count_by (λ (e : Received). false) c.entries) ≡ false
none_found c = ap (nat_lt 0) (none_counted 0 c.entries)

no_lines : (number : ℕ) (entries : List Received) → lines_of (λ (n : ℕ) (e : Received). []) number entries ≡ []
no_lines number [] = refl
no_lines number (e ∷ entries) = no_lines (number + 1) entries

pub show_does : Does show_task show_act
show_does = record {
  parts = λ v c are. refl;
  whole = λ c are. append-nil (shown_lines c.entries);
  finds = none_found;
  may = λ c found. absurd cc;
  waits = λ late. absurd cc;
}

pub check_does : (p : Pad) → Does (check_task p) (check_act p)
check_does p = record {
  parts = λ v c are. refl;
  whole = λ c are. refl;
  finds = λ c. refl;
  may = λ c found. refl;
  waits = λ late. absurd cc;
}

pub canon_does : (to : CanonVersion) → Does (canon_task to) (canon_act to)
canon_does to = record {
  parts = λ v c are. canon_lines to v c.entries are;
  whole = λ c are. canon_whole to c.version c.entries are;
  finds = none_found;
  may = λ c found. absurd cc;
  waits = λ late. absurd cc;
}
