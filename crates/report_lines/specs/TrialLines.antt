-- The two lines behind the report of a trial: what was true of its sub-agents, and which premises hold. Each ends with a
-- line feed.
use Rattle.std.specs.Prelude.{ℕ, Bool, true, false, List, [], ◌∷◌, codes, decimal}
use Rattle.std.specs.List.{concat}
use Rattle.report_lines.specs.declared.trial_lines.TrialPremises.{TrialPremises}

-- how many datagrams were sent, samples issued, and packets dropped
unfoldable pub agent_text : (datagrams samples drops : ℕ) → List ℕ
agent_text datagrams samples drops = concat (
    codes "agent datagrams " ∷ decimal datagrams ∷
    codes " samples " ∷ decimal samples ∷
    codes " drops " ∷ decimal drops ∷
    codes "\n" ∷ [])

abbrev pub answer_text : Bool → List ℕ
answer_text true = codes "yes"
answer_text false = codes "no"

-- which of the four premises hold
unfoldable pub premises_text : TrialPremises → List ℕ
premises_text p = concat (
    codes "premises visible " ∷ answer_text p.visible ∷
    codes " close " ∷ answer_text p.close ∷
    codes " roomy " ∷ answer_text p.roomy ∷
    codes " apparent " ∷ answer_text p.apparent ∷
    codes "\n" ∷ [])
