-- Where the premises hold of what a script delivers, the report of a trial is that of the account. Every list of lines and
-- deliveries has the LATEST FIRST.
use Rattle.std.proofs.Common.{◌≡◌, ◌∙◌, ◌++◌, ℕ, Bool, true, List, [], map, reverse, Some, Ok, sym, ap, subst}
use Rattle.std.proofs.lemmas.List.{reverse-reverse}
use Rattle.wire_spec.specs.Bytes.{AreBytes}
use Rattle.byte_ends.specs.Seen.{Seen, Takes}
use Rattle.books_spec.specs.Books.{totals}
use Rattle.books_spec.specs.declared.totals.Totals.{Totals}
use Rattle.books_spec.specs.declared.limits.Limits.{Limits}
use Rattle.account_spec.specs.Histories.{IsHistory}
use Rattle.account_spec.specs.Deliveries.{Delivers, item}
use Rattle.account_spec.specs.Premises.{Premises}
use Rattle.delivered_items.specs.Accepted.{AreAccepted}
use Rattle.delivered_items.specs.AccountHeaders.{account_briefs}
use Rattle.trial_spec.specs.PremiseTests.{apparent, close, roomy, visible}
use Rattle.sample_taps.specs.declared.brief.Brief.{Brief}
use Rattle.sample_taps.specs.Feeding.{Held}
use Rattle.report_lines.specs.HeaderLines.{ShownTaps}
use Rattle.report_lines.specs.declared.trial_lines.TrialPremises.{TrialPremises}
use Rattle.script_spec.specs.Lines.{Line}
use Rattle.script_spec.specs.Scripts.{script_reading}
use Rattle.script_spec.specs.Sent.{all_delivered}
use Rattle.script_laws.specs.Lawful.{AreLawful, ScriptsAreLawful}
use Rattle.script_laws.specs.SoFar.{IsScriptOf}
use Rattle.script_histories.specs.Histories.{deliveries_of, history_of}
use Rattle.command_words.specs.declared.collection.Collection.{Collection}
use Rattle.command_words.specs.declared.command.Command.{Command}
use Rattle.command_words.specs.declared.command.Command.TheVariants.{Trial}
use Rattle.command_runs.specs.declared.status.Status.{Status}
use Rattle.command_runs.specs.declared.status.Status.TheVariants.{Done}
use Rattle.sflow_tool.specs.Performances.{Performs}
use Rattle.sflow_tool.specs.Replays.{briefs_in, items_in}
use Rattle.sflow_tool.specs.Surroundings.{Surroundings}
use Rattle.sflow_tool.specs.Trials.{HasTriedLines, WereTried, all_hold, premises_of, received_in, tail_of, trial_text}
use Rattle.sflow_tool.proofs.Collected.{back_from, due, report_due}
use Rattle.sflow_tool.proofs.DeliveredClasses.{briefs_as_sent}
use Rattle.sflow_tool.proofs.Headline.{delivered, in_their_order}

-- an input is a script of one list of lines
pub same_lines : (a b : List Line) (input : List ℕ) → script_reading input ≡ Ok (reverse a)
    → script_reading input ≡ Ok (reverse b) → a ≡ b
same_lines a b input one other =
    let same : reverse a ≡ reverse b = cc in
    sym (reverse-reverse a) ∙ ap reverse same ∙ reverse-reverse b

pub script_lawful : ScriptsAreLawful → (lines : List Line) (input : List ℕ) → IsScriptOf lines input → AreLawful lines
script_lawful law lines input script = subst AreLawful (reverse-reverse lines) (law input (reverse lines) script)

in_order : (lines : List Line) → all_delivered lines ≡ reverse (reverse (all_delivered lines))
in_order lines = sym (reverse-reverse (all_delivered lines))

-- ---- the tests of the premises

-- what is read of the entries that arrive are the datagrams that were delivered
items_delivered : (lines : List Line) → IsHistory (history_of lines) → AreAccepted (history_of lines)
    → Delivers (history_of lines) (deliveries_of lines) (reverse (all_delivered lines))
    → items_in (received_in lines) ≡ map item (deliveries_of lines)
items_delivered lines history accepted delivers =
    in_their_order (received_in lines) (reverse (all_delivered lines)) (back_from (all_delivered lines) ∙ in_order lines)
    ∙ delivered (history_of lines) (deliveries_of lines) (reverse (all_delivered lines)) history accepted delivers

-- and so are their totals
pub totals_delivered : (l : Limits) (lines : List Line) → IsHistory (history_of lines) → AreAccepted (history_of lines)
    → Delivers (history_of lines) (deliveries_of lines) (reverse (all_delivered lines)) → (t : Totals)
    → t ≡ totals l (items_in (received_in lines)) → totals l (map item (deliveries_of lines)) ≡ t
totals_delivered l lines history accepted delivers t counted =
    sym (counted ∙ ap (totals l) (items_delivered lines history accepted delivers))

-- each test has its answer
pub all_tested : (l : Limits) (lines : List Line) (p : TrialPremises)
    → p.visible ≡ visible l (history_of lines) (deliveries_of lines) → p.close ≡ close l (history_of lines) (deliveries_of lines)
    → p.roomy ≡ roomy l (deliveries_of lines) → p.apparent ≡ apparent l (history_of lines) (deliveries_of lines)
    → p ≡ premises_of l lines
all_tested l lines p v c r a = λ j. record { visible = v j; close = c j; roomy = r j; apparent = a j }

-- ---- where they hold

module _ (l : Limits) (lines : List Line) (history : IsHistory (history_of lines))
    (delivers : Delivers (history_of lines) (deliveries_of lines) (reverse (all_delivered lines)))
    (accepted : AreAccepted (history_of lines))
    (tests : visible l (history_of lines) (deliveries_of lines) ≡ true → close l (history_of lines) (deliveries_of lines) ≡ true
    → roomy l (deliveries_of lines) ≡ true → apparent l (history_of lines) (deliveries_of lines) ≡ true
    → Premises l (history_of lines) (deliveries_of lines)) (hold : premises_of l lines ≡ all_hold) where
  premises : Premises l (history_of lines) (deliveries_of lines)
  premises =
      tests (ap (λ (p : TrialPremises). p.visible) hold) (ap (λ (p : TrialPremises). p.close) hold)
      (ap (λ (p : TrialPremises). p.roomy) hold) (ap (λ (p : TrialPremises). p.apparent) hold)

  abbrev asked : Bool → Collection
  asked interfaces = record { turns = 0; listen = []; limits = l; interfaces = interfaces }

  text_is : (interfaces : Bool) (taps : ShownTaps) → trial_text l interfaces taps lines
      ≡ due (asked interfaces) (history_of lines) (deliveries_of lines) taps ++ tail_of l lines
  text_is interfaces taps =
      ap (λ (t : List ℕ). t ++ tail_of l lines)
      (report_due (asked interfaces) (history_of lines) (deliveries_of lines) taps (all_delivered lines)
      (record {
        accepted = accepted;
        premises = premises;
        entries = reverse (all_delivered lines);
        delivers = delivers;
        in_order = in_order lines;
      }))

  module _ (input : List ℕ) (read : (a : List Line) → IsScriptOf a input → script_reading input ≡ Ok (reverse a))
      (script : IsScriptOf lines input) where
    -- what was written
    pub account_written : (c : Command) (interfaces : Bool) (before after : Surroundings) (status : Status)
        → Performs c before after status → Trial l interfaces ≡ c → status ≡ Done → AreBytes input
        → before.ends.source.told ≡ Some input
        → Takes before.ends.sink after.ends.sink
        (due (asked interfaces) (history_of lines) (deliveries_of lines) after.taps ++ tail_of l lines)
    account_written c interfaces before after status performed same done are told =
        let ran : Performs (Trial l interfaces) before after Done =
        subst (λ (s : Status). Performs (Trial l interfaces) before after s) done
        (subst (λ (e : Command). Performs e before after status) (sym same) performed) in
        let wrote = ran.ran.ends input are told in
        let the_lines : wrote.read ≡ lines = same_lines wrote.read lines input (read wrote.read wrote.reads.all) (read lines script) in
        subst (Takes before.ends.sink after.ends.sink)
        (ap (trial_text l interfaces after.taps) the_lines ∙ text_is interfaces after.taps) wrote.taken

    -- what the consumers were fed
    pub account_fed : {X : Type 0} (step : X → Brief → X → Type 0) (done : X → Bool) (source source' : Seen) (status : Status)
        (briefs : List Brief) (xs ys : List X)
        → HasTriedLines (λ ls. briefs ≡ briefs_in l (received_in ls)) source source' status → Held step done briefs xs ys
        → status ≡ Done → source.told ≡ Some input → Held step done (account_briefs l (deliveries_of lines)) xs ys
    account_fed step done source source' status briefs xs ys tried held ended told =
        let whole : IsScriptOf tried.lines input =
        subst (WereTried tried.lines input source'.told) ended (tried.tried input told) in
        let the_lines : tried.lines ≡ lines = same_lines tried.lines lines input (read tried.lines whole) (read lines script) in
        subst (λ (bs : List Brief). Held step done bs xs ys)
        (tried.were
        ∙ ap (λ (ls : List Line). briefs_in l (received_in ls)) the_lines
        ∙ briefs_as_sent l (history_of lines) (deliveries_of lines) (reverse (all_delivered lines)) (received_in lines) premises
        accepted delivers (back_from (all_delivered lines) ∙ in_order lines))
        held
