use Rattle.std.proofs.Common.{◌≡◌, ◌≤◌, ℕ, List, map, string_bytes, Option, None, Some, refl, sym, ap, subst, ◌∙◌}
use Rattle.command_words.specs.Commands.{HasLawfulLength, command_for, receivers_needed}
use Rattle.command_words.specs.Rules.{Text}
use Rattle.command_words.specs.declared.command.Command.{Command}
use Rattle.command_words.specs.declared.command.Command.TheVariants.{Collect, Relay, Replay, Trial, TrialMade}
use Rattle.sflow_tool.proofs.Collected.{collected_briefs, collected_of, relay_collected, turned_of}
use Rattle.sflow_tool.proofs.LinkRuns.{collect_lacks, turns_done}
use Rattle.byte_ends.specs.Seen.{Takes}
use Rattle.trial_spec.specs.Made.{made_deliveries, made_history}
use Rattle.sflow_tool.proofs.MadeAccount.{account_briefs_are, account_text}
use Rattle.sflow_tool.proofs.MadeRuns.{made_done, made_held}
use Rattle.sflow_tool.proofs.PassedInTime.{relayed_in_time}
use Rattle.sflow_tool.proofs.TriedAccount.{account_fed, account_written, script_lawful}
use Rattle.sflow_tool.specs.Relays as relays
use Rattle.sflow_tool.proofs.DeliveredClasses.{delivered_briefs, delivered_headline}
use Rattle.sflow_tool.specs.Performances.{EndsBy, Performs}
use Rattle.sflow_tool.proofs.Performed.{completes, fed_as, lacks_memory, no_usage, of_this, unfed_memory}
use Rattle.sflow_tool.proofs.top.run.Goals as goal

same_command : (c d : Command) → Some c ≡ Some d → c ≡ d
same_command c d e = cc

no_command : (c : Command) (o : Option Command) → o ≡ Some c → o ≡ None → ⊥
no_command c o some none = cc

-- as many receivers as were counted
counted : (n m : ℕ) (words : List Text) (c : Command) → n ≡ m → command_for n words ≡ Some c → command_for m words ≡ Some c
counted n m words c same is = subst (λ k. command_for k words ≡ Some c) same is

pub perform-requires-clause-lawful : goal.perform-requires-clause-lawful
perform-requires-clause-lawful g c = c.in-Ok.ensures.lawful

pub perform-requires-clause-length : goal.perform-requires-clause-length
perform-requires-clause-length g c = c.in-Ok.ensures.length

pub returns-in-Ok-clause-usage : goal.returns-in-Ok-clause-usage
returns-in-Ok-clause-usage g c = (
  λ is. absurd (no_usage c.in-Ok.command _ _ (subst (Performs c.in-Ok.command _ _) is c.perform.ensures.runs)),
  λ none. absurd (no_command c.in-Ok.command _ (counted _ _ (map string_bytes c.args.words.now) c.in-Ok.command c.len.ensures c.in-Ok.ensures.command) none),
)

pub returns-in-Ok-clause-untouched : goal.returns-in-Ok-clause-untouched
returns-in-Ok-clause-untouched g c = λ is.
    absurd (no_usage c.in-Ok.command _ _ (subst (Performs c.in-Ok.command _ _) is c.perform.ensures.runs))

pub returns-in-Ok-clause-runs : goal.returns-in-Ok-clause-runs
returns-in-Ok-clause-runs g c = λ command words.
    of_this c.in-Ok.command command _ _ _
    (same_command command c.in-Ok.command (sym words ∙ (counted _ _ (map string_bytes c.args.words.now) c.in-Ok.command c.len.ensures c.in-Ok.ensures.command))) c.perform.ensures.runs

pub returns-in-Err-Memory-clause-runs : goal.returns-in-Err-Memory-clause-runs
returns-in-Err-Memory-clause-runs g c = λ command words. lacks_memory command _

pub returns-in-Ok-clause-complete : goal.returns-in-Ok-clause-complete
returns-in-Ok-clause-complete g c = λ command input ending words are told ends no_read no_write no_link.
    let same : command ≡ c.in-Ok.command = same_command command c.in-Ok.command (sym words ∙ (counted _ _ (map string_bytes c.args.words.now) c.in-Ok.command c.len.ensures c.in-Ok.ensures.command)) in
    completes c.in-Ok.command input _ _ _ _ c.perform.ensures.runs are told
    (subst (λ (d : Command). EndsBy d input ending) same ends) no_read no_write no_link

pub returns-in-Ok-clause-headline : goal.returns-in-Ok-clause-headline
returns-in-Ok-clause-headline g c = λ limits interfaces history deliveries input words are told delivered done.
    let same : Replay limits interfaces ≡ c.in-Ok.command =
    same_command (Replay limits interfaces) c.in-Ok.command (sym words ∙ (counted _ _ (map string_bytes c.args.words.now) c.in-Ok.command c.len.ensures c.in-Ok.ensures.command)) in
    delivered_headline c.in-Ok.command limits interfaces history deliveries input _ _ _ c.perform.ensures.runs same done are told delivered

pub returns-in-Ok-clause-headline_briefs : goal.returns-in-Ok-clause-headline_briefs
returns-in-Ok-clause-headline_briefs g c = λ limits interfaces history deliveries input words are told delivered done.
    let same : Replay limits interfaces ≡ c.in-Ok.command =
    same_command (Replay limits interfaces) c.in-Ok.command (sym words ∙ (counted _ _ (map string_bytes c.args.words.now) c.in-Ok.command c.len.ensures c.in-Ok.ensures.command)) in
    let fed = fed_as _ _ _ _ _ _ _ c.in-Ok.command (Replay limits interfaces) same c.perform.ensures.fed in
    delivered_briefs _ _ limits history deliveries input _ _ _ fed.briefs _ _ fed.feeds fed.held done are told delivered

pub returns-in-Ok-clause-fed : goal.returns-in-Ok-clause-fed
returns-in-Ok-clause-fed g c = λ command words.
    fed_as _ _ _ _ _ _ _ c.in-Ok.command command
    (same_command command c.in-Ok.command (sym words ∙ (counted _ _ (map string_bytes c.args.words.now) c.in-Ok.command c.len.ensures c.in-Ok.ensures.command))) c.perform.ensures.fed

pub returns-in-Err-Memory-clause-fed : goal.returns-in-Err-Memory-clause-fed
returns-in-Err-Memory-clause-fed g c = λ command words. unfed_memory _ _ _ _ command

pub returns-in-Ok-clause-collected : goal.returns-in-Ok-clause-collected
returns-in-Ok-clause-collected g c = λ asked history deliveries told words tells d done.
    collected_of asked history deliveries c.in-Ok.command told _ _ _ c.perform.ensures.runs
    (same_command (Collect asked) c.in-Ok.command (sym words ∙ (counted _ _ (map string_bytes c.args.words.now) c.in-Ok.command c.len.ensures c.in-Ok.ensures.command))) done tells d

pub returns-in-Ok-clause-collected_briefs : goal.returns-in-Ok-clause-collected_briefs
returns-in-Ok-clause-collected_briefs g c = λ asked history deliveries told words tells d done.
    let same : Collect asked ≡ c.in-Ok.command = same_command (Collect asked) c.in-Ok.command (sym words ∙ (counted _ _ (map string_bytes c.args.words.now) c.in-Ok.command c.len.ensures c.in-Ok.ensures.command)) in
    let fed = fed_as _ _ _ _ _ _ _ c.in-Ok.command (Collect asked) same c.perform.ensures.fed in
    collected_briefs asked history deliveries _ _ told _ _ _ fed.briefs _ _ fed.feeds fed.held done tells d

pub returns-in-Ok-clause-all_turns : goal.returns-in-Ok-clause-all_turns
returns-in-Ok-clause-all_turns g c = λ asked words no_write no_link.
    turned_of asked c.in-Ok.command _ _ _ c.perform.ensures.runs
    (same_command (Collect asked) c.in-Ok.command (sym words ∙ (counted _ _ (map string_bytes c.args.words.now) c.in-Ok.command c.len.ensures c.in-Ok.ensures.command))) no_write no_link

pub perform-requires-clause-enough : goal.perform-requires-clause-enough
perform-requires-clause-enough g c =
    subst (λ n. receivers_needed c.in-Ok.command ≤ n) c.len.ensures c.in-Ok.ensures.enough

pub returns-in-Ok-clause-relay_lines : goal.returns-in-Ok-clause-relay_lines
returns-in-Ok-clause-relay_lines g c = λ asked routes words.
    c.perform.ensures.relay_lines asked routes (same_command c.in-Ok.command (Relay asked routes) (sym (counted _ _ (map string_bytes c.args.words.now) c.in-Ok.command c.len.ensures c.in-Ok.ensures.command) ∙ words))

pub returns-in-Err-Memory-clause-relay_lines : goal.returns-in-Err-Memory-clause-relay_lines
returns-in-Err-Memory-clause-relay_lines g c = λ asked routes words. collect_lacks _ _ _

pub returns-in-Ok-clause-relayed : goal.returns-in-Ok-clause-relayed
returns-in-Ok-clause-relayed g c = λ asked routes words.
    c.perform.ensures.relayed asked routes (same_command c.in-Ok.command (Relay asked routes) (sym (counted _ _ (map string_bytes c.args.words.now) c.in-Ok.command c.len.ensures c.in-Ok.ensures.command) ∙ words))

pub returns-in-Err-Memory-clause-relayed : goal.returns-in-Err-Memory-clause-relayed
returns-in-Err-Memory-clause-relayed g c = λ asked routes words. relays.lacks_memory refl refl refl

pub returns-in-Ok-clause-unrelayed : goal.returns-in-Ok-clause-unrelayed
returns-in-Ok-clause-unrelayed g c = λ command words unlike.
    c.perform.ensures.unrelayed
    (ap relays.relays (same_command c.in-Ok.command command (sym (counted _ _ (map string_bytes c.args.words.now) c.in-Ok.command c.len.ensures c.in-Ok.ensures.command) ∙ words)) ∙ unlike)

pub returns-in-Ok-clause-relay_collected : goal.returns-in-Ok-clause-relay_collected
returns-in-Ok-clause-relay_collected g c = λ asked routes history deliveries told words tells d done.
    relay_collected asked history deliveries routes _ told _ _ _
    (c.perform.ensures.relay_lines asked routes (same_command c.in-Ok.command (Relay asked routes) (sym (counted _ _ (map string_bytes c.args.words.now) c.in-Ok.command c.len.ensures c.in-Ok.ensures.command) ∙ words)))
    done tells d

pub returns-in-Ok-clause-relay_briefs : goal.returns-in-Ok-clause-relay_briefs
returns-in-Ok-clause-relay_briefs g c = λ asked routes history deliveries told words tells d done.
    let same : Relay asked routes ≡ c.in-Ok.command = same_command (Relay asked routes) c.in-Ok.command (sym words ∙ (counted _ _ (map string_bytes c.args.words.now) c.in-Ok.command c.len.ensures c.in-Ok.ensures.command)) in
    let fed = fed_as _ _ _ _ _ _ _ c.in-Ok.command (Relay asked routes) same c.perform.ensures.fed in
    collected_briefs asked history deliveries _ _ told _ _ _ fed.briefs _ _ fed.feeds fed.held done tells d

pub returns-in-Ok-clause-relay_turns : goal.returns-in-Ok-clause-relay_turns
returns-in-Ok-clause-relay_turns g c = λ asked routes words no_write no_link.
    turns_done asked _ _ _ _
    (c.perform.ensures.relay_lines asked routes (same_command c.in-Ok.command (Relay asked routes) (sym (counted _ _ (map string_bytes c.args.words.now) c.in-Ok.command c.len.ensures c.in-Ok.ensures.command) ∙ words)))
    no_write no_link

pub returns-in-Ok-clause-relay_delivered : goal.returns-in-Ok-clause-relay_delivered
returns-in-Ok-clause-relay_delivered g c = λ asked routes history deliveries told words tells d done.
    let same : c.in-Ok.command ≡ Relay asked routes = same_command c.in-Ok.command (Relay asked routes) (sym (counted _ _ (map string_bytes c.args.words.now) c.in-Ok.command c.len.ensures c.in-Ok.ensures.command) ∙ words) in
    relayed_in_time _ asked routes history deliveries told _ _ _ _ _ _ _ (c.perform.ensures.relayed asked routes same) done
    (c.perform.ensures.turns asked routes same) tells d

pub returns-in-Ok-clause-trial_account : goal.returns-in-Ok-clause-trial_account
returns-in-Ok-clause-trial_account g c = λ limits interfaces lines input words are told script hold done.
    let lawful = script_lawful c.scripts_are_lawful.ensures lines input script in
    account_written limits lines (c.scripts_are_histories.ensures.history lines lawful)
    (c.scripts_are_histories.ensures.entries lines lawful) (c.scripts_are_accepted.ensures lines lawful)
    (c.four_tests_are_the_premises.ensures limits _ _ (c.scripts_are_histories.ensures.history lines lawful)
    (c.scripts_are_histories.ensures.sent lines lawful)) hold input
    (λ a is. c.scripts_are_read.ensures.script a input is) script c.in-Ok.command interfaces _ _ _ c.perform.ensures.runs
    (same_command (Trial limits interfaces) c.in-Ok.command (sym words ∙ (counted _ _ (map string_bytes c.args.words.now) c.in-Ok.command c.len.ensures c.in-Ok.ensures.command)))
    done are told

pub returns-in-Ok-clause-trial_briefs : goal.returns-in-Ok-clause-trial_briefs
returns-in-Ok-clause-trial_briefs g c = λ limits interfaces lines input words told script hold done.
    let lawful = script_lawful c.scripts_are_lawful.ensures lines input script in
    let same : Trial limits interfaces ≡ c.in-Ok.command =
    same_command (Trial limits interfaces) c.in-Ok.command (sym words ∙ (counted _ _ (map string_bytes c.args.words.now) c.in-Ok.command c.len.ensures c.in-Ok.ensures.command)) in
    let fed = fed_as _ _ _ _ _ _ _ c.in-Ok.command (Trial limits interfaces) same c.perform.ensures.fed in
    account_fed limits lines (c.scripts_are_histories.ensures.history lines lawful)
    (c.scripts_are_histories.ensures.entries lines lawful) (c.scripts_are_accepted.ensures lines lawful)
    (c.four_tests_are_the_premises.ensures limits _ _ (c.scripts_are_histories.ensures.history lines lawful)
    (c.scripts_are_histories.ensures.sent lines lawful)) hold input
    (λ a is. c.scripts_are_read.ensures.script a input is) script _ _ _ _ _ fed.briefs _ _ fed.feeds fed.held done told

pub returns-in-Ok-clause-made_account : goal.returns-in-Ok-clause-made_account
returns-in-Ok-clause-made_account g c = λ limits interfaces seed packets words hold done.
    let same : TrialMade limits interfaces seed packets ≡ c.in-Ok.command =
    same_command (TrialMade limits interfaces seed packets) c.in-Ok.command (sym words ∙ (counted _ _ (map string_bytes c.args.words.now) c.in-Ok.command c.len.ensures c.in-Ok.ensures.command)) in
    subst (Takes _ _)
    (account_text limits (made_history seed packets) (made_deliveries seed packets)
    (c.made_runs_are_histories.ensures.history seed packets) (c.made_runs_are_histories.ensures.sent seed packets)
    (c.made_runs_are_accepted.ensures seed packets (subst HasLawfulLength (sym same) c.in-Ok.ensures.length).1)
    (c.four_tests_are_the_premises.ensures limits (made_history seed packets) (made_deliveries seed packets)) hold interfaces _)
    (made_done _ _ _ _ (of_this c.in-Ok.command (TrialMade limits interfaces seed packets) _ _ _ same c.perform.ensures.runs) done)

pub returns-in-Ok-clause-made_briefs : goal.returns-in-Ok-clause-made_briefs
returns-in-Ok-clause-made_briefs g c = λ limits interfaces seed packets words hold done.
    let same : TrialMade limits interfaces seed packets ≡ c.in-Ok.command =
    same_command (TrialMade limits interfaces seed packets) c.in-Ok.command (sym words ∙ (counted _ _ (map string_bytes c.args.words.now) c.in-Ok.command c.len.ensures c.in-Ok.ensures.command)) in
    let fed = fed_as _ _ _ _ _ _ _ c.in-Ok.command (TrialMade limits interfaces seed packets) same c.perform.ensures.fed in
    made_held _ _ limits fed.briefs _ seed packets _ _ _ fed.feeds done
    (account_briefs_are limits (made_history seed packets) (made_deliveries seed packets)
    (c.made_runs_are_histories.ensures.history seed packets) (c.made_runs_are_histories.ensures.sent seed packets)
    (c.made_runs_are_accepted.ensures seed packets (subst HasLawfulLength (sym same) c.in-Ok.ensures.length).1)
    (c.four_tests_are_the_premises.ensures limits (made_history seed packets) (made_deliveries seed packets)) hold)
    fed.held
