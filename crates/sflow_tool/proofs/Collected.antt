-- Where what comes over a link is what agents sent and the premises hold, a report is that of the agents' account.
use Rattle.std.proofs.Common.{◌≡◌, ◌⊎◌, ℕ, Bool, List, [], ◌∷◌, ◌++◌, map, Some, refl, sym, ap, subst, ◌∙◌}
use Rattle.std.specs.Prelude.{take}
use Rattle.wire_spec.specs.Captures.{Entry}
use Rattle.byte_ends.specs.Seen.{Rose, Seen, Takes}
use Rattle.capture_spec.specs.Items.{entry_of}
use Rattle.datagram_links.specs.Links.{LinkSeen, LinkTold, datagrams_in}
use Rattle.books_spec.specs.WholeBooks.{WholeBooks, whole_books}
use Rattle.account_spec.specs.Histories.{SubAgent}
use Rattle.account_spec.specs.Deliveries.{Delivery, item}
use Rattle.account_spec.specs.Accounts.{account}
use Rattle.account_laws.proofs.Weaker.{lesser}
use Rattle.account_laws.proofs.Whole.{books-are}
use Rattle.sample_taps.specs.declared.brief.Brief.{Brief}
use Rattle.sample_taps.specs.declared.class_totals.ClassTotals.{ClassTotals}
use Rattle.sample_taps.specs.Feeding.{Held}
use Rattle.delivered_items.specs.AccountHeaders.{account_briefs, account_classes}
use Rattle.report_lines.specs.HeaderLines.{ShownTaps}
use Rattle.report_lines.specs.InterfaceLines.{report_with}
use Rattle.command_words.specs.declared.collection.Collection.{Collection}
use Rattle.command_words.specs.declared.command.Command.{Command}
use Rattle.command_words.specs.declared.command.Command.TheVariants.{Collect}
use Rattle.command_runs.specs.declared.status.Status.{Status}
use Rattle.command_runs.specs.declared.status.Status.TheVariants.{Done, Memory}
use Rattle.command_runs.specs.Endings.{Flushed, whole, part}
use Rattle.sflow_tool.specs.Collects.{CollectsOver, HasCome, HasTurned, collected_text, lacks_memory, not_listening, not_received, received_of, reported}
use Rattle.sflow_tool.specs.Headlines.{IsCollected}
use Rattle.sflow_tool.specs.Performances.{Performs}
use Rattle.sflow_tool.specs.Relays.{RelaysOver}
use Rattle.relay_out.specs.declared.progress.Progress.{Progress}
use Rattle.relay_out.specs.Lines.{relay_text}
use Rattle.relay_out.specs.Routes.{Route}
use Rattle.sflow_tool.specs.Replays.{briefs_in, classes_in, items_in, report_of}
use Rattle.sflow_tool.specs.Surroundings.{Surroundings}
use Rattle.sflow_tool.proofs.Headline.{delivered, in_their_order}
use Rattle.sflow_tool.proofs.DeliveredClasses.{briefs_as_sent, classes_as_sent}
use Rattle.sflow_tool.proofs.LinkRuns.{turns_done}

pub back_from : (es : List Entry) → map entry_of (received_of es) ≡ es
back_from [] = refl
back_from (e ∷ es) = ap (λ (more : List Entry). e ∷ more) (back_from es)

module _ (asked : Collection) (history : List SubAgent) (deliveries : List Delivery) where
  -- the report that is due
  abbrev pub due : ShownTaps → List ℕ
  due taps = report_with asked.interfaces (account asked.limits history deliveries) (account_classes asked.limits deliveries) taps

  pub report_due : (taps : ShownTaps) (came : List Entry) → IsCollected asked.limits history deliveries came
      → collected_text asked taps came ≡ due taps
  unfolding report_of
  report_due taps came d =
      let items : items_in (received_of came) ≡ map item deliveries =
      in_their_order (received_of came) d.entries (back_from came ∙ d.in_order)
      ∙ delivered history deliveries d.entries d.premises.history_is d.accepted d.delivers in
      let books : whole_books asked.limits (items_in (received_of came)) ≡ account asked.limits history deliveries =
      ap (whole_books asked.limits) items
      ∙ books-are asked.limits history deliveries (lesser asked.limits history deliveries d.premises) in
      ap (λ (b : WholeBooks). report_with asked.interfaces b (classes_in asked.limits (received_of came)) taps) books
      ∙ ap (λ (t : ClassTotals). report_with asked.interfaces (account asked.limits history deliveries) t taps)
      (classes_as_sent asked.limits history deliveries d.entries (received_of came) d.premises d.accepted d.delivers (back_from came ∙ d.in_order))

  flushed_done : (old new : Seen) (text : List ℕ) → Flushed old new text Done Done → Takes old new text
  flushed_done old new text (whole is taken) = taken
  flushed_done old new text (part is taken) = cc

  -- where the report is written, or a text with it
  abbrev text_with : (List ℕ → List ℕ) → ShownTaps → List Entry → List ℕ
  text_with with taps entries = with (collected_text asked taps entries)

  collected : (with : List ℕ → List ℕ) (told : LinkTold) (before after : Surroundings)
      → CollectsOver asked (text_with with) before after Done
      → before.link.told ≡ Some told
      → IsCollected asked.limits history deliveries (datagrams_in 65535 (take asked.turns told.items))
      → Takes before.ends.sink after.ends.sink (with (due after.taps))
  collected with told before after (lacks_memory is kept) tells d = cc
  collected with told before after (not_listening is kept) tells d = cc
  collected with told before after (not_received turns is fewer link kept) tells d = cc
  collected with told before after (reported entries came link kept flush) tells d =
      subst (λ (text : List ℕ). Takes before.ends.sink after.ends.sink text)
      (ap with (ap (collected_text asked after.taps) (came told tells)
      ∙ report_due after.taps (datagrams_in 65535 (take asked.turns told.items)) d))
      (flushed_done before.ends.sink after.ends.sink _ flush)

  -- of a run of `relay`
  pub relay_collected : (routes : List Route) (progress : List Progress) (told : LinkTold) (before after : Surroundings)
      (status : Status) → RelaysOver asked routes progress before after status → status ≡ Done
      → before.link.told ≡ Some told
      → IsCollected asked.limits history deliveries (datagrams_in 65535 (take asked.turns told.items))
      → Takes before.ends.sink after.ends.sink (due after.taps ++ relay_text routes progress)
  relay_collected routes progress told before after status ran done tells d =
      collected (λ text. text ++ relay_text routes progress) told before after
      (subst (λ (s : Status). RelaysOver asked routes progress before after s) done ran) tells d

  -- of the command that the words name
  pub collected_of : (c : Command) (told : LinkTold) (before after : Surroundings) (status : Status)
      → Performs c before after status → Collect asked ≡ c → status ≡ Done → before.link.told ≡ Some told
      → IsCollected asked.limits history deliveries (datagrams_in 65535 (take asked.turns told.items))
      → Takes before.ends.sink after.ends.sink (due after.taps)
  collected_of c told before after status performed same done tells d =
      let ran : Performs (Collect asked) before after status =
      subst (λ (e : Command). Performs e before after status) (sym same) performed in
      collected (λ text. text) told before after
      (subst (λ (s : Status). CollectsOver asked (collected_text asked) before after s) done ran) tells d

  -- what the consumers are fed
  pub collected_briefs : {X : Type 0} (step : X → Brief → X → Type 0) (done : X → Bool) (told : LinkTold) (link link' : LinkSeen)
      (status : Status) (briefs : List Brief) (xs ys : List X)
      → HasCome (λ entries. briefs ≡ briefs_in asked.limits entries) asked link link' status → Held step done briefs xs ys
      → status ≡ Done → link.told ≡ Some told
      → IsCollected asked.limits history deliveries (datagrams_in 65535 (take asked.turns told.items))
      → Held step done (account_briefs asked.limits deliveries) xs ys
  collected_briefs step done told link link' status briefs xs ys come held ended tells d =
      let came : List Entry = datagrams_in 65535 (take asked.turns told.items) in
      let all : come.turns ≡ asked.turns = subst (HasTurned asked come.turns) ended come.turned in
      subst (λ (bs : List Brief). Held step done bs xs ys)
      (come.were
      ∙ ap (λ (es : List Entry). briefs_in asked.limits (received_of es))
      (come.came told tells ∙ ap (λ (turns : ℕ). datagrams_in 65535 (take turns told.items)) all)
      ∙ briefs_as_sent asked.limits history deliveries d.entries (received_of came) d.premises d.accepted d.delivers (back_from came ∙ d.in_order))
      held

-- where no call of the sink or the link failed, all turns were taken
pub turned_of : (asked : Collection) (c : Command) (before after : Surroundings) (status : Status)
    → Performs c before after status → Collect asked ≡ c
    → ¬ Rose before.ends.sink.faults after.ends.sink.faults → ¬ Rose before.link.faults after.link.faults
    → (status ≡ Done) ⊎ (status ≡ Memory)
turned_of asked c before after status performed same no_write no_link =
    turns_done asked (collected_text asked) before after status
    (subst (λ (e : Command). Performs e before after status) (sym same) performed) no_write no_link
