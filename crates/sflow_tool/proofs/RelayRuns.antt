-- Receives of `relay`, and what its runs make of the receivers.
use Rattle.std.proofs.Common.{◌≡◌, ◌≢◌, ◌∙◌, ◌+◌, ◌<◌, ◌^◌, ℕ, Bool, List, [], ◌++◌, length, sym, ap, subst, append-nil, arith}
use Rattle.byte_ends.specs.Seen.{Seen}
use Rattle.capture_spec.specs.Items.{Received}
use Rattle.datagram_links.specs.Links.{LinkSeen, failed, listening, received_one}
use Rattle.datagram_links.specs.Receivers.{ReceiverSeen}
use Rattle.books_spec.specs.declared.limits.Limits.{Limits}
use Rattle.sample_taps.specs.declared.brief.Brief.{Brief}
use Rattle.flow_collector.specs.Collectors.{CollectorState}
use Rattle.relay_out.specs.declared.progress.Progress.{Progress}
use Rattle.relay_out.specs.Routes.{AgentDatagram, Route}
use Rattle.relay_out.specs.Runs.{RunServed}
use Rattle.command_words.specs.declared.collection.Collection.{Collection}
use Rattle.command_runs.specs.declared.status.Status.{Status}
use Rattle.command_runs.specs.declared.status.Status.TheVariants.{Done, LinkFault, Memory}
use Rattle.command_runs.specs.Endings.{Flushed, whole, part}
use Rattle.sflow_tool.specs.Collects.{TookTurns, TurnFailed, received_of}
use Rattle.sflow_tool.specs.Passing.{passed_on}
use Rattle.sflow_tool.specs.Relays.{PassesTurn, Relayed, served}
use Rattle.sflow_tool.specs.Replays.{Collects, items_in}
use Rattle.sflow_tool.proofs.CollectRuns.{all_come, failed_come, turned_so}
use Rattle.sflow_tool.proofs.Items.{stands_so}
use Rattle.sflow_tool.proofs.Passes.{few_passed, passed-append}
use Rattle.sflow_tool.proofs.Turns.{TurnsSoFar, few_so_far, one_more}

-- ---- receives

-- nothing more goes on
pub none_more : {Y : Type 0} (seen : Y → ReceiverSeen) (routes : List Route) (us : List Y) (was : List Progress)
    (before : List AgentDatagram) (xs : List Y) → RunServed seen before routes xs us was
    → RunServed seen (before ++ []) routes xs us was
none_more seen routes us was before xs run =
    subst (λ (ds : List AgentDatagram). RunServed seen ds routes xs us was) (sym (append-nil before)) run

module _ {X Y : Type 0} (step : X → Brief → X → Type 0) (done : X → Bool) (l : Limits) (seen : Y → ReceiverSeen)
    (routes : List Route) (xs : List X) (us : List Y) (all : ℕ) where
  -- a collector took these entries, and the receivers were passed those that are First
  abbrev pub Both : CollectorState → List X → ℕ → List Y → List Progress → List Received → Type 0
  Both now zs left vs progress entries =
      Collects step done l now xs zs all left entries × RunServed seen (passed_on l entries) routes us vs progress

  pub one_relayed : (old new : CollectorState) (ys zs : List X) (left left' : ℕ) (vs ws : List Y) (was is : List Progress)
      (link now now' : LinkSeen) (count : ℕ) → count < 2 ^ 48 → TurnsSoFar (Both old ys left vs was) link now count
      → PassesTurn step done old new ys zs left left' now seen routes vs was ws is → now' ≡ received_one now
      → TurnsSoFar (Both new zs left' ws is) link now' (count + 1)
  one_relayed old new ys zs left left' vs ws was is link now now' count many far turn moved =
      let es : List Received = received_of far.entries in
      let came : List Received = received_of turn.takes.came in
      let goes : passed_on l (es ++ came) ≡ passed_on l es ++ turn.first =
      passed-append l es came
      ∙ ap (λ (ds : List AgentDatagram). passed_on l es ++ ds)
      (turn.takes.goes_on l (items_in es) (stands_so step done l old xs ys all left es far.were.0)) in
      one_more (Both old ys left vs was) (Both new zs left' ws is) link now now' count turn.takes.came turn.takes.are turn.takes.few far (
        turn.takes.takes l xs all es (few_so_far _ link now count many far) far.were.0,
        subst (λ (ds : List AgentDatagram). RunServed seen ds routes us ws is) (sym goes) (turn.serves (passed_on l es) us far.were.1),
      )
      moved

  -- a receive failed, and changed nothing else
  pub relay_failed : (old new : CollectorState) (ys zs : List X) (left left' : ℕ) (vs ws : List Y) (was is : List Progress)
      (link now now' : LinkSeen) (count turns : ℕ) → count < turns → (far : TurnsSoFar (Both old ys left vs was) link now count)
      → now' ≡ failed now → new ≡ old → zs ≡ ys → left' ≡ left → ws ≡ vs → is ≡ was
      → TurnFailed (Both new zs left' ws is) link now' turns
  relay_failed old new ys zs left left' vs ws was is link now now' count turns fewer far moved books taps kept receivers progress = record {
    count = count;
    fewer = fewer;
    entries = far.entries;
    came = far.came;
    were = (
      subst (λ (s : CollectorState). Collects step done l s xs zs all left' (received_of far.entries)) (sym books)
          (subst (λ (vs : List X). Collects step done l old xs vs all left' (received_of far.entries)) (sym taps)
          (subst (λ n. Collects step done l old xs ys all n (received_of far.entries)) (sym kept) far.were.0)),
      subst (λ (bs : List Y). RunServed seen (passed_on l (received_of far.entries)) routes us bs is) (sym receivers)
          (subst (λ (ps : List Progress). RunServed seen (passed_on l (received_of far.entries)) routes us vs ps) (sym progress) far.were.1),
    );
    link_is = moved ∙ ap failed far.link_is;
  }

  -- so few went on that one more can be counted
  pub few_gone : (old : CollectorState) (ys : List X) (left : ℕ) (vs : List Y) (was : List Progress) (link now : LinkSeen)
      (count : ℕ) → count < 2 ^ 48 → (far : TurnsSoFar (Both old ys left vs was) link now count)
      → length (passed_on l (received_of far.entries)) < 2 ^ 48
  few_gone old ys left vs was link now count many far =
      omega (arith, few_passed l (received_of far.entries), few_so_far _ link now count many far)

-- ---- runs

not_memory : (old new : Seen) (text : List ℕ) (result : Status) → Flushed old new text Done result → result ≢ Memory
not_memory old new text result (whole is taken) = λ e. cc
not_memory old new text result (part is taken) = λ e. cc

module _ {Y : Type 0} (seen : Y → ReceiverSeen) (routes : List Route) (us vs : List Y) (was now : List Progress) (l : Limits)
    (asked : Collection) (same : l ≡ asked.limits) (link heard link' : LinkSeen) (at : heard ≡ listening asked.listen link) where
  abbrev Serves : Limits → List Received → Type 0
  Serves m entries = RunServed seen (passed_on m entries) routes us vs now

  -- a receive failed
  pub served_some : TurnFailed (Serves l) heard link' asked.turns → Relayed seen asked routes link link' LinkFault us was vs now
  served_some turned =
      served (λ e. cc) (failed_come (Serves asked.limits) asked link heard link' at
      (subst (λ (m : Limits). TurnFailed (Serves m) heard link' asked.turns) same turned))

  -- all receives went well
  pub served_all : (sink sink' : Seen) (text : List ℕ) (result : Status) → TookTurns (Serves l) heard link' asked.turns
      → Flushed sink sink' text Done result → Relayed seen asked routes link link' result us was vs now
  served_all sink sink' text result took flushed =
      served (not_memory sink sink' text result flushed)
      (all_come (Serves asked.limits) asked link heard link' at result (turned_so asked sink sink' text result flushed)
      (subst (λ (m : Limits). TookTurns (Serves m) heard link' asked.turns) same took))
