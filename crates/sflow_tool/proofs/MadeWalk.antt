-- A walk over the script of a made run that is tried. Every list of lines has the LATEST FIRST.
use Rattle.std.proofs.Common.{◌≡◌, ◌∙◌, ◌<◌, ◌^◌, ℕ, Bool, List, ◌∷◌, ◌++◌, length, reverse, Result, Ok, Err, refl, sym, ap, subst}
use Rattle.std.specs.Prelude.{Option, Some, None, IfSome, IfNone, OnOk}
use Rattle.byte_ends.specs.Seen.{Seen}
use Rattle.books_spec.specs.WholeBooks.{whole_books}
use Rattle.books_spec.specs.declared.limits.Limits.{Limits}
use Rattle.capture_spec.specs.Items.{Received}
use Rattle.datagram_links.specs.Links.{LinkSeen}
use Rattle.sample_taps.specs.declared.brief.Brief.{Brief}
use Rattle.sample_taps.specs.Feeding.{Held}
use Rattle.flow_collector.specs.Collectors.{CollectorState, StandsFor}
use Rattle.account_spec.specs.Deliveries.{Delivers}
use Rattle.report_lines.specs.HeaderLines.{ShownTaps}
use Rattle.report_lines.specs.InterfaceLines.{report_with}
use Rattle.script_spec.specs.Lines.{Line}
use Rattle.script_spec.specs.Sent.{all_delivered}
use Rattle.script_laws.specs.Lawful.{AreLawful}
use Rattle.script_histories.specs.Histories.{deliveries_of, history_of}
use Rattle.trial_spec.specs.Made.{made_deliveries, made_history}
use Rattle.made_runs.specs.Scripts.{Gave, Gives, IsWhole, ScriptState}
use Rattle.command_runs.specs.declared.status.Status.{Status}
use Rattle.command_runs.specs.declared.status.Status.TheVariants.{Done, Memory}
use Rattle.command_runs.specs.Endings.{Flushed, whole, part}
use Rattle.sflow_tool.specs.MadeLines.{BeginsRun, RunEnds, TookRun, TookSome}
use Rattle.sflow_tool.specs.MadeTrials.{BeginsWith, HasMade, Makes, made_received, made_text, received_from, reported}
use Rattle.sflow_tool.specs.Replays.{Collects, briefs_in, items_in}
use Rattle.sflow_tool.specs.Surroundings.{Surroundings, surroundings}
use Rattle.sflow_tool.specs.Trials.{IsOpen, received_in, tail_of}
use Rattle.sflow_tool.specs.declared.trial_run.TrialRun.{TrialRun}
use Rattle.sflow_tool.proofs.Items.{report_so, stands_so}
use Rattle.sflow_tool.proofs.MadeLines.{first_told, received_told}
use Rattle.sflow_tool.proofs.MadeTexts.{received_are, text_is}

-- what a call says of its answer
pub some_at : {X : Type 0} (o : Option X) (x : X) (P : X → Type 0) → o ≡ Some x → IfSome o P → P x
some_at o x P is h = subst (λ (k : Option _). IfSome k P) is h

pub none_at : {X : Type 0} (o : Option X) (P : Type 0) → o ≡ None → IfNone o P → P
none_at o P is h = subst (λ (k : Option _). IfNone k P) is h

pub on_ok : {T E : Type 0} (r : Result T E) (P Q : Type 0) → (P → Q) → OnOk r P → OnOk r Q
on_ok (Ok x) P Q f h = f h
on_ok (Err e) P Q f h = tt

-- these lines were made and taken
pub record Making (takes : List Line → Type 0) (seed packets : ℕ) (script : ScriptState) : Type 0 where
  pub lines : List Line
  pub gave : Gave script lines
  pub seed_is : script.seed ≡ seed
  pub total_is : script.total ≡ packets
  pub were : takes lines

module _ (takes : List Line → Type 0) (seed packets : ℕ) (script : ScriptState) (far : Making takes seed packets script) where
  -- memory is lacking
  pub lacking : (some last : List Line → Type 0) → some far.lines → last far.lines → TookSome some last seed packets
  lacking some last stand were = record {
    lines = far.lines;
    begins = record { state = script; gave = far.gave; seed_is = far.seed_is; total_is = far.total_is };
    stand = stand;
    were = were;
  }

  -- a line more was made and taken
  pub one_more : (takes' : List Line → Type 0) (script' : ScriptState) (line : Line) → Gives script script' far.lines line
      → takes' (line ∷ far.lines) → Making takes' seed packets script'
  one_more takes' script' line gives were = record {
    lines = line ∷ far.lines;
    gave = gives.gave;
    seed_is = gives.seed ∙ far.seed_is;
    total_is = gives.total ∙ far.total_is;
    were = were;
  }

  -- there is none more
  pub whole_so : IsWhole script.seed script.total far.lines → IsWhole seed packets far.lines
  whole_so h =
      subst (λ (n : ℕ). IsWhole seed n far.lines) far.total_is
      (subst (λ (n : ℕ). IsWhole n script.total far.lines) far.seed_is h)

  -- what is kept beside the device is open, or memory is lacking for it
  pub ends_so : {T E : Type 0} (r : Result T E) (all some last : List Line → Type 0) → IsWhole seed packets far.lines
      → OnOk r (all far.lines) → some far.lines → last far.lines → RunEnds all some last seed packets r
  ends_so (Ok x) all some last h stand lawful were = record { lines = far.lines; whole = h; stand = stand; were = were }
  ends_so (Err e) all some last h stand lawful were = lacking some last lawful were

-- what holds of a run holds of the one that is asked for
pub as_asked : (holds : ℕ → ℕ → Type 0) (seed seed' packets packets' : ℕ) → seed ≡ seed' → packets ≡ packets'
    → holds seed packets → holds seed' packets'
as_asked holds seed seed' packets packets' same as_many h =
    subst (λ (n : ℕ). holds seed' n) as_many (subst (λ (n : ℕ). holds n packets) same h)

-- ---- what a walk leaves

module _ {X : Type 0} (step : X → Brief → X → Type 0) (done : X → Bool) (l : Limits) (now : CollectorState)
    (xs ys : List X) (all left : ℕ) (seed packets : ℕ)
    (law : (lines : List Line) → AreLawful lines
    → Delivers (history_of lines) (deliveries_of lines) (reverse (all_delivered lines))) where
  abbrev Takes : List Line → Type 0
  Takes lines = Collects step done l now xs ys all left (received_in lines)

  abbrev Feeds : List Received → Type 0
  Feeds entries = Held step done (briefs_in l entries) xs ys

  -- memory was lacking
  pub some_fed : TookSome AreLawful Takes seed packets → HasMade Feeds seed packets Memory
  some_fed took =
      let b : BeginsRun seed packets took.lines = took.begins in
      record {
        entries = received_in took.lines;
        were = took.were.gathered.held;
        arrived = (
          deliveries_of took.lines,
          subst (λ (n : ℕ). BeginsWith (made_deliveries seed n) (deliveries_of took.lines)) b.total_is
              (subst (λ (n : ℕ). BeginsWith (made_deliveries n b.state.total) (deliveries_of took.lines)) b.seed_is
              (first_told b.state took.lines b.gave)),
          subst (λ (n : ℕ). received_in took.lines ≡ received_from (made_history seed n) (deliveries_of took.lines)) b.total_is
              (subst (λ (n : ℕ). received_in took.lines ≡ received_from (made_history n b.state.total) (deliveries_of took.lines)) b.seed_is
              (received_told b.state took.lines b.gave (law took.lines took.stand))),
        );
      }

  module _ (interfaces : Bool) (taps : ShownTaps) (run : TrialRun) (same : run.limits ≡ l) (sink sink' : Seen) (result : Status)
      (took : TookRun (λ lines. IsOpen run lines × (length lines < 2 ^ 32)) Takes seed packets)
      (flushes : (lines : List Line) → IsOpen run lines → length lines < 2 ^ 32
      → StandsFor now.books run.limits (items_in (received_in lines))
      → Flushed sink sink' (report_with interfaces (whole_books run.limits (items_in (received_in lines))) now.classes taps
      ++ tail_of run.limits lines) Done result) where
    text_so : report_with interfaces (whole_books l (items_in (received_in took.lines))) now.classes taps ++ tail_of l took.lines
        ≡ made_text l interfaces seed packets taps
    text_so =
        ap (λ (t : List ℕ). t ++ tail_of l took.lines)
        (report_so step done l now xs ys all left (received_in took.lines) interfaces taps took.were)
        ∙ text_is l took.lines (made_history seed packets) (made_deliveries seed packets) took.whole.history_is
        took.whole.deliveries_are (law took.lines took.whole.lawful) interfaces taps

    written : Flushed sink sink' (made_text l interfaces seed packets taps) Done result
    written =
        subst (λ (t : List ℕ). Flushed sink sink' t Done result) text_so
        (subst (λ (m : Limits). Flushed sink sink'
        (report_with interfaces (whole_books m (items_in (received_in took.lines))) now.classes taps ++ tail_of m took.lines) Done result)
        same
        (flushes took.lines took.stand.0 took.stand.1
        (subst (λ (m : Limits). StandsFor now.books m (items_in (received_in took.lines))) (sym same)
        (stands_so step done l now xs ys all left (received_in took.lines) took.were))))

    -- all lines were taken
    pub made_so : (source : Seen) (link : LinkSeen) (taps' : ShownTaps) → Makes (made_text l interfaces seed packets)
        (surroundings source sink link taps') (surroundings source sink' link taps) result
    made_so source link taps' = reported refl refl written

    arrived_all : received_in took.lines ≡ made_received seed packets
    arrived_all =
        received_are l took.lines (made_history seed packets) (made_deliveries seed packets) took.whole.history_is
        took.whole.deliveries_are (law took.lines took.whole.lawful)

    fed_by : (text : List ℕ) → Flushed sink sink' text Done result → HasMade Feeds seed packets result
    fed_by text (whole is taken) =
        subst (HasMade Feeds seed packets) (sym is)
        (record { entries = received_in took.lines; were = took.were.gathered.held; arrived = arrived_all })
    fed_by text (part is taken) =
        subst (HasMade Feeds seed packets) (sym is)
        (record { entries = received_in took.lines; were = took.were.gathered.held; arrived = arrived_all })

    -- and all that they deliver went to the consumers
    pub all_fed : HasMade Feeds seed packets result
    all_fed = fed_by _ written

-- ---- under limits that are the same

pub makes_under : (l m : Limits) (interfaces : Bool) (seed packets : ℕ) (before after : Surroundings) (status : Status) → l ≡ m
    → Makes (made_text l interfaces seed packets) before after status → Makes (made_text m interfaces seed packets) before after status
makes_under l m interfaces seed packets before after status same ran =
    subst (λ (n : Limits). Makes (made_text n interfaces seed packets) before after status) same ran

pub fed_under : {X : Type 0} (step : X → Brief → X → Type 0) (done : X → Bool) (l m : Limits) (xs ys : List X)
    (seed packets : ℕ) (status : Status) → l ≡ m
    → HasMade (λ entries. Held step done (briefs_in l entries) xs ys) seed packets status
    → HasMade (λ entries. Held step done (briefs_in m entries) xs ys) seed packets status
fed_under step done l m xs ys seed packets status same fed =
    subst (λ (n : Limits). HasMade (λ entries. Held step done (briefs_in n entries) xs ys) seed packets status) same fed
