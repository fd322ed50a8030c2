-- Runs of `collect`, and what they feed the consumers.
use Rattle.std.proofs.Common.{◌≡◌, ℕ, Bool, List, [], ◌++◌, drop, Option, Some, None, refl, sym, ap, subst, ◌∙◌, arith}
use Rattle.std.specs.Option.{option_map}
use Rattle.wire_spec.specs.Captures.{Entry}
use Rattle.byte_ends.specs.Seen.{Seen}
use Rattle.datagram_links.specs.Links.{LinkSeen, LinkTold, failed, listening}
use Rattle.capture_spec.specs.Items.{Received}
use Rattle.books_spec.specs.Items.{Item}
use Rattle.books_spec.specs.WholeBooks.{whole_books}
use Rattle.books_spec.specs.declared.limits.Limits.{Limits}
use Rattle.sample_taps.specs.declared.brief.Brief.{Brief}
use Rattle.sample_taps.specs.Feeding.{Held}
use Rattle.flow_collector.specs.Collectors.{CollectorState, StandsFor}
use Rattle.report_lines.specs.HeaderLines.{ShownTaps}
use Rattle.report_lines.specs.InterfaceLines.{report_with}
use Rattle.command_words.specs.declared.collection.Collection.{Collection}
use Rattle.command_runs.specs.declared.status.Status.{Status}
use Rattle.command_runs.specs.declared.status.Status.TheVariants.{Done, LinkFault, Memory}
use Rattle.command_runs.specs.Endings.{Flushed, whole, part}
use Rattle.sflow_tool.specs.Replays.{Collects, briefs_in, items_in, report_of}
use Rattle.sflow_tool.specs.Collects.{Came, CollectsOver, HasCome, HasTurned, TookTurns, collected_text, TurnFailed, received_of, received_some, not_listening, not_received, reported}
use Rattle.sflow_tool.specs.Surroundings.{surroundings}
use Rattle.sflow_tool.proofs.Items.{report_so, stands_so}

-- the place at which a link listens says nothing of what comes
listened : (place : List ℕ) (link now : LinkSeen) (turns : ℕ) (entries : List Entry) → now ≡ listening place link
    → Came now turns entries → Came link turns entries
listened place link now turns entries at came = λ told is.
    came (record told { listens = Some place })
    (ap (λ (l : LinkSeen). l.told) at ∙ ap (option_map (λ (t : LinkTold). record t { listens = Some place })) is)

-- the items that are left
abbrev items_of : Option LinkTold → Option (List (Option Entry))
items_of told = option_map (λ (t : LinkTold). t.items) told

all_left : (told : Option LinkTold) → items_of told ≡ option_map (λ (t : LinkTold). drop 0 t.items) told
all_left None = refl
all_left (Some told) = refl

some_left : (place : List ℕ) (turns : ℕ) (told : Option LinkTold)
    → items_of (option_map (λ (t : LinkTold). record t { items = drop turns t.items })
    (option_map (λ (t : LinkTold). record t { listens = Some place }) told))
    ≡ option_map (λ (t : LinkTold). drop turns t.items) told
some_left place turns None = refl
some_left place turns (Some told) = refl

-- nothing came before memory was found to be lacking
pub none_at_memory : (takes : List Received → Type 0) (asked : Collection) (link : LinkSeen) → takes []
    → HasCome takes asked link link Memory
none_at_memory takes asked link none = record {
  turns = 0;
  entries = [];
  came = λ told is. refl;
  were = none;
  turned = refl;
  left = all_left link.told;
}

-- nor where the link doesn't listen
pub none_at_listen : (takes : List Received → Type 0) (asked : Collection) (link link' : LinkSeen) → takes []
    → link' ≡ failed link → HasCome takes asked link link' LinkFault
none_at_listen takes asked link link' none is = record {
  turns = 0;
  entries = [];
  came = λ told is. refl;
  were = none;
  turned = omega arith;
  left = ap (λ (l : LinkSeen). items_of l.told) is ∙ all_left link.told;
}

-- where a receive failed, and where all went well, what was taken is what came before the run ended
module _ (takes : List Received → Type 0) (asked : Collection) (link heard link' : LinkSeen)
    (at : heard ≡ listening asked.listen link) where
  pub failed_come : TurnFailed takes heard link' asked.turns → HasCome takes asked link link' LinkFault
  failed_come turned = record {
    turns = turned.count;
    entries = turned.entries;
    came = listened asked.listen link heard turned.count turned.entries at turned.came;
    were = turned.were;
    turned = omega (arith, turned.fewer);
    left = ap (λ (h : LinkSeen). items_of h.told) (turned.link_is ∙ ap (λ (h : LinkSeen). failed (received_some turned.count h)) at)
        ∙ some_left asked.listen turned.count link.told;
  }

  pub all_come : (result : Status) → HasTurned asked asked.turns result → TookTurns takes heard link' asked.turns
      → HasCome takes asked link link' result
  all_come result turned took = record {
    turns = asked.turns;
    entries = took.entries;
    came = listened asked.listen link heard asked.turns took.entries at took.came;
    were = took.were;
    turned = turned;
    left = ap (λ (h : LinkSeen). items_of h.told) (took.link_is ∙ ap (received_some asked.turns) at)
        ∙ some_left asked.listen asked.turns link.told;
  }

pub turned_so : (asked : Collection) (old new : Seen) (text : List ℕ) (result : Status) → Flushed old new text Done result
    → HasTurned asked asked.turns result
turned_so asked old new text result (whole is taken) = subst (HasTurned asked asked.turns) (sym is) refl
turned_so asked old new text result (part is taken) = subst (HasTurned asked asked.turns) (sym is) refl

pub not_heard : (asked : Collection) (text : ShownTaps → List Entry → List ℕ) (source sink : Seen) (link link' : LinkSeen)
    (taps : ShownTaps) → link' ≡ failed link
    → CollectsOver asked text (surroundings source sink link taps) (surroundings source sink link' taps) LinkFault
not_heard asked text source sink link link' taps is =
    not_listening refl (ap (λ (l : LinkSeen). surroundings source sink l taps) is)

module _ {X : Type 0} (step : X → Brief → X → Type 0) (done : X → Bool) (l : Limits) (now : CollectorState)
    (xs ys : List X) (all left : ℕ) (asked : Collection) (same : l ≡ asked.limits) (link heard link' : LinkSeen)
    (at : heard ≡ listening asked.listen link) where
  abbrev Takes : List Received → Type 0
  Takes entries = Collects step done l now xs ys all left entries

  abbrev Feeds : List Received → Type 0
  Feeds entries = Held step done (briefs_in asked.limits entries) xs ys

  fed_so : (entries : List Received) → Takes entries → Feeds entries
  fed_so entries takes = subst (λ (m : Limits). Held step done (briefs_in m entries) xs ys) same takes.gathered.held

  link_so : (turns : ℕ) (now' : LinkSeen) → now' ≡ received_some turns heard
      → now' ≡ received_some turns (listening asked.listen link)
  link_so turns now' is = is ∙ ap (received_some turns) at

  -- a receive failed
  pub failed_run : (text : ShownTaps → List Entry → List ℕ) (source sink : Seen) (taps taps' : ShownTaps)
      → TurnFailed Takes heard link' asked.turns
      → CollectsOver asked text (surroundings source sink link taps) (surroundings source sink link' taps') LinkFault
  failed_run text source sink taps taps' turned =
      not_received turned.count refl turned.fewer (turned.link_is ∙ ap (λ (h : LinkSeen). failed (received_some turned.count h)) at) refl

  pub failed_fed : TurnFailed Takes heard link' asked.turns → HasCome Feeds asked link link' LinkFault
  failed_fed turned = failed_come Feeds asked link heard link' at (record {
    count = turned.count;
    fewer = turned.fewer;
    entries = turned.entries;
    came = turned.came;
    were = fed_so (received_of turned.entries) turned.were;
    link_is = turned.link_is;
  })

  -- all receives went well, and the report was written, or a text with it
  pub reported_run : (with : List ℕ → List ℕ) (source sink sink' : Seen) (taps taps' : ShownTaps) (page : List ℕ)
      → page ≡ [] → (result : Status) → TookTurns Takes heard link' asked.turns
      → ((m : Limits) (items : List Item) → StandsFor now.books m items
      → Flushed sink sink' (page ++ with (report_with asked.interfaces (whole_books m items) now.classes taps')) Done result)
      → CollectsOver asked (λ shown entries. with (collected_text asked shown entries))
      (surroundings source sink link taps) (surroundings source sink' link' taps') result
  reported_run with source sink sink' taps taps' page empty result took flushes =
      let es : List Received = received_of took.entries in
      reported took.entries (listened asked.listen link heard asked.turns took.entries at took.came)
      (link_so asked.turns link' took.link_is) refl
      (subst (λ (text : List ℕ). Flushed sink sink' text Done result)
      (ap (λ p. p ++ with (report_with asked.interfaces (whole_books l (items_in es)) now.classes taps')) empty
      ∙ ap with (report_so step done l now xs ys all left es asked.interfaces taps' took.were
      ∙ ap (λ (m : Limits). report_of m asked.interfaces taps' es) same))
      (flushes l (items_in es) (stands_so step done l now xs ys all left es took.were)))

  came_all : (result : Status) → HasTurned asked asked.turns result → TookTurns Takes heard link' asked.turns
      → HasCome Feeds asked link link' result
  came_all result turned took = all_come Feeds asked link heard link' at result turned (record {
    entries = took.entries;
    came = took.came;
    were = fed_so (received_of took.entries) took.were;
    link_is = took.link_is;
  })

  pub reported_fed : (with : List ℕ → List ℕ) (sink sink' : Seen) (taps' : ShownTaps) (page : List ℕ) (result : Status)
      → TookTurns Takes heard link' asked.turns
      → ((m : Limits) (items : List Item) → StandsFor now.books m items
      → Flushed sink sink' (page ++ with (report_with asked.interfaces (whole_books m items) now.classes taps')) Done result)
      → HasCome Feeds asked link link' result
  reported_fed with sink sink' taps' page result took flushes =
      came_all result
      (turned_so asked sink sink' _ result
      (flushes l (items_in (received_of took.entries)) (stands_so step done l now xs ys all left (received_of took.entries) took.were)))
      took
