-- Tables of one line more.
use Rattle.std.proofs.Common.{◌≡◌, ◌∙◌, ◌&&◌, ◌||◌, ◌++◌, ℕ, Bool, true, false, not, List, [], ◌∷◌, map, reverse, set, Option, Some, None, refl, ap, sym, slice_get}
use Rattle.std.specs.List.{AllByRecursion, list_any, list_all, cons_option}
use Rattle.std.proofs.lemmas.List.{map-append}
use Rattle.agent_spec.specs.Sources as spec
use Rattle.script_spec.specs.Lines.{Line, MaxLine, SubLine, FlowLine, CounterLine, PacketLine, PollLine, SendLine, RestartLine, ResetLine, DeliverLine, SubAgent}
use Rattle.script_spec.specs.Agents.{Owned, sub_in, subs_in, owned_in, sources_in, boots_of}
use Rattle.script_spec.specs.Rules.{sets_up, is_max}
use Rattle.script_spec.specs.Sent.{sent_count}
use Rattle.script_laws.specs.Lawful.{AreLawful}
use Rattle.script_laws.proofs.Happens.{in_order}
use Rattle.script_tables.specs.declared.rows.SourceRow.{SourceRow}
use Rattle.script_tables.specs.declared.rows.SubRow.{SubRow}
use Rattle.script_tables.specs.Tables.{TablesState, SubCount, row_said, sub_said, sub_count, Tells, with_boot, with_sent, HasSent, is_quiet}
use Rattle.script_tables.proofs.ListTests.{turned, all_turned}
use Rattle.script_tables.proofs.OfLines.{subs_are}
use Rattle.script_tables.proofs.Steps.{fresh, setup_count, quiet_count, quiet_runs, restart_own, restart_other, send_own, send_other, map_same, set_at}

-- the counts of the sub-agents so far stay
stay : (line : Line) (lines : List Line) → AreLawful (line ∷ lines) → sets_up line ≡ true
    → map (sub_count lines) (reverse (subs_in lines)) ≡ map (sub_count (line ∷ lines)) (reverse (subs_in lines))
stay line lines lawful sets =
    sym (map_same (sub_count (line ∷ lines)) (sub_count lines)
    (λ s. setup_count line lines s (in_order line lines lawful.1 sets) sets) (reverse (subs_in lines)))

module _ (t : TablesState) (lines : List Line) (tells : Tells t lines) where
  pub max_goes_on : (bytes : ℕ) → AreLawful (MaxLine bytes ∷ lines) → Tells (record t { has_max = true }) (MaxLine bytes ∷ lines)
  max_goes_on bytes lawful = record {
    running = tells.running;
    has_max = refl;
    subs = tells.subs ∙ stay (MaxLine bytes) lines lawful refl;
    sources = tells.sources;
  }

  pub sub_goes_on : (s : SubAgent) (row : SubRow) → sub_said row ≡ record { id = s.id; boots = record { at = s.at; sent = 0 } ∷ [] }
      → AreLawful (SubLine s ∷ lines) → Tells (record t { subs = t.subs ++ row ∷ [] }) (SubLine s ∷ lines)
  sub_goes_on s row says lawful = record {
    running = tells.running;
    has_max = tells.has_max;
    subs =
        map-append sub_said t.subs (row ∷ [])
        ∙ ap (λ (cs : List SubCount). cs ++ sub_said row ∷ []) (tells.subs ∙ stay (SubLine s) lines lawful refl)
        ∙ ap (λ (c : SubCount). map (sub_count (SubLine s ∷ lines)) (reverse (subs_in lines)) ++ c ∷ [])
        (says ∙ sym (fresh (SubLine s ∷ lines) s (in_order (SubLine s) lines lawful.1 refl)))
        ∙ sym (map-append (sub_count (SubLine s ∷ lines)) (reverse (subs_in lines)) (s ∷ []))
        ∙ ap (map (sub_count (SubLine s ∷ lines))) (sym (turned s (subs_in lines)));
    sources = tells.sources;
  }

  pub named_goes_on : (s : SubAgent) (row : SubRow) (id at : ℕ) → s.id ≡ id → s.at ≡ at
      → sub_said row ≡ record { id = id; boots = record { at = at; sent = 0 } ∷ [] }
      → AreLawful (SubLine s ∷ lines) → Tells (record t { subs = t.subs ++ row ∷ [] }) (SubLine s ∷ lines)
  named_goes_on s row id at own time says lawful =
      sub_goes_on s row (says ∙ ap (λ (n : ℕ). record { id = n; boots = record { at = at; sent = 0 } ∷ [] }) (sym own)
      ∙ ap (λ (n : ℕ). record { id = s.id; boots = record { at = n; sent = 0 } ∷ [] }) (sym time)) lawful

  more_sources : (row : SourceRow) (o : Owned) → row_said row ≡ o
      → map row_said (t.sources ++ row ∷ []) ≡ reverse (o ∷ sources_in lines)
  more_sources row o says =
      map-append row_said t.sources (row ∷ []) ∙ ap (λ (os : List Owned). os ++ row_said row ∷ []) tells.sources
      ∙ ap (λ (x : Owned). reverse (sources_in lines) ++ x ∷ []) says ∙ sym (turned o (sources_in lines))

  pub flow_goes_on : (id : ℕ) (f : spec.FlowSetup) (row : SourceRow) → row_said row ≡ record { owner = id; source = f.source }
      → AreLawful (FlowLine id f ∷ lines) → Tells (record t { sources = t.sources ++ row ∷ [] }) (FlowLine id f ∷ lines)
  flow_goes_on id f row says lawful = record {
    running = tells.running;
    has_max = tells.has_max;
    subs = tells.subs ∙ stay (FlowLine id f) lines lawful refl;
    sources = more_sources row (record { owner = id; source = f.source }) says;
  }

  pub counter_goes_on : (id : ℕ) (c : spec.CounterSetup) (row : SourceRow)
      → row_said row ≡ record { owner = id; source = c.source } → AreLawful (CounterLine id c ∷ lines)
      → Tells (record t { sources = t.sources ++ row ∷ [] }) (CounterLine id c ∷ lines)
  counter_goes_on id c row says lawful = record {
    running = tells.running;
    has_max = tells.has_max;
    subs = tells.subs ∙ stay (CounterLine id c) lines lawful refl;
    sources = more_sources row (record { owner = id; source = c.source }) says;
  }

  quietly : (line : Line) → is_quiet line ≡ true → is_max line ≡ false → sub_in line ≡ None → owned_in line ≡ None
      → Tells (record t { running = true }) (line ∷ lines)
  quietly line quiet no_max no_sub no_source = record {
    running = sym (ap (λ (b : Bool). not (b && list_all sets_up lines)) (quiet_runs line quiet));
    has_max = tells.has_max ∙ sym (ap (λ (b : Bool). b || list_any is_max lines) no_max);
    subs =
        tells.subs
        ∙ sym (map_same (sub_count (line ∷ lines)) (sub_count lines) (λ s. quiet_count line lines s quiet) (reverse (subs_in lines)))
        ∙ ap (λ (o : Option SubAgent). map (sub_count (line ∷ lines)) (reverse (cons_option o (subs_in lines)))) (sym no_sub);
    sources = tells.sources ∙ ap (λ (o : Option Owned). reverse (cons_option o (sources_in lines))) (sym no_source);
  }

  pub quiet_goes_on : (line : Line) → is_quiet line ≡ true → Tells (record t { running = true }) (line ∷ lines)
  quiet_goes_on (PacketLine p k) quiet = quietly (PacketLine p k) quiet refl refl refl
  quiet_goes_on (PollLine id now) quiet = quietly (PollLine id now) quiet refl refl refl
  quiet_goes_on (ResetLine s) quiet = quietly (ResetLine s) quiet refl refl refl
  quiet_goes_on (DeliverLine d) quiet = quietly (DeliverLine d) quiet refl refl refl
  quiet_goes_on (MaxLine n) quiet = absurd cc
  quiet_goes_on (SubLine s) quiet = absurd cc
  quiet_goes_on (FlowLine id f) quiet = absurd cc
  quiet_goes_on (CounterLine id c) quiet = absurd cc
  quiet_goes_on (SendLine id now) quiet = absurd cc
  quiet_goes_on (RestartLine id at) quiet = absurd cc

  -- a row is set anew
  pub restart_goes_on : (id at : ℕ) (subs : List SubRow) (k : ℕ) (c : SubCount) → AreLawful (RestartLine id at ∷ lines)
      → slice_get (map sub_said t.subs) k ≡ Some c → c.id ≡ id → map sub_said subs ≡ set (map sub_said t.subs) k (with_boot at c)
      → Tells (record t { running = true; subs = subs }) (RestartLine id at ∷ lines)
  restart_goes_on id at subs k c lawful there is made = record {
    running = refl;
    has_max = tells.has_max;
    subs =
        made ∙ ap (λ (cs : List SubCount). set cs k (with_boot at c)) tells.subs
        ∙ set_at (λ (c : SubCount). c.id) (sub_count lines) (sub_count (RestartLine id at ∷ lines)) id (with_boot at) (λ s. refl)
        (λ s other. restart_other id at lines s other) (reverse (subs_in lines)) k c (subs_are lines lawful.2).apart
        (all_of (reverse (subs_in lines))) (ap (λ (cs : List SubCount). slice_get cs k) (sym tells.subs) ∙ there) is;
    sources = tells.sources;
  }
    where
      all_of : (xs : List SubAgent)
          → AllByRecursion (λ (s : SubAgent). s.id ≡ id → with_boot at (sub_count lines s) ≡ sub_count (RestartLine id at ∷ lines) s) xs
      all_of [] = tt
      all_of (s ∷ more) = (restart_own id at lines s, all_of more)

  pub send_goes_on : (id now sent : ℕ) (subs : List SubRow) (k : ℕ) (c : SubCount) → AreLawful (SendLine id now ∷ lines)
      → HasSent id sent lines (SendLine id now) → slice_get (map sub_said t.subs) k ≡ Some c → c.id ≡ id
      → map sub_said subs ≡ set (map sub_said t.subs) k (with_sent sent c)
      → Tells (record t { running = true; subs = subs }) (SendLine id now ∷ lines)
  send_goes_on id now sent subs k c lawful counts there is made = record {
    running = refl;
    has_max = tells.has_max;
    subs =
        made ∙ ap (λ (cs : List SubCount). set cs k (with_sent sent c)) tells.subs
        ∙ set_at (λ (c : SubCount). c.id) (sub_count lines) (sub_count (SendLine id now ∷ lines)) id (with_sent sent) (λ s. refl)
        (λ s other. send_other id now lines s other) (reverse (subs_in lines)) k c (subs_are lines lawful.2).apart
        (all_turned (λ (s : SubAgent). s.id ≡ id → with_sent sent (sub_count lines s) ≡ sub_count (SendLine id now ∷ lines) s)
        (subs_in lines) (all_of (subs_in lines) counts)) (ap (λ (cs : List SubCount). slice_get cs k) (sym tells.subs) ∙ there) is;
    sources = tells.sources;
  }
    where
      all_of : (xs : List SubAgent)
          → AllByRecursion (λ (s : SubAgent). s.id ≡ id
          → sent ≡ sent_count (SendLine id now ∷ lines) s (boots_of (SendLine id now ∷ lines) s)) xs
          → AllByRecursion (λ (s : SubAgent). s.id ≡ id → with_sent sent (sub_count lines s) ≡ sub_count (SendLine id now ∷ lines) s) xs
      all_of [] h = tt
      all_of (s ∷ more) h = (λ own. send_own id now sent lines s (h.0 own), all_of more h.1)
