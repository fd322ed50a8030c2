-- Which line may follow, by the tables.
use Rattle.std.proofs.Common.{◌≡◌, ◌∙◌, ◌==◌, ◌&&◌, ℕ, Bool, true, false, not, List, length, refl, ap, sym}
use Rattle.std.specs.Prelude.{nat_lt}
use Rattle.std.specs.List.{list_all}
use Rattle.data_format.specs.declared.source.SourceId.{SourceId}
use Rattle.agent_spec.specs.Samples.{Packet}
use Rattle.agent_spec.specs.Sources as spec
use Rattle.agent_spec.specs.Sources.{same_source}
use Rattle.script_spec.specs.Lines.{Line, MaxLine, SubLine, FlowLine, CounterLine, PacketLine, PollLine, SendLine, RestartLine, ResetLine, DeliverLine, Delivery, SubAgent, place_of}
use Rattle.script_spec.specs.Agents.{Owned}
use Rattle.script_spec.specs.Rules.{sets_up, is_known, is_free, is_source, is_in_the_way, may_follow}
use Rattle.script_laws.specs.Lawful.{AreLawful}
use Rattle.script_tables.specs.Said.{source_said}
use Rattle.script_tables.specs.Tables.{TablesState, Tells, knows, has_row, is_free_in, rows_of, sub_sent}
use Rattle.script_tables.proofs.Asked.{known, sourced, long, flows_counted, counters_counted, was_sent}

-- two tests with equal parts
both_same : (a b c d : Bool) → a ≡ b → c ≡ d → (a && c) ≡ (b && d)
both_same a b c d e f = ap (λ (x : Bool). x && c) e ∙ ap (λ (x : Bool). b && x) f

not_not : (b : Bool) → not (not b) ≡ b
not_not true = refl
not_not false = refl

module _ (t : TablesState) (lines : List Line) (tells : Tells t lines) where
  -- a line that sets up may stand here
  in_order : not t.running ≡ list_all sets_up lines
  in_order = ap not tells.running ∙ not_not (list_all sets_up lines)

  pub max_follows : (bytes : ℕ) → (not t.running && (not t.has_max && (length t.subs == 0))) ≡ may_follow lines (MaxLine bytes)
  unfolding may_follow
  max_follows bytes =
      both_same (not t.running) _ _ _ in_order (both_same (not t.has_max) _ (length t.subs == 0) _ (ap not tells.has_max)
      (ap (λ (n : ℕ). n == 0) (long t lines tells)))

  pub sub_follows : (id : ℕ) (s : SubAgent) → s.id ≡ id
      → (not t.running && (not (knows id t.subs) && nat_lt (length t.subs) 64)) ≡ may_follow lines (SubLine s)
  unfolding may_follow
  sub_follows id s is =
      both_same (not t.running) _ _ _ in_order (both_same (not (knows id t.subs)) _ (nat_lt (length t.subs) 64) _
      (ap not (known t lines tells id ∙ ap (λ (n : ℕ). is_known n lines) (sym is))) (ap (λ (n : ℕ). nat_lt n 64) (long t lines tells)))

  free : (id : ℕ) (flow : Bool) (source : SourceId)
      → is_free_in id flow source t.sources ≡ is_free id (source_said flow source) lines
  free id flow source = ap not (sourced t lines tells (is_in_the_way id (source_said flow source)))

  pub flow_follows : AreLawful lines → (id : ℕ) (source : SourceId) (f : spec.FlowSetup) → f.source ≡ source_said true source
      → (not t.running && (knows id t.subs && (is_free_in id true source t.sources && nat_lt (rows_of id true t.sources) 1024)))
      ≡ may_follow lines (FlowLine id f)
  unfolding may_follow
  flow_follows lawful id source f is =
      both_same (not t.running) _ _ _ in_order (both_same (knows id t.subs) _ _ _ (known t lines tells id)
      (both_same (is_free_in id true source t.sources) _ _ _
      (free id true source ∙ ap (λ (s : spec.Source). is_free id s lines) (sym is))
      (ap (λ (n : ℕ). nat_lt n 1024) (flows_counted t lines tells lawful id))))

  pub counter_follows : AreLawful lines → (id : ℕ) (source : SourceId) (c : spec.CounterSetup)
      → c.source ≡ source_said false source
      → (not t.running && (knows id t.subs && (is_free_in id false source t.sources && nat_lt (rows_of id false t.sources) 1024)))
      ≡ may_follow lines (CounterLine id c)
  unfolding may_follow
  counter_follows lawful id source c is =
      both_same (not t.running) _ _ _ in_order (both_same (knows id t.subs) _ _ _ (known t lines tells id)
      (both_same (is_free_in id false source t.sources) _ _ _
      (free id false source ∙ ap (λ (s : spec.Source). is_free id s lines) (sym is))
      (ap (λ (n : ℕ). nat_lt n 1024) (counters_counted t lines tells lawful id))))

  had : (flow : Bool) (source : SourceId) → has_row flow source t.sources ≡ is_source (source_said flow source) lines
  had flow source = sourced t lines tells (λ (o : Owned). same_source (source_said flow source) o.source)

  pub packet_follows : (source : SourceId) (packet : Packet)
      → has_row true source t.sources ≡ may_follow lines (PacketLine (place_of (source_said true source)) packet)
  unfolding may_follow
  packet_follows source packet = had true source

  pub reset_follows : (flow : Bool) (source : SourceId)
      → has_row flow source t.sources ≡ may_follow lines (ResetLine (source_said flow source))
  unfolding may_follow
  reset_follows flow source = had flow source

  pub poll_follows : (id now : ℕ) → knows id t.subs ≡ may_follow lines (PollLine id now)
  unfolding may_follow
  poll_follows id now = known t lines tells id

  pub send_follows : (id now : ℕ) → knows id t.subs ≡ may_follow lines (SendLine id now)
  unfolding may_follow
  send_follows id now = known t lines tells id

  pub restart_follows : (id at : ℕ) → knows id t.subs ≡ may_follow lines (RestartLine id at)
  unfolding may_follow
  restart_follows id at = known t lines tells id

  pub deliver_follows : AreLawful lines → (id boot number : ℕ) (d : Delivery) → d.id ≡ id → d.boot ≡ boot → d.number ≡ number
      → sub_sent id boot number t.subs ≡ may_follow lines (DeliverLine d)
  unfolding may_follow
  deliver_follows lawful id boot number d is_id is_boot is_number =
      ap (λ (n : ℕ). sub_sent n boot number t.subs) (sym is_id) ∙ ap (λ (n : ℕ). sub_sent d.id n number t.subs) (sym is_boot)
      ∙ ap (λ (n : ℕ). sub_sent d.id d.boot n t.subs) (sym is_number) ∙ was_sent t lines tells lawful d

  -- by the kind
  pub flow_kind : AreLawful lines → (id : ℕ) (flow : Bool) (source : SourceId) (f : spec.FlowSetup) → flow ≡ true
      → f.source ≡ source_said flow source
      → (not t.running && (knows id t.subs && (is_free_in id flow source t.sources && nat_lt (rows_of id flow t.sources) 1024)))
      ≡ may_follow lines (FlowLine id f)
  flow_kind lawful id true source f kind is = flow_follows lawful id source f is
  flow_kind lawful id false source f kind is = absurd cc

  pub counter_kind : AreLawful lines → (id : ℕ) (flow : Bool) (source : SourceId) (c : spec.CounterSetup) → flow ≡ false
      → c.source ≡ source_said flow source
      → (not t.running && (knows id t.subs && (is_free_in id flow source t.sources && nat_lt (rows_of id flow t.sources) 1024)))
      ≡ may_follow lines (CounterLine id c)
  counter_kind lawful id true source c kind is = absurd cc
  counter_kind lawful id false source c kind is = counter_follows lawful id source c is
