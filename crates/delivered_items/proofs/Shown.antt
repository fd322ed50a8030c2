-- What a reader makes of a datagram that was sent is what was delivered.
use Rattle.std.proofs.Common.{◌≡◌, ℕ, ◌+◌, ◌*◌, ◌/◌, ◌%◌, ◌^◌, Bool, true, false, List, [], ◌∷◌, map, sym, ap, ◌∙◌, arith}
use Rattle.std.specs.List.{AllByRecursion}
use Rattle.wire_spec.specs.Shapes.{Tree, Trees}
use Rattle.books_spec.specs.declared.reading.SampleReading.{SampleReading}
use Rattle.books_spec.specs.Items.{SourceId, Of, Carrying}
use Rattle.books_spec.specs.Items as items
use Rattle.agent_spec.specs.Sources.{Source}
use Rattle.agent_spec.specs.Samples.{Content, Sampled, Counted, Sample}
use Rattle.agent_spec.specs.Spelled.{Form, Compact, Expanded, Sender, flow_records, sample_tree, sample_trees}
use Rattle.account_spec.specs.Readings.{counters_in}
use Rattle.account_spec.specs.Deliveries.{id_of, id_in, reading_shown, content_shown, sample_shown}
use Rattle.delivered_items.specs.Accepted.{IsSourceIn}
use Rattle.delivered_items.specs.Readers.{id_in_word, id_in_words, counters_reading, IsReader}
use Rattle.delivered_items.proofs.Kept.{IsSaid, IsSound}

abbrev same_id : (flow : Bool) (a b c d : ℕ) → a ≡ b → c ≡ d → id_in_words flow a c ≡ id_in_words flow b d
same_id flow a b c d e f = λ j. record { flow = flow; class = e j; index = f j }

by-flow : (flow : Bool) (s : Source) → s.flow ≡ flow → id_in_words flow s.class s.index ≡ id_of s
by-flow flow s e = λ j. record { flow = sym e j; class = s.class; index = s.index }

by-word : (flow : Bool) (s : Source) → s.flow ≡ flow → IsSourceIn Compact s
    → id_in_word flow (s.class * 2 ^ 24 + s.index) ≡ id_of s
by-word flow s e fits =
    let w : ℕ = s.class * 2 ^ 24 + s.index in
    let top : w / 2 ^ 24 ≡ s.class = omega (arith, fits.1) in
    let low : w % 2 ^ 24 ≡ s.index = omega (arith, fits.1) in
    same_id flow (w / 2 ^ 24) s.class (w % 2 ^ 24) s.index top low ∙ by-flow flow s e

-- a counters sample has no pool, drops and rate
by-zeros : (s : Sample) → s.pool ≡ 0 → s.drops ≡ 0 → s.rate ≡ 0 → counters_reading (s.number % 2 ^ 32) ≡ reading_shown s
by-zeros s pool drops rate =
    let p : 0 ≡ s.pool % 2 ^ 32 = omega (arith, pool) in
    let d : 0 ≡ s.drops % 2 ^ 32 = omega (arith, drops) in
    λ j. record { sequence = s.number % 2 ^ 32; pool = p j; drops = d j; rate = sym rate j }

module _ (read : Tree → items.Sample) (reads : Trees → List items.Sample) (r : IsReader read reads) where
  one-shown : (form : Form) (s : Sample) (c : Content) → IsSourceIn form s.turn.source → IsSaid form s c
      → read (sample_tree form s.turn.source s c) ≡ content_shown (id_in s) (reading_shown s) c
  one-shown Compact s (Sampled p) source said =
      let src : Source = s.turn.source in
      r.flow (s.number % 2 ^ 32) (src.class * 2 ^ 24 + src.index) s.rate (s.pool % 2 ^ 32) (s.drops % 2 ^ 32)
      (p.input.form * 2 ^ 30 + p.input.value) (p.output.form * 2 ^ 30 + p.output.value) (flow_records p)
      ∙ ap (λ (id : SourceId). Of id (reading_shown s)) (by-word true src said.0 source)
  one-shown Compact s (Counted reading) source said =
      let src : Source = s.turn.source in
      r.counters (s.number % 2 ^ 32) (src.class * 2 ^ 24 + src.index) reading
      ∙ ap (λ (id : SourceId). Carrying id (counters_reading (s.number % 2 ^ 32)) (counters_in reading)) (by-word false src said.0 source)
      ∙ ap (λ (x : SampleReading). Carrying (id_of src) x (counters_in reading)) (by-zeros s said.1 said.2 said.3)
  one-shown Expanded s (Sampled p) source said =
      let src : Source = s.turn.source in
      r.expanded_flow (s.number % 2 ^ 32) src.class src.index s.rate (s.pool % 2 ^ 32) (s.drops % 2 ^ 32)
      p.input.form p.input.value p.output.form p.output.value (flow_records p)
      ∙ ap (λ (id : SourceId). Of id (reading_shown s)) (by-flow true src said.0)
  one-shown Expanded s (Counted reading) source said =
      let src : Source = s.turn.source in
      r.expanded_counters (s.number % 2 ^ 32) src.class src.index reading
      ∙ ap (λ (id : SourceId). Carrying id (counters_reading (s.number % 2 ^ 32)) (counters_in reading)) (by-flow false src said.0)
      ∙ ap (λ (x : SampleReading). Carrying (id_of src) x (counters_in reading)) (by-zeros s said.1 said.2 said.3)

  pub samples-shown : (sender : Sender) (xs : List Sample) → AllByRecursion (IsSound sender) xs
      → reads (sample_trees sender.form xs) ≡ map sample_shown xs
  samples-shown sender [] h = r.no_samples
  samples-shown sender (x ∷ more) h =
      r.samples (sample_tree sender.form x.turn.source x x.content) (sample_trees sender.form more)
      ∙ (λ j. one-shown sender.form x x.content h.0.source h.0.said j ∷ samples-shown sender more h.1 j)
