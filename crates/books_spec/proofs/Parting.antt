-- The books of some agents alone, beside those of all.
use Rattle.std.proofs.Common.{◌≡◌, ℕ, Bool, true, false, cond, Some, None, List, [], ◌∷◌, length, map, refl, sym, ap, ◌∙◌, true≢false}
use Rattle.std.specs.List.{filter, filter_map, cons_option}
use Rattle.wire_spec.specs.Heads.{AgentAddress}
use Rattle.count_spec.specs.Boots.{sequences, boots, stale_items}
use Rattle.books_spec.specs.declared.limits.Limits.{Limits}
use Rattle.books_spec.specs.declared.taken.Taken.TheVariants.{Unlisted}
use Rattle.books_spec.specs.Items.{SourceId, Sample, Of, Carrying, Other, Datagram, stamp_of, Item, Got, Malformed, Stream, stream_of, Source}
use Rattle.books_spec.specs.Listing.{same_stream, same_source, among, listed, unlisted}
use Rattle.books_spec.specs.Books.{streams_of, listed_streams, own, stream_boots, taken_in, taken_now, samples_at, onto, entered_in, Entered, entered, source_of, sources_of, listed_sources, StreamBooks, stream_books}
use Rattle.books_spec.specs.Views.{plain_view}
use Rattle.books_spec.specs.SourceViews.{source_view}
use Rattle.books_spec.specs.PlacedSamples.{placed_readings, interface_samples}
use Rattle.books_spec.specs.WholeBooks.{interface_of}
use Rattle.books_spec.specs.Parting.{of_agents, ListsAll, NamedLine, named_line, named_lines}
use Rattle.books_spec.proofs.Keys.{stream-same, source-same}
use Rattle.books_spec.proofs.Rooms.{room-before, latest-listed, listed-passing}

-- what is made of the keys that pass a test, where both ways agree on these
map-passing : {K L : Type 0} (f g : K → L) (p : K → Bool) (q : L → Bool) → ((k : K) → p k ≡ true → f k ≡ g k)
    → ((k : K) → q (g k) ≡ p k) → (keys : List K) → map f (filter p keys) ≡ filter q (map g keys)
map-passing f g p q agree kept [] = refl
map-passing {K} {L} f g p q agree kept (k ∷ keys) =
    go (p k) refl (map-passing f g p q agree kept keys)
    ∙ ap (λ b. cond b (g k ∷ filter q (map g keys)) (filter q (map g keys))) (sym (kept k))
  where
    go : (b : Bool) → p k ≡ b → map f (filter p keys) ≡ filter q (map g keys)
        → map f (cond b (k ∷ filter p keys) (filter p keys)) ≡ cond b (g k ∷ filter q (map g keys)) (filter q (map g keys))
    go true e later = λ j. agree k e j ∷ later j
    go false e later = later

module _ (agents : AgentAddress → Bool) where
  abbrev pub of_stream : Stream → Bool
  of_stream s = agents s.agent

  abbrev pub of_source : Source → Bool
  of_source k = agents k.stream.agent

  abbrev of_entered : Entered → Bool
  of_entered e = agents e.stream.agent

  -- ---- the datagrams of a stream

  own-same : (stream : Stream) → of_stream stream ≡ true → (items : List Item)
      → own stream (of_agents agents items) ≡ own stream items
  own-same stream mine [] = refl
  own-same stream mine (Malformed f ∷ before) = own-same stream mine before
  own-same stream mine (Got d ∷ before) = go (of_stream (stream_of d)) refl (own-same stream mine before)
    where
      apart : of_stream (stream_of d) ≡ false → (b : Bool) → same_stream stream (stream_of d) ≡ b
          → same_stream stream (stream_of d) ≡ false
      apart e true s =
          absurd (true≢false (sym mine ∙ ap of_stream (stream-same.to stream (stream_of d) s) ∙ e))
      apart e false s = s

      go : (b : Bool) → of_stream (stream_of d) ≡ b → own stream (of_agents agents before) ≡ own stream before
          → own stream (cond b (Got d ∷ of_agents agents before) (of_agents agents before)) ≡ own stream (Got d ∷ before)
      go true e later =
          ap (λ ds. cond (same_stream stream (stream_of d)) (d ∷ ds) ds) later
      go false e later =
          later ∙ ap (λ b. cond b (d ∷ own stream before) (own stream before)) (sym (apart e (same_stream stream (stream_of d)) refl))

  pub boots-same : (l : Limits) (stream : Stream) (items : List Item) → of_stream stream ≡ true
      → stream_boots l stream (of_agents agents items) ≡ stream_boots l stream items
  boots-same l stream items mine =
      ap (boots stamp_of l.boot_slack l.datagram_width) (own-same stream mine items)

  books-same : (l : Limits) (items : List Item) (stream : Stream) → of_stream stream ≡ true
      → stream_books l (of_agents agents items) stream ≡ stream_books l items stream
  books-same l items stream mine =
      let shown : List Datagram → StreamBooks = λ ds. record {
        stream = stream;
        boots = length (boots stamp_of l.boot_slack l.datagram_width ds);
        view = plain_view l.datagram_width (map (sequences stamp_of) (boots stamp_of l.boot_slack l.datagram_width ds));
        stale = length (stale_items stamp_of l.boot_slack l.datagram_width ds);
      } in
      ap shown (own-same stream mine items)

  line-same : (l : Limits) (items : List Item) (source : Source) → of_source source ≡ true
      → named_line l (of_agents agents items) source ≡ named_line l items source
  line-same l items source mine =
      let shown : List (List Datagram) → NamedLine = λ bs. record {
        source = source;
        view = source_view source.id.flow l.sample_width (map (placed_readings l.datagram_width source.id) bs);
        interface = interface_of source.id.flow l.sample_width (map (interface_samples l.datagram_width source.id) bs);
      } in
      ap shown (boots-same l source.stream items mine)

  -- ---- streams

  streams-passing : (items : List Item) → streams_of (of_agents agents items) ≡ filter of_stream (streams_of items)
  streams-passing [] = refl
  streams-passing (Malformed f ∷ before) = streams-passing before
  streams-passing (Got d ∷ before) = go (of_stream (stream_of d)) (streams-passing before)
    where
      go : (b : Bool) → streams_of (of_agents agents before) ≡ filter of_stream (streams_of before)
          → streams_of (cond b (Got d ∷ of_agents agents before) (of_agents agents before))
          ≡ cond b (stream_of d ∷ filter of_stream (streams_of before)) (filter of_stream (streams_of before))
      go true later = ap (λ ss. stream_of d ∷ ss) later
      go false later = later

  streams-listed : (limit limit_of_some : ℕ) (items : List Item) → unlisted same_stream limit (streams_of items) ≡ 0
      → unlisted same_stream limit_of_some (streams_of (of_agents agents items)) ≡ 0
      → listed same_stream limit_of_some (streams_of (of_agents agents items))
      ≡ filter of_stream (listed same_stream limit (streams_of items))
  streams-listed limit limit_of_some items all some =
      ap (listed same_stream limit_of_some) (streams-passing items)
      ∙ listed-passing same_stream stream-same of_stream limit limit_of_some (streams_of items) all
      (ap (unlisted same_stream limit_of_some) (sym (streams-passing items)) ∙ some)

  -- ---- entered samples

  onto-passing : (s : Stream) (xs : List Sample) (rest : List Entered) → of_stream s ≡ true
      → filter of_entered (onto (map (entered_in s) xs) rest) ≡ onto (map (entered_in s) xs) (filter of_entered rest)
  onto-passing s [] rest e = refl
  onto-passing s (x ∷ xs) rest e =
      onto-passing s xs (entered_in s x ∷ rest) e
      ∙ ap (λ b. onto (map (entered_in s) xs) (cond b (entered_in s x ∷ filter of_entered rest) (filter of_entered rest))) e

  onto-other : (s : Stream) (xs : List Sample) (rest : List Entered) → of_stream s ≡ false
      → filter of_entered (onto (map (entered_in s) xs) rest) ≡ filter of_entered rest
  onto-other s [] rest e = refl
  onto-other s (x ∷ xs) rest e =
      onto-other s xs (entered_in s x ∷ rest) e
      ∙ ap (λ b. cond b (entered_in s x ∷ filter of_entered rest) (filter of_entered rest)) e

  -- a datagram whose stream is listed is answered by its boots
  taken-listed : (l : Limits) (before : List Item) (d : Datagram)
      → among same_stream (listed_streams l (Got d ∷ before)) (stream_of d) ≡ true
      → taken_now l before (Got d) ≡ taken_in l (stream_boots l (stream_of d) before) d
  taken-listed l before d e = ap (λ b. cond b (taken_in l (stream_boots l (stream_of d) before) d) Unlisted) e

  entered-passing : (l m : Limits) → ((bs : List (List Datagram)) (d : Datagram) → taken_in m bs d ≡ taken_in l bs d)
      → ((s : Stream) (items : List Item) → stream_boots m s items ≡ stream_boots l s items) → (items : List Item)
      → unlisted same_stream l.streams (streams_of items) ≡ 0
      → unlisted same_stream m.streams (streams_of (of_agents agents items)) ≡ 0
      → entered m (of_agents agents items) ≡ filter of_entered (entered l items)
  entered-passing l m alike boots_alike [] all some = refl
  entered-passing l m alike boots_alike (Malformed f ∷ before) all some =
      entered-passing l m alike boots_alike before all some
  entered-passing l m alike boots_alike (Got d ∷ before) all some =
      go (of_stream (stream_of d)) refl some
      (entered-passing l m alike boots_alike before (room-before same_stream stream-same l.streams (stream_of d) (streams_of before) all))
    where
      go : (b : Bool) → of_stream (stream_of d) ≡ b
          → unlisted same_stream m.streams (streams_of (cond b (Got d ∷ (of_agents agents before)) (of_agents agents before))) ≡ 0
          → (unlisted same_stream m.streams (streams_of (of_agents agents before)) ≡ 0 → entered m (of_agents agents before) ≡ filter of_entered (entered l before))
          → entered m (cond b (Got d ∷ (of_agents agents before)) (of_agents agents before)) ≡ filter of_entered (entered l (Got d ∷ before))
      go true e few later =
          let here : taken_now m (of_agents agents before) (Got d) ≡ taken_now l before (Got d) =
          taken-listed m (of_agents agents before) d (latest-listed same_stream stream-same m.streams (stream_of d) (streams_of (of_agents agents before)) few)
          ∙ alike (stream_boots m (stream_of d) (of_agents agents before)) d
          ∙ ap (λ bs. taken_in l bs d) (boots_alike (stream_of d) (of_agents agents before) ∙ boots-same l (stream_of d) before e)
          ∙ sym (taken-listed l before d (latest-listed same_stream stream-same l.streams (stream_of d) (streams_of before) all)) in
          let earlier = later (room-before same_stream stream-same m.streams (stream_of d) (streams_of (of_agents agents before)) few) in
          let step : entered m (Got d ∷ (of_agents agents before))
          ≡ onto (map (entered_in (stream_of d)) (samples_at (taken_now l before (Got d)) d.samples))
          (filter of_entered (entered l before)) =
          λ j. onto (map (entered_in (stream_of d)) (samples_at (here j) d.samples)) (earlier j) in
          step ∙ sym (onto-passing (stream_of d) (samples_at (taken_now l before (Got d)) d.samples) (entered l before) e)
      go false e few later =
          later few ∙ sym (onto-other (stream_of d) (samples_at (taken_now l before (Got d)) d.samples) (entered l before) e)

  -- ---- sources

  sources-passing : (es : List Entered)
      → filter_map source_of (filter of_entered es) ≡ filter of_source (filter_map source_of es)
  sources-passing [] = refl
  sources-passing (e ∷ es) = kind e.sample (sources-passing es)
    where
      at_id : SourceId → Source
      at_id id = record { stream = e.stream; id = id }

      with_source : (id : SourceId) (b : Bool) (first : Entered) → source_of first ≡ Some (at_id id)
          → filter_map source_of (filter of_entered es) ≡ filter of_source (filter_map source_of es)
          → filter_map source_of (cond b (first ∷ filter of_entered es) (filter of_entered es))
          ≡ cond b (at_id id ∷ filter of_source (filter_map source_of es))
          (filter of_source (filter_map source_of es))
      with_source id true first is later = λ j. cons_option (is j) (later j)
      with_source id false first is later = later

      without : (b : Bool) (first : Entered) → source_of first ≡ None
          → filter_map source_of (filter of_entered es) ≡ filter of_source (filter_map source_of es)
          → filter_map source_of (cond b (first ∷ filter of_entered es) (filter of_entered es))
          ≡ filter of_source (filter_map source_of es)
      without true first is later = λ j. cons_option (is j) (later j)
      without false first is later = later

      kind : (x : Sample)
          → filter_map source_of (filter of_entered es) ≡ filter of_source (filter_map source_of es)
          → filter_map source_of (filter of_entered (record { stream = e.stream; sample = x } ∷ es))
          ≡ filter of_source (filter_map source_of (record { stream = e.stream; sample = x } ∷ es))
      kind Other later = without (agents e.stream.agent) (record { stream = e.stream; sample = Other }) refl later
      kind (Of id reading) later =
          with_source id (agents e.stream.agent) (record { stream = e.stream; sample = Of id reading }) refl later
      kind (Carrying id reading counters) later =
          with_source id (agents e.stream.agent) (record { stream = e.stream; sample = Carrying id reading counters }) refl later

  -- ---- all that is shown

  -- the same widths and slack, with room for so many streams and sources
  abbrev with_room : Limits → ℕ → ℕ → Limits
  with_room l streams sources = record l { streams = streams; sources = sources }

  pub streams-part : (l : Limits) (streams sources : ℕ) (items : List Item) → ListsAll l items
      → ListsAll (with_room l streams sources) (of_agents agents items)
      → map (stream_books (with_room l streams sources) (of_agents agents items))
      (listed_streams (with_room l streams sources) (of_agents agents items))
      ≡ filter (λ (b : StreamBooks). agents b.stream.agent) (map (stream_books l items) (listed_streams l items))
  streams-part l streams sources items all some =
      let m : Limits = with_room l streams sources in
      ap (map (stream_books m (of_agents agents items))) (streams-listed l.streams streams items all.streams some.streams)
      ∙ map-passing (stream_books m (of_agents agents items)) (stream_books l items) of_stream
      (λ (b : StreamBooks). agents b.stream.agent) (books-same l items) (λ k. refl) (listed_streams l items)

  sources-are : (l : Limits) (streams sources : ℕ) (items : List Item) → ListsAll l items
      → ListsAll (with_room l streams sources) (of_agents agents items)
      → sources_of (with_room l streams sources) (of_agents agents items) ≡ filter of_source (sources_of l items)
  sources-are l streams sources items all some =
      ap (filter_map source_of)
      (entered-passing l (with_room l streams sources) (λ bs d. refl) (λ s xs. refl) items all.streams some.streams)
      ∙ sources-passing (entered l items)

  pub sources-part : (l : Limits) (streams sources : ℕ) (items : List Item) → ListsAll l items
      → ListsAll (with_room l streams sources) (of_agents agents items)
      → named_lines (with_room l streams sources) (of_agents agents items)
      ≡ filter (λ (line : NamedLine). agents line.source.stream.agent) (named_lines l items)
  sources-part l streams sources items all some =
      let m : Limits = with_room l streams sources in
      let are = sources-are l streams sources items all some in
      ap (λ ks. map (named_line m (of_agents agents items)) (listed same_source sources ks)) are
      ∙ ap (map (named_line m (of_agents agents items)))
      (listed-passing same_source source-same of_source l.sources sources (sources_of l items) all.samples
      (ap (unlisted same_source sources) (sym are) ∙ some.samples))
      ∙ map-passing (named_line m (of_agents agents items)) (named_line l items) of_source
      (λ (line : NamedLine). agents line.source.stream.agent) (line-same l items) (λ k. refl) (listed_sources l items)
