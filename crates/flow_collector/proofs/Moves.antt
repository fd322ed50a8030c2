-- A collector that stands for some items stands for one more after each call.
use Rattle.std.proofs.Common.{◌≡◌, ℕ, ℤ, ◌+◌, Bool, true, false, cond, if◌then◌else◌, Option, Some, None, List, [], ◌∷◌, ◌++◌, length, take, zero, suc, refl, sym, ap, subst, ◌∙◌, arith}
use Rattle.std.specs.List.{count_by, filter_map, cons_option}
use Rattle.count_spec.proofs.Counts.{count_by-cons, count_by-no}
use Rattle.wire_spec.specs.declared.fault.Fault.{Fault}
use Rattle.books_spec.specs.Items.{SourceId, Sample, Other, Datagram, Item, Got, Malformed, Stream, stream_of, Source}
use Rattle.books_spec.specs.declared.reading.SampleReading.{SampleReading}
use Rattle.books_spec.specs.SourceViews.{PlacedReading}
use Rattle.books_spec.specs.declared.limits.Limits.{Limits}
use Rattle.books_spec.specs.Listing.{same_source, among, listed, unlisted}
use Rattle.books_spec.specs.Books.{is_malformed, fault_after, first_fault, listed_streams, taken_now, entered_in, Entered, source_of, is_other, entered, source_in as sample_source, sources_of, listed_sources, totals}
use Rattle.books_spec.specs.InterfaceRise.{InterfaceCounters}
use Rattle.books_spec.specs.PlacedSamples.{placed_boots, InterfaceSample, seen_at, interface_boots}
use Rattle.books_spec.specs.declared.taken.Taken.{Taken}
use Rattle.books_spec.specs.declared.taken.Taken.TheVariants.{First}
use Rattle.books_spec.specs.declared.totals.Totals.{Totals}
use Rattle.books_spec.specs.declared.totals.FirstFault.{FirstFault}
use Rattle.books_spec.proofs.Keys.{source-same}
use Rattle.stream_books.specs.Sources.{StandsFor as KeepsSource}
use Rattle.stream_books.specs.Streams.{StreamState}
use Rattle.stream_books.specs.declared.source.SourceRecord.{SourceRecord}
use Rattle.collector_tables.specs.declared.keys.StreamKey.{StreamKey}
use Rattle.collector_tables.specs.declared.keys.SourceKey.{SourceKey}
use Rattle.collector_tables.specs.Keys.{source_in}
use Rattle.collector_tables.specs.Tables.{Table, keys_in}
use Rattle.collector_tables.specs.Listed.{StreamsStand}
use Rattle.collector_tables.specs.Sources.{SourceStands, SourcesStand, after_reading}
use Rattle.collector_tables.proofs.Tables.{each-map, each-renamed, keys-renamed}
use Rattle.if_ledger.specs.Ledgers.{IfState}
use Rattle.if_ledger.specs.Tables.{Ledgers}
use Rattle.if_ledger.specs.Boots.{StandsForBoots}
use Rattle.flow_collector.specs.Collectors.{BooksState, StandsFor}
use Rattle.flow_collector.specs.Interfaces.{ArePaired}
use Rattle.flow_collector.specs.Items.{sample_with}
use Rattle.flow_collector.specs.Steps.{is_first, is_unlisted, with_samples, with_sample, number_in}
use Rattle.flow_collector.proofs.Entering.{after_one, entered-one_more, sources-one_more, source-boots-of, source-boots-other, interface-boots-of, interface-boots-other}
use Rattle.flow_collector.proofs.Boots.{sources-none, grown-stands, grown-interface, source-boots-none, interface-boots-none, entered-not_first, source-boots-not_first, interface-boots-not_first}
use Rattle.flow_collector.proofs.Paired.{paired-map}
use Rattle.flow_collector.proofs.Counts.{source-stream}
use Rattle.flow_collector.proofs.Found.{names-stay, places-stay}
use Rattle.flow_collector.proofs.Lists.{each-listed}
use Rattle.flow_collector.proofs.Steps.{streams-same, streams-malformed, with_fault, totals-malformed, with_datagram, totals-head, totals-not_first}

-- ---- a fault

pub reject-stands : (s : BooksState) (l : Limits) (items : List Item) (f : Fault) (first : Option FirstFault)
    → first ≡ fault_after s.totals.first_fault s.totals.entries (Malformed f) → StandsFor s l items
    → StandsFor (record s { totals = record (with_fault s.totals f) { first_fault = first } }) l (Malformed f ∷ items)
reject-stands s l items f first is st = record {
  limits_are = st.limits_are;
  stream_limit = st.stream_limit;
  source_limit = st.source_limit;
  streams_stand = streams-malformed l s.streams.entries items f st.streams_stand;
  sources_stand = st.sources_stand;
  interface_limit = st.interface_limit;
  interfaces_stand = st.interfaces_stand;
  totals_are = (λ j. record (with_fault s.totals f) { first_fault = is j }) ∙ ap (λ t. with_fault t f) st.totals_are
      ∙ totals-malformed l items f;
}

-- ---- a datagram, as though it had no samples

pub head-stands : (s : BooksState) (l : Limits) (items : List Item) (d : Datagram)
    (streams : Table StreamKey StreamState) (t : Taken) (unlisted_now : ℕ) → t ≡ taken_now l items (Got d)
    → unlisted_now ≡ s.totals.unlisted + cond (is_unlisted t) 1 0
    → streams.limit ≡ s.streams.limit → StreamsStand l streams.entries (Got d ∷ items) → StandsFor s l items
    → StandsFor (record s { streams = streams; totals = with_datagram s.totals unlisted_now }) l
    (Got (with_samples d []) ∷ items)
head-stands s l items d streams t unlisted_now answer count limit now st =
    let sources = sources-none l items d in
    let was = st.sources_stand in
    let before : List Stream = listed_streams l items in
    let after : List Stream = listed_streams l (Got d ∷ items) in
    let names = names-stay l items d s.sources.entries was.placed in
    record {
      limits_are = st.limits_are;
      stream_limit = limit ∙ st.stream_limit;
      source_limit = st.source_limit;
      streams_stand = streams-same l streams.entries items d [] now;
      sources_stand = record {
        placed = places-stay l items d s.sources.entries was.placed;
        table = record {
          keys_are = sym (keys-renamed (source_in before) (source_in after) s.sources.entries names) ∙ was.table.keys_are
              ∙ (λ j. listed same_source l.sources (sym sources j));
          each = each-renamed (source_in before) (source_in after)
              (SourceStands l.sample_width (λ k. placed_boots l k (Got (with_samples d []) ∷ items))) s.sources.entries
              names (each-map (source_in before) same_source (SourceStands l.sample_width (λ k. placed_boots l k items))
              (SourceStands l.sample_width (λ k. placed_boots l k (Got (with_samples d []) ∷ items))) s.sources.entries
              (λ k r kept. record {
                kind = kept.kind;
                width_is = kept.width_is;
                stands = grown-stands r (placed_boots l k items) (placed_boots l k (Got (with_samples d []) ∷ items))
                    (source-boots-none l items d k) kept.stands;
              }) was.table.each);
        };
      };
      interface_limit = st.interface_limit;
      interfaces_stand =
          let K : List Source → Type 0 = λ keys. ArePaired (λ k r. StandsForBoots l.sample_width r
          (interface_boots l k (Got (with_samples d []) ∷ items))) keys s.interfaces.ledgers in
          subst K (λ j. listed same_source l.sources (sym sources j)) (paired-map same_source source-same
          (λ k r. StandsForBoots l.sample_width r (interface_boots l k items))
          (λ k r. StandsForBoots l.sample_width r (interface_boots l k (Got (with_samples d []) ∷ items)))
          (listed_sources l items) s.interfaces.ledgers
          (λ k r there kept. grown-interface l.sample_width r (interface_boots l k items)
          (interface_boots l k (Got (with_samples d []) ∷ items)) (interface-boots-none l items d k) kept) st.interfaces_stand);
      totals_are = (λ j. with_datagram (st.totals_are j)
          ((count ∙ (λ i. (st.totals_are i).unlisted + cond (is_unlisted (answer i)) 1 0)) j)) ∙ totals-head l items d;
    }

-- a datagram whose samples aren't entered
pub not_first-stands : (s : BooksState) (l : Limits) (items : List Item) (d : Datagram)
    → is_first (taken_now l items (Got d)) ≡ false → StandsFor s l (Got (with_samples d []) ∷ items)
    → StandsFor s l (Got d ∷ items)
not_first-stands s l items d not st =
    let same : sources_of l (Got (with_samples d []) ∷ items) ≡ sources_of l (Got d ∷ items) =
    ap (filter_map source_of) (entered-not_first l items d not) in
    let was = st.sources_stand in
    record {
      limits_are = st.limits_are;
      stream_limit = st.stream_limit;
      source_limit = st.source_limit;
      streams_stand = streams-same l s.streams.entries items (with_samples d []) d.samples st.streams_stand;
      sources_stand = record {
        placed = was.placed;
        table = record {
          keys_are = was.table.keys_are ∙ (λ j. listed same_source l.sources (same j));
          each = each-listed same_source source-same (source_in (listed_streams l (Got d ∷ items)))
              (SourceStands l.sample_width (λ k. placed_boots l k (Got (with_samples d []) ∷ items)))
              (SourceStands l.sample_width (λ k. placed_boots l k (Got d ∷ items))) s.sources.entries
              (λ k r there kept. record {
                kind = kept.kind;
                width_is = kept.width_is;
                stands = keeps k r there kept.stands;
              }) was.table.each;
        };
      };
      interface_limit = st.interface_limit;
      interfaces_stand =
          let K : List Source → Type 0 = λ keys. ArePaired (λ k r. StandsForBoots l.sample_width r
          (interface_boots l k (Got d ∷ items))) keys s.interfaces.ledgers in
          subst K (λ j. listed same_source l.sources (same j)) (paired-map same_source source-same
          (λ k r. StandsForBoots l.sample_width r (interface_boots l k (Got (with_samples d []) ∷ items)))
          (λ k r. StandsForBoots l.sample_width r (interface_boots l k (Got d ∷ items)))
          (listed_sources l (Got (with_samples d []) ∷ items)) s.interfaces.ledgers
          (λ k r there kept. shows k r there kept) st.interfaces_stand);
      totals_are = st.totals_are ∙ totals-not_first l items d not;
    }
  where
    shows : (k : Source) (r : IfState) → among same_source (listed_sources l (Got (with_samples d []) ∷ items)) k ≡ true
        → StandsForBoots l.sample_width r (interface_boots l k (Got (with_samples d []) ∷ items))
        → StandsForBoots l.sample_width r (interface_boots l k (Got d ∷ items))
    shows k r there old =
        let stream = source-stream l (Got (with_samples d []) ∷ items) k there in
        let R : List (List InterfaceSample) → Type 0 = λ bs. StandsForBoots l.sample_width r bs in
        subst R (interface-boots-not_first l items d k stream not) old

    keeps : (k : Source) (r : SourceRecord)
        → among same_source (keys_in (source_in (listed_streams l (Got d ∷ items))) s.sources.entries) k ≡ true
        → KeepsSource r (placed_boots l k (Got (with_samples d []) ∷ items))
        → KeepsSource r (placed_boots l k (Got d ∷ items))
    keeps k r there old =
        let P : List Source → Type 0 = λ keys. among same_source keys k ≡ true in
        let stream = source-stream l (Got (with_samples d []) ∷ items) k (subst P st.sources_stand.table.keys_are there) in
        let R : List (List PlacedReading) → Type 0 = λ bs. KeepsSource r bs in
        subst R (source-boots-not_first l items d k stream not) old

-- ---- one sample more

-- the counts after a sample of another format, and after one of a source that is listed or isn't
abbrev pub with_other : Totals → Totals
with_other t = record t { other = t.other + 1 }

abbrev pub with_listed : Totals → ℕ → Totals
with_listed t unlisted_now = record t { unlisted_samples = unlisted_now }

count-same : (items : List Item) (d : Datagram) (xs : List Sample)
    → count_by is_malformed (Got d ∷ items) ≡ count_by is_malformed (Got (with_samples d xs) ∷ items)
count-same items d xs =
    count_by-cons is_malformed (Got d) items ∙ sym (count_by-cons is_malformed (Got (with_samples d xs)) items)

fault-same : (l : Limits) (items : List Item) (d : Datagram) (xs : List Sample)
    → first_fault (Got d ∷ items) ≡ first_fault (Got (with_samples d xs) ∷ items)
fault-same l items d xs = go (first_fault items)
  where
    go : (o : Option FirstFault) → fault_after o (length items) (Got d) ≡ fault_after o (length items) (Got (with_samples d xs))
    go None = refl
    go (Some x) = refl

pub other-stands : (s : BooksState) (l : Limits) (items : List Item) (d : Datagram)
    → taken_now l items (Got d) ≡ First → StandsFor s l (Got d ∷ items)
    → StandsFor (record s { totals = with_other s.totals }) l (Got (with_sample d Other) ∷ items)
other-stands s l items d first st =
    let sources = sources-one_more l items d Other first in
    let more = entered-one_more l items d Other first in
    let count = count_by-cons (λ (e : Entered). is_other e.sample) (entered_in (stream_of d) Other) (entered l (Got d ∷ items)) in
    let other : count_by (λ (e : Entered). is_other e.sample) (entered l (Got d ∷ items)) + 1
    ≡ count_by (λ (e : Entered). is_other e.sample) (entered_in (stream_of d) Other ∷ entered l (Got d ∷ items)) =
    omega (arith, count) in
    let boots : (λ k. placed_boots l k (Got d ∷ items)) ≡ (λ k. placed_boots l k (Got (with_sample d Other) ∷ items)) =
    λ j k. source-boots-other l items d k first j in
    let malformed = count-same items d (d.samples ++ Other ∷ []) in
    let fault = fault-same l items d (d.samples ++ Other ∷ []) in
    record {
      limits_are = st.limits_are;
      stream_limit = st.stream_limit;
      source_limit = st.source_limit;
      streams_stand = streams-same l s.streams.entries items d (d.samples ++ Other ∷ []) st.streams_stand;
      sources_stand =
          let P : List Source → Type 0 = λ arrived.
          SourcesStand (listed_streams l (Got d ∷ items)) l.sources l.sample_width s.sources.entries arrived (λ k. placed_boots l k (Got d ∷ items)) in
          let Q : (Source → List (List PlacedReading)) → Type 0 = λ boots_of. SourcesStand (listed_streams l (Got d ∷ items)) l.sources l.sample_width
          s.sources.entries (sources_of l (Got (with_sample d Other) ∷ items)) boots_of in
          subst Q boots (subst P (sym sources) st.sources_stand);
      interface_limit = st.interface_limit;
      interfaces_stand =
          let P : List Source → Type 0 = λ arrived. ArePaired (λ k r. StandsForBoots l.sample_width r
          (interface_boots l k (Got d ∷ items))) (listed same_source l.sources arrived) s.interfaces.ledgers in
          let Q : (Source → List (List InterfaceSample)) → Type 0 = λ boots_of. ArePaired
          (λ k r. StandsForBoots l.sample_width r (boots_of k))
          (listed same_source l.sources (sources_of l (Got (with_sample d Other) ∷ items))) s.interfaces.ledgers in
          subst Q (λ j k. interface-boots-other l items d k first j) (subst P (sym sources) st.interfaces_stand);
      totals_are = ap with_other st.totals_are ∙ (λ j. record {
        entries = length (Got d ∷ items);
        malformed = malformed j;
        unlisted = (totals l (Got d ∷ items)).unlisted;
        unlisted_samples = unlisted same_source l.sources (sym sources j);
        other = (other ∙ (λ i. count_by (λ (e : Entered). is_other e.sample) (sym more i))) j;
        first_fault = fault j;
      });
    }

source-with : (stream : Stream) (id : SourceId) (r : SampleReading) (carried : Option InterfaceCounters)
    → sample_source stream (sample_with id r carried) ≡ Some (record { stream = stream; id = id })
source-with stream id r None = refl
source-with stream id r (Some c) = refl

other-not : (id : SourceId) (r : SampleReading) (carried : Option InterfaceCounters) → is_other (sample_with id r carried) ≡ false
other-not id r None = refl
other-not id r (Some c) = refl

-- where the sample of this index stands of a datagram whose number is this, as interface counters see it
abbrev pub seen_of : Datagram → ℤ → SampleReading → Option InterfaceCounters → InterfaceSample
seen_of d n r carried = seen_at (record { datagram = n; index = length d.samples }) r carried

pub of-stands : (s : BooksState) (l : Limits) (items : List Item) (d : Datagram) (id : SourceId) (r : SampleReading)
    (carried : Option InterfaceCounters) (n : ℤ)
    (sources : Table SourceKey SourceRecord) (interfaces : Ledgers) (found : Bool) (unlisted_now : ℕ)
    → taken_now l items (Got d) ≡ First
    → n ≡ number_in l items d
    → unlisted_now ≡ s.totals.unlisted_samples + (if found then 0 else 1)
    → sources.limit ≡ s.sources.limit
    → SourcesStand (listed_streams l (Got d ∷ items)) l.sources l.sample_width sources.entries
    (record { stream = stream_of d; id = id } ∷ sources_of l (Got d ∷ items))
    (after_reading (record { stream = stream_of d; id = id }) (record { place = record { datagram = n; index = length d.samples }; reading = r })
    (λ k. placed_boots l k (Got d ∷ items)))
    → interfaces.limit ≡ s.interfaces.limit
    → ArePaired (λ k ledger. StandsForBoots l.sample_width ledger (after_one (record { stream = stream_of d; id = id })
    (seen_of d n r carried) (λ x. interface_boots l x (Got d ∷ items)) k))
    (listed same_source l.sources (record { stream = stream_of d; id = id } ∷ sources_of l (Got d ∷ items))) interfaces.ledgers
    → unlisted same_source l.sources (record { stream = stream_of d; id = id } ∷ sources_of l (Got d ∷ items))
    ≡ unlisted same_source l.sources (sources_of l (Got d ∷ items)) + (if found then 0 else 1)
    → StandsFor s l (Got d ∷ items)
    → StandsFor (record s { sources = sources; interfaces = interfaces; totals = with_listed s.totals unlisted_now }) l
    (Got (with_sample d (sample_with id r carried)) ∷ items)
of-stands s l items d id r carried n table interfaces found unlisted_now first is count_now limit now room pairs counted st =
    let source : Source = record { stream = stream_of d; id = id } in
    let x : Sample = sample_with id r carried in
    let p : PlacedReading = record { place = record { datagram = n; index = length d.samples }; reading = r } in
    let sources : sources_of l (Got (with_sample d x) ∷ items) ≡ source ∷ sources_of l (Got d ∷ items) =
    sources-one_more l items d x first
    ∙ ap (λ o. cons_option o (sources_of l (Got d ∷ items))) (source-with (stream_of d) id r carried) in
    let more = entered-one_more l items d x first in
    let other : count_by (λ (e : Entered). is_other e.sample) (entered l (Got d ∷ items))
    ≡ count_by (λ (e : Entered). is_other e.sample) (entered_in (stream_of d) x ∷ entered l (Got d ∷ items)) =
    sym (count_by-no (λ (e : Entered). is_other e.sample) (entered_in (stream_of d) x) (entered l (Got d ∷ items))
    (other-not id r carried)) in
    let boots : after_reading source p (λ k. placed_boots l k (Got d ∷ items))
    ≡ (λ k. placed_boots l k (Got (with_sample d x) ∷ items)) =
    λ j k. source-boots-of l items d id r carried n k first is j in
    let malformed = count-same items d (d.samples ++ x ∷ []) in
    let fault = fault-same l items d (d.samples ++ x ∷ []) in
    record {
      limits_are = st.limits_are;
      stream_limit = st.stream_limit;
      source_limit = limit ∙ st.source_limit;
      streams_stand = streams-same l s.streams.entries items d (d.samples ++ x ∷ []) st.streams_stand;
      sources_stand =
          let P : List Source → Type 0 = λ arrived. SourcesStand (listed_streams l (Got d ∷ items)) l.sources l.sample_width table.entries arrived
          (after_reading source p (λ k. placed_boots l k (Got d ∷ items))) in
          let Q : (Source → List (List PlacedReading)) → Type 0 = λ boots_of. SourcesStand (listed_streams l (Got d ∷ items)) l.sources l.sample_width
          table.entries (sources_of l (Got (with_sample d x) ∷ items)) boots_of in
          subst Q boots (subst P (sym sources) now);
      interface_limit = room ∙ st.interface_limit;
      interfaces_stand =
          let P : List Source → Type 0 = λ arrived. ArePaired (λ k ledger. StandsForBoots l.sample_width ledger (after_one source
          (seen_of d n r carried) (λ y. interface_boots l y (Got d ∷ items)) k)) (listed same_source l.sources arrived) interfaces.ledgers in
          let Q : (Source → List (List InterfaceSample)) → Type 0 = λ boots_of. ArePaired
          (λ k ledger. StandsForBoots l.sample_width ledger (boots_of k))
          (listed same_source l.sources (sources_of l (Got (with_sample d x) ∷ items))) interfaces.ledgers in
          subst Q (λ j k. interface-boots-of l items d id r carried n k first is j) (subst P (sym sources) pairs);
      totals_are = (λ j. with_listed (st.totals_are j)
          ((count_now ∙ (λ i. (st.totals_are i).unlisted_samples + (if found then 0 else 1))) j)) ∙ (λ j. record {
            entries = length (Got d ∷ items);
            malformed = malformed j;
            unlisted = (totals l (Got d ∷ items)).unlisted;
            unlisted_samples = (sym counted ∙ (λ i. unlisted same_source l.sources (sym sources i))) j;
            other = (other ∙ (λ i. count_by (λ (e : Entered). is_other e.sample) (sym more i))) j;
            first_fault = fault j;
          });
    }

-- ---- nothing

abbrev pub no_totals : Totals
no_totals = record { entries = 0; malformed = 0; unlisted = 0; unlisted_samples = 0; other = 0; first_fault = None }

pub opened-stands : (l : Limits) (streams : Table StreamKey StreamState) (sources : Table SourceKey SourceRecord)
    (interfaces : Ledgers) → streams.entries ≡ [] → streams.limit ≡ l.streams → sources.entries ≡ [] → sources.limit ≡ l.sources
    → interfaces.ledgers ≡ [] → interfaces.limit ≡ l.sources
    → StandsFor (record { limits = l; streams = streams; sources = sources; interfaces = interfaces; totals = no_totals }) l []
opened-stands l streams sources interfaces no_streams stream_room no_sources source_room no_interfaces interface_room =
    let P : List (StreamKey × StreamState) → Type 0 = λ entries. StreamsStand l entries [] in
    let Q : List (SourceKey × SourceRecord) → Type 0 = λ entries.
    SourcesStand (listed_streams l []) l.sources l.sample_width entries (sources_of l []) (λ k. placed_boots l k []) in
    let R : List Source → List IfState → Type 0 = λ keys ledgers.
    ArePaired (λ k ledger. StandsForBoots l.sample_width ledger (interface_boots l k [])) keys ledgers in
    let S : List IfState → Type 0 = λ ledgers. R (listed_sources l []) ledgers in
    let T : List Source → Type 0 = λ keys. R keys [] in
    record {
      limits_are = refl;
      stream_limit = stream_room;
      source_limit = source_room;
      streams_stand = subst P (sym no_streams) (record { keys_are = none l.streams; each = tt });
      sources_stand = subst Q (sym no_sources)
          (record { placed = tt; table = record { keys_are = none l.sources; each = tt } });
      interface_limit = interface_room;
      interfaces_stand = subst S (sym no_interfaces) (subst T (none l.sources) tt);
      totals_are = refl;
    }
  where
    none : {X : Type 0} (n : ℕ) → ◌≡◌ {A = List X} [] (take n [])
    none zero = refl
    none (suc n) = refl
