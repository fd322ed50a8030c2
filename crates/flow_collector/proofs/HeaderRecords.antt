-- The headers among the records of a flow sample, as they go to the consumers.
use Rattle.std.proofs.Common.{◌≡◌, ◌∙◌, Bool, true, false, List, [], ◌∷◌, ◌++◌, map, refl, sym, ap, subst, true≢false}
use Rattle.std.specs.Prelude.{Option, Some, None}
use Rattle.std.proofs.lemmas.List.{append_assoc, append-nil, map-append}
use Rattle.data_format.specs.Trees.{frame_tree, frame_trees}
use Rattle.data_format.specs.Views.{FrameView}
use Rattle.datagram_core.specs.declared.records.Record.{Record}
use Rattle.datagram_core.specs.declared.records.Record.TheVariants as records
use Rattle.datagram_core.specs.declared.records.RecordKind.{RecordKind}
use Rattle.datagram_core.specs.declared.records.RecordKind.TheVariants as kinds
use Rattle.datagram_core.specs.declared.sample.Sample.{Sample}
use Rattle.datagram_core.specs.declared.sample.Sample.TheVariants as samples
use Rattle.datagram_core.specs.Kinds.{HasKind}
use Rattle.datagram_core.specs.Records.{record_tree, IsRecordOf, records_of}
use Rattle.datagram_core.specs.Samples.{sample_tree, IsSampleOf}
use Rattle.datagram_core.specs.Tables.{flow_records_read, samples_read}
use Rattle.books_spec.specs.SampledHeaders.{SampledHeader}
use Rattle.sample_taps.specs.declared.brief.Brief.{Brief}
use Rattle.sample_taps.specs.Passing.{BriefingState, Passes}
use Rattle.sample_taps.proofs.Passings.{passes_none, passes_more}
use Rattle.flow_collector.specs.Headers.{header_in, headers_among, headers_of, is_flow_sample}

-- ---- one record

abbrev is_flow : RecordKind → Bool
is_flow kinds.Flow = true
is_flow kinds.Counters = false
is_flow kinds.Unknown = false

not-counters : (A : Type 0) → ◌≡◌ {A = RecordKind} kinds.Counters kinds.Flow → A
not-counters A e = absurd (true≢false (sym (ap is_flow e)))

abbrev is_header : Record → Bool
is_header (records.RawHeader r) = true
is_header _ = false

-- one of another format has none
pub none-shown : (r : Record) → HasKind kinds.Flow r → is_header r ≡ false → [] ≡ header_in (record_tree r)
none-shown (records.RawHeader r) kind not = absurd (true≢false not)
none-shown (records.Ethernet r) kind not = refl
none-shown (records.Ipv4 r) kind not = refl
none-shown (records.Ipv6 r) kind not = refl
none-shown (records.Switch r) kind not = refl
none-shown (records.Router r) kind not = refl
none-shown (records.Gateway r) kind not = refl
none-shown (records.User r) kind not = refl
none-shown (records.Url r) kind not = refl
none-shown (records.Mpls r) kind not = refl
none-shown (records.Nat r) kind not = refl
none-shown (records.IfCounters r) kind not = not-counters _ kind
none-shown (records.EthernetCounters r) kind not = not-counters _ kind
none-shown (records.VlanCounters r) kind not = not-counters _ kind
none-shown (records.Processor r) kind not = not-counters _ kind
none-shown (records.Other frame) kind not = refl

-- ---- one sample

pub records-kind : (s : Sample) → is_flow_sample s ≡ true → (records_of s).kind ≡ kinds.Flow
records-kind (samples.Flow s) e = refl
records-kind (samples.Counters s) e = absurd (true≢false (sym e))
records-kind (samples.FlowX s) e = refl
records-kind (samples.CountersX s) e = absurd (true≢false (sym e))
records-kind (samples.Other frame) e = absurd (true≢false (sym e))

pub same-headers : (s : Sample) → is_flow_sample s ≡ true
    → headers_among (frame_trees flow_records_read (records_of s).frames) ≡ headers_of (sample_tree s)
unfolding headers_of
same-headers (samples.Flow s) e = refl
same-headers (samples.Counters s) e = absurd (true≢false (sym e))
same-headers (samples.FlowX s) e = refl
same-headers (samples.CountersX s) e = absurd (true≢false (sym e))
same-headers (samples.Other frame) e = absurd (true≢false (sym e))

pub no-headers : (s : Sample) → is_flow_sample s ≡ false → [] ≡ headers_of (sample_tree s)
unfolding headers_of
no-headers (samples.Flow s) e = absurd (true≢false e)
no-headers (samples.Counters s) e = refl
no-headers (samples.FlowX s) e = absurd (true≢false e)
no-headers (samples.CountersX s) e = refl
no-headers (samples.Other frame) e = refl

abbrev first_frame : List FrameView → Option FrameView
first_frame [] = None
first_frame (f ∷ rest) = Some f

same-frame : (f g : FrameView) (fs gs : List FrameView) → f ∷ fs ≡ g ∷ gs → f ≡ g
same-frame f g fs gs e = let both : Some f ≡ Some g = ap first_frame e in cc

-- the headers of the first sample that is left
pub headers-of-frame : (s : Sample) (all now rest : List FrameView) (f g : FrameView) → all ≡ g ∷ now → IsSampleOf g s
    → all ≡ f ∷ rest → headers_of (sample_tree s) ≡ headers_of (frame_tree samples_read f)
headers-of-frame s all now rest f g here of_frame there =
    ap headers_of (of_frame.value ∙ ap (frame_tree samples_read) (same-frame g f now rest (sym here ∙ there)))

pub no-frame : (A : Type 0) (all rest : List FrameView) (f : FrameView) → all ≡ [] → all ≡ f ∷ rest → A
no-frame A all rest f none there = absurd (let e : [] ≡ f ∷ rest = sym none ∙ there in cc)

-- ---- records so far

module _ {X : Type 0} (step : X → Brief → X → Type 0) (done : X → Bool) where
  -- the headers of the records that are no longer left went as briefs
  pub record Pushed (was now : BriefingState) (xs ys : List X) (brief : SampledHeader → Brief) (all left : List FrameView) : Type 0 where
    pub front : List SampledHeader
    pub parts : headers_among (frame_trees flow_records_read all) ≡ front ++ headers_among (frame_trees flow_records_read left)
    pub passes : Passes step done was xs (map brief front) now ys

  pub pushed-none : (s : BriefingState) (xs : List X) (brief : SampledHeader → Brief) (all : List FrameView)
      → Pushed s s xs xs brief all all
  pushed-none s xs brief all = record { front = []; parts = refl; passes = passes_none step done s xs }

  pub pushed-more : (was now new : BriefingState) (xs ys zs : List X) (brief : SampledHeader → Brief)
      (all left rest : List FrameView) (f : FrameView) (r : Record) → left ≡ f ∷ rest → IsRecordOf kinds.Flow f r
      → Pushed was now xs ys brief all left → Passes step done now ys (map brief (header_in (record_tree r))) new zs
      → Pushed was new xs zs brief all rest
  pushed-more was now new xs ys zs brief all left rest f r is of_frame so_far more =
      let own : List SampledHeader = header_in (record_tree r) in
      let behind : List SampledHeader = headers_among (frame_trees flow_records_read rest) in
      record {
        front = so_far.front ++ own;
        parts = so_far.parts ∙ ap (λ fs. so_far.front ++ headers_among (frame_trees flow_records_read fs)) is
            ∙ ap (λ t. so_far.front ++ (header_in t ++ behind)) (sym of_frame.value)
            ∙ sym (append_assoc so_far.front own behind);
        passes = subst (λ bs. Passes step done was xs bs new zs) (sym (map-append brief so_far.front own))
            (passes_more step done was now new xs ys zs (map brief so_far.front) (map brief own) so_far.passes more);
      }

  pub pushed-all : (was now : BriefingState) (xs ys : List X) (brief : SampledHeader → Brief) (all left : List FrameView)
      → left ≡ [] → Pushed was now xs ys brief all left
      → Passes step done was xs (map brief (headers_among (frame_trees flow_records_read all))) now ys
  pushed-all was now xs ys brief all left none so_far =
      let whole : so_far.front ≡ headers_among (frame_trees flow_records_read all) =
      sym (append-nil so_far.front)
      ∙ ap (λ fs. so_far.front ++ headers_among (frame_trees flow_records_read fs)) (sym none) ∙ sym so_far.parts in
      subst (λ hs. Passes step done was xs (map brief hs) now ys) whole so_far.passes

  -- the same briefs under another name
  pub passes-as : (was now : BriefingState) (xs ys : List X) (bs cs : List Brief) → bs ≡ cs
      → Passes step done was xs bs now ys → Passes step done was xs cs now ys
  passes-as was now xs ys bs cs same passes = subst (λ b. Passes step done was xs b now ys) same passes
