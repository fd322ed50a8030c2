-- A sample that is begun is filled with its records, one after the other.
use Rattle.std.proofs.Common.{◌≡◌, ℕ, ◌+◌, ◌<◌, ◌≤◌, ◌%◌, min, List, ◌∷◌, length, Option, Some, None, is_some, true, Result, Ok, Err, refl, sym, ap, subst, ◌∙◌, arith}
use Rattle.std.specs.Prelude.{IfOk, IfErr}
use Rattle.std.proofs.lemmas.List.{length-append}
use Rattle.wire_spec.specs.Heads.{Head, datagram_tree}
use Rattle.wire_spec.specs.Shapes.{Tree, Trees, none, ◌&◌}
use Rattle.wire_spec.specs.Spelling.{padded, spell, spell_all}
use Rattle.xdr_words.specs.declared.writer.OutFull.{OutFull}
use Rattle.xdr_words.proofs.Puts.{alike_behind}
use Rattle.data_format.specs.Trees.{frame_trees}
use Rattle.data_format.specs.Views.{FrameView}
use Rattle.datagram_core.specs.Records.{record_tree, table_of, IsRecordOf}
use Rattle.datagram_core.specs.declared.records.Record.{Record}
use Rattle.datagram_core.specs.Written.{Begun, and_then, joined, filled, begun_bytes, with_record, closed_sample}
use Rattle.datagram_core.specs.Writers.{most_of, left_of, KeepsBehind, OfKind, IsOpen, IsOpenFor, HasBegun, Has, SameRoom, Adds}
use Rattle.datagram_core.specs.declared.records.RecordKind.{RecordKind}
use Rattle.datagram_core.specs.declared.writer.DatagramWriter.{DatagramWriter}
use Rattle.datagram_core.specs.declared.writer.OpenSample.{OpenSample}
use Rattle.datagram_core.proofs.Sizes.{joined_size, one_more, inside, closed_least, closed_size}
use Rattle.datagram_core.proofs.WriterSteps.{size_so_far, nested_in, begun_is}

-- ---- the kind of what is begun

pub is_open_for : (kind : RecordKind) (w : DatagramWriter) → IsOpenFor kind w → IsOpen w
is_open_for kind w h = opened w.begun h
  where
    opened : (b : Option OpenSample) → OfKind kind b → is_some b ≡ true
    opened None h = absurd h
    opened (Some o) h = refl

pub one_kind : (j k : RecordKind) (w : DatagramWriter) → IsOpenFor j w → IsOpenFor k w → j ≡ k
one_kind j k w one two = same w.begun one two
  where
    same : (b : Option OpenSample) → OfKind j b → OfKind k b → j ≡ k
    same None one two = absurd one
    same (Some o) one two = sym one ∙ two

begun_sample : (kind : RecordKind) (w : DatagramWriter) → IsOpenFor kind w → (o : OpenSample) × (w.begun ≡ Some o)
begun_sample kind w h = sample w.begun h
  where
    sample : (b : Option OpenSample) → OfKind kind b → (o : OpenSample) × (b ≡ Some o)
    sample None h = absurd h
    sample (Some o) h = (o, refl)

-- ---- the room of the writer

pub same_room : (a b c : DatagramWriter) → SameRoom a b → SameRoom b c → SameRoom a c
same_room a b c one two = record {
  same = two.same ∙ one.same;
  size = two.size ∙ one.size;
  more = omega (arith, one.more, two.more);
  behind = two.behind ∙ alike_behind b.len c.len b.room.now a.room.now two.more one.behind;
}

pub own_room : (a : DatagramWriter) → SameRoom a a
own_room a = record { same = refl; size = refl; more = omega arith; behind = refl }

-- what a writer keeps behind what is written, those after it keep
pub kept_on : (bytes : List ℕ) (a b : DatagramWriter) → KeepsBehind bytes a → SameRoom a b → KeepsBehind bytes b
kept_on bytes a b one two = two.behind ∙ alike_behind a.len b.len a.room.now bytes two.more one

pub adds_room : (a b : DatagramWriter) (r : Result Unit OutFull) (n : ℕ) → Adds a b r n → SameRoom a b
adds_room a b (Ok u) n h = record {
  same = h.same;
  size = h.size;
  more = omega (arith, h.fits, h.left, h.size, a.within, a.most, b.within, b.most);
  behind = h.behind;
}
adds_room a b (Err e) n h =
    let P : DatagramWriter → Type 0 = SameRoom a in subst P (sym h.same) (own_room a)

pub if_err : {X E Q : Type 0} (r : Result X E) → Q → IfErr r (λ e. Q)
if_err (Ok u) q = tt
if_err (Err e) q = q

-- ---- while records are pushed

-- of all the records those in front are pushed, and these are left
pub record IsFilling (start now : DatagramWriter) (kind : RecordKind) (all rest : Trees) : Type 0 where
  pub room : SameRoom start now
  pub begun : IsOpenFor kind now
  pub front : Trees
  pub parts : joined front rest ≡ all
  pub has : (h : Head) (samples : Trees) (s : Begun) → HasBegun start h samples s → s.records ≡ none
      → HasBegun now h samples (filled s front)

pub filling_start : (w : DatagramWriter) (kind : RecordKind) (all : Trees) → IsOpenFor kind w → IsFilling w w kind all all
filling_start w kind all begun = record {
  room = own_room w;
  begun = begun;
  front = none;
  parts = refl;
  has = λ h samples s has empty.
      let P : Trees → Type 0 = λ ts. HasBegun w h samples (filled s ts) in subst P empty has;
}

pub joined_next : (front : Trees) (t : Tree) (rest : Trees) → joined (and_then front t) rest ≡ joined front (t & rest)
joined_next none t rest = refl
joined_next (u & front) t rest = ap (λ ts. u & ts) (joined_next front t rest)

pub filling_step : (start now new : DatagramWriter) (kind : RecordKind) (all : Trees) (t : Tree) (rest : Trees)
    → IsFilling start now kind all (t & rest) → SameRoom now new → IsOpenFor kind new
    → ((h : Head) (samples : Trees) (s : Begun) → HasBegun now h samples s → HasBegun new h samples (with_record s t))
    → IsFilling start new kind all rest
filling_step start now new kind all t rest f room begun pushed = record {
  room = same_room start now new f.room room;
  begun = begun;
  front = and_then f.front t;
  parts = joined_next f.front t rest ∙ f.parts;
  has = λ h samples s has empty. pushed h samples (filled s f.front) (f.has h samples s has empty);
}

-- the next of the frames is this record
pub filling_next : (start now : DatagramWriter) (kind first : RecordKind) (all : Trees) (old new : List FrameView) (r : Record)
    → IsFilling start now first all (frame_trees (table_of first) old) → kind ≡ first
    → ((f : FrameView) × (old ≡ f ∷ new) × IsRecordOf kind f r)
    → IsFilling start now first all (record_tree r & frame_trees (table_of first) new)
filling_next start now kind first all old new r filling same (f, parts, of) =
    let T = table_of first in
    let P : Trees → Type 0 = IsFilling start now first all in
    let Q : RecordKind → Type 0 = λ k. IsRecordOf k f r in
    let this : IsRecordOf first f r = subst Q same of in
    subst P (ap (λ (fs : List FrameView). frame_trees T fs) parts ∙ ap (λ t. t & frame_trees T new) (sym this.value)) filling

-- how many bytes there are
begun_size : (w : DatagramWriter) (h : Head) (ts : Trees) (s : Begun) → HasBegun w h ts s
    → w.len ≡ length (spell (datagram_tree h ts)) + 8 + inside s
begun_size w h ts s has = omega (
  arith,
  size_so_far w,
  ap length has.bytes,
  length-append (spell (datagram_tree h ts)) (begun_bytes s),
  length-append (spell_all s.head) (0 ∷ 0 ∷ 0 ∷ 0 ∷ spell_all s.records),
)

-- a record that doesn't fit doesn't fit with the whole sample
pub record_full : (start now : DatagramWriter) (kind : RecordKind) (all : Trees) (t : Tree) (rest : Trees) (tail : List ℕ)
    → IsFilling start now kind all (t & rest) → left_of now < length (spell t)
    → (h : Head) (samples : Trees) (s : Begun) → HasBegun start h samples s → s.records ≡ none
    → most_of start < length (spell (datagram_tree h (and_then samples (closed_sample (filled s all) tail))))
record_full start now kind all t rest tail f short h samples s has empty =
    omega (
      arith,
      short,
      now.within,
      now.most,
      f.room.size,
      begun_size now h samples (filled s f.front) (f.has h samples s has empty),
      ap (λ (ts : Trees). length (spell_all ts)) f.parts,
      joined_size f.front (t & rest),
      length-append (spell t) (spell_all rest),
      one_more h samples (closed_sample (filled s all) tail),
      closed_least (filled s all) tail,
    )

pub joined_none : (front all : Trees) → joined front none ≡ all → front ≡ all
joined_none front all e = sym (alone front) ∙ e
  where
    alone : (ts : Trees) → joined ts none ≡ ts
    alone none = refl
    alone (t & ts) = ap (λ us. t & us) (alone ts)

-- nor does a tail
pub tail_full : (start now : DatagramWriter) (kind : RecordKind) (all : Trees) (o : OpenSample) (tail : List ℕ)
    → IsFilling start now kind all none → now.begun ≡ Some o → left_of now < length (padded tail)
    → (h : Head) (samples : Trees) (s : Begun) → HasBegun start h samples s → s.records ≡ none
    → most_of start < length (spell (datagram_tree h (and_then samples (closed_sample (filled s all) tail))))
tail_full start now kind all o tail f is short h samples s has empty =
    let begun = f.has h samples s has empty in
    let size = begun_size now h samples (filled s f.front) begun in
    let all_of_them = joined_none f.front all f.parts in
    let records : length (spell_all f.front) ≡ length (spell_all all) = ap (λ (ts : Trees). length (spell_all ts)) all_of_them in
    let at : o.start ≡ length (spell (datagram_tree h samples)) =
    ap (λ (o : OpenSample). o.start) (begun_is now o h samples (filled s f.front) begun is) in
    let words : inside (filled s all) % 4 ≡ 0 = omega (arith, size, records, at, now.words, (nested_in now o is).3) in
    omega (
      arith,
      short,
      now.within,
      now.most,
      f.room.size,
      size,
      records,
      one_more h samples (closed_sample (filled s all) tail),
      closed_size (filled s all) tail words,
    )

-- the answer of the call that closes it
module _ (start now new : DatagramWriter) (kind : RecordKind) (all rest : Trees) (tail : List ℕ) (r : Result Unit OutFull)
    (f : IsFilling start now kind all rest) (empty : rest ≡ none) where
  abbrev filled_up : IsFilling start now kind all none
  filled_up = let P : Trees → Type 0 = IsFilling start now kind all in subst P empty f

  pub end_has : ((h : Head) (samples : Trees) (s : Begun) → HasBegun now h samples s
      → IfOk r (λ u. Has new h (and_then samples (closed_sample s tail))))
      → (h : Head) (samples : Trees) (s : Begun) → HasBegun start h samples s → s.records ≡ none
      → IfOk r (λ u. Has new h (and_then samples (closed_sample (filled s all) tail)))
  end_has closed h samples s has begun =
      let g = filled_up in
      let P : Trees → Type 0 = λ ts. IfOk r (λ u. Has new h (and_then samples (closed_sample (filled s ts) tail))) in
      subst P (joined_none g.front all g.parts) (closed h samples (filled s g.front) (g.has h samples s has begun))

  pub end_full : Adds now new r (length (padded tail))
      → (h : Head) (samples : Trees) (s : Begun) → HasBegun start h samples s → s.records ≡ none
      → IfErr r (λ e. most_of start < length (spell (datagram_tree h (and_then samples (closed_sample (filled s all) tail)))))
  end_full adds h samples s has begun = by_answer r adds
    where
      by_answer : (r : Result Unit OutFull) → Adds now new r (length (padded tail))
          → IfErr r (λ e. most_of start
          < length (spell (datagram_tree h (and_then samples (closed_sample (filled s all) tail)))))
      by_answer (Ok u) adds = tt
      by_answer (Err e) adds =
          let (o, is) = begun_sample kind now f.begun in
          tail_full start now kind all o tail filled_up is adds.short h samples s has begun

-- one of them is no longer than all
pub one_of_all : (front : Trees) (t : Tree) (rest all : Trees) (n : ℕ) → joined front (t & rest) ≡ all
    → length (spell_all all) ≤ n → length (spell t) ≤ n
one_of_all front t rest all n parts most = omega (
  arith,
  most,
  ap (λ (ts : Trees). length (spell_all ts)) parts,
  joined_size front (t & rest),
  length-append (spell t) (spell_all rest),
)

-- ---- samples that don't fit

held_size : (w : DatagramWriter) (h : Head) (ts : Trees) → Has w h ts → w.len ≡ length (spell (datagram_tree h ts))
held_size w h ts has = sym (size_so_far w) ∙ ap length has.bytes

-- the front of a sample doesn't fit
pub front_full : (w : DatagramWriter) (h : Head) (ts : Trees) (s : Begun) (all : Trees) (tail : List ℕ) → Has w h ts
    → s.records ≡ none → left_of w < length (begun_bytes s)
    → most_of w < length (spell (datagram_tree h (and_then ts (closed_sample (filled s all) tail))))
front_full w h ts s all tail has empty short = omega (
  arith,
  short,
  w.within,
  w.most,
  held_size w h ts has,
  length-append (spell_all s.head) (0 ∷ 0 ∷ 0 ∷ 0 ∷ spell_all s.records),
  ap (λ (ts : Trees). length (spell_all ts)) empty,
  one_more h ts (closed_sample (filled s all) tail),
  closed_least (filled s all) tail,
)

-- a sample that is kept as it is doesn't fit
pub kept_full : (w new : DatagramWriter) (r : Result Unit OutFull) (h : Head) (ts : Trees) (t : Tree)
    → Adds w new r (length (spell t)) → Has w h ts
    → IfErr r (λ e. most_of w < length (spell (datagram_tree h (and_then ts t))))
kept_full w new (Ok u) h ts t adds has = tt
kept_full w new (Err e) h ts t adds has =
    omega (arith, adds.short, w.within, w.most, held_size w h ts has, one_more h ts t)

-- what is written of a sample is so of an equal one
module _ (w new : DatagramWriter) (r : Result Unit OutFull) (h : Head) (ts : Trees) (t u : Tree) (same : t ≡ u) where
  pub has_same : IfOk r (λ v. Has new h (and_then ts t)) → IfOk r (λ v. Has new h (and_then ts u))
  has_same p = let P : Tree → Type 0 = λ t. IfOk r (λ v. Has new h (and_then ts t)) in subst P same p

  pub full_same : (v : DatagramWriter) → SameRoom w v
      → IfErr r (λ e. most_of v < length (spell (datagram_tree h (and_then ts t))))
      → IfErr r (λ e. most_of w < length (spell (datagram_tree h (and_then ts u))))
  full_same v room p =
      let P : Tree → ℕ → Type 0 = λ t n. IfErr r (λ e. n < length (spell (datagram_tree h (and_then ts t)))) in
      let most : most_of v ≡ most_of w = ap (λ (n : ℕ). min 65535 n) room.size in
      let Q : ℕ → Type 0 = P u in
      let R : Tree → Type 0 = λ t. P t (most_of v) in
      subst Q most (subst R same p)
