-- A datagram is written sample by sample.
use Rattle.std.proofs.Common.{◌≡◌, ◌<◌, ◌≤◌, List, ◌∷◌, length, refl, sym, ap, subst, ◌∙◌, arith}
use Rattle.std.proofs.lemmas.List.{length-append}
use Rattle.wire_spec.specs.Heads.{Head, datagram_tree}
use Rattle.wire_spec.specs.Shapes.{Tree, Trees, none, ◌&◌}
use Rattle.wire_spec.specs.Spelling.{spell, spell_all}
use Rattle.data_format.specs.Trees.{frame_trees}
use Rattle.data_format.specs.Views.{FrameView}
use Rattle.datagram_core.specs.Samples.{sample_tree, IsItself, HasFormat, IsSampleOf}
use Rattle.datagram_core.specs.Tables.{samples_read}
use Rattle.datagram_core.specs.declared.sample.Sample.{Sample}
use Rattle.datagram_core.specs.declared.sample.Sample.TheVariants as samples
use Rattle.datagram_core.specs.declared.writer.DatagramWriter.{DatagramWriter}
use Rattle.datagram_core.specs.Written.{and_then, joined}
use Rattle.datagram_core.specs.Writers.{most_of, IsClosed, Has, SameRoom}
use Rattle.datagram_core.proofs.Filling.{joined_next, joined_none, own_room, same_room}
use Rattle.datagram_core.proofs.Sizes.{joined_size, datagram_size, one_more}

-- of all the samples those in front are written, and these are left
pub record IsWriting (start w : DatagramWriter) (all rest : Trees) : Type 0 where
  pub room : SameRoom start w
  pub front : Trees
  pub parts : joined front rest ≡ all
  pub closed : IsClosed w
  pub has : (h : Head) → Has start h none → Has w h front

pub writing_start : (w : DatagramWriter) (all : Trees) → IsClosed w → IsWriting w w all all
writing_start w all closed = record {
  room = own_room w;
  front = none;
  parts = refl;
  closed = closed;
  has = λ h has. has;
}

-- the next of the frames is this sample
pub writing_next : (start w : DatagramWriter) (all : Trees) (old new : List FrameView) (s : Sample)
    → IsWriting start w all (frame_trees samples_read old)
    → ((f : FrameView) × (old ≡ f ∷ new) × IsSampleOf f s)
    → IsWriting start w all (sample_tree s & frame_trees samples_read new)
writing_next start w all old new s writing (f, parts, of) =
    let T = samples_read in
    let P : Trees → Type 0 = IsWriting start w all in
    subst P (ap (λ (fs : List FrameView). frame_trees T fs) parts ∙ ap (λ t. t & frame_trees T new) (sym of.value)) writing

-- a sample that is kept as its frame has the format of a word
pub has_format : (f : FrameView) (s : Sample) → IsItself f s → HasFormat s
has_format f (samples.Flow s) h = tt
has_format f (samples.Counters s) h = tt
has_format f (samples.FlowX s) h = tt
has_format f (samples.CountersX s) h = tt
has_format f (samples.Other frame) h = h.1

pub writing_step : (start now new : DatagramWriter) (all : Trees) (t : Tree) (rest : Trees)
    → IsWriting start now all (t & rest) → SameRoom now new → IsClosed new
    → ((h : Head) (ts : Trees) → Has now h ts → Has new h (and_then ts t))
    → IsWriting start new all rest
writing_step start now new all t rest w same closed has = record {
  room = same_room start now new w.room same;
  front = and_then w.front t;
  parts = joined_next w.front t rest ∙ w.parts;
  closed = closed;
  has = λ h begun. has h w.front (w.has h begun);
}

-- a sample isn't longer than the datagram
pub sample_short : (start w : DatagramWriter) (all : Trees) (t : Tree) (rest : Trees)
    → IsWriting start w all (t & rest) → length (spell_all all) ≤ 65535 → length (spell t) ≤ 65535
sample_short start w all t rest f most = omega (
  arith,
  most,
  ap (λ (ts : Trees). length (spell_all ts)) f.parts,
  joined_size f.front (t & rest),
  length-append (spell t) (spell_all rest),
)

-- a sample that doesn't fit doesn't fit with the whole datagram
pub sample_full : (start w : DatagramWriter) (all : Trees) (t : Tree) (rest : Trees) (h : Head) → IsWriting start w all (t & rest)
    → Has start h none
    → ((h : Head) (ts : Trees) → Has w h ts → most_of w < length (spell (datagram_tree h (and_then ts t))))
    → most_of start < length (spell (datagram_tree h all))
sample_full start w all t rest h f begun full = omega (
  arith,
  full h f.front (f.has h begun),
  f.room.size,
  datagram_size h all,
  datagram_size h f.front,
  one_more h f.front t,
  ap (λ (ts : Trees). length (spell_all ts)) f.parts,
  joined_size f.front (t & rest),
  length-append (spell t) (spell_all rest),
)

-- all of them are written
pub writing_end : (start w : DatagramWriter) (all rest : Trees) → IsWriting start w all rest → rest ≡ none
    → (h : Head) → Has start h none → Has w h all
writing_end start w all rest f empty h begun =
    let P : Trees → Type 0 = Has w h in
    let whole : joined f.front none ≡ all = ap (λ (ts : Trees). joined f.front ts) (sym empty) ∙ f.parts in
    subst P (joined_none f.front all whole) (f.has h begun)
