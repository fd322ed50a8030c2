use Rattle.std.proofs.Common.{rules, ◌≡◌, ◌<◌, List, length, ap, ◌∙◌, arith}
use Rattle.wire_spec.specs.Heads.{Head, datagram_tree}
use Rattle.wire_spec.specs.Shapes.{Tree}
use Rattle.wire_spec.specs.Spelling.{spell}
use Rattle.xdr_words.proofs.Puts.{alike_behind}
use Rattle.data_format.specs.Trees.{frame_trees}
use Rattle.data_format.specs.Views.{FrameView}
use Rattle.datagram_core.specs.Heads.{head_of}
use Rattle.datagram_core.specs.Tables.{samples_read}
use Rattle.datagram_core.specs.Trees.{tree_of}
use Rattle.datagram_core.specs.Writers.{most_of}
use Rattle.datagram_core.proofs.Filling.{kept_on}
use Rattle.datagram_core.proofs.rewriting.write_anew.Goals as goal

pub returns-in-Ok-clause-length : goal.returns-in-Ok-clause-length
returns-in-Ok-clause-length c =
    let h = head_of c.head-head.result in
    let ts = frame_trees samples_read c.samples.result in
    let same : datagram_tree h ts ≡ tree_of c.args.datagram.now =
    ap (λ (h : Head). datagram_tree h (frame_trees samples_read c.samples.result)) c.head-head.ensures
    ∙ ap (λ (fs : List FrameView). datagram_tree c.args.datagram.now.head (frame_trees samples_read fs)) c.samples.ensures.exact in
    c.finish.ensures.length h ts (c.in-Ok.ensures.has h c.start-writer.ensures.has) ∙ ap (λ (t : Tree). length (spell t)) same

pub returns-in-Ok-clause-kept : goal.returns-in-Ok-clause-kept
returns-in-Ok-clause-kept c =
    search (
      rules,
      c.finish.ensures.behind c.args.room.now
          (kept_on c.args.room.now c.start-writer.result c.write_samples.new.writer c.start-writer.ensures.behind c.write_samples.ensures.room),
    )

pub returns-in-Ok-clause-behind : goal.returns-in-Ok-clause-behind
returns-in-Ok-clause-behind c =
    search (
      rules,
      alike_behind c.finish.result 65535 _ c.args.room.now c.finish.ensures.most (c.finish.ensures.behind c.args.room.now
          (kept_on c.args.room.now c.start-writer.result c.write_samples.new.writer c.start-writer.ensures.behind c.write_samples.ensures.room)),
    )

pub returns-in-Err-clause-full : goal.returns-in-Err-clause-full
returns-in-Err-clause-full c =
    let t = datagram_tree (head_of c.head-head.result) (frame_trees samples_read c.samples.result) in
    let same : t ≡ tree_of c.args.datagram.now =
    ap (λ (h : Head). datagram_tree h (frame_trees samples_read c.samples.result)) c.head-head.ensures
    ∙ ap (λ (fs : List FrameView). datagram_tree c.args.datagram.now.head (frame_trees samples_read fs)) c.samples.ensures.exact in
    let short : most_of c.start-writer.result < length (spell t) =
    c.in-Err.ensures.full (head_of c.head-head.result) c.start-writer.ensures.has in
    omega (arith, short, ap (λ (t : Tree). length (spell t)) same, c.start-writer.ensures.size, c.samples.ensures.short)

pub returns-in-Err-clause-behind : goal.returns-in-Err-clause-behind
returns-in-Err-clause-behind c =
    let writer = c.write_samples.new.writer in
    search (
      rules,
      alike_behind writer.len 65535 writer.room.now c.args.room.now writer.most
          (kept_on c.args.room.now c.start-writer.result writer c.start-writer.ensures.behind c.write_samples.ensures.room),
    )
