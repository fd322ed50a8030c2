use Rattle.std.proofs.Common.{◌≡◌, ◌∙◌, sym, Ok, Err, arith}
use Rattle.wire_spec.specs.Whole.{from_start}
use Rattle.xdr_words.specs.Readers.{remaining}
use Rattle.as_paths.specs.Paths.{segment_at}
use Rattle.as_paths.proofs.Paths.{next_given, segment_is_there, no_segments}
use Rattle.as_paths.proofs.path.AsPath.next.Goals as goal

pub returns-then-self-eq0-clause-none : goal.returns-then-self-eq0-clause-none
returns-then-self-eq0-clause-none c =
    let nothing = sym c.self.view_is ∙ no_segments c.self.inside.count c.self.inside.bytes.now c.if-self-eq0.true in
    (nothing, nothing)

pub invariant_of-self : goal.invariant_of-self
invariant_of-self c =
    let bytes = c.self.inside.bytes.now in
    let left = remaining c.read.new.cursor in
    let e : segment_at (from_start bytes) ≡ Ok (c.in-Ok.segment, left) = rw c.new-cursor.ensures at c.in-Ok.ensures.0 in
    let given = next_given c.self.inside.count bytes c.in-Ok.segment left c.if-self-eq0.false c.self.invariant.1 c.self.invariant.2 e in
    rw c.rest-self-inside.ensures (omega (arith, given.short, c.self.invariant.0), given.all, given.others)

pub unreachable-requires : goal.unreachable-requires
unreachable-requires c =
    let bytes = c.self.inside.bytes.now in
    let e : segment_at (from_start bytes) ≡ Err c.in-Err.field-0 = rw c.new-cursor.ensures at c.in-Err.ensures.0 in
    segment_is_there c.self.inside.count bytes c.in-Err.field-0 c.if-self-eq0.false c.self.invariant.2 e

pub returns-clause-some : goal.returns-clause-some
returns-clause-some c =
    let bytes = c.self.inside.bytes.now in
    let left = remaining c.read.new.cursor in
    let e : segment_at (from_start bytes) ≡ Ok (c.in-Ok.segment, left) = rw c.new-cursor.ensures at c.in-Ok.ensures.0 in
    let given = next_given c.self.inside.count bytes c.in-Ok.segment left c.if-self-eq0.false c.self.invariant.1 c.self.invariant.2 e in
    rw c.rest-self-inside.ensures (sym c.self.view_is ∙ given.first)
