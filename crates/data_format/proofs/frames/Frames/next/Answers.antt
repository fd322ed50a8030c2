use Rattle.std.proofs.Common.{◌≡◌, ◌∙◌, sym, Ok, Err}
use Rattle.wire_spec.specs.Fails.{Remaining}
use Rattle.xdr_words.specs.Readers.{remaining}
use Rattle.data_format.specs.Frames.{frame_at}
use Rattle.data_format.specs.Views.{frame_view}
use Rattle.data_format.proofs.Again.{next_given, next_there, none_left}
use Rattle.data_format.proofs.frames.Frames.next.Goals as goal

pub returns-then-self-eq0-clause-none : goal.returns-then-self-eq0-clause-none
returns-then-self-eq0-clause-none c =
    let b : Remaining = record { at = c.self.inside.at; bytes = c.self.inside.rest.now } in
    let nothing = sym c.self.view_is ∙ none_left c.self.inside.count b c.if-self-eq0.true in
    (nothing, nothing)

pub invariant_of-self : goal.invariant_of-self
invariant_of-self c =
    let b : Remaining = record { at = c.self.inside.at; bytes = c.self.inside.rest.now } in
    let left = remaining c.read_frame.new.cursor in
    let e : frame_at b ≡ Ok (frame_view c.in-Ok.frame, left) = rw c.within-cursor.ensures at c.in-Ok.ensures.exact.0 in
    let f = frame_view c.in-Ok.frame in
    let given = next_given c.self.inside.count b left f c.if-self-eq0.false e c.self.invariant.1 in
    rw (c.at-self-inside.ensures.place, c.rest-self-inside.ensures) (c.at-self-inside.ensures.end, given.0)

pub unreachable-requires : goal.unreachable-requires
unreachable-requires c =
    let b : Remaining = record { at = c.self.inside.at; bytes = c.self.inside.rest.now } in
    let e : frame_at b ≡ Err c.in-Err.field-0 = rw c.within-cursor.ensures at c.in-Err.ensures.exact.0 in
    next_there c.self.inside.count b c.in-Err.field-0 c.if-self-eq0.false e c.self.invariant.1

pub returns-clause-some : goal.returns-clause-some
returns-clause-some c =
    let b : Remaining = record { at = c.self.inside.at; bytes = c.self.inside.rest.now } in
    let left = remaining c.read_frame.new.cursor in
    let e : frame_at b ≡ Ok (frame_view c.in-Ok.frame, left) = rw c.within-cursor.ensures at c.in-Ok.ensures.exact.0 in
    let f = frame_view c.in-Ok.frame in
    let given = next_given c.self.inside.count b left f c.if-self-eq0.false e c.self.invariant.1 in
    rw (c.at-self-inside.ensures.place, c.rest-self-inside.ensures) (sym c.self.view_is ∙ given.1)
