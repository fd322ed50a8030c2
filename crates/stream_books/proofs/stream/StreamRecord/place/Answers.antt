use Rattle.std.proofs.Common.{◌≡◌, ◌∙◌, ap, sym, to_z, of_z, ◌-ℤ◌, arith}
use Rattle.std.specs.Int.{w128}
use Rattle.std.proofs.lemmas.Int.{ints}
use Rattle.count_spec.specs.Boots.{place_at}
use Rattle.stream_books.specs.Streams.{stream_state}
use Rattle.stream_books.proofs.Steps.{place-later}
use Rattle.stream_books.proofs.stream.StreamRecord.place.Goals as goal

pub returns : goal.returns
returns c =
    let same : to_z w128 (of_z w128 (to_z w128 (of_z w128 c.args.start) -ℤ to_z w128 (of_z w128 c.self.inside.newest)))
    ≡ (c.args.start -ℤ c.self.inside.newest) =
    omega (arith, ints) in
    rw (← c.self.view_is) (c.place_of.ensures ∙ ap (place_at c.args.slack) same
    ∙ sym (place-later c.args.slack (stream_state c.self.inside) c.args.start c.boot.result c.boot.ensures.value
    c.if-boot-eq0.false))
