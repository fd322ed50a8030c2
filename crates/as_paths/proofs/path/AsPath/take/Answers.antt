use Rattle.std.proofs.Common.{◌≡◌, ◌-◌, ◌∙◌, List, take, length, Result, Ok, refl, sym, ap, arith}
use Rattle.std.proofs.lemmas.List.{length-take-le}
use Rattle.wire_spec.specs.declared.fault.Fault.{Fault}
use Rattle.wire_spec.specs.Fails.{Remaining}
use Rattle.xdr_words.specs.Readers.{remaining}
use Rattle.as_paths.specs.declared.segment.Segment.{Segment}
use Rattle.as_paths.proofs.Paths.{path_taken}
use Rattle.as_paths.proofs.path.AsPath.take.Goals as goal

pub slice_bounds-bytes-count : goal.slice_bounds-bytes-count
slice_bounds-bytes-count c =
    let ok = c.in_ok-pass_segments.ensures.ok in
    let b = remaining c.fork-next.result in
    let end = remaining c.pass_segments.new.cursor in
    let taken = path_taken c.args.count b end ok.0 (take (end.at - b.at) b.bytes) c.at-from.ensures.bytes ok.1 refl in
    omega (arith, taken.from, c.at.ensures.place, c.at-from.ensures.place)

pub slice_bounds-bytes-length : goal.slice_bounds-bytes-length
slice_bounds-bytes-length c =
    let ok = c.in_ok-pass_segments.ensures.ok in
    let b = remaining c.fork-next.result in
    let end = remaining c.pass_segments.new.cursor in
    let taken = path_taken c.args.count b end ok.0 (take (end.at - b.at) b.bytes) c.at-from.ensures.bytes ok.1 refl in
    sym (length-take-le (c.at.result - c.at-from.result) c.rest-rest.result.now
    (omega (arith, taken.to, c.at.ensures.place, c.at-from.ensures.place, ap length c.rest-rest.ensures)))

pub invariant_of-result : goal.invariant_of-result
invariant_of-result c =
    let ok = c.in_ok-pass_segments.ensures.ok in
    let b = remaining c.fork-next.result in
    let end = remaining c.pass_segments.new.cursor in
    let cut = take (c.at.result - c.at-from.result) c.rest-rest.result.now in
    let same : cut ≡ take (end.at - b.at) b.bytes = rw (c.at.ensures.place, c.at-from.ensures.place, c.rest-rest.ensures) refl in
    let taken = path_taken c.args.count b end ok.0 cut c.at-from.ensures.bytes ok.1 same in
    (omega (arith, taken.short, c.at-from.ensures.end), taken.all, taken.segments)

pub returns : goal.returns
returns c =
    let ok = c.in_ok-pass_segments.ensures.ok in
    let b = remaining c.fork-next.result in
    let end = remaining c.pass_segments.new.cursor in
    let cut = take (c.at.result - c.at-from.result) c.rest-rest.result.now in
    let same : cut ≡ take (end.at - b.at) b.bytes = rw (c.at.ensures.place, c.at-from.ensures.place, c.rest-rest.ensures) refl in
    let taken = path_taken c.args.count b end ok.0 cut c.at-from.ensures.bytes ok.1 same in
    let answer : List Segment → Result (List Segment × Remaining) Fault = λ xs. Ok (xs, end) in
    let read = rw c.fork-next.ensures at ok.1 in
    (read ∙ ap answer (sym taken.these), rw c.fork-next.ensures at c.in_ok-pass_segments.ensures.pad)
