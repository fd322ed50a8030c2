-- The frames so far are read, and those that are left make up what is read in all.
use Rattle.std.proofs.Common.{◌≡◌, ◌-◌}
use Rattle.wire_spec.specs.Bodies.{items_at}
use Rattle.wire_spec.proofs.Runs.{IsUnderWay}
use Rattle.xdr_words.specs.Readers.{remaining}
use Rattle.data_format.specs.Frames.{checked_at}
use Rattle.data_format.proofs.frames.Frames.take.Given as goal

abbrev pub invariant-loop : goal.invariant-loop
invariant-loop g l =
    let each = checked_at l.pad (λ f. g.C.BodyCheck.test l.check l.pad f) in
    let all = items_at each l.count (record { at = l.at; bytes = l.rest }) in
    record {
      same_pad : l.pad ≡ l.next.pad;
      under_way : IsUnderWay each (l.count - l.counter) (remaining l.next) all;
    }
