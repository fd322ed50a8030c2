use Rattle.std.specs.Prelude.{ℕ, List}
use Rattle.wire_spec.specs.Bodies.{IsPaddingOf}
use Rattle.wire_spec.specs.Reading.{body_end_at}
use Rattle.wire_spec.proofs.Bodies.{FailsPaddingOf, body_end_so}
use Rattle.xdr_words.specs.Items.{fault_of}
use Rattle.xdr_words.specs.Readers.{remaining}
use Rattle.xdr_words.proofs.Said.{so_value, so_fault}
use Rattle.xdr_words.proofs.cursor.Cursor.body_end.Goals as goal

pub returns-clause-spelled : goal.returns-clause-spelled
returns-clause-spelled c =
    let old = c.args.self.now in
    let p = old.pad in
    let n = c.args.length in
    so_value _ fault_of (λ (u : Unit {0}) (a : List ℕ). IsPaddingOf p n a) (FailsPaddingOf p n) old _
    (body_end_at p n (remaining old)) (body_end_so p n (remaining old) c.requires.there)
    c.take_padding.result c.take_padding.ensures

pub returns-clause-fault : goal.returns-clause-fault
returns-clause-fault c =
    let old = c.args.self.now in
    let p = old.pad in
    let n = c.args.length in
    so_fault _ fault_of (λ (u : Unit {0}) (a : List ℕ). IsPaddingOf p n a) (FailsPaddingOf p n) old _
    (body_end_at p n (remaining old)) (body_end_so p n (remaining old) c.requires.there)
    c.take_padding.result c.take_padding.ensures
