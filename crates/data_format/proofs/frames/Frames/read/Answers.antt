use Rattle.data_format.specs.Frames.{Test}
use Rattle.data_format.proofs.TableFrames.{array_spelled, array_fault, array_passes}
use Rattle.data_format.proofs.frames.Frames.read.Goals as goal

pub returns : goal.returns
returns g c =
    let p = c.args.pad in
    let test : Test = λ f. g.C.BodyCheck.test c.args.check.now p f in
    let old = c.args.cursor.now in
    let new = c.take.new.cursor in
    record {
      exact = c.take.ensures;
      spelled = λ T alike. array_spelled p T test alike old new c.take.result c.at.ensures.bytes c.take.ensures;
      fault = λ T alike. array_fault p T test alike old new c.take.result c.at.ensures.bytes c.take.ensures;
      passes = λ T alike. array_passes p T test alike old new c.take.result c.take.ensures;
    }
