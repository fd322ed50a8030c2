use Rattle.wire_spec.proofs.WithoutFurther.{sound, faulty, has_one}
use Rattle.wire_spec.proofs.further_formats.datagrams_without_further_records.Goals as goal

pub returns-clause-sound : goal.returns-clause-sound
returns-clause-sound c = sound

pub returns-clause-faulty : goal.returns-clause-faulty
returns-clause-faulty c = faulty

pub returns-clause-has_one : goal.returns-clause-has_one
returns-clause-has_one c = has_one
