use Rattle.script_tables.proofs.Forms.{one_form}
use Rattle.script_tables.proofs.laws.one_form.Goals as goal

pub returns : goal.returns
returns c = one_form
