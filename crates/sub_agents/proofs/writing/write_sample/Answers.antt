use Rattle.std.proofs.Common.{sym, subst}
use Rattle.sub_agents.specs.declared.staged.Staged.{Staged}
use Rattle.sub_agents.specs.Staged.{staged_value}
use Rattle.sub_agents.specs.Written.{Appended}
use Rattle.sub_agents.proofs.writing.write_sample.Goals as goal

pub returns-in-Counters : goal.returns-in-Counters
returns-in-Counters c =
    subst (λ (k : Staged). Appended c.args.writer.now c.write_counters.new.writer (staged_value c.args.form k))
    (sym c.in-Counters.is) c.write_counters.ensures
