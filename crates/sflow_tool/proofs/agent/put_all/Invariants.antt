-- The datagrams so far were put, and no call has failed.
use Rattle.std.proofs.Common.{◌≡◌, ℕ, List, ◌++◌, drop}
use Rattle.text_lines.specs.Pages.{Puts}
use Rattle.sflow_tool.specs.AgentWalks.{puts_text}
use Rattle.sflow_tool.proofs.agent.put_all.Given as goal

abbrev pub invariant-loop-put : goal.invariant-loop-put
invariant-loop-put g l =
    (done : List ℕ) × (puts_text l.at l.puts ≡ done ++ puts_text l.at (drop l.put-index l.puts))
    × Puts (g.K.Sink.seen l.initial.sink) (g.K.Sink.seen l.sink) l.initial.page l.page done
